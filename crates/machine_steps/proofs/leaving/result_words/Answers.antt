use Rattle.std.proofs.Common.{◌≡◌, ◌∙◌, sym, ap, subst, true, false, arith}
use Rattle.std.specs.Prelude.{if◌then◌else◌, replicate}
use Rattle.std.proofs.lemmas.List.{get_or-replicate}
use Rattle.gang_types.specs.Lanes.{no_lane}
use Rattle.gang_types.specs.Masks.{lanes_of, lanes_of_word}
use Rattle.gang_types.specs.MaskLaws.{gang_width-le}
use Rattle.gang_model.specs.Running.Lanes.{at, each}
use Rattle.machine_states.specs.Regions.{OfHead, ResultOf, ReturnedOf, lanes_in}
use Rattle.machine_states.specs.Steps.{converted_values}
use Rattle.machine_words.specs.Words.{regions_in}
use Rattle.frame_steps.proofs.FrameResults.{uniform_given, varying_given}
use Rattle.frame_steps.proofs.Heads.{head_long}
use Rattle.machine_steps.specs.Leaving.{result_seen}
use Rattle.machine_steps.proofs.leaving.result_words.Goals as goal

pub lanes-result-requires : goal.lanes-result-requires
lanes-result-requires g c = (
  omega (arith, gang_width-le g.row.W c.requires.width),
  (c.requires.width, (c.requires.laid, head_long g.T.Timeline.history g.T.Timeline.left g.row.W c.args.words.now c.requires.laid c.args.frame ResultOf c.requires.there)),
)

pub word-requires-clause-within : goal.word-requires-clause-within
word-requires-clause-within g c =
    omega (arith, head_long g.T.Timeline.history g.T.Timeline.left g.row.W c.args.words.now c.requires.laid c.args.frame ReturnedOf c.requires.there)

pub returns-in-Uniform : goal.returns-in-Uniform
returns-in-Uniform g c = λ lanes long from to.
    let w = g.row.W in
    let regions = regions_in g.T.Timeline.history w c.args.words.now in
    let returned = lanes_in w regions (OfHead c.args.frame ReturnedOf) in
    let region = regions (OfHead c.args.frame ResultOf) in
    let masked : lanes_of w c.from_word-returned.result ≡ returned = c.from_word-returned.ensures.lanes ∙ ap (lanes_of_word w) c.word.ensures in
    let empty : no_lane returned ≡ true = ap no_lane (sym masked) ∙ sym c.is_empty.ensures ∙ c.if-is_empty.true in
    subst (λ rate. converted_values from to lanes (replicate w 0) ≡ converted_values from to lanes (result_seen w regions c.args.frame rate lanes)) (sym c.in-Uniform.is)
    (uniform_given w from to lanes returned region (replicate w 0) long 0 (ap (λ t. if t then 0 else at region 0) (sym empty)) (λ k below. get_or-replicate w k 0 0 below))

pub returns-in-Uniform-2 : goal.returns-in-Uniform-2
returns-in-Uniform-2 g c = λ lanes long from to.
    let w = g.row.W in
    let regions = regions_in g.T.Timeline.history w c.args.words.now in
    let returned = lanes_in w regions (OfHead c.args.frame ReturnedOf) in
    let region = regions (OfHead c.args.frame ResultOf) in
    let first = at c.lanes-result.result 0 in
    let masked : lanes_of w c.from_word-returned.result ≡ returned = c.from_word-returned.ensures.lanes ∙ ap (lanes_of_word w) c.word.ensures in
    let some : no_lane returned ≡ false = ap no_lane (sym masked) ∙ sym c.is_empty.ensures ∙ c.if-is_empty.false in
    subst (λ rate. converted_values from to lanes (replicate w first) ≡ converted_values from to lanes (result_seen w regions c.args.frame rate lanes)) (sym c.in-Uniform-2.is)
    (uniform_given w from to lanes returned region (replicate w first) long first
    (ap (λ ws. at ws 0) c.lanes-result.ensures ∙ ap (λ t. if t then 0 else at region 0) (sym some)) (λ k below. get_or-replicate w k first 0 below))

pub returns-in-Varying : goal.returns-in-Varying
returns-in-Varying g c = λ lanes long from to.
    let w = g.row.W in
    let regions = regions_in g.T.Timeline.history w c.args.words.now in
    let returned = lanes_in w regions (OfHead c.args.frame ReturnedOf) in
    let region = regions (OfHead c.args.frame ResultOf) in
    let masked : lanes_of w c.from_word-returned.result ≡ returned = c.from_word-returned.ensures.lanes ∙ ap (lanes_of_word w) c.word.ensures in
    subst (λ rate. converted_values from to lanes c.only.result ≡ converted_values from to lanes (result_seen w regions c.args.frame rate lanes)) (sym c.in-Varying.is)
    (varying_given w from to lanes returned region c.only.result long
    (c.only.ensures ∙ ap (λ ls. each ls (λ k. at c.lanes-result.result k)) masked ∙ ap (λ ws. each returned (λ k. at ws k)) c.lanes-result.ensures))
