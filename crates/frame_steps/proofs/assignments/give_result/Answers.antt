use Rattle.std.proofs.Common.{◌≡◌, refl, ◌∙◌, ap, arith, [], ◌∷◌}
use Rattle.std.specs.Prelude.{slice_set}
use Rattle.gang_types.specs.MaskLaws.{gang_width-le}
use Rattle.gang_types.specs.Masks.{lanes_of, lanes_of_word}
use Rattle.gang_model.specs.Running.Lanes.{at}
use Rattle.machine_states.specs.Effects.{assigned_region}
use Rattle.machine_states.specs.Regions.{ReturnedOf, ResultOf, OfHead, lanes_in, with_region}
use Rattle.machine_states.proofs.ChangedRegions.{part_away}
use Rattle.machine_words.specs.Words.{regions_in}
use Rattle.frame_steps.proofs.Heads.{alike, head_long, keeps_both, only_word, regions_after}
use Rattle.frame_steps.proofs.assignments.give_result.Goals as goal
use Rattle.frame_steps.proofs.GangLanes.{words_few}

pub assign-requires : goal.assign-requires
assign-requires g c =
    let long = head_long g.T.Timeline.history g.T.Timeline.left g.row.W c.args.words.now c.requires.laid c.args.frame ResultOf c.requires.there in (
      omega (arith, gang_width-le g.row.W c.requires.width),
      (c.requires.width, (c.requires.laid, (omega (arith, long, words_few g.row.W c.requires.width c.args.rate), (omega (arith, long), (c.requires.lane, omega (arith, c.requires.left)))))),
    )

pub word-requires-clause-within : goal.word-requires-clause-within
word-requires-clause-within g c =
    omega (arith, head_long g.T.Timeline.history g.T.Timeline.left g.row.W c.assign.new.self c.assign.ensures.laid c.args.frame ReturnedOf c.requires.there)

pub set-requires-clause-within : goal.set-requires-clause-within
set-requires-clause-within g c =
    omega (arith, head_long g.T.Timeline.history g.T.Timeline.left g.row.W c.assign.new.self c.assign.ensures.laid c.args.frame ReturnedOf c.requires.there)

pub returns : goal.returns
returns g c =
    let history = g.T.Timeline.history in
    let left = g.T.Timeline.left in
    let w = g.row.W in
    let frame = c.args.frame in
    let old = c.args.words.now in
    let mid = c.assign.new.self in
    let new = c.set.new.self in
    let before = regions_in history w old in
    let result = assigned_region c.args.rate (lanes_of w c.args.lanes) c.args.values (before (OfHead frame ResultOf)) in
    let word = c.word-2.result in
    let first = regions_after history left w old mid (OfHead frame ResultOf) result w c.assign.ensures in
    let second = regions_after history left w mid new (OfHead frame ReturnedOf) (slice_set (regions_in history w mid (OfHead frame ReturnedOf)) 0 word) 1 c.set.ensures in
    let same : regions_in history w mid (OfHead frame ReturnedOf) ≡ before (OfHead frame ReturnedOf) =
    first (OfHead frame ReturnedOf) ∙ part_away result before frame ResultOf ReturnedOf refl in
    let read : c.word.result ≡ at (before (OfHead frame ReturnedOf)) 0 = c.word.ensures ∙ ap (λ words. at words 0) same in
    let masked : lanes_of w c.from_word-returned.result ≡ lanes_in w before (OfHead frame ReturnedOf) = c.from_word-returned.ensures.lanes ∙ ap (lanes_of_word w) read in
    record {
      word = word;
      keeps = keeps_both w word c.args.lanes c.from_word-returned.result c.or.result (lanes_in w before (OfHead frame ReturnedOf)) masked c.or.ensures c.word-2.ensures;
      regions = λ r. second r
          ∙ alike (OfHead frame ReturnedOf) (slice_set (regions_in history w mid (OfHead frame ReturnedOf)) 0 word) (word ∷ []) (regions_in history w mid) (with_region (OfHead frame ResultOf) result before) r
          (only_word (regions_in history w mid (OfHead frame ReturnedOf)) word (head_long history left w mid c.assign.ensures.laid frame ReturnedOf c.requires.there)) (first r);
      layout = c.set.ensures.layout ∙ c.assign.ensures.layout;
      laid = c.set.ensures.laid;
      rest = c.set.ensures.rest ∙ c.assign.ensures.rest;
      few = omega (arith, c.set.ensures.few, c.assign.ensures.few);
    }
