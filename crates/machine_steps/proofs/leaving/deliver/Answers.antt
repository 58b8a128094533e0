use Rattle.std.proofs.Common.{◌≡◌, ◌∙◌, ap, subst, false, arith}
use Rattle.std.specs.Prelude.{◌-◌, ◌<◌, length}
use Rattle.gang_types.specs.Lanes.{no_lane}
use Rattle.gang_types.specs.Masks.{lanes_of, lanes_of_word}
use Rattle.gang_types.specs.MaskLaws.{gang_width-le, length-lanes_of_word}
use Rattle.gang_model.specs.Types.Tree.{Function}
use Rattle.typed_tree.specs.Views.{function_view, result_view}
use Rattle.machine_states.specs.Regions.{LanesOf}
use Rattle.machine_words.specs.Words.{regions_in}
use Rattle.frame_steps.specs.Delivering.{GivesResult}
use Rattle.frame_steps.proofs.FrameResults.{function_is, function_within}
use Rattle.frame_steps.proofs.GivenResults.{given_alike}
use Rattle.frame_steps.proofs.Heads.{head_long}
use Rattle.machine_steps.specs.Leaving.{AreSameIn, lanes_called, result_seen}
use Rattle.machine_steps.proofs.leaving.deliver.Goals as goal

pub index-callee-requires : goal.index-callee-requires
index-callee-requires g c =
    let functions = c.args.compiled.now.program.functions in
    let within = function_within functions.items c.args.active.function c.requires.callee.0 c.requires.callee.1 in
    omega (arith, within, functions.ok)

pub word-requires-clause-within : goal.word-requires-clause-within
word-requires-clause-within g c =
    omega (arith, head_long g.T.Timeline.history g.T.Timeline.left g.row.W c.args.words.now c.requires.laid c.args.active.frame LanesOf c.requires.there)

pub deliver_values-requires : goal.deliver_values-requires
deliver_values-requires g c =
    let w = g.row.W in
    let lane : no_lane (lanes_of w c.from_word-lanes.result) ≡ false = ap no_lane (c.from_word-lanes.ensures.lanes ∙ ap (lanes_of_word w) c.word.ensures) ∙ c.requires.lane in
    let there : c.args.active.frame - 1 < 64 = omega (arith, c.requires.there) in
    (omega (arith, gang_width-le w c.requires.width), (c.requires.width, (c.requires.laid, (c.requires.sized, (there, (c.requires.takes, (lane, c.requires.left)))))))

pub returns : goal.returns
returns g c = λ f h found takes.
    let w = g.row.W in
    let history = g.T.Timeline.history in
    let left = g.T.Timeline.left in
    let below = c.args.active.frame - 1 in
    let frame = c.args.active.frame in
    let old = c.args.words.now in
    let new = c.deliver_values.new.words in
    let regions = regions_in history w old in
    let for = result_view c.args.result_for in
    let callee = c.index-callee.result.now in
    let mask = c.from_word-lanes.result in
    let lanes = lanes_of w mask in
    let masks : lanes ≡ lanes_called w regions frame = c.from_word-lanes.ensures.lanes ∙ ap (lanes_of_word w) c.word.ensures in
    let long : length lanes ≡ w = length-lanes_of_word w mask.word in
    let given = c.result_words-values.result in
    let view : function_view callee ≡ f = function_is c.args.compiled.now.program.functions.items c.args.active.function f found callee c.index-callee.ensures in
    let same : AreSameIn lanes given (result_seen w regions frame callee.result lanes) = c.result_words-values.ensures lanes long in
    subst (λ ls. GivesResult history left w below h for f.result_type ls (result_seen w regions frame f.result ls) old new) masks
    (subst (λ (k : Function). GivesResult history left w below h for k.result_type lanes (result_seen w regions frame k.result lanes) old new) view
    (given_alike history left w below h for callee.result_type lanes given (result_seen w regions frame callee.result lanes) old new (same callee.result_type) (c.deliver_values.ensures h takes)))
