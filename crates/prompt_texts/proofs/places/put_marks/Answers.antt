use Rattle.std.proofs.Common.{◌<◌, ◌≤◌, false, sym, subst, ap, ◌∙◌, length, arith}
use Rattle.std.proofs.lemmas.List.{take_all}
use Rattle.gang_types.specs.Masks.{lanes_of}
use Rattle.gang_types.specs.MaskLaws.{gang_width-le, length-lanes_of_word}
use Rattle.prompt_texts.specs.Shown.{Puts, mark, marks}
use Rattle.prompt_texts.proofs.Putting.{flat_more, in_widest, puts_both}
use Rattle.prompt_texts.proofs.places.put_marks.Goals as goal

pub loop-lane-preserved : goal.loop-lane-preserved
loop-lane-preserved g c gang =
    let lanes = lanes_of c.args.width c.args.lanes in
    let lane = c.loop-lane.lane in
    let written = g.O.AnswerWriter.written in
    let old = c.args.page.now in
    let middle = c.loop-lane.page in
    let new = c.put.new.self in
    let within : lane < c.args.width = omega (arith, c.loop-lane-test.true) in
    let inside : lane < length lanes = omega (arith, within, length-lanes_of_word c.args.width c.args.lanes.word) in
    let one = subst (λ t. Puts t middle.has_failed new.has_failed (written middle.writer) (written new.writer))
    (c.mark.ensures ∙ ap mark (c.has.ensures ∙ in_widest c.args.width c.args.lanes lane gang within)) c.put.ensures in
    subst (λ t. Puts t old.has_failed new.has_failed (written old.writer) (written new.writer)) (sym (flat_more mark lanes lane false inside))
    (puts_both _ _ _ _ _ _ _ _ (c.loop-lane.invariant gang) one)

pub returns : goal.returns
returns g c gang =
    let lanes = lanes_of c.args.width c.args.lanes in
    let written = g.O.AnswerWriter.written in
    let old = c.args.page.now in
    let new = c.loop-lane.page in
    let past : length lanes ≤ c.loop-lane.lane = omega (arith, c.loop-lane-test.false, gang_width-le c.args.width gang, length-lanes_of_word c.args.width c.args.lanes.word) in
    subst (λ l. Puts (marks l) old.has_failed new.has_failed (written old.writer) (written new.writer)) (take_all c.loop-lane.lane lanes past) (c.loop-lane.invariant gang)
