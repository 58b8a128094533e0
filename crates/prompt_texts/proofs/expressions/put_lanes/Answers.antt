use Rattle.std.proofs.Common.{◌≡◌, ◌<◌, sym, subst, arith}
use Rattle.gang_types.specs.Masks.{lanes_of}
use Rattle.gang_types.specs.MaskLaws.{gang_width-le}
use Rattle.prompt_texts.specs.Forms.{lane_text, lanes_text}
use Rattle.prompt_texts.specs.Shown.{Puts}
use Rattle.prompt_texts.proofs.Putting.{lanes_more, puts_both}
use Rattle.prompt_texts.proofs.expressions.put_lanes.Goals as goal

pub loop-lane-preserved : goal.loop-lane-preserved
loop-lane-preserved g c gang =
    let given = c.args.lanes.now in
    let lane = c.loop-lane.lane in
    let written = g.O.AnswerWriter.written in
    let old = c.args.page.now in
    let new = c.put_lane.new.page in
    let within : lane < given.width = omega (arith, c.loop-lane-test.true, c.min-lane-end.ensures) in
    let text = lane_text c.args.digits c.args.value_type (lanes_of given.width given.lanes) given.words in
    subst (λ t. Puts t old.has_failed new.has_failed (written old.writer) (written new.writer)) (sym (lanes_more text lane))
    (puts_both _ _ _ _ _ _ _ _ (c.loop-lane.invariant gang) (c.put_lane.ensures gang within))

pub returns : goal.returns
returns g c gang =
    let given = c.args.lanes.now in
    let written = g.O.AnswerWriter.written in
    let old = c.args.page.now in
    let new = c.loop-lane.page in
    let wide = gang_width-le given.width gang in
    let end : c.loop-lane.lane ≡ given.width = omega (arith, c.loop-lane-test.false, c.min-lane-end.ensures, wide) in
    subst (λ k. Puts (lanes_text c.args.digits c.args.value_type (lanes_of given.width given.lanes) given.words k) old.has_failed new.has_failed (written old.writer) (written new.writer))
    end (c.loop-lane.invariant gang)
