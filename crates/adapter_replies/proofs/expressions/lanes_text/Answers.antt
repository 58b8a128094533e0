use Rattle.std.proofs.Common.{◌≡◌, ◌<◌, ◌++◌, ◌∙◌, ap, string_bytes, arith}
use Rattle.gang_types.specs.Masks.{lanes_of}
use Rattle.gang_types.specs.MaskLaws.{gang_width-le}
use Rattle.adapter_replies.specs.Expressions.{gap, lane_text, lanes_text}
use Rattle.adapter_replies.proofs.LaneValues.{joined_more}
use Rattle.adapter_replies.proofs.expressions.lanes_text.Goals as goal

pub loop-lane-preserved : goal.loop-lane-preserved
loop-lane-preserved c gang =
    let given = c.args.lanes.now in
    let lane = c.loop-lane.lane in
    let old = string_bytes c.loop-lane.text in
    let inside : lane < given.width = omega (arith, c.loop-lane-test.true, c.min-lane-end.ensures) in
    let first = c.in_ok-push_str.ensures.bytes ∙ ap (λ t. old ++ t) c.gap.ensures in
    let value = c.as_str.ensures.value ∙ c.in_ok-lane_text.ensures gang inside in
    joined_more (lane_text c.args.form c.args.value_type (lanes_of given.width given.lanes) given.words) lane old _ (c.loop-lane.invariant gang)
    (c.in_ok-push_str-2.ensures.bytes ∙ ap (λ t. t ++ c.as_str.result.now) first ∙ ap (λ t. (old ++ gap lane) ++ t) value)

pub returns : goal.returns
returns c gang =
    let given = c.args.lanes.now in
    let wide = gang_width-le given.width gang in
    let end : c.loop-lane.lane ≡ given.width = omega (arith, c.loop-lane-test.false, c.min-lane-end.ensures, wide) in
    c.loop-lane.invariant gang ∙ ap (lanes_text c.args.form c.args.value_type (lanes_of given.width given.lanes) given.words) end
