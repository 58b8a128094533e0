use Rattle.std.proofs.Common.{◌∙◌, ◌-◌, sym, ap}
use Rattle.std.specs.Prelude.{◌||◌}
use Rattle.gang_types.specs.Lanes.{has}
use Rattle.gang_model.specs.Debugger.Debugger.{now}
use Rattle.adapter_replies.specs.Waiting.{called_lanes}
use Rattle.adapter_replies.proofs.ActiveLanes.{call_lanes_given, other_than}
use Rattle.adapter_replies.proofs.threads.is_in.Goals as goal

pub returns-else-depth-eq1 : goal.returns-else-depth-eq1
returns-else-depth-eq1 g c s d st =
    let deep = c.args.depth in
    let lane = c.args.lane in
    let frames = (now s d).frames in
    let given = call_lanes_given s.program c.saturating_sub.result frames c.call.result (c.call.ensures.place s d st) in
    c.has_lane.ensures
    ∙ ap (λ lanes. has lanes lane) (sym given)
    ∙ ap (λ n. has (called_lanes n frames) lane) c.saturating_sub.ensures
    ∙ ap (λ b. b || has (called_lanes (deep - 1) frames) lane) (sym (other_than deep 1 c.if-depth-eq1.false))
