use Rattle.std.proofs.Common.{◌∙◌, sym, ap}
use Rattle.gang_model.specs.Debugger.Debugger.{now}
use Rattle.gang_model.specs.Debugger.Positions.{lanes_now}
use Rattle.adapter_replies.specs.Threads as spec
use Rattle.adapter_replies.proofs.ActiveLanes.{lanes_given}
use Rattle.adapter_replies.proofs.threads.stop_thread.Goals as goal

pub returns-in-Lanes : goal.returns-in-Lanes
returns-in-Lanes g c s d st =
    let width = c.in-Lanes.width in
    let why = c.args.reason in
    let given = lanes_given s.program (now s d) c.position.result (c.position.ensures.place s d st) in
    c.thread_or_first.ensures
    ∙ ap (spec.thread_or_first width) (c.stop_lane.ensures ∙ ap (λ lanes. spec.stop_lane lanes why) (sym given))
    ∙ ap (λ seen. spec.stop_thread seen (lanes_now (now s d)) why) (sym c.in-Lanes.is)
