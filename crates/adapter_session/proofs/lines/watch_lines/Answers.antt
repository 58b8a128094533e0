use Rattle.std.proofs.Common.{map, string_bytes}
use Rattle.adapter_requests.specs.declared.request.DataBreakpoint.{DataBreakpoint}
use Rattle.adapter_session.specs.declared.lines.Kind.TheVariants as kind
use Rattle.adapter_session.specs.Given.{given_numbers}
use Rattle.adapter_session.specs.Requested.{delete_line, line_for, watch_line}
use Rattle.adapter_session.proofs.Appending.{made_behind}
use Rattle.adapter_session.proofs.lines.watch_lines.Goals as goal

pub loop-target-preserved : goal.loop-target-preserved
loop-target-preserved c =
    made_behind (line_for (λ (asked : DataBreakpoint). watch_line asked.target.now)) (map delete_line (given_numbers kind.Watches c.args.functions.now c.args.stops.now)) c.args.targets.now c.loop-target.target-index _
    (map string_bytes c.loop-target.all.items) (map string_bytes c.push_watch.new.all.items) c.loop-target-test.true c.loop-target.invariant c.in_ok-push_watch.ensures
