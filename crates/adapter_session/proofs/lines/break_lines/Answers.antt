use Rattle.std.proofs.Common.{map, string_bytes}
use Rattle.adapter_requests.specs.declared.request.LineBreakpoint.{LineBreakpoint}
use Rattle.adapter_session.specs.declared.lines.Kind.TheVariants as kind
use Rattle.adapter_session.specs.Given.{given_numbers}
use Rattle.adapter_session.specs.Requested.{break_line, delete_line, line_for}
use Rattle.adapter_session.proofs.Appending.{made_behind}
use Rattle.adapter_session.proofs.lines.break_lines.Goals as goal

pub loop-asked-preserved : goal.loop-asked-preserved
loop-asked-preserved c =
    made_behind (line_for (λ (asked : LineBreakpoint). break_line asked.line)) (map delete_line (given_numbers kind.Lines c.args.functions.now c.args.stops.now)) c.args.lines.now c.loop-asked.asked-index _
    (map string_bytes c.loop-asked.all.items) (map string_bytes c.push_break.new.all.items) c.loop-asked-test.true c.loop-asked.invariant c.in_ok-push_break.ensures
