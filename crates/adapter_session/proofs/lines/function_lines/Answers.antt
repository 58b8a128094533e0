use Rattle.std.proofs.Common.{map, string_bytes}
use Rattle.typed_tree.specs.Views.{program_view}
use Rattle.adapter_session.specs.declared.lines.Kind.TheVariants as kind
use Rattle.adapter_session.specs.Given.{given_numbers}
use Rattle.adapter_session.specs.Requested.{delete_line, function_line_for}
use Rattle.adapter_session.proofs.Appending.{made_behind}
use Rattle.adapter_session.proofs.lines.function_lines.Goals as goal

pub loop-function-preserved : goal.loop-function-preserved
loop-function-preserved c =
    made_behind (function_line_for (program_view c.args.program.now)) (map delete_line (given_numbers kind.Functions c.args.functions.now c.args.stops.now)) c.args.asked.now c.loop-function.function-index _
    (map string_bytes c.loop-function.all.items) (map string_bytes c.push_function.new.all.items) c.loop-function-test.true c.loop-function.invariant c.in_ok-push_function.ensures
