-- the lines so far
use Rattle.std.proofs.Common.{◌≡◌, ◌++◌, flat_map, map, string_bytes, take}
use Rattle.typed_tree.specs.Views.{program_view}
use Rattle.adapter_session.specs.declared.lines.Kind.TheVariants as kind
use Rattle.adapter_session.specs.Given.{given_numbers}
use Rattle.adapter_session.specs.Requested.{delete_line, function_line_for}
use Rattle.adapter_session.proofs.lines.function_lines.Given as goal

abbrev pub invariant-loop-function : goal.invariant-loop-function
invariant-loop-function l =
    map string_bytes l.all.items ≡ map delete_line (given_numbers kind.Functions l.functions l.stops) ++ flat_map (function_line_for (program_view l.program)) (take l.function-index l.asked)
