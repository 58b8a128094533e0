-- the lines so far
use Rattle.std.proofs.Common.{◌≡◌, ◌++◌, flat_map, map, string_bytes, take}
use Rattle.adapter_session.specs.declared.lines.Kind.TheVariants as kind
use Rattle.adapter_session.specs.Given.{given_numbers}
use Rattle.adapter_session.specs.Requested.{break_line, delete_line, line_for}
use Rattle.adapter_session.proofs.lines.break_lines.Given as goal

abbrev pub invariant-loop-asked : goal.invariant-loop-asked
invariant-loop-asked l = map string_bytes l.all.items ≡ map delete_line (given_numbers kind.Lines l.functions l.fn.stops) ++ flat_map (line_for (λ asked. break_line asked.line)) (take l.asked-index l.lines)
