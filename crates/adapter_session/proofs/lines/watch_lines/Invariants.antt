-- the lines so far
use Rattle.std.proofs.Common.{◌≡◌, ◌++◌, flat_map, map, string_bytes, take}
use Rattle.adapter_session.specs.declared.lines.Kind.TheVariants as kind
use Rattle.adapter_session.specs.Given.{given_numbers}
use Rattle.adapter_session.specs.Requested.{delete_line, line_for, watch_line}
use Rattle.adapter_session.proofs.lines.watch_lines.Given as goal

abbrev pub invariant-loop-target : goal.invariant-loop-target
invariant-loop-target l = map string_bytes l.all.items ≡ map delete_line (given_numbers kind.Watches l.functions l.fn.stops) ++ flat_map (line_for (λ asked. watch_line asked.target.now)) (take l.target-index l.targets)
