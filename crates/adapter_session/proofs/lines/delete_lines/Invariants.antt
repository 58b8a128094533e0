-- the lines that delete the stops so far
use Rattle.std.proofs.Common.{◌≡◌, map, string_bytes, take}
use Rattle.adapter_session.specs.Given.{given_numbers}
use Rattle.adapter_session.specs.Requested.{delete_line}
use Rattle.adapter_session.proofs.lines.delete_lines.Given as goal

abbrev pub invariant-loop-entry : goal.invariant-loop-entry
invariant-loop-entry l = map string_bytes l.lines.items ≡ map delete_line (given_numbers l.kind l.functions (take l.entry-index l.stops))
