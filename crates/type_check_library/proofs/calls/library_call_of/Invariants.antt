use Rattle.std.proofs.Common.{◌≡◌, drop}
use Rattle.type_check_library.proofs.NamedCalls.{found_in}
use Rattle.type_check_library.proofs.calls.library_call_of.Given as goal

-- what is left decides
abbrev pub invariant-loop-entry : goal.invariant-loop-entry
invariant-loop-entry l = found_in l.name l.count (drop l.entry-index l.entries) ≡ found_in l.name l.count l.entries
