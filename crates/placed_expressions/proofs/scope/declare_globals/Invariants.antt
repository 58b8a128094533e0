-- the last variables of the file are declared
use Rattle.std.proofs.Common.{◌≡◌, ◌++◌, drop}
use Rattle.placed_expressions.proofs.Scopes.{file_entries}
use Rattle.placed_expressions.proofs.scope.declare_globals.Given as goal

abbrev pub invariant-loop-number : goal.invariant-loop-number
invariant-loop-number l = l.scope.entries ≡ file_entries (drop l.number l.globals) ++ l.fn.scope.entries
