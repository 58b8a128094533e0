use Rattle.std.proofs.Common.{◌≡◌, drop}
use Rattle.ispc_names_scopes.proofs.scopes.take_back.Given as goal

abbrev pub invariant-loop : goal.invariant-loop
invariant-loop l = l.bindings ≡ drop l.counter l.fn.bindings
