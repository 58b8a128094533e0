use Rattle.type_check.proofs.GlobalParts.{AreTyped}
use Rattle.type_check.proofs.globals.typed_globals.Given as goal

abbrev pub invariant-loop-global : goal.invariant-loop-global
invariant-loop-global l = AreTyped l.globals l.first l.typed.items l.global-index
