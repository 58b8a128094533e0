-- the rows before this one have their places
use Rattle.std.proofs.Common.{◌≡◌, ◌<◌, ℕ, true, Some}
use Rattle.std.specs.Prelude.{slice_get}
use Rattle.element_accesses.specs.declared.accesses.Access.{Access}
use Rattle.element_accesses.specs.StepRows.{is_within, stretch_at}
use Rattle.element_accesses.proofs.accesses.steps_of.Given as goal

abbrev pub invariant-loop-row : goal.invariant-loop-row
invariant-loop-row l = (k : ℕ) (access : Access) → k < l.row → slice_get l.rows k ≡ Some access → is_within (stretch_at l.steps.functions.items access.spot.function.0 access.spot.number) k ≡ true
