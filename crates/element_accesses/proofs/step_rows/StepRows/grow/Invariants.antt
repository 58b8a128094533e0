-- the rows of each function are as they were
use Rattle.std.proofs.Common.{◌≡◌, ℕ, ◌+◌, ◌-◌, vec_len}
use Rattle.std.specs.Prelude.{slice_get}
use Rattle.element_accesses.specs.StepRows.{steps_in}
use Rattle.element_accesses.proofs.step_rows.StepRows.grow.Given as goal

abbrev pub invariant-loop-alloc : goal.invariant-loop-alloc
invariant-loop-alloc l = (k : ℕ) → steps_in (slice_get l.self.functions.items k) ≡ steps_in (slice_get l.initial.self.functions.items k)

abbrev pub decreases-loop-alloc : goal.decreases-loop-alloc
decreases-loop-alloc l = l.function + 1 - vec_len l.self.functions
