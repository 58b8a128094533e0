-- the rows of each step are as they were
use Rattle.std.proofs.Common.{◌≡◌, ℕ, ◌+◌, ◌-◌, vec_len}
use Rattle.element_accesses.specs.StepRows.{stretch_in}
use Rattle.element_accesses.proofs.step_rows.FunctionRows.grow.Given as goal

abbrev pub invariant-loop-self : goal.invariant-loop-self
invariant-loop-self l = (k : ℕ) → stretch_in l.self.steps.items k ≡ stretch_in l.initial.self.steps.items k

abbrev pub decreases-loop-self : goal.decreases-loop-self
decreases-loop-self l = l.number + 1 - vec_len l.self.steps
