-- The stacks before an evaluation.
use Rattle.std.specs.Prelude.{◌≡◌, ℕ, []}
use Rattle.expression_runs.specs.declared.evaluation.Stacks.{Stacks}

-- nothing lies on the stacks
pub record AreEmpty {w : ℕ} (stacks : Stacks w) : Type 0 where
  pub no_vectors : stacks.vectors.items ≡ []
  pub no_masks : stacks.masks.items ≡ []
