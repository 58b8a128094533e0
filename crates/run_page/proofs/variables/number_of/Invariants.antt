-- the variables before this one are others
use Rattle.std.proofs.Common.{◌≡◌, ℕ, ◌<◌, map, Some}
use Rattle.std.specs.Prelude.{slice_get}
use Rattle.run_page.specs.Rows.{named_sight, sight_view}
use Rattle.run_page.proofs.variables.number_of.Given as goal

abbrev pub invariant-loop-number : goal.invariant-loop-number
invariant-loop-number l = (k : ℕ) → k < l.number → slice_get (map sight_view l.variables.items) k ≡ Some (named_sight l.depth l.named) → ⊥
