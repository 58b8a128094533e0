-- no number before this one has the name
use Rattle.std.proofs.Common.{◌≡◌, ℕ, ◌<◌, Some}
use Rattle.std.specs.Prelude.{option_map, slice_get}
use Rattle.lane_counts.proofs.names.Names.find.Given as goal

abbrev pub invariant-loop-number : goal.invariant-loop-number
invariant-loop-number l = (k : ℕ) → k < l.number → option_map (λ name. name.items) (slice_get l.known-items k) ≡ Some l.name → ⊥
