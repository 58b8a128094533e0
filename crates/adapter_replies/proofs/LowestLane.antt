-- The lowest lane of a set that has none.
use Rattle.std.proofs.Common.{◌≡◌, refl, ap, ℕ, suc, ◌<◌, true, false, [], ◌∷◌, length, arith}
use Rattle.gang_types.specs.Lanes.{Lanes, has, lowest}

-- as many as there are
pub lowest_none : (lanes : Lanes) → ((k : ℕ) → k < length lanes → has lanes k ≡ false) → lowest lanes ≡ length lanes
lowest_none [] none = refl
lowest_none (true ∷ lanes) none = cc (none 0 (omega arith))
lowest_none (false ∷ lanes) none = ap suc (lowest_none lanes (λ k less. none (suc k) (omega (arith, less))))
