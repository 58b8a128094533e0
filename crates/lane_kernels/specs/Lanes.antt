-- What an operation does in each lane.
use Rattle.std.specs.Prelude.{ℕ, ◌<◌, ◌≡◌, ◌==◌, true, false, List, slice_index, if◌then◌else◌}
use Rattle.gang_types.specs.declared.faults.FaultName.{FaultName}
use Rattle.gang_types.specs.declared.faults.FaultName.TheVariants.{DivideByZero}
use Rattle.gang_types.specs.Lanes.{Lanes, has, no_lane, lowest, lanes_where}

-- each of the w lanes of r is f of the lane of a
abbrev pub OfEachLane : ℕ → (ℕ → ℕ) → List ℕ → List ℕ → Type 0
OfEachLane w f a r = (i : ℕ) → i < w → slice_index r i ≡ f (slice_index a i)

-- each of the w lanes of r is f of the lanes of a and b
abbrev pub InEachLane : ℕ → (ℕ → ℕ → ℕ) → List ℕ → List ℕ → List ℕ → Type 0
InEachLane w f a b r = (i : ℕ) → i < w → slice_index r i ≡ f (slice_index a i) (slice_index b i)

-- the lanes of the set whose divisor is 0
abbrev pub zero_divisors : Lanes → List ℕ → Lanes
zero_divisors lanes b = lanes_where lanes (λ k. slice_index b k == 0)

-- each lane of the set is f of the lanes of a and b, and each other lane is 0
abbrev pub DividedIn : ℕ → Lanes → (ℕ → ℕ → ℕ) → List ℕ → List ℕ → List ℕ → Type 0
DividedIn w lanes f a b r = (i : ℕ) → i < w → slice_index r i ≡ (if has lanes i then f (slice_index a i) (slice_index b i) else 0)

-- the same, where no lane of the set has the divisor 0
abbrev pub Divided : ℕ → Lanes → (ℕ → ℕ → ℕ) → List ℕ → List ℕ → List ℕ → Type 0
Divided w lanes f a b r = (no_lane (zero_divisors lanes b) ≡ true) × DividedIn w lanes f a b r

-- the fault is at the lowest lane of the set that has the divisor 0
abbrev pub Faulted : Lanes → List ℕ → ℕ × FaultName → Type 0
Faulted lanes b fault =
    (no_lane (zero_divisors lanes b) ≡ false) × (fault.0 ≡ lowest (zero_divisors lanes b)) × (fault.1 ≡ DivideByZero)
