-- Whether a test holds in each of some lanes.
use Rattle.std.specs.Prelude.{◌≡◌, ℕ, ◌<◌, true, false, List, Result, Ok, Err}
use Rattle.gang_types.specs.declared.faults.FaultName.TheVariants.{Assert}
use Rattle.gang_types.specs.Lanes.{Lanes, has}
use Rattle.gang_model.specs.Running.Lanes.{holds}
use Rattle.debug_traits.specs.declared.machine.Fault.{Fault}

-- it holds in each of these lanes, or the fault is at the lowest of them in which it does not
abbrev pub HoldsInEach : Lanes → (values : List ℕ) → Result (Unit {0}) Fault → Type 0
HoldsInEach lanes values (Ok done) = (k : ℕ) → has lanes k ≡ true → holds values k ≡ true
HoldsInEach lanes values (Err fault) =
    (fault.name ≡ Assert) × (has lanes fault.lane ≡ true) × (holds values fault.lane ≡ false) × ((k : ℕ) → k < fault.lane → has lanes k ≡ true → holds values k ≡ true)
