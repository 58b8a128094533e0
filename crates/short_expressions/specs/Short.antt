-- What is said of code that is run on a few vectors: nothing where it keeps more of them, or masks.
use Rattle.std.specs.Prelude.{◌≡◌, ℕ, List, [], ◌∷◌, Result, Ok, Err}
use Rattle.gang_types.specs.Lanes.{Lanes}
use Rattle.gang_model.specs.Running.Lanes.{Fault}
use Rattle.cross_lane.specs.Calls.{fault_of}
use Rattle.expression_runs.specs.declared.stop.Stop.{Stop}
use Rattle.expression_runs.specs.declared.stop.Stop.TheVariants as stop
use Rattle.expression_runs.specs.Machine.{Vectors, Next, Goes, Faults, Outcome, Done, Faulted}

-- an instruction, with the vectors then, and what the machine does with it
abbrev pub IsNext : Lanes → Result (Unit {0}) Stop → Vectors → Next → Type 0
IsNext lanes (Ok done) stack next = next ≡ Goes 0 stack (lanes ∷ [])
IsNext lanes (Err (stop.Fault found)) stack next = next ≡ Faults (fault_of found)
IsNext lanes (Err stop.NoRoom) stack next = Unit {0}

-- a list of instructions
abbrev pub IsOutcome : Lanes → Result (Unit {0}) Stop → Vectors → Outcome → Type 0
IsOutcome lanes (Ok done) stack outcome = outcome ≡ Done stack (lanes ∷ [])
IsOutcome lanes (Err (stop.Fault found)) stack outcome = outcome ≡ Faulted (fault_of found)
IsOutcome lanes (Err stop.NoRoom) stack outcome = Unit {0}

-- an expression, and its value
abbrev pub IsKnown : Result (List ℕ) Stop → Result (List ℕ) Fault → Type 0
IsKnown (Ok words) meant = meant ≡ Ok words
IsKnown (Err (stop.Fault found)) meant = meant ≡ Err (fault_of found)
IsKnown (Err stop.NoRoom) meant = Unit {0}
