-- What an evaluation's answer says of the value.
use Rattle.std.specs.Prelude.{◌≡◌, ℕ, List, Result, Ok, Err}
use Rattle.gang_model.specs.Running.Lanes.{Fault}
use Rattle.cross_lane.specs.Calls.{fault_of}
use Rattle.expression_runs.specs.declared.stop.Stop.{Stop}
use Rattle.expression_runs.specs.declared.stop.Stop.TheVariants as stop

-- the answer is the value, or its fault; there is room
abbrev pub IsValue : Result (List ℕ) Stop → Result (List ℕ) Fault → Type 0
IsValue (Ok words) meant = meant ≡ Ok words
IsValue (Err (stop.Fault found)) meant = meant ≡ Err (fault_of found)
IsValue (Err stop.NoRoom) meant = ⊥
