-- What the machine's answers mean, with its stacks as they are then.
use Rattle.std.specs.Prelude.{ℕ, List, map, reverse, Result, Ok, Err}
use Rattle.gang_types.specs.Masks.{lanes_of}
use Rattle.cross_lane.specs.Calls.{fault_of}
use Rattle.expression_runs.specs.declared.stacks.ActiveLanes.{ActiveLanes}
use Rattle.expression_runs.specs.declared.stop.Stop.{Stop}
use Rattle.expression_runs.specs.declared.stop.Stop.TheVariants.{Fault, NoRoom}
use Rattle.expression_runs.specs.Machine.{Vectors, Masks, Next, Goes, Faults, Jams, Outcome, Done, Faulted, Stuck}

-- a stack of masks, its top first
abbrev pub masks_view : ℕ → List ActiveLanes → Masks
masks_view w masks = map (λ active. lanes_of w active.mask) (reverse masks)

-- an instruction that stops the run
abbrev pub stopped : Stop → Next
stopped (Fault found) = Faults (fault_of found)
stopped NoRoom = Jams

-- an instruction that says how many are passed next
abbrev pub next_of : Result ℕ Stop → Vectors → Masks → Next
next_of (Ok pass) stack masks = Goes pass stack masks
next_of (Err stop) stack masks = stopped stop

-- an instruction after which `pass` are passed
abbrev pub next_after : ℕ → Result (Unit {0}) Stop → Vectors → Masks → Next
next_after pass (Ok done) stack masks = Goes pass stack masks
next_after pass (Err stop) stack masks = stopped stop

abbrev pub outcome_of : Result (Unit {0}) Stop → Vectors → Masks → Outcome
outcome_of (Ok done) stack masks = Done stack masks
outcome_of (Err (Fault found)) stack masks = Faulted (fault_of found)
outcome_of (Err NoRoom) stack masks = Stuck
