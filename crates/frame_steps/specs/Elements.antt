-- What a store to elements of an array works on.
use Rattle.std.specs.Prelude.{◌≡◌, ℕ, List, Result, Ok, Err}
use Rattle.gang_types.specs.Lanes.{Lanes}
use Rattle.gang_model.specs.Types.Tree.{Expr}
use Rattle.gang_model.specs.Running.Lanes.{Fault as ModelFault, ◌>>=◌, at, try_each}
use Rattle.gang_model.specs.Running.State.{State, View}
use Rattle.gang_model.specs.Running.Value.{element, value}
use Rattle.debug_traits.specs.declared.machine.Fault.{Fault}
use Rattle.debug_traits.specs.Machines.{fault_view}
use Rattle.frame_steps.specs.declared.elements.Reached.{Reached}

-- the indices, then the values, then the elements as they are; or the first fault
abbrev pub reached_in : View → (index e : Expr) → Lanes → State → Result (List ℕ × List ℕ × List ℕ) ModelFault
reached_in view index e lanes state = do
  x ← value index lanes state
  y ← value e lanes state
  old ← try_each lanes (λ k. element state view (at x k))
  Ok (x, y, old)

-- the answer is these, or their fault
abbrev pub IsReached : {w : ℕ} → Result (Reached w) Fault → Result (List ℕ × List ℕ × List ℕ) ModelFault → Type 0
IsReached (Ok reached) meant = meant ≡ Ok (reached.indices, reached.values, reached.elements)
IsReached (Err fault) meant = meant ≡ Err (fault_view fault)
