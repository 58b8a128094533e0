-- What it means that a masked state shows what a state shows: where the program stands and by which lanes, the call that made each
-- frame, and all words (GDB manual, "Examining the Stack").
use Rattle.std.specs.Prelude.{◌≡◌, ℕ}
use Rattle.gang_model.specs.Types.Tree.{Program}
use Rattle.gang_model.specs.Running.State.{State}
use Rattle.gang_model.specs.Debugger.Positions.{spot_now, lanes_now, call_at}
use Rattle.mask_states.specs.Masked.{Masked, masked_spot, masked_lanes}
use Rattle.mask_states.specs.MaskedStep.{untasked}

-- the step that comes next and its lanes are the same, so are the calls at all depths, and the states are but for the tasks
pub record ShowsAlike (p : Program) (state : State) (masked : Masked) : Type 0 where
  pub spot : spot_now p state ≡ masked_spot masked
  pub lanes : lanes_now state ≡ masked_lanes masked
  pub calls : (depth : ℕ) → call_at depth state.frames ≡ call_at depth masked.state.frames
  pub words : untasked state ≡ masked.state
