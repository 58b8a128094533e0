-- One of the frames with those that called it, as a state of its own (GDB manual, "Selecting a Frame"). The entry's frame is at depth 1, the top
-- one at the depth of the program.
use Rattle.std.specs.Prelude.{ℕ, suc, ◌-◌, nat_lt, List, ◌++◌, drop, take, length, Option, if◌then◌else◌}
use Rattle.gang_types.specs.declared.places.Spot.{Spot}
use Rattle.gang_model.specs.Types.Tree.{Program, Variable}
use Rattle.gang_model.specs.Running.State.{Frame, State}
use Rattle.gang_model.specs.Debugger.Positions.{call_at, scope_of, spot_now, standing_of}

-- the frames from the one at a depth outwards, none at depth 0; all of them where there is none so deep
abbrev pub frames_at : (depth : ℕ) → List Frame → List Frame
frames_at deep frames = drop (length frames - deep) frames

-- the frames above the one at a depth
abbrev pub frames_above : (depth : ℕ) → List Frame → List Frame
frames_above deep frames = take (length frames - deep) frames

-- the state with no frame above the one at a depth
abbrev pub state_at : (depth : ℕ) → State → State
state_at deep state = record state { frames = frames_at deep state.frames }

-- the state with frames put above its own
abbrev pub under : List Frame → State → State
under above state = record state { frames = above ++ state.frames }

-- where the frame at a depth stands: at the call that made the frame above it, and the top one at its next step
abbrev pub spot_at : Program → (depth : ℕ) → State → Option Spot
spot_at p deep state = if nat_lt deep (length state.frames) then call_at (suc deep) state.frames else spot_now p state

-- what is in scope in the frame at a depth
abbrev pub scope_at : Program → (depth : ℕ) → State → List Variable
scope_at p deep state = scope_of (standing_of p (spot_at p deep state))
