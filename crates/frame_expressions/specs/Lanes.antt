-- The lanes for which a frame computes an expression, and the answer.
use Rattle.std.specs.Prelude.{◌≡◌, ℕ, suc, nat_lt, List, [], ◌∷◌, length, take, Result, Ok, Err, if◌then◌else◌}
use Rattle.gang_types.specs.declared.masks.Mask.{Mask}
use Rattle.gang_types.specs.Lanes.{Lanes, and}
use Rattle.gang_types.specs.Masks.{IsGangWidth, lanes_of}
use Rattle.gang_model.specs.Running.Lanes.{Fault as ModelFault}
use Rattle.gang_model.specs.Running.State.{Frame, State}
use Rattle.gang_model.specs.Debugger.Positions.{lanes_now}
use Rattle.debug_traits.specs.declared.machine.Fault.{Fault}
use Rattle.debug_traits.specs.Frames.{frames_at}
use Rattle.debug_traits.specs.Machines.{fault_view}
use Rattle.frame_expressions.specs.declared.machine.LaneWords.{LaneWords}

-- the lanes of the call that made the top one of these frames
abbrev pub called_lanes : List Frame → Lanes
called_lanes [] = []
called_lanes (frame ∷ frames) = frame.lanes

-- the lanes that the frame at a depth shows: those of the call that it made, and of the top one those of its next step
abbrev pub lanes_at : (depth : ℕ) → State → Lanes
lanes_at deep state = if nat_lt deep (length state.frames) then called_lanes (frames_at (suc deep) state.frames) else lanes_now state

-- the lanes for which the frame at a depth was made: those of the call that it is of, and of the entry's frame all
abbrev pub made_lanes : (depth : ℕ) → State → Lanes
made_lanes deep state = called_lanes (frames_at deep state.frames)

-- those of them that are in a mask
abbrev pub chosen_lanes : Mask → (depth : ℕ) → State → Lanes
chosen_lanes mask deep state = and (made_lanes deep state) (lanes_of (length (made_lanes deep state)) mask)

-- the words are those of a gang for these lanes
pub record AreFor (lanes : Lanes) (found : LaneWords) : Type 0 where
  pub gang : IsGangWidth found.width
  pub lanes_are : lanes_of found.width found.lanes ≡ lanes

-- the answer has the words of the value for these lanes, or its fault
abbrev pub IsValue : Result LaneWords Fault → Lanes → Result (List ℕ) ModelFault → Type 0
IsValue (Ok found) lanes meant = AreFor lanes found × (meant ≡ Ok (take found.width found.words))
IsValue (Err fault) lanes meant = meant ≡ Err (fault_view fault)
