-- Where each lane waits in a frame (ISPC User's Guide, "Control Flow"; that the lanes without a part in the rounds of a foreach form that
-- are still to come wait for these too is a choice of this project).
use Rattle.std.specs.Prelude.{ℕ, Bool, true, false, not, ◌&&◌, ◌||◌, nat_le, unwrap_or, List, [], ◌∷◌, map, filter, length, Option, Some, None, slice_get, if◌then◌else◌}
use Rattle.gang_types.specs.declared.places.Spot.{Spot}
use Rattle.gang_types.specs.Lanes.{has, no_lane}
use Rattle.gang_model.specs.Types.Tree.{StepNumber, Function, Program}
use Rattle.gang_model.specs.Running.State.{Doing, Round, Task, Frame, State}
use Rattle.gang_model.specs.Debugger.Positions.{closing_of, spot_in}
use Rattle.mask_states.specs.Stands.{waits}

-- whether a task is a round of a foreach form
abbrev pub is_round : Doing → Bool
is_round (Round number indices body) = true
is_round other = false

-- whether a lane gets past a task only once it is done: it does it itself, or it is a round that some lane does
abbrev pub holds : (lane : ℕ) → Task → Bool
holds lane t = has t.lanes lane || (is_round t.doing && not (no_lane t.lanes))

-- what is done of some tasks before a lane is past them all, in order
abbrev pub ahead : (lane : ℕ) → List Task → List Doing
ahead lane tasks = map (λ t. t.doing) (filter (holds lane) tasks)

-- the number of the step for which a lane waits: the first of these, or the closing brace
abbrev pub number_ahead : Option Function → (lane : ℕ) → List Task → StepNumber
number_ahead f lane tasks = waits (closing_of f) (ahead lane tasks)

-- the number of the step for which a lane waits in a frame, below the frame that it called, if it did: the call, where the lane made it too
abbrev pub lane_number : Program → (above : Option Frame) → Frame → (lane : ℕ) → StepNumber
lane_number p None frame lane = number_ahead (slice_get p.functions frame.function) lane frame.tasks
lane_number p (Some above) frame lane = if has above.lanes lane then unwrap_or above.call 0 else number_ahead (slice_get p.functions frame.function) lane frame.tasks

-- where a lane waits in the frame at a depth, the entry's being at depth 1; in the top frame where there is none so deep
abbrev pub lane_spot_in : Program → (depth lane : ℕ) → (above : Option Frame) → List Frame → Option Spot
lane_spot_in p deep lane above [] = None
lane_spot_in p deep lane above (frame ∷ frames) =
    if nat_le (length (frame ∷ frames)) deep then Some (spot_in frame.function (lane_number p above frame lane)) else lane_spot_in p deep lane (Some frame) frames

abbrev pub lane_spot_at : Program → (depth lane : ℕ) → State → Option Spot
lane_spot_at p deep lane state = lane_spot_in p deep lane None state.frames
