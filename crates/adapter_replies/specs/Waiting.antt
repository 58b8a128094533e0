-- The lanes that wait where a frame stands, and where a lane waits in it.
use Rattle.std.specs.Prelude.{ℕ, ◌==◌, Bool, not, ◌&&◌, List, [], ◌∷◌, length, nat_lt, option_map, Option, Some, None, if◌then◌else◌}
use Rattle.gang_types.specs.declared.places.Place.{Place}
use Rattle.gang_types.specs.Lanes.{Lanes, has}
use Rattle.gang_types.specs.Masks.{lanes_of}
use Rattle.gang_model.specs.Types.Tree.{StepNumber, Standing, Program}
use Rattle.gang_model.specs.Running.State.{Frame, State}
use Rattle.gang_model.specs.Debugger.Positions.{lanes_now, standing_of}
use Rattle.gang_model.specs.Debugger.Debugger.{depth}
use Rattle.debug_traits.specs.declared.machine.Position.{Position}
use Rattle.lane_places.specs.Places.{lane_spot_at}

-- the lanes of a call, none where it was not made
abbrev pub call_lanes : Option StepNumber → Lanes → Lanes
call_lanes None lanes = []
call_lanes (Some number) lanes = lanes

-- the lanes of the call that the frame at a depth made
abbrev pub called_lanes : (depth : ℕ) → List Frame → Lanes
called_lanes deep [] = []
called_lanes deep (inner ∷ []) = []
called_lanes deep (inner ∷ frame ∷ frames) = if length (frame ∷ frames) == deep then call_lanes inner.call inner.lanes else called_lanes deep (frame ∷ frames)

-- the lanes that the frame at a depth shows: of the top one those of its next step, of another one those of its call; none of a program that has ended
abbrev pub shown_lanes : State → (depth : ℕ) → Lanes
shown_lanes state deep = if deep == depth state then lanes_now state else called_lanes deep state.frames

-- whether a lane of the gang is not among these
abbrev pub waits : Lanes → ℕ → Bool
waits lanes lane = nat_lt lane (length lanes) && not (has lanes lane)

-- the lanes of a position, none where there is none
abbrev pub position_lanes : Option Position → Lanes
position_lanes None = []
position_lanes (Some p) = lanes_of p.width p.lanes

-- the place of a standing
abbrev pub standing_place : Option Standing → Option Place
standing_place standing = option_map (λ it. it.place) standing

-- where in the source a lane waits in the frame at a depth
abbrev pub lane_place : Program → (depth lane : ℕ) → State → Option Place
lane_place p deep lane state = standing_place (standing_of p (lane_spot_at p deep lane state))
