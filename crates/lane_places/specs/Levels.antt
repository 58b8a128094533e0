-- Where each lane waits, by the numbers of a masked state.
use Rattle.std.specs.Prelude.{ℕ, Bool, ◌==◌, ◌&&◌, nat_le, nat_lt, List, [], ◌∷◌, length, Option, Some, None, if◌then◌else◌}
use Rattle.gang_types.specs.declared.places.Spot.{Spot}
use Rattle.gang_model.specs.Types.Tree.{StepNumber}
use Rattle.gang_model.specs.Running.Lanes.{at}
use Rattle.gang_model.specs.Running.State.{Frame}
use Rattle.gang_model.specs.Debugger.Positions.{spot_in}
use Rattle.mask_states.specs.Masked.{Level, Masked, no_turn}

-- what a lane waits for in a level; one that the gang does not have is at its end
abbrev pub number_in : (lane : ℕ) → Level → StepNumber
number_in lane level = if nat_lt lane (length level.numbers) then at level.numbers lane else level.end

-- whether a lane is past a foreach form under way: it has nothing to do in the round, and no round is to come
abbrev pub is_past : (lane : ℕ) → Level → Bool
is_past lane level = no_turn level.turns && (number_in lane level == level.end)

-- what a lane waits for in the levels of a frame, the innermost first: that of the first form that it is not past, or of the body
abbrev pub number_in_levels : (lane : ℕ) → List Level → StepNumber
number_in_levels lane [] = 0
number_in_levels lane (level ∷ []) = number_in lane level
number_in_levels lane (level ∷ next ∷ below) = if is_past lane level then number_in_levels lane (next ∷ below) else number_in lane level

-- where a lane waits in the frame at a depth
abbrev pub spot_by_levels : (depth lane : ℕ) → List Frame → List (List Level) → Option Spot
spot_by_levels deep lane [] all = None
spot_by_levels deep lane (frame ∷ frames) [] = None
spot_by_levels deep lane (frame ∷ frames) (levels ∷ rest) =
    if nat_le (length (frame ∷ frames)) deep then Some (spot_in frame.function (number_in_levels lane levels)) else spot_by_levels deep lane frames rest

abbrev pub masked_lane_spot : (depth lane : ℕ) → Masked → Option Spot
masked_lane_spot deep lane masked = spot_by_levels deep lane masked.state.frames masked.levels
