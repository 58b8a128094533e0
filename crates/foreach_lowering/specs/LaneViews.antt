-- The rounds of `foreach_active` and `foreach_unique`, as the definitions have them.
use Rattle.std.specs.Prelude.{◌≡◌, ℕ, ◌<◌, List, [], ◌∷◌, Option, Some, None}
use Rattle.gang_types.specs.Lanes.{Lanes}
use Rattle.gang_types.specs.Masks.{lanes_of}
use Rattle.gang_model.specs.Types.Tree.{Expr, Var, EachLane, EachValue}
use Rattle.foreach_lowering.specs.declared.lanes.LaneRound.{LaneRound}
use Rattle.foreach_lowering.specs.declared.lanes.ValueRound.{ValueRound}
use Rattle.foreach_lowering.specs.Kept.{turns_left, Takes, kept_lanes, lane_turn}

-- the next of the rounds that are left; none where there is none
abbrev pub IsLaneRound : (width : ℕ) → Lanes → Option LaneRound → Type 0
IsLaneRound width lanes None = (i : Var) → turns_left (EachLane i) width (kept_lanes lanes []) ≡ []
IsLaneRound width lanes (Some round) =
    ((i : Var) → Takes (EachLane i) width (kept_lanes lanes []) (lane_turn i width round.lane) (kept_lanes (lanes_of width round.later) [])) × (round.lane < width)

abbrev pub IsValueRound : (width : ℕ) → Lanes → (values : List ℕ) → Option ValueRound → Type 0
IsValueRound width lanes values None = (v : Var) → (e : Expr) → turns_left (EachValue v e) width (kept_lanes lanes values) ≡ []
IsValueRound width lanes values (Some round) =
    (v : Var) → (e : Expr) → Takes (EachValue v e) width (kept_lanes lanes values)
    (record { lanes = lanes_of width round.lanes; indices = (v.id, round.value ∷ []) ∷ [] }) (kept_lanes (lanes_of width round.later) values)
