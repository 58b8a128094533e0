-- What the accesses of a run touch.
use Rattle.std.specs.Prelude.{ℕ, Bool, false, ◌&&◌, ◌==◌, List, [], ◌∷◌, ◌++◌, Option, Some, None, Result, Ok, Err, if◌then◌else◌}
use Rattle.gang_types.specs.Lanes.{Lanes}
use Rattle.gang_types.specs.declared.places.Spot.{Spot}
use Rattle.gang_model.specs.Types.Tree.{Expr, Program}
use Rattle.gang_model.specs.Running.Lanes.{Fault}
use Rattle.gang_model.specs.Running.State.{State}
use Rattle.gang_model.specs.Running.Value.{value}
use Rattle.gang_model.specs.Debugger.Positions.{lanes_now, spot_now}
use Rattle.element_touches.specs.declared.counts.AccessCounts.{AccessCounts}
use Rattle.element_touches.specs.Counted.{with_touch}
use Rattle.element_touches.specs.Touches.{touched}

-- whether these are one step
abbrev pub is_same : Spot → Spot → Bool
is_same one other = (one.number == other.number) && (one.function.0 == other.function.0)

-- whether a state stands at a step
abbrev pub is_at : Spot → Option Spot → Bool
is_at spot None = false
is_at spot (Some other) = is_same spot other

-- the elements that these lanes touch by the value of an index, nothing where it has a fault
abbrev pub touch_of : Lanes → Result (List ℕ) Fault → List (List ℕ)
touch_of lanes (Ok indices) = touched lanes indices ∷ []
touch_of lanes (Err fault) = []

-- what is touched by an index in the step of a state
abbrev pub touch_in : (index : Expr) → State → List (List ℕ)
touch_in index state = touch_of (lanes_now state) (value index (lanes_now state) state)

-- what is touched by an index in the steps of these states that are this one, each time by itself
abbrev pub touches : Program → Spot → (index : Expr) → List State → List (List ℕ)
touches p spot index [] = []
touches p spot index (state ∷ states) = (if is_at spot (spot_now p state) then touch_in index state else []) ++ touches p spot index states

-- counts with what these lanes touch by the value of an index
abbrev pub with_value : Lanes → Result (List ℕ) Fault → AccessCounts → AccessCounts
with_value lanes (Ok indices) c = with_touch c (touched lanes indices)
with_value lanes (Err fault) c = c
