-- What a watched expression shows where its frame stands.
use Rattle.std.specs.Prelude.{ℕ, nat_le, nat_lt, List, [], length, Option, Some, None, if◌then◌else◌}
use Rattle.gang_types.specs.declared.places.Spot.{Spot}
use Rattle.gang_types.specs.Lanes.{Lanes}
use Rattle.gang_model.specs.Running.State.{State}
use Rattle.gang_model.specs.Types.Tree.{Expr}
use Rattle.gang_model.specs.Debugger.Debugger.{Debugger, Setting, depth, now}
use Rattle.debug_traits.specs.Frames.{spot_at, state_at}
use Rattle.frame_expressions.specs.Lanes.{made_lanes}
use Rattle.expression_watches.specs.declared.sights.ExpressionWatch.{ExpressionWatch}
use Rattle.expression_watches.specs.LaneSights.{shown_in}
use Rattle.expression_watches.specs.Meanings.{meaning_at}

-- a watch of a text in the frame at a depth, which stands at a step; none of a text of more than 256 bytes
abbrev pub watch_of : (number depth : ℕ) → (set_at : Spot) → (text : List ℕ) → Option ExpressionWatch
watch_of number deep set_at text =
    if nat_le (length text) 256 then Some (record { number = number; depth = deep; set_at = set_at; text = record { items = text } }) else None

-- what an expression shows in the lanes of a gang, which are at most 16
abbrev pub in_gang : Expr → Lanes → State → List (Option ℕ)
in_gang e lanes state = if nat_lt 16 (length lanes) then [] else shown_in 16 e lanes state

-- what is meant shows, if anything is
abbrev pub shown_of : Option Expr → Lanes → State → List (Option ℕ)
shown_of None lanes state = []
shown_of (Some e) lanes state = in_gang e lanes state

-- what a watched expression shows where its frame stands, in the lanes for which the frame was made, whether they are active or not
abbrev pub seen_at : Setting → Debugger → ExpressionWatch → Option Spot → List (Option ℕ)
seen_at s d w None = []
seen_at s d w (Some spot) = shown_of (meaning_at s.program w.set_at spot w.text.items) (made_lanes w.depth (now s d)) (state_at w.depth (now s d))

-- the same, where its frame is there
abbrev pub expression_sight : Setting → Debugger → ExpressionWatch → List (Option ℕ)
expression_sight s d w = if nat_lt (depth (now s d)) w.depth then [] else seen_at s d w (spot_at s.program w.depth (now s d))
