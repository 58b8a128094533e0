-- Watches of what sets a variable or an element, whether its value is another one then or not.
use Rattle.std.specs.Prelude.{ℕ, ◌-◌, ◌==◌, ◌||◌, ◌&&◌, Bool, false, length, nat_le, nat_lt, Option, Some, None, if◌then◌else◌}
use Rattle.gang_types.specs.declared.places.Spot.{Spot}
use Rattle.gang_types.specs.declared.places.VarId.{VarId}
use Rattle.gang_model.specs.Types.Tree.{Program, Variable}
use Rattle.gang_model.specs.Debugger.Debugger.{Debugger, Setting, depth, now, shown_words}
use Rattle.debug_traits.specs.Frames.{found_at, spot_at, state_at}
use Rattle.frame_expressions.specs.Stores.{stores_to}
use Rattle.gang_model.specs.Running.State.{same_id}
use Rattle.call_results.specs.Calls.{given_at}
use Rattle.call_results.specs.declared.given.GivenResult.{GivenResult}
use Rattle.variable_writes.specs.Writes.{sets_at}
use Rattle.conditional_stops.specs.declared.writes.Ahead.{Ahead}
use Rattle.conditional_stops.specs.declared.writes.SetPart.{SetPart}
use Rattle.conditional_stops.specs.declared.writes.SetPart.TheVariants as part
use Rattle.conditional_stops.specs.declared.writes.WriteWatch.{WriteWatch}

-- whether a watch is of the frame at a depth: one of a variable of the file, which has depth 0, is of each
abbrev pub is_of : (depth : ℕ) → WriteWatch → Bool
is_of deep w = (w.depth == 0) || (w.depth == deep)

-- whether the statement at a step sets the variable, if there is a step
abbrev pub is_set_at : Program → VarId → Option Spot → Bool
is_set_at p id None = false
is_set_at p id (Some spot) = sets_at p spot id

-- whether what a call gives is for the variable
abbrev pub is_for : VarId → Option GivenResult → Bool
is_for id None = false
is_for id (Some given) = same_id given.variable id

-- whether the call at a step gives the variable its value when it returns
abbrev pub is_given_at : Program → VarId → Option Spot → Bool
is_given_at p id None = false
is_given_at p id (Some spot) = is_for id (given_at p spot)

-- ---- arrays and their elements

-- the first element that is meant, and how many of so many
abbrev pub first_of : SetPart → ℕ
first_of (part.Element index) = index
first_of p = 0

abbrev pub count_of : SetPart → (all : ℕ) → ℕ
count_of (part.Element index) all = 1
count_of p all = all

-- whether the next step stores to what a watch means of what its name stands for in its frame, if that is its array: by whatever name the step
-- has it, and by the values that the indices have before the step
abbrev pub is_stored : Setting → Debugger → WriteWatch → Option Variable → Bool
is_stored s d w None = false
is_stored s d w (Some v) =
    v.is_array && (same_id v.id w.place.id
    && stores_to s.program w.depth v.id (first_of w.place.part) (count_of w.place.part (length (shown_words (state_at w.depth (now s d)) v))) (now s d))

-- ---- the next step

-- whether the statement of the next step sets a scalar of its own frame, or of the file
abbrev pub is_scalar_set : Setting → Debugger → WriteWatch → Bool
is_scalar_set s d w = is_of (depth (now s d)) w && is_set_at s.program w.place.id (spot_at s.program (depth (now s d)) (now s d))

-- whether it stores to an array, or an element of one, that is in sight in the watch's frame, while that is there
abbrev pub is_array_set : Setting → Debugger → WriteWatch → Bool
is_array_set s d w = nat_le w.depth (depth (now s d)) && is_stored s d w (found_at s.program w.depth (now s d) w.name.items)

abbrev pub is_part_set : SetPart → Setting → Debugger → WriteWatch → Bool
is_part_set part.Scalar s d w = is_scalar_set s d w
is_part_set p s d w = is_array_set s d w

-- whether the statement of the next step sets what is watched
abbrev pub is_set_next : Setting → Debugger → WriteWatch → Bool
is_set_next s d w = is_part_set w.place.part s d w

-- what the next step sets of what is watched: by the statement of the top frame, or where that frame is left by the call that made it
abbrev pub next_sets : Setting → Debugger → WriteWatch → Ahead
next_sets s d w = record {
  depth = depth (now s d);
  by_statement = is_set_next s d w;
  by_call = is_of (depth (now s d) - 1) w && is_given_at s.program w.place.id (spot_at s.program (depth (now s d) - 1) (now s d));
}

-- whether the step from an earlier moment to a later one sets it
abbrev pub is_set : (earlier later : Ahead) → Bool
is_set earlier later = if nat_lt later.depth earlier.depth then earlier.by_call else earlier.by_statement
