-- Watches of what frames show, of variables and of expressions, and of what sets a variable.
use Rattle.std.specs.Prelude.{ℕ, Bool, false, nat_lt, List, map, filter, Option}
use Rattle.gang_model.specs.Debugger.Debugger.{Debugger, Setting}
use Rattle.expression_watches.specs.LaneSights.{lanes_differ}
use Rattle.expression_watches.specs.Sights.{expression_sight}
use Rattle.conditional_stops.specs.declared.going.Direction.{Direction}
use Rattle.conditional_stops.specs.declared.going.Direction.TheVariants as direction
use Rattle.conditional_stops.specs.declared.reasons.Reason.{Reason}
use Rattle.conditional_stops.specs.declared.reasons.Reason.TheVariants as reason
use Rattle.conditional_stops.specs.declared.watches.Watch.{Watch}
use Rattle.conditional_stops.specs.declared.watches.Watch.TheVariants as watch
use Rattle.conditional_stops.specs.declared.writes.Ahead.{Ahead}
use Rattle.conditional_stops.specs.Sights.{differ, sight}
use Rattle.conditional_stops.specs.Writes.{is_set, next_sets}

-- the number of a watch
abbrev pub watch_number : Watch → ℕ
watch_number (watch.Variable w) = w.number
watch_number (watch.Expression w) = w.number
watch_number (watch.Writes w) = w.number

-- the depth of its frame, 0 where it is of the file
abbrev pub watch_depth : Watch → ℕ
watch_depth (watch.Variable w) = w.depth
watch_depth (watch.Expression w) = w.depth
watch_depth (watch.Writes w) = w.depth

-- whether its frame is not there, where there are so many: it has been left, or is not yet entered
abbrev pub is_away : (depth : ℕ) → Watch → Bool
is_away deep w = nat_lt deep (watch_depth w)

-- what a watch shows: the words of a variable, if it shows any; of an expression a word for each lane that shows one; or what the next step sets
pub data Seen : Type 0 where
  Words : Option (List ℕ) → Seen
  InLanes : List (Option ℕ) → Seen
  Sets : Ahead → Seen

abbrev pub seen : Setting → Debugger → Watch → Seen
seen s d (watch.Variable w) = Words (sight s d w)
seen s d (watch.Expression w) = InLanes (expression_sight s d w)
seen s d (watch.Writes w) = Sets (next_sets s d w)

-- whether the step between two moments set it, which was made or taken back: the earlier moment is the one before a step that is made
abbrev pub is_set_on : Direction → (before now : Ahead) → Bool
is_set_on direction.Forward before now = is_set before now
is_set_on direction.Backward before now = is_set now before

-- whether a step that way changed it: it showed another value before, or the step sets it
abbrev pub changed : Direction → (before now : Seen) → Bool
changed way (Words old) (Words new) = differ old new
changed way (InLanes old) (InLanes new) = lanes_differ old new
changed way (Sets old) (Sets new) = is_set_on way old new
changed way old new = false

-- the watches that a step that way changed, from one debugger to another, in their order
abbrev pub changed_frames : Direction → Setting → (began d : Debugger) → List Watch → List Reason
changed_frames way s began d watches = map (λ w. reason.Watch (watch_number w)) (filter (λ w. changed way (seen s began w) (seen s d w)) watches)
