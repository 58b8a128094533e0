-- Watches of what frames show, as lines make them and end them.
use Rattle.std.specs.Prelude.{ℕ, ◌==◌, ◌&&◌, Bool, true, false, not, nat_le, nat_lt, List, [], ◌∷◌, ◌++◌, filter, length, Option, Some, None, is_none, if◌then◌else◌}
use Rattle.std.specs.List.{list_any}
use Rattle.gang_types.specs.declared.places.VarId.{VarId}
use Rattle.gang_types.specs.declared.types.Rate.{Rate}
use Rattle.gang_model.specs.Debugger.Debugger.{Command, Debugger, DoNext, DoReverseNext, DoReverseStep, DoStep, Setting, Target, bad_part, now, shown_words}
use Rattle.gang_model.specs.Running.State.{State}
use Rattle.gang_model.specs.Texts.CommandText.{command_of}
use Rattle.gang_model.specs.Types.Tree.{Variable}
use Rattle.debug_traits.specs.Frames.{found_at, state_at}
use Rattle.expression_watches.specs.declared.sights.ExpressionWatch.{ExpressionWatch}
use Rattle.conditional_stops.specs.declared.sights.FrameWatch.{FrameWatch}
use Rattle.conditional_stops.specs.declared.watches.Watch.{Watch}
use Rattle.conditional_stops.specs.declared.watches.Watch.TheVariants as watch
use Rattle.conditional_stops.specs.declared.writes.SetPart.{SetPart}
use Rattle.conditional_stops.specs.declared.writes.SetPart.TheVariants as part
use Rattle.conditional_stops.specs.declared.writes.SetPlace.{SetPlace}
use Rattle.conditional_stops.specs.declared.writes.WriteWatch.{WriteWatch}
use Rattle.conditional_stops.specs.Tables.{Table, without}
use Rattle.conditional_stops.specs.Watches.{watch_depth, watch_number}
use Rattle.prompt_lines.specs.declared.line.Kind.{Kind}
use Rattle.prompt_lines.specs.Words.{is_alone}
use Rattle.gang_types.specs.declared.places.VarId.TheVariants as id
use Rattle.prompt_lines.specs.declared.line.Kind.TheVariants as kind
use Rattle.prompt_scenes.specs.Holding.{Held}

-- ---- what can be watched

-- whether a variable is of a function, by its number
abbrev pub is_local : VarId → Bool
is_local (id.File number) = false
is_local (id.Local number) = true

-- whether a target can be watched, where its name stands for a variable of a function: a scalar, a lane or an element
abbrev pub can_watch : VarId → (is_array : Bool) → Rate → (words : ℕ) → Target → Bool
can_watch number is_array rate words target =
    is_local number && is_none (bad_part false target.at is_array rate words) && nat_le (length target.name) 256

abbrev pub if_watched : State → Target → Option Variable → Option VarId
if_watched state target None = None
if_watched state target (Some v) = if can_watch v.id v.is_array v.rate (length (shown_words state v)) target then Some v.id else None

-- the variable of the frame at a depth that a target watches, if it is of a function
abbrev pub local_named : Setting → Debugger → (depth : ℕ) → Target → Option VarId
local_named s d deep target = if_watched (state_at deep (now s d)) target (found_at s.program deep (now s d) target.name)

-- what is meant of a variable, of which so many words are shown: all of it, or an element that is there; no lane of a scalar
abbrev pub part_named : (is_array : Bool) → (words : ℕ) → (at : Option ℕ) → Option SetPart
part_named is_array words None = if is_array then Some part.Array else Some part.Scalar
part_named is_array words (Some k) = if is_array && nat_lt k words then Some (part.Element k) else None

-- a place that steps set, of a variable whose name is not too long
abbrev pub place_of : VarId → (name : List ℕ) → Option SetPart → Option SetPlace
place_of v name None = None
place_of v name (Some p) = if nat_le (length name) 256 then Some (record { id = v; part = p }) else None

abbrev pub place_found : State → Target → Option Variable → Option SetPlace
place_found state target None = None
place_found state target (Some v) = place_of v.id target.name (part_named v.is_array (length (shown_words state v)) target.at)

-- what a target means, in the frame at a depth or of the file, to watch what sets it
abbrev pub place_named : Setting → Debugger → (depth : ℕ) → Target → Option SetPlace
place_named s d deep target = place_found (state_at deep (now s d)) target (found_at s.program deep (now s d) target.name)

-- the depth of the frame whose variable it is, 0 for one of the file
abbrev pub own_depth : (depth : ℕ) → VarId → ℕ
own_depth deep (id.File number) = 0
own_depth deep (id.Local number) = deep

-- ---- the watches that are held

-- whether a watch of a frame has a number
abbrev pub is_frame : ℕ → Held → Bool
is_frame number h = list_any (λ w. watch_number w == number) h.frames

-- a watch of a variable of the frame at a depth
abbrev pub part_watch : ℕ → Target → (depth : ℕ) → VarId → FrameWatch
part_watch number target deep v = record { number = number; depth = deep; id = v; at = target.at; name = record { items = target.name } }

-- what a number was found for is watched from now on, where fewer than 16 are
abbrev pub with_frame : Option ℕ → Target → (depth : ℕ) → VarId → Held → Held
with_frame None target deep v h = h
with_frame (Some number) target deep v h =
    if nat_lt (length h.frames) 16 && nat_le (length target.name) 256 then record h { frames = h.frames ++ watch.Variable (part_watch number target deep v) ∷ [] } else h

-- a watch of an expression that was made is there from now on, where fewer than 16 are
abbrev pub with_expression : Option ExpressionWatch → Held → Held
with_expression None h = h
with_expression (Some w) h = if nat_lt (length h.frames) 16 then record h { frames = h.frames ++ watch.Expression w ∷ [] } else h

-- a watch of what sets a variable that is in sight in the frame at a depth, or a part of it
abbrev pub write_watch : ℕ → (name : List ℕ) → (depth : ℕ) → SetPlace → WriteWatch
write_watch number name deep place = record { number = number; depth = own_depth deep place.id; place = place; name = record { items = name } }

-- what sets it is watched from now on by a number that was found, where fewer than 16 watches are there
abbrev pub with_writes : Option ℕ → (name : List ℕ) → (depth : ℕ) → SetPlace → Held → Held
with_writes None name deep place h = h
with_writes (Some number) name deep place h =
    if nat_lt (length h.frames) 16 && nat_le (length name) 256 then record h { frames = h.frames ++ watch.Writes (write_watch number name deep place) ∷ [] } else h

-- what was deleted is watched no more: one watch, or all
abbrev pub without_frames : Option (Option ℕ) → Held → Held
without_frames None h = h
without_frames (Some None) h = record h { frames = [] }
without_frames (Some (Some n)) h = record h { frames = filter (λ w. not (watch_number w == n)) h.frames }

-- ---- which of them end with a line

-- one move leaves frames only where it ends; more than one may leave one and enter another one, and then the entry's frame alone is known
abbrev pub if_one : ℕ → (depth : ℕ) → ℕ
if_one n deep = if nat_le n 1 then deep else 1

-- the depth up to which frames are known to be those of before, after a command that led to this depth
abbrev pub known_after : Option Command → (depth : ℕ) → ℕ
known_after (Some (DoStep n)) deep = if_one n deep
known_after (Some (DoNext n)) deep = if_one n deep
known_after (Some (DoReverseStep n)) deep = if_one n deep
known_after (Some (DoReverseNext n)) deep = if_one n deep
known_after command deep = deep

-- the same after a line: `run` and `start` begin another run, and the way to another moment may leave each frame but the entry's
abbrev pub known : Kind → (text : List ℕ) → (depth : ℕ) → ℕ
known kind.Own text deep = known_after (command_of text) deep
known kind.Run text deep = if is_alone text then 0 else deep
known kind.Start text deep = if is_alone text then 0 else deep
known kind.Until text deep = if is_alone text then deep else 1
known kind.Goto text deep = 1
known kind.Restart text deep = 1
known kind.Last text deep = 1
known other text deep = deep

-- what was said of a watch is forgotten, where it is deeper
abbrev pub forgotten_if : (known : ℕ) → Watch → Table → Table
forgotten_if deepest w table = if nat_lt deepest (watch_depth w) then without (watch_number w) table else table

-- the same of each
abbrev pub forgotten_deeper : (known : ℕ) → List Watch → Table → Table
forgotten_deeper deepest [] table = table
forgotten_deeper deepest (w ∷ watches) table = forgotten_deeper deepest watches (forgotten_if deepest w table)

-- the watches of frames that are deeper end
abbrev pub ended : (known : ℕ) → Held → Held
ended deepest h = record h { frames = filter (λ w. nat_le (watch_depth w) deepest) h.frames; table = forgotten_deeper deepest h.frames h.table }
