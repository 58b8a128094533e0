-- The debugger: what it holds, and the answer to each command with what it holds next. A command's refusals are tested in the
-- order of their numbers, and a refused command changes nothing. (GDB manual, "Running Programs Backward", "Setting Breakpoints",
-- "Setting Watchpoints", "Process Record and Replay"; `undo`, the refusals and the order of the tests are choices of this project.)
use Rattle.std.specs.Prelude.{◌≡◌, ◌⊎◌, ◌<◌, ◌≤◌, ℕ, zero, suc, ◌-◌, Bool, true, false, not, ◌&&◌, ◌||◌, ◌==◌, nat_lt, nat_le, min, max, List, [], ◌∷◌, ◌++◌, map, length, take, drop, filter, flat_map, Option, Some, None, is_some, slice_index, find, ℤ, pos, negsuc, if◌then◌else◌}
use Rattle.gang_types.specs.declared.types.Rate.{Rate}
use Rattle.gang_types.specs.declared.types.Rate.TheVariants.{Uniform}
use Rattle.gang_types.specs.declared.types.IntType.{IntType}
use Rattle.gang_types.specs.Values.{wrapped, value_of}
use Rattle.gang_model.specs.Running.Lanes.{Fault}
use Rattle.gang_model.specs.Source.Names.{same_text, named}
use Rattle.gang_model.specs.Types.Tree.{Variable, Program}
use Rattle.gang_model.specs.Running.State.{View, State, view_of, words_in, words_of}
use Rattle.gang_model.specs.Running.Step.{Stepped, Goes, Fails, Over, step}
use Rattle.gang_model.specs.Debugger.Positions.{line_now, scope_now}
use Rattle.gang_model.specs.Debugger.Events.{Event, Step, Poke, Poked, WholeOf, LaneOf, ElementAt, InFrame, after}
use Rattle.gang_model.specs.Debugger.Frames.{scope_at, state_at}

-- a variable by its name, or one of its lanes or elements
pub record Target : Type 0 where
  pub name : List ℕ
  pub at : Option ℕ

-- a breakpoint on a line, or a watch of a file-scope variable
pub data Stop : Type 0 where
  Line : ℕ → Stop
  Watch : Target → Variable → Stop

-- what the debugger holds: the events not taken back, newest first; how many of them can be taken back, at most the history
-- limit; the breakpoints and watches in the order of their numbers; the next number
pub record Debugger : Type 0 where
  pub events : List Event
  pub kept : ℕ
  pub history : ℕ
  pub stops : List (ℕ × Stop)
  pub next : ℕ

-- the debugger at the start, with a history limit
abbrev pub fresh : ℕ → Debugger
fresh history = record { events = []; kept = 0; history = history; stops = []; next = 1 }

-- the commands
pub data Command : Type 0 where
  DoStep DoNext DoReverseStep DoReverseNext : ℕ → Command
  DoFinish DoContinue DoReverseFinish DoReverseContinue DoUndo : Command
  DoPrint : Target → Command
  DoSet : Target → ℤ → Command
  DoBreak : ℕ → Command
  DoWatch : Target → Command
  DoDelete : Option ℕ → Command
  DoInfoBreakpoints DoInfoLocals DoBacktrace DoNothing DoQuit : Command
  DoSetHistory : ℕ → Command
  -- a value in the frame at a depth: no command line asks for it, but front ends do
  DoSetIn : (depth : ℕ) → Target → ℤ → Command

-- why a command is refused, in the order of their numbers: C1 to C4, C6 to C12
pub data Refusal : Type 0 where
  BadCommand NoSuchName NoHistory Ended Outermost NoLine OutOfRange Constant NoSuchNumber TableFull Memory : Refusal

-- what a command is answered; the texts say the rest by the state after it
pub data Answer : Type 0 where
  -- the goal is reached, or the program has ended
  Here : Answer
  AtBreakpoint AtWatch : ℕ → Answer
  AtFault : Fault → Answer
  HistoryEnd StepLimit UndoneStep UndonePoke : Answer
  Shows : Target → Variable → Answer
  BreaksAt : (number line : ℕ) → Answer
  Watches : (number : ℕ) → Target → Answer
  Deleted : Option ℕ → Answer
  ListsStops ListsLocals ListsFrames Silent : Answer
  KeepsHistory : ℕ → Answer
  Refused : Refusal → Answer

-- an answer, and what the debugger holds then
pub record Reply : Type 0 where
  pub answer : Answer
  pub next : Debugger

-- a reply
abbrev pub reply : Answer → Debugger → Reply
reply answer d = record { answer = answer; next = d }

-- a refused command changes nothing
abbrev pub refused : Refusal → Debugger → Reply
refused r d = reply (Refused r) d

-- a program with its first state, and the most moves of one forward command
pub record Setting : Type 0 where
  pub program : Program
  pub first : State
  pub limit : ℕ

-- the state that the debugger shows
abbrev pub now : Setting → Debugger → State
now s d = after s.program s.first d.events

-- how many frames there are; a program that has ended counts as depth 1
abbrev pub depth : State → ℕ
depth state = max 1 (length state.frames)

-- whether the program has ended
abbrev pub has_ended : State → Bool
has_ended state = length state.frames == 0

-- ---- names and what they show

-- the file-scope variable of this name
abbrev pub global_named : Program → List ℕ → Option Variable
global_named p name = named name (map (λ g. g.variable) p.globals)

-- the first one, if there is one, else the second
abbrev pub or_else : Option Variable → Option Variable → Option Variable
or_else None other = other
or_else (Some v) other = Some v

-- the variable of this name in scope, else at file scope
abbrev pub found : Program → State → List ℕ → Option Variable
found p state name = or_else (named name (scope_now p state)) (global_named p name)

-- the variable of this name in scope in the frame at a depth, else at file scope
abbrev pub found_at : Program → (depth : ℕ) → State → List ℕ → Option Variable
found_at p deep state name = or_else (named name (scope_at p deep state)) (global_named p name)

-- the words of a part of an array
abbrev pub elements : View → State → List ℕ
elements view state = take view.len (drop view.first (words_of state.memory view.array))

-- the words that a variable shows: an array's elements, or a scalar's words
abbrev pub shown_words : State → Variable → List ℕ
shown_words state v = if v.is_array then elements (view_of state v.id) state else words_in state v.id

-- one of the words, or all
abbrev pub part_shown : Option ℕ → List ℕ → List ℕ
part_shown None words = words
part_shown (Some k) words = slice_index words k ∷ []

-- the words that a target shows
abbrev pub target_words : State → Target → Variable → List ℕ
target_words state target v = part_shown target.at (shown_words state v)

-- ---- moves

-- when a command's moves are enough
pub data Goal : Type 0 where
  -- so many moves
  Moves : ℕ → Goal
  -- so many times a move and more until the depth is at most the one before it
  Groups : ℕ → (base : ℕ) → Goal
  -- a depth below this one
  Above : (base : ℕ) → Goal
  NoGoal : Goal

-- the goal that is left after a move to this depth; none where it is reached
abbrev pub towards : Goal → ℕ → Option Goal
towards (Moves n) deep = if nat_le n 1 then None else Some (Moves (n - 1))
towards (Groups n base) deep = if nat_lt base deep then Some (Groups n base) else (if nat_le n 1 then None else Some (Groups (n - 1) deep))
towards (Above base) deep = if nat_lt deep base then None else Some (Above base)
towards NoGoal deep = Some NoGoal

-- an event happens, and the oldest one kept may no longer be taken back
abbrev pub moved : Event → Debugger → Debugger
moved event d = record d { events = event ∷ d.events; kept = min (suc d.kept) d.history }

-- the last event is taken back
abbrev pub taken_back : Debugger → Debugger
taken_back d = record d { events = drop 1 d.events; kept = d.kept - 1 }

-- whether an event is a step
abbrev pub is_step : Event → Bool
is_step Step = true
is_step (Poke what word) = false

-- how many steps can be taken back
abbrev pub kept_steps : Debugger → ℕ
kept_steps d = length (filter is_step (take d.kept d.events))

-- how many events a backward move takes back: the pokes since the last step, and that step
abbrev pub to_last_step : List Event → ℕ
to_last_step [] = 0
to_last_step (Step ∷ events) = 1
to_last_step (Poke what word ∷ events) = suc (to_last_step events)

-- a backward move
abbrev pub stepped_back : Debugger → Debugger
stepped_back d = record d { events = drop (to_last_step d.events) d.events; kept = d.kept - to_last_step d.events }

-- whether this is a breakpoint on the line where the program stands
abbrev pub on_line : Option ℕ → Stop → Bool
on_line line (Watch target v) = false
on_line None (Line l) = false
on_line (Some here) (Line l) = here == l

-- whether this is a watch whose value differs between two states
abbrev pub differs : State → State → Stop → Bool
differs old new (Line l) = false
differs old new (Watch target v) = not (same_text (target_words old target v) (target_words new target v))

-- the least number of a breakpoint or watch that passes the test
abbrev pub first_stop : (Stop → Bool) → List (ℕ × Stop) → Option ℕ
first_stop test [] = None
first_stop test (entry ∷ stops) = if test entry.1 then Some entry.0 else first_stop test stops

-- whether a command ends after a move, or goes on to a goal
pub data AfterMove : Type 0 where
  Ends : Answer → AfterMove
  GoesOn : Goal → AfterMove

-- what ends a command after a move, in this order: the goal, a breakpoint, a watch, that no move is left
abbrev pub ends_or_goes_on : Option Goal → (breakpoint watch : Option ℕ) → (no_move : Bool) → (last : Answer) → AfterMove
ends_or_goes_on None breakpoint watch no_move last = Ends Here
ends_or_goes_on (Some goal) (Some n) watch no_move last = Ends (AtBreakpoint n)
ends_or_goes_on (Some goal) None (Some n) no_move last = Ends (AtWatch n)
ends_or_goes_on (Some goal) None None true last = Ends last
ends_or_goes_on (Some goal) None None false last = GoesOn goal

-- what a command does after a move from an old state to a new one
abbrev pub after_move : Program → Goal → (old new : State) → List (ℕ × Stop) → (no_move : Bool) → (last : Answer) → AfterMove
after_move p goal old new stops no_move last =
    ends_or_goes_on (towards goal (depth new)) (first_stop (on_line (line_now p new)) stops) (first_stop (differs old new) stops) no_move last

-- the reply at the end, else that of what comes next
abbrev pub or_next : AfterMove → Debugger → (Goal → Reply) → Reply
or_next (Ends answer) d next = reply answer d
or_next (GoesOn goal) d next = next goal

-- an attempt to move forward: a fault ends the command before the move
abbrev pub attempted : Setting → Goal → Debugger → Stepped → (Goal → Reply) → Reply
attempted s goal d Over next = reply Here d
attempted s goal d (Fails fault) next = reply (AtFault fault) d
attempted s goal d (Goes new) next = or_next (after_move s.program goal (now s d) new d.stops (has_ended new) Here) (moved Step d) next

-- forward moves, at most so many
abbrev pub forward : ℕ → Setting → Goal → Debugger → Reply
forward zero s goal d = reply StepLimit d
forward (suc n) s goal d = attempted s goal d (step s.program (now s d)) (λ next. forward n s next (moved Step d))

-- backward moves, at most so many
abbrev pub backward : ℕ → Setting → Goal → Debugger → Reply
backward zero s goal d = reply HistoryEnd d
backward (suc n) s goal d =
    or_next (after_move s.program goal (now s d) (now s (stepped_back d)) d.stops (kept_steps (stepped_back d) == 0) HistoryEnd)
    (stepped_back d) (λ next. backward n s next (stepped_back d))

-- ---- commands

-- a command, unless it is refused
abbrev pub unless_refused : Option Refusal → Debugger → (Debugger → Reply) → Reply
unless_refused (Some r) d go = refused r d
unless_refused None d go = go d

-- C6 where a frame below is needed and there is none
abbrev pub outermost_refusal : (needs_depth : Bool) → State → Option Refusal
outermost_refusal needs_depth state = if needs_depth && (depth state == 1) then Some Outermost else None

-- C4 where the program has ended, else C6
abbrev pub forward_refusal : (needs_depth : Bool) → State → Option Refusal
forward_refusal needs_depth state = if has_ended state then Some Ended else outermost_refusal needs_depth state

-- a forward command: C4, C6
abbrev pub do_forward : Setting → (needs_depth : Bool) → Goal → Debugger → Reply
do_forward s needs_depth goal d = unless_refused (forward_refusal needs_depth (now s d)) d (forward s.limit s goal)

-- C3 where no step is kept, else C6
abbrev pub backward_refusal : (steps : ℕ) → (needs_depth : Bool) → State → Option Refusal
backward_refusal steps needs_depth state = if steps == 0 then Some NoHistory else outermost_refusal needs_depth state

-- a backward command: C3, C6
abbrev pub do_backward : Setting → (needs_depth : Bool) → Goal → Debugger → Reply
do_backward s needs_depth goal d = unless_refused (backward_refusal (kept_steps d) needs_depth (now s d)) d (backward d.kept s goal)

-- what is said of the last event when it is taken back
abbrev pub undone : List Event → Answer
undone [] = Silent
undone (Step ∷ events) = UndoneStep
undone (Poke what word ∷ events) = UndonePoke

-- takes back the last event: C3
abbrev pub do_undo : Debugger → Reply
do_undo d = if d.kept == 0 then refused NoHistory d else reply (undone d.events) (taken_back d)

-- why a part of a variable with so many words cannot be had, if it cannot: an index on a uniform scalar, a whole array, an index past the end
abbrev pub bad_part : (whole_array : Bool) → Option ℕ → (is_array : Bool) → Rate → (words : ℕ) → Option Refusal
bad_part whole_array None true rate words = if whole_array then None else Some NoSuchName
bad_part whole_array None false rate words = None
bad_part whole_array (Some k) false Uniform words = Some NoSuchName
bad_part whole_array (Some k) is_array rate words = if nat_lt k words then None else Some OutOfRange

-- a command on a target, as a state shows it, unless the target is refused: C2, C8
abbrev pub with_target_in : State → Debugger → (whole_array : Bool) → Target → Option Variable → (Variable → Reply) → Reply
with_target_in state d whole_array target None go = refused NoSuchName d
with_target_in state d whole_array target (Some v) go =
    unless_refused (bad_part whole_array target.at v.is_array v.rate (length (shown_words state v))) d (λ d. go v)

-- the same, as it is shown now
abbrev pub with_target : Setting → Debugger → (whole_array : Bool) → Target → Option Variable → (Variable → Reply) → Reply
with_target s d whole_array target v go = with_target_in (now s d) d whole_array target v go

-- shows a target or a whole array: C2, C8
abbrev pub do_print : Setting → Target → Debugger → Reply
do_print s target d = with_target s d true target (found s.program (now s d) target.name) (λ v. reply (Shows target v) d)

-- whether two whole numbers are equal
abbrev pub same_number : ℤ → ℤ → Bool
same_number (pos a) (pos b) = a == b
same_number (pos a) (negsuc b) = false
same_number (negsuc a) (pos b) = false
same_number (negsuc a) (negsuc b) = a == b

-- whether a type has this value
abbrev pub is_value : IntType → ℤ → Bool
is_value type z = same_number (value_of type (wrapped type z)) z

-- what `set var` sets
abbrev pub poked_by : Variable → Option ℕ → Poked
poked_by v None = WholeOf v.id
poked_by v (Some k) = if v.is_array then ElementAt v.id k else LaneOf v.id k

-- a poke: C2, C8 also for a value outside the type, C9
abbrev pub do_set : Setting → Target → ℤ → Debugger → Reply
do_set s target z d = with_target s d false target (found s.program (now s d) target.name) (λ v.
    if not (is_value v.type z) then refused OutOfRange d
    else (if v.is_constant then refused Constant d
    else reply (Shows target v) (moved (Poke (poked_by v target.at) (wrapped v.type z)) d)))

-- a poke in the frame at a depth, of which nothing is said: C2, C8 also for a value outside the type, C9
abbrev pub do_set_in : Setting → (depth : ℕ) → Target → ℤ → Debugger → Reply
do_set_in s deep target z d = with_target_in (state_at deep (now s d)) d false target (found_at s.program deep (now s d) target.name) (λ v.
    if not (is_value v.type z) then refused OutOfRange d
    else (if v.is_constant then refused Constant d
    else reply Silent (moved (Poke (InFrame deep (poked_by v target.at)) (wrapped v.type z)) d)))

-- the lesser of a number and another one, if there is another
abbrev pub lesser : ℕ → Option ℕ → ℕ
lesser n None = n
lesser n (Some m) = min n m

-- the least of the numbers that is at least this one
abbrev pub least_from : ℕ → List ℕ → Option ℕ
least_from from [] = None
least_from from (n ∷ ns) = if nat_le from n then Some (lesser n (least_from from ns)) else least_from from ns

-- the lines of all steps and closing braces
abbrev pub step_lines : Program → List ℕ
step_lines p = flat_map (λ f. map (λ standing. standing.place.line) f.standings) p.functions

-- a breakpoint or watch gets the next number: C11 where 64 are there or no number is left
abbrev pub add_stop : Stop → (ℕ → Answer) → Debugger → Reply
add_stop stop answer d =
    if nat_le 64 (length d.stops) || nat_lt 10000000 d.next then refused TableFull d
    else reply (answer d.next) (record d { stops = d.stops ++ (d.next, stop) ∷ []; next = suc d.next })

-- a breakpoint on a line, C7 where there is none
abbrev pub break_on : Option ℕ → Debugger → Reply
break_on None d = refused NoLine d
break_on (Some l) d = add_stop (Line l) (λ n. BreaksAt n l) d

-- a breakpoint on the first line from this one on that has a step: C7, C11
abbrev pub do_break : Setting → ℕ → Debugger → Reply
do_break s line d = break_on (least_from line (step_lines s.program)) d

-- a watch on a file-scope scalar, lane or element: C2, C8, C11
abbrev pub do_watch : Setting → Target → Debugger → Reply
do_watch s target d = with_target s d false target (global_named s.program target.name) (λ v.
    add_stop (Watch target v) (λ n. Watches n target) d)

-- one breakpoint or watch goes, or all: C10
abbrev pub do_delete : Option ℕ → Debugger → Reply
do_delete None d = reply (Deleted None) (record d { stops = [] })
do_delete (Some n) d = if is_some (find (λ entry. entry.0 == n) d.stops)
    then reply (Deleted (Some n)) (record d { stops = filter (λ entry. not (entry.0 == n)) d.stops })
    else refused NoSuchNumber d

-- the history limit is n, and the oldest events past it can no longer be taken back
abbrev pub limited : ℕ → Debugger → Debugger
limited n d = record d { history = n; kept = min d.kept n }

-- the history limit becomes n: C8 at 0 and above 65,536
abbrev pub do_set_history : ℕ → Debugger → Reply
do_set_history n d = if (n == 0) || nat_lt 65536 n then refused OutOfRange d else reply (KeepsHistory n) (limited n d)

-- the answer to a command that finds its memory, and what the debugger holds then
abbrev pub do_command : Setting → Command → Debugger → Reply
do_command s (DoStep n) d = do_forward s false (Moves n) d
do_command s (DoNext n) d = do_forward s false (Groups n (depth (now s d))) d
do_command s DoFinish d = do_forward s true (Above (depth (now s d))) d
do_command s DoContinue d = do_forward s false NoGoal d
do_command s (DoReverseStep n) d = do_backward s false (Moves n) d
do_command s (DoReverseNext n) d = do_backward s false (Groups n (depth (now s d))) d
do_command s DoReverseFinish d = do_backward s true (Above (depth (now s d))) d
do_command s DoReverseContinue d = do_backward s false NoGoal d
do_command s DoUndo d = do_undo d
do_command s (DoPrint target) d = do_print s target d
do_command s (DoSet target z) d = do_set s target z d
do_command s (DoBreak line) d = do_break s line d
do_command s (DoWatch target) d = do_watch s target d
do_command s (DoDelete n) d = do_delete n d
do_command s DoInfoBreakpoints d = reply ListsStops d
do_command s DoInfoLocals d = reply ListsLocals d
do_command s DoBacktrace d = reply ListsFrames d
do_command s DoNothing d = reply Silent d
do_command s DoQuit d = reply Silent d
do_command s (DoSetHistory n) d = do_set_history n d
do_command s (DoSetIn deep target z) d = do_set_in s deep target z d

-- a command may want for memory: that which raises the history limit, in its range
abbrev pub MayRunOut : Command → Debugger → Type 0
MayRunOut (DoSetHistory n) d = (n ≤ 65536) × (d.history < n)
MayRunOut command d = ⊥

-- a reply to a command: the command is done; or, where it may want for memory, it is refused with C12
abbrev pub IsReply : Setting → Command → Debugger → Reply → Type 0
IsReply s command d r = (r ≡ do_command s command d) ⊎ (MayRunOut command d × (r ≡ refused Memory d))
