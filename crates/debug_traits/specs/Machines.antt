-- What a machine's calls do, where it stands for a debugger's state.
use Rattle.std.specs.Prelude.{◌≡◌, ℕ, ◌<◌, ◌+◌, ◌-◌, ◌==◌, ◌⊎◌, false, not, List, [], ◌∷◌, ◌++◌, filter, length, map, slice_get, take, Option, Some, None, Result, Ok, Err, codes, decimal, if◌then◌else◌}
use Rattle.gang_types.specs.Masks.{lanes_of}
use Rattle.undo_log.specs.declared.timeline.Undone.{Undone}
use Rattle.undo_log.specs.declared.timeline.Undone.TheVariants as undone
use Rattle.undo_log.specs.declared.timeline.NoHistory.{NoHistory}
use Rattle.undo_log.specs.History.{History, limited as limited_words, marked, moment}
use Rattle.gang_model.specs.Types.Tree.{Variable, Program}
use Rattle.gang_model.specs.Running.Lanes.{Fault as ModelFault}
use Rattle.gang_model.specs.Running.State.{Frame, State}
use Rattle.gang_model.specs.Running.Step.{step, Goes, Fails, Over}
use Rattle.gang_model.specs.Debugger.Events.{Event, Step, Poke}
use Rattle.gang_model.specs.Debugger.Positions.{scope_now}
use Rattle.gang_model.specs.Debugger.Debugger.{Debugger, Setting, bad_part, found, global_named, limited, moved, now, poked_by, shown_words, taken_back}
use Rattle.gang_model.specs.Texts.Text.{Bytes, bits, call_line, line, line_and_column}
use Rattle.debug_traits.specs.declared.machine.Fault.{Fault}
use Rattle.debug_traits.specs.declared.machine.NamedVariable.{NamedVariable}
use Rattle.debug_traits.specs.declared.machine.NextLocal.{NextLocal}
use Rattle.debug_traits.specs.declared.machine.Position.{Position}
use Rattle.debug_traits.specs.declared.machine.Shown.{Shown}
use Rattle.debug_traits.specs.declared.machine.StepEnd.{StepEnd}
use Rattle.debug_traits.specs.declared.machine.StepEnd.TheVariants as end

-- ---- names

-- the variables of the file
abbrev pub file_variables : Setting → List Variable
file_variables s = map (λ g. g.variable) s.program.globals

-- the local variables in scope, without the parameters
abbrev pub listed : Setting → Debugger → List Variable
listed s d = filter (λ v. not v.is_parameter) (scope_now s.program (now s d))

-- the parameters in scope
abbrev pub listed_parameters : Setting → Debugger → List Variable
listed_parameters s d = filter (λ v. v.is_parameter) (scope_now s.program (now s d))

-- a variable is one of a list
abbrev pub IsOneOf : List Variable → Variable → Type 0
IsOneOf variables v = (k : ℕ) × (slice_get variables k ≡ Some v)

-- a variable in scope or of the file, and what can be shown of it
pub record IsShown (s : Setting) (d : Debugger) (v : Variable) (shown : Shown) : Type 0 where
  pub there : IsOneOf (scope_now s.program (now s d)) v ⊎ IsOneOf (file_variables s) v
  pub id : v.id ≡ shown.id
  pub type : v.type ≡ shown.value_type
  pub rate : v.rate ≡ shown.rate
  pub is_array : v.is_array ≡ shown.is_array
  pub is_constant : v.is_constant ≡ shown.is_constant
  pub count : length (shown_words (now s d) v) ≡ shown.count

-- the variable of a name in scope, else at file scope; none where the name stands for nothing
abbrev pub Finds : Setting → Debugger → List ℕ → Option Shown → Type 0
Finds s d name None = found s.program (now s d) name ≡ None
Finds s d name (Some shown) = (v : Variable) × (found s.program (now s d) name ≡ Some v) × IsShown s d v shown

-- the number of the file-scope variable of a name; none where there is no such variable
abbrev pub FindsInFile : Setting → List ℕ → Option ℕ → Type 0
FindsInFile s name None = global_named s.program name ≡ None
FindsInFile s name (Some number) = (v : Variable) × (global_named s.program name ≡ Some v) × (slice_get (file_variables s) number ≡ Some v)

-- a variable is told by its name with what can be shown of it, or there is none
abbrev pub ShowsNamed : Setting → Debugger → Option Variable → Option NamedVariable → Type 0
ShowsNamed s d None None = Unit {0}
ShowsNamed s d (Some v) (Some given) = (given.name.now ≡ v.name) × IsShown s d v given.shown
ShowsNamed s d v given = ⊥

-- the first of the variables from a place on is told by its name, with the place from which on the others are; or there is none
abbrev pub ShowsNext : Setting → Debugger → (from : ℕ → List Variable) → (place : ℕ) → Option NextLocal → Type 0
ShowsNext s d from place None = from place ≡ []
ShowsNext s d from place (Some local) = (v : Variable) × (from place ≡ v ∷ from local.next) × ShowsNamed s d (Some v) (Some local.variable)

-- a whole scalar, a lane of a varying one, or an element, inside what can be shown
abbrev pub IsPart : Option ℕ → Shown → Type 0
IsPart at shown = bad_part false at shown.is_array shown.rate shown.count ≡ None

-- ---- what the variables of the file show

-- each variable of the file shows the same in both states
abbrev pub ShowFileAlike : Setting → (old new : State) → Type 0
ShowFileAlike s old new = (v : Variable) → IsOneOf (file_variables s) v → shown_words new v ≡ shown_words old v

-- each shows what it showed before the newest event; where there was none, this is always so
abbrev pub ShowsFileAsBefore : Setting → Debugger → Type 0
ShowsFileAsBefore s d = ShowFileAlike s (now s (taken_back d)) (now s d)

-- ---- events

-- a fault of the definitions
abbrev pub fault_view : Fault → ModelFault
fault_view fault = record { name = fault.name; lane = fault.lane }

-- the next step was done and recorded; or it faults, or there is none, and nothing changed
abbrev pub Steps : {M : Type 0} → (M → Setting → Debugger → Type 0) → Setting → Debugger → StepEnd → M → Type 0
Steps stands s d end.Done new = (next : State) × (step s.program (now s d) ≡ Goes next) × stands new s (moved Step d)
Steps stands s d (end.Fault fault) new = (step s.program (now s d) ≡ Fails (fault_view fault)) × stands new s d
Steps stands s d end.Ended new = (step s.program (now s d) ≡ Over) × stands new s d

-- what an event is
abbrev pub kind_of : Event → Undone
kind_of Step = undone.Step
kind_of (Poke what word) = undone.Poke

-- the newest event was taken back; or none can be, and nothing changed
abbrev pub Undoes : {M : Type 0} → (M → Setting → Debugger → Type 0) → Setting → Debugger → Result Undone NoHistory → M → Type 0
Undoes stands s d (Ok kind) new = (event : Event) × (events : List Event) × (kept : ℕ)
    × (d.events ≡ event ∷ events) × (d.kept ≡ kept + 1) × (kind ≡ kind_of event) × stands new s (taken_back d)
Undoes stands s d (Err none) new = (d.kept ≡ 0) × stands new s d

-- a value was set and recorded, and as many words can be shown as before
abbrev pub Pokes : {M : Type 0} → (M → Setting → Debugger → Type 0) → Setting → Debugger → Variable → Shown → Option ℕ → (word : ℕ) → M → Type 0
Pokes stands s d v shown at word new =
    stands new s (moved (Poke (poked_by v at) word) d) × IsShown s (moved (Poke (poked_by v at) word) d) v shown

-- a value was set and recorded; or there was no memory for it, and nothing changed
abbrev pub PokesOrNot : {M X E : Type 0} → (M → Setting → Debugger → Type 0) → Setting → Debugger → Variable → Shown → Option ℕ → (word : ℕ) → Result X E → M → Type 0
PokesOrNot stands s d v shown at word (Ok done) new = Pokes stands s d v shown at word new
PokesOrNot stands s d v shown at word (Err memory) new = stands new s d

-- so many events can be taken back at most, and older ones no longer; or a larger limit found no memory, and nothing changed
abbrev pub Limits : {M X E : Type 0} → (M → Setting → Debugger → Type 0) → Setting → Debugger → (limit : ℕ) → Result X E → M → Type 0
Limits stands s d limit (Ok done) new = stands new s (limited limit d)
Limits stands s d limit (Err memory) new = (d.history < limit) × stands new s d

-- ---- all words

-- an event is kept with all words before it, the oldest one going past the limit; there are as many words as before
abbrev pub RecordsWords : Undone → History → History → Type 0
RecordsWords kind old new = (new.past ≡ (marked kind old).past) × (new.limit ≡ old.limit) × (length new.words ≡ length old.words)

-- a step that was done is recorded; else all words, now and before each event, are as they were
abbrev pub StepsWords : History → StepEnd → History → Type 0
StepsWords old end.Done new = RecordsWords undone.Step old new
StepsWords old (end.Fault fault) new = new ≡ old
StepsWords old end.Ended new = new ≡ old

-- a poke is recorded; or there was no memory for it, and nothing changed
abbrev pub PokesWords : {X E : Type 0} → History → Result X E → History → Type 0
PokesWords old (Ok done) new = RecordsWords undone.Poke old new
PokesWords old (Err memory) new = new ≡ old

-- all words are those before the newest event kept, and those before the other events are as they were; or none is kept, and nothing changed
abbrev pub UndoesWords : History → Result Undone NoHistory → History → Type 0
UndoesWords old (Ok kind) new = (old.past ≡ moment kind new.words ∷ new.past) × (new.limit ≡ old.limit)
UndoesWords old (Err none) new = (old.past ≡ []) × (new ≡ old)

-- the words before the oldest events go past the limit, and no others; or a larger limit found no memory, and nothing changed
abbrev pub LimitsWords : {X E : Type 0} → History → (limit : ℕ) → Result X E → History → Type 0
LimitsWords old limit (Ok done) new = new ≡ limited_words limit old
LimitsWords old limit (Err memory) new = (old.limit < limit) × (new ≡ old)

-- ---- what is taken back at once

-- the event that `undo` gives right after a step: the step, where it was done
abbrev pub undone_after : StepEnd → Option Undone
undone_after end.Done = Some undone.Step
undone_after (end.Fault fault) = None
undone_after end.Ended = None

-- how many moves a step is that is taken back where it was done
abbrev pub tried_moves : StepEnd → ℕ
tried_moves end.Done = 2
tried_moves (end.Fault fault) = 1
tried_moves end.Ended = 1

-- All words are those before the event that was taken back, and of the events before it the newest are kept, all but the oldest where as many were
-- kept as can be.
abbrev pub AreBack : History → History → Type 0
AreBack old new = (new.words ≡ old.words) × (new.past ≡ take (old.limit - 1) old.past) × (new.limit ≡ old.limit)

-- a step that was done was taken back; else nothing changed
abbrev pub HasStepBack : StepEnd → History → History → Type 0
HasStepBack end.Done old new = AreBack old new
HasStepBack (end.Fault fault) old new = new ≡ old
HasStepBack end.Ended old new = new ≡ old

-- ---- places

-- AT LINE:COL FUNCTION depth D lanes BITS, or `ended`
abbrev pub position_text : Option Position → Bytes
position_text None = codes "ended"
position_text (Some p) =
    codes "at " ++ line_and_column p.place ++ codes " " ++ p.function.now ++ codes " depth " ++ decimal p.depth ++ codes " lanes " ++ bits (lanes_of p.width p.lanes)

-- the line of a position
abbrev pub line_of_position : Option Position → Option ℕ
line_of_position None = None
line_of_position (Some p) = Some p.place.line

-- how many frames there are; a program that has ended counts as depth 1
abbrev pub depth_of : Option Position → ℕ
depth_of None = 1
depth_of (Some p) = p.depth

-- the line of the call that the frame at a depth made
abbrev pub call_text : Program → (depth : ℕ) → List Frame → Bytes
call_text p deep [] = []
call_text p deep (inner ∷ []) = []
call_text p deep (inner ∷ frame ∷ frames) =
    if length (frame ∷ frames) == deep then call_line p inner.call frame.function deep inner.lanes else call_text p deep (frame ∷ frames)

-- a position as a line, nothing where there is none
abbrev pub position_line : Option Position → Bytes
position_line None = []
position_line (Some p) = line (position_text (Some p))
