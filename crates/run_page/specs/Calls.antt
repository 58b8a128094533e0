-- Where each moment of a record stands, by the names of functions, and the calls that are open then.
use Rattle.std.specs.Prelude.{◌≡◌, ◌⊎◌, ℕ, suc, zero, ◌-◌, ◌≤◌, All, Contains, List, [], ◌∷◌, ◌++◌, codes, drop, length, slice_get, take, Option, Some, None}
use Rattle.std.specs.List.{AllZip}
use Rattle.gang_model.specs.Types.Tree.{Program}
use Rattle.gang_model.specs.Running.State.{Frame, State}
use Rattle.gang_model.specs.Debugger.Debugger.{Debugger, Setting, now}
use Rattle.gang_model.specs.Texts.Text.{Bytes, where_text}
use Rattle.debug_traits.specs.declared.machine.Position.{Position}
use Rattle.debug_traits.specs.Machines.{call_text, position_line, position_text}
use Rattle.lane_picture.specs.Seen.{state_after}
use Rattle.run_page.specs.declared.moments.Call.{Call}
use Rattle.run_page.specs.declared.moments.Moment.{Moment}
use Rattle.run_page.specs.declared.moments.Stand.{Stand}
use Rattle.run_page.specs.declared.record.Record.{Record}
use Rattle.run_page.specs.Names.{GrowsNames, names_view}

-- ---- one place

-- a place is where a position is, in the function of this number
pub record IsStandOf (names : List Bytes) (position : Position) (stand : Stand) : Type 0 where
  pub place : stand.place ≡ position.place
  pub name : slice_get names stand.function ≡ Some position.function.now
  pub depth : stand.depth ≡ position.depth
  pub lanes : stand.lanes ≡ position.lanes

-- a moment stands where a text tells, with the names of functions by their numbers
abbrev pub StandsNamed : (names : List Bytes) → (text : Bytes) → Option Stand → Type 0
StandsNamed names text None = text ≡ codes "ended"
StandsNamed names text (Some stand) = (position : Position) × (text ≡ position_text (Some position)) × IsStandOf names position stand

-- a call is that of a line of `backtrace`
abbrev pub IsCallOf : (names : List Bytes) → Call → (text : Bytes) → Type 0
IsCallOf names call text = (position : Position) × (text ≡ position_line (Some position)) × (call.place ≡ position.place) × (slice_get names call.function ≡ Some position.function.now)

-- ---- the calls of a moment

-- a line, if there is one
abbrev pub lines_of : Bytes → List Bytes
lines_of [] = []
lines_of (byte ∷ bytes) = (byte ∷ bytes) ∷ []

-- the lines of the calls that the first so many frames made, the entry's first
abbrev pub call_lines : Program → List Frame → ℕ → List Bytes
call_lines p frames zero = []
call_lines p frames (suc n) = call_lines p frames n ++ lines_of (call_text p (suc n) frames)

-- those that are open where a program stands: of each frame below the top one
abbrev pub open_calls : Program → State → List Bytes
open_calls p state = call_lines p state.frames (length state.frames - 1)

-- calls are those of lines
abbrev pub AreCalls : (names : List Bytes) → List Call → List Bytes → Type 0
AreCalls names calls lines = AllZip (IsCallOf names) calls lines

-- the calls at a moment: those of the moment before that stay, and its own among those of all moments
abbrev pub calls_at : (before all : List Call) → Moment → List Call
calls_at before all moment = take moment.kept_calls before ++ take (moment.end_of_calls - moment.first_call) (drop moment.first_call all)

-- ---- all moments

-- a moment stands where a program does, and has the calls that are open there
pub record HasCalls (p : Program) (names : List Bytes) (before all : List Call) (state : State) (moment : Moment) : Type 0 where
  pub stand : StandsNamed names (where_text p state) moment.stand
  pub order : moment.first_call ≤ moment.end_of_calls
  pub inside : moment.end_of_calls ≤ length all
  pub calls : AreCalls names (calls_at before all moment) (open_calls p state)

-- each moment stands where the program does after as many steps as were done before it, with the calls that are open there
abbrev pub HaveCalls : Program → (names : List Bytes) → (before all : List Call) → (first : State) → List Moment → Type 0
HaveCalls p names before all first [] = Unit {0}
HaveCalls p names before all first (moment ∷ moments) =
    HasCalls p names before all (state_after p moment.taken first) moment × HaveCalls p names (calls_at before all moment) all first moments

-- a record has the places and the open calls of a run that begins where a debugger stands
abbrev pub HasCallsOf : Setting → Debugger → Record → Type 0
HasCallsOf s d record' = HaveCalls s.program (names_view record'.functions.items) [] record'.calls.items (now s d) record'.moments.items

-- ---- how wide the gang is

-- so many lanes a gang has whose place is told by a text
abbrev pub TellsWidth : (text : Bytes) → (width : ℕ) → Type 0
TellsWidth text width = (position : Position) × (text ≡ position_text (Some position)) × (width ≡ position.width)

-- a moment tells that the gang is so wide; or there is none that does, since the program has ended at each
abbrev pub IsWidthOf : Program → (first : State) → List Moment → (width : ℕ) → Type 0
IsWidthOf p first moments width = ((moment : Moment) × Contains moments moment × TellsWidth (where_text p (state_after p moment.taken first)) width)
    ⊎ ((width ≡ 0) × All (λ moment. where_text p (state_after p moment.taken first) ≡ codes "ended") moments)

-- a record has the width of the gang of a run that begins where a debugger stands
abbrev pub HasWidthOf : Setting → Debugger → Record → Type 0
HasWidthOf s d record' = IsWidthOf s.program (now s d) record'.moments.items record'.width

-- a text tells how wide the gang is; or it tells that the program has ended, and what was known of the width still is
abbrev pub NotesWidth : (text : Bytes) → (old new : ℕ) → Type 0
NotesWidth text old new = TellsWidth text new ⊎ ((text ≡ codes "ended") × (new ≡ old))

-- ---- one moment more

-- A moment was put behind others, with so many steps done before it, that stands where a debugger does, with the calls that are open there; those that
-- the moment before had are these. More functions may have numbers, and more calls may stand behind those of the other moments.
pub record NotesCalls (s : Setting) (d : Debugger) (taken : ℕ) (before : List Call) (old new : Record) (calls : List Call) : Type 0 where
  pub moment : Moment
  pub behind : new.moments.items ≡ old.moments.items ++ moment ∷ []
  pub taken_is : moment.taken ≡ taken
  pub has : HasCalls s.program (names_view new.functions.items) before new.calls.items (now s d) moment
  pub names : GrowsNames (names_view old.functions.items) (names_view new.functions.items)
  pub more : List Call
  pub all : new.calls.items ≡ old.calls.items ++ more
  pub same : calls_at before new.calls.items moment ≡ calls
