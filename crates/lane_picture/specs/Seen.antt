-- What is seen of the steps of a run.
use Rattle.std.specs.Prelude.{◌≡◌, ℕ, zero, suc, ◌≤◌, List, [], ◌∷◌, ◌++◌, codes, decimal, length}
use Rattle.gang_types.specs.Masks.{lanes_of}
use Rattle.gang_model.specs.Types.Tree.{Program}
use Rattle.gang_model.specs.Running.State.{State}
use Rattle.gang_model.specs.Running.Step.{step}
use Rattle.gang_model.specs.Debugger.Events.{gone}
use Rattle.gang_model.specs.Debugger.Debugger.{Debugger, Setting, now}
use Rattle.gang_model.specs.Texts.Text.{Bytes, bits, line_and_column, where_text}
use Rattle.debug_traits.specs.declared.machine.Position.{Position}
use Rattle.debug_session.specs.declared.session.Session.{Session}
use Rattle.lane_picture.specs.declared.columns.Column.{Column}
use Rattle.lane_picture.specs.declared.columns.StepsEnd.{StepsEnd}
use Rattle.lane_picture.specs.Tries.{HasRun}

-- the state after a step; where there is no step, the same
abbrev pub next_state : Program → State → State
next_state p state = gone (step p state) state

-- the state after so many steps
abbrev pub state_after : Program → ℕ → State → State
state_after p zero state = state
state_after p (suc n) state = state_after p n (next_state p state)

-- where a column stands, as the debugger tells it of a function of this name and a gang of so many lanes
abbrev pub column_text : (name : Bytes) → (width : ℕ) → Column → Bytes
column_text name width column =
    codes "at " ++ line_and_column column.place ++ codes " " ++ name ++ codes " depth " ++ decimal column.depth ++ codes " lanes " ++ bits (lanes_of width column.lanes)

-- a column stands where a state does
abbrev pub StandsAt : Program → State → Column → Type 0
StandsAt p state column = (name : Bytes) × (width : ℕ) × (where_text p state ≡ column_text name width column)

-- columns stand where a state and those after its steps do
abbrev pub AreColumns : Program → State → List Column → Type 0
AreColumns p state [] = Unit {0}
AreColumns p state (column ∷ columns) = StandsAt p state column × AreColumns p (next_state p state) columns

-- a column is that of a position, with the values from one to another
pub record IsColumnOf (position : Position) (from to : ℕ) (column : Column) : Type 0 where
  pub place : column.place ≡ position.place
  pub depth : column.depth ≡ position.depth
  pub lanes : column.lanes ≡ position.lanes
  pub from_is : column.first_value ≡ from
  pub to_is : column.end_of_values ≡ to

-- the column of a position, with the values from one to another, was put behind others
abbrev pub IsNoted : Position → (from to : ℕ) → (old new : List Column) → Type 0
IsNoted position from to old new = (column : Column) × (new ≡ old ++ column ∷ []) × IsColumnOf position from to column

-- a session has run, and for each step that it tried there is a column; if it may do a step, the columns stand where the states of
-- the run do
pub record HasSeen {M : Type 0} (stands : M → Setting → Debugger → Type 0) (s : Setting) (most : ℕ) (d : Debugger) (columns : List Column) (ended : StepsEnd) (session : Session M) : Type 0 where
  pub run : HasRun stands s most d ended session
  pub each : length columns ≡ run.begun.taken
  pub stand : 1 ≤ s.limit → AreColumns s.program (now s d) columns
