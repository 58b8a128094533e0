-- What is noted of a watched variable.
use Rattle.std.specs.Prelude.{◌≡◌, ℕ, ◌-◌, ◌≤◌, List, [], ◌∷◌, ◌++◌, map, take, drop, length, Option, Some, None}
use Rattle.gang_types.specs.declared.types.IntType.{IntType}
use Rattle.gang_model.specs.Types.Tree.{Program, Variable}
use Rattle.gang_model.specs.Running.State.{State}
use Rattle.gang_model.specs.Debugger.Debugger.{Answer, Debugger, Setting, Shows, Target, do_print, fresh, now, shown_words, target_words}
use Rattle.debug_traits.specs.declared.machine.Shown.{Shown}
use Rattle.debug_traits.specs.Machines.{IsShown}
use Rattle.lane_picture.specs.declared.columns.Column.{Column}
use Rattle.lane_picture.specs.declared.columns.Value.{Value}
use Rattle.lane_picture.specs.Seen.{next_state}

-- the most values of a variable that are noted
abbrev pub most_noted : ℕ
most_noted = 16

-- words of a variable with its type
abbrev pub with_type : Variable → List ℕ → List (IntType × ℕ)
with_type v words = map (λ word. (v.type, word)) words

-- what `print` answers where a program stands so
abbrev pub printed : Program → State → Target → Answer
printed p state target = (do_print (record { program = p; first = state; limit = 0 }) target (fresh 0)).answer

-- the values that an answer shows; none where it is a refusal
abbrev pub answered_values : State → Answer → List (IntType × ℕ)
answered_values state (Shows target v) = with_type v (target_words state target v)
answered_values state other = []

-- the values that are noted where a program stands so: the first ones that `print` shows of the watched target, if there is one
abbrev pub noted_values : Program → State → Option Target → List (IntType × ℕ)
noted_values p state None = []
noted_values p state (Some target) = take most_noted (answered_values state (printed p state target))

-- a value that was noted
abbrev pub value_view : Value → IntType × ℕ
value_view value = (value.value_type, value.word)

-- words of a variable from one to another, where a machine stands, were put behind other values
abbrev pub NotesWords : {M : Type 0} → (M → Setting → Debugger → Type 0) → M → Shown → (from to : ℕ) → (old new : List Value) → Type 0
NotesWords stands m shown from to old new = (values : List Value) × (new ≡ old ++ values)
    × ((s : Setting) (d : Debugger) (v : Variable) → stands m s d → IsShown s d v shown → to ≤ shown.count
    → map value_view values ≡ with_type v (take (to - from) (drop from (shown_words (now s d) v))))

-- the values of a target, where a machine stands, were put behind others
abbrev pub NotesTarget : {M : Type 0} → (M → Setting → Debugger → Type 0) → M → Option Target → (old new : List Value) → Type 0
NotesTarget stands m target old new = (values : List Value) × (new ≡ old ++ values)
    × ((s : Setting) (d : Debugger) → stands m s d → map value_view values ≡ noted_values s.program (now s d) target)

-- the values of a column, among those of all columns
abbrev pub values_of : List Value → Column → List Value
values_of values column = take (column.end_of_values - column.first_value) (drop column.first_value values)

-- a column has the values of a target where a program stands so
pub record HasValues (p : Program) (target : Option Target) (values : List Value) (state : State) (column : Column) : Type 0 where
  pub order : column.first_value ≤ column.end_of_values
  pub inside : column.end_of_values ≤ length values
  pub same : map value_view (values_of values column) ≡ noted_values p state target

-- columns have the values of a target where a program stands and after each of its steps
abbrev pub HaveValues : Program → Option Target → List Value → State → List Column → Type 0
HaveValues p target values state [] = Unit {0}
HaveValues p target values state (column ∷ columns) = HasValues p target values state column × HaveValues p target values (next_state p state) columns
