-- Rows of words, and what two lists of them differ in.
use Rattle.std.specs.Prelude.{◌≡◌, ℕ, ◌++◌, List, [], All, Contains, filter, length, map, not, slice_get, take, zero, suc, Option, Some, None}
use Rattle.std.specs.Borrow.{Bor}
use Rattle.std.specs.List.{AllZip}
use Rattle.gang_model.specs.Types.Tree.{Program, Variable}
use Rattle.gang_model.specs.Running.State.{State}
use Rattle.gang_model.specs.Debugger.Debugger.{Debugger, Setting}
use Rattle.debug_traits.specs.declared.machine.NamedVariable.{NamedVariable}
use Rattle.debug_traits.specs.declared.machine.Shown.{Shown}
use Rattle.debug_traits.specs.Frames.{IsShownAt, scope_at}
use Rattle.debug_traits.specs.Machines.{IsShown}
use Rattle.run_page.specs.declared.reading.Scoped.{Scoped}
use Rattle.run_page.specs.declared.reading.Scoped.TheVariants.{Parameters, Locals}
use Rattle.run_page.specs.declared.variables.Variable.{Variable as Noted}
use Rattle.run_page.specs.declared.views.Change.{Change}
use Rattle.run_page.specs.declared.views.Change.TheVariants as change
use Rattle.run_page.specs.declared.views.Row.{Row}
use Rattle.run_page.specs.Sights.{Sight, sight_of, variables_at, words_at}

-- ---- variables with numbers

-- a variable that was noted
abbrev pub sight_view : Noted → Sight
sight_view v = record { depth = v.depth; name = v.name.items; shown = v.shown }

-- a variable of the frame at a depth as it is told by its name
abbrev pub named_sight : (depth : ℕ) → NamedVariable → Sight
named_sight deep named = record { depth = deep; name = named.name.now; shown = named.shown }

-- others were put behind them
abbrev pub Grows : (old new : List Sight) → Type 0
Grows old new = (more : List Sight) × (new ≡ old ++ more)

-- none stands twice
abbrev pub AreDistinct : List Sight → Type 0
AreDistinct sights = (i j : ℕ) (sight : Sight) → slice_get sights i ≡ Some sight → slice_get sights j ≡ Some sight → i ≡ j

-- ---- what is told of them

-- a variable of the file, or of a frame, and what can be shown of it there
abbrev pub IsShownIn : Setting → Debugger → (depth : ℕ) → Variable → Shown → Type 0
IsShownIn s d zero v shown = IsShown s d v shown
IsShownIn s d (suc below) v shown = IsShownAt s d (suc below) v shown

-- it is told by its name
abbrev pub ShowsNamedIn : Setting → Debugger → (depth : ℕ) → Variable → NamedVariable → Type 0
ShowsNamedIn s d deep v given = (given.name.now ≡ v.name) × IsShownIn s d deep v given.shown

-- variables of one depth
abbrev pub at_depth : (depth : ℕ) → List Variable → List (ℕ × Variable)
at_depth deep variables = map (λ v. (deep, v)) variables

-- what is of the parameters in scope, or of the other variables
abbrev pub picked : {A : Type 0} → Scoped → (of_parameters of_locals : A) → A
picked Parameters of_parameters of_locals = of_parameters
picked Locals of_parameters of_locals = of_locals

-- those in scope in the frame at a depth: the parameters, and then the others
abbrev pub seen_at : Program → State → (depth : ℕ) → List (ℕ × Variable)
seen_at p state deep = at_depth deep (filter (λ v. v.is_parameter) (scope_at p deep state)) ++ at_depth deep (filter (λ v. not v.is_parameter) (scope_at p deep state))

-- those of the first so many frames, the entry's first
abbrev pub seen_to : Program → State → (depth : ℕ) → List (ℕ × Variable)
seen_to p state zero = []
seen_to p state (suc below) = seen_to p state below ++ seen_at p state (suc below)

-- all that can be seen: those of the file, and those of all frames
abbrev pub all_seen : Program → State → List (ℕ × Variable)
all_seen p state = at_depth 0 (variables_at p 0 state) ++ seen_to p state (length state.frames)

-- ---- rows

-- a row has the first words of a variable of a depth, by its number
pub record IsRow (sights : List Sight) (most : ℕ) (state : State) (row : Row) (seen : ℕ × Variable) : Type 0 where
  pub number : slice_get sights row.variable ≡ Some (sight_of seen.0 state seen.1)
  pub words : row.words.items ≡ take most (words_at seen.0 state seen.1)

-- there is a row for each of these variables, in this order
abbrev pub AreRows : List Sight → (most : ℕ) → State → List Row → List (ℕ × Variable) → Type 0
AreRows sights most state rows seen = AllZip (IsRow sights most state) rows seen

-- they are those of a state, or there are none where there is no state
abbrev pub AreRowsOf : List Sight → (most : ℕ) → Program → Option State → List Row → Type 0
AreRowsOf sights most p None rows = rows ≡ []
AreRowsOf sights most p (Some state) rows = AreRows sights most state rows (all_seen p state)

-- there is a row more for each of these variables, whatever the others are of
abbrev pub AddsRows : (old_sights new_sights : List Sight) → (most : ℕ) → State → (old new : List Row) → List (ℕ × Variable) → Type 0
AddsRows old_sights new_sights most state old new seen =
    (before : List (ℕ × Variable)) → AreRows old_sights most state old before → AreRows new_sights most state new (before ++ seen)

-- a row is that of the variable of a number
abbrev pub HasRow : List Row → ℕ → Row → Type 0
HasRow rows number row = Contains rows row × (row.variable ≡ number)

-- the rows of one variable have the same words
abbrev pub AreConsistent : List Row → Type 0
AreConsistent rows = (number : ℕ) (a b : Row) → HasRow rows number a → HasRow rows number b → a.words.items ≡ b.words.items

-- the words of a variable were found; or it has no row
abbrev pub FindsWords : List Row → ℕ → Option (Bor (List ℕ)) → Type 0
FindsWords rows number None = (row : Row) → HasRow rows number row → ⊥
FindsWords rows number (Some words) = (row : Row) × HasRow rows number row × (words.now ≡ row.words.items)

-- a change tells what is new in rows
abbrev pub IsNew : (before now : List Row) → Change → Type 0
IsNew before now (change.Word number part word) = ((row : Row) × HasRow now number row × (slice_get row.words.items part ≡ Some word))
    × ((row : Row) → HasRow before number row → slice_get row.words.items part ≡ Some word → ⊥)
IsNew before now (change.Gone number) = ((row : Row) × HasRow before number row) × ((row : Row) → HasRow now number row → ⊥)

-- a change tells that a variable has no row any more
abbrev pub IsGoneBetween : (before now : List Row) → Change → Type 0
IsGoneBetween before now (change.Word number part word) = ⊥
IsGoneBetween before now (change.Gone number) = IsNew before now (change.Gone number)

-- a change tells a word that is new in rows
abbrev pub IsNewIn : (before now : List Row) → Change → Type 0
IsNewIn before now (change.Word number part word) = IsNew before now (change.Word number part word)
IsNewIn before now (change.Gone number) = ⊥

-- a change tells a word of a variable that was another one, or was not there
abbrev pub IsNewWord : (number : ℕ) → (old new : List ℕ) → Change → Type 0
IsNewWord number old new (change.Word other part word) = (other ≡ number) × (slice_get new part ≡ Some word) × (slice_get old part ≡ Some word → ⊥)
IsNewWord number old new (change.Gone other) = ⊥

-- changes were put behind others that pass this test, and all that do
pub record Adds (P : Change → Type 0) (old new : List Change) : Type 0 where
  pub more : List Change
  pub behind : new ≡ old ++ more
  pub sound : All P more
  pub complete : (it : Change) → P it → Contains more it
