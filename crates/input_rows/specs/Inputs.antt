-- What the rows of an accepted input are, so that a machine can begin with them (a choice of this project).
use Rattle.std.specs.Prelude.{◌≡◌, ℕ, ◌^◌, ◌≤◌, ◌==◌, ◌&&◌, Bool, true, false, List, [], ◌∷◌, map, length, All, Some, slice_get, if◌then◌else◌}
use Rattle.std.specs.List.{range_with_len}
use Rattle.gang_types.specs.declared.types.IntType.{IntType}
use Rattle.gang_types.specs.declared.types.Rate.TheVariants.{Uniform}
use Rattle.gang_types.specs.declared.places.VarId.{VarId}
use Rattle.gang_types.specs.declared.places.VarId.TheVariants.{File, Local}
use Rattle.gang_types.specs.Values.{value_of, wrapped}
use Rattle.gang_model.specs.Types.Tree.{Variable, Global, Function, Program}
use Rattle.gang_model.specs.Debugger.Events.{Row}
use Rattle.gang_model.specs.Texts.InputText.{parameters_of}

-- ---- one row

-- a word that stands for a value of the type
abbrev pub IsWordOf : IntType → ℕ → Type 0
IsWordOf type word = wrapped type (value_of type word) ≡ word

-- a scalar has one word, an array at most so many; each is a value of the variable's type
pub record AreWordsOf (v : Variable) (most : ℕ) (words : List ℕ) : Type 0 where
  pub scalar : v.is_array ≡ false → length words ≡ 1
  pub array : v.is_array ≡ true → length words ≤ most
  pub values : All (IsWordOf v.type) words

-- a row of a variable of the file, which is uniform and not constant; an array has at most as many words as elements
pub record IsFileRow (g : Global) (row : Row) : Type 0 where
  pub variable : row.variable ≡ g.variable
  pub uniform : g.variable.rate ≡ Uniform
  pub changes : g.variable.is_constant ≡ false
  pub words : AreWordsOf g.variable g.len row.words

-- a row of the variable of the file with this number, or of the function's parameter with this number
abbrev pub IsRowOf : Program → Function → VarId → Row → Type 0
IsRowOf p f (File k) row = (g : Global) × (slice_get p.globals k ≡ Some g) × IsFileRow g row
IsRowOf p f (Local n) row = (slice_get (parameters_of (Some f)) n ≡ Some row.variable) × AreWordsOf row.variable (2 ^ 20) row.words

-- a row of its variable
abbrev pub IsRowFor : Program → Function → Row → Type 0
IsRowFor p f row = IsRowOf p f row.variable.id row

-- ---- all rows

-- rows that a run of a function may begin with: each is right, no variable has two, and each parameter of the function has one
pub record AreInputs (p : Program) (f : Function) (rows : List Row) : Type 0 where
  pub each : All (IsRowFor p f) rows
  pub once : (i j : ℕ) (row other : Row) → slice_get rows i ≡ Some row → slice_get rows j ≡ Some other → row.variable.id ≡ other.variable.id → i ≡ j
  pub all : (n : ℕ) (v : Variable) → slice_get (parameters_of (Some f)) n ≡ Some v → (i : ℕ) × (row : Row) × (slice_get rows i ≡ Some row) × (row.variable ≡ v)

-- ---- lengths of the entry's arrays

-- whether a variable is a function's with this number
abbrev pub is_own : ℕ → VarId → Bool
is_own n (File k) = false
is_own n (Local k) = k == n

-- how many words the row of an array parameter has, 0 for one that is no array
abbrev pub entry_length : List Row → (parameter : ℕ) → ℕ
entry_length [] n = 0
entry_length (row ∷ rows) n = if row.variable.is_array && is_own n row.variable.id then length row.words else entry_length rows n

-- the same of each parameter
abbrev pub entry_lengths : (parameters : ℕ) → List Row → List ℕ
entry_lengths parameters rows = map (entry_length rows) (range_with_len 0 parameters)
