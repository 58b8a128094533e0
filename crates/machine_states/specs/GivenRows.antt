-- What the words of a run's beginning become by a row of an input: those of a variable of the file, or of a parameter of the entry.
use Rattle.std.specs.Prelude.{◌≡◌, ℕ, ◌<◌, ◌≤◌, ◌⊎◌, Bool, true, false, List, [], length, Some, slice_get}
use Rattle.gang_types.specs.declared.places.VarId.{VarId}
use Rattle.gang_types.specs.declared.places.VarId.TheVariants.{File, Local}
use Rattle.gang_model.specs.Debugger.Events.{Given, Row, covered}
use Rattle.gang_model.specs.Running.State.{View, view_in, words_of}
use Rattle.machine_states.specs.ArrayParts.{view_at, view_of_words}
use Rattle.machine_states.specs.Declared.{has_entry}
use Rattle.machine_states.specs.Regions.{OfEntry, OfFile, OfLocal, Region, Regions, with_region}
use Rattle.machine_states.specs.Shows.{IsScalarIn}
use Rattle.machine_states.specs.Variables.{Variables, is_array_of, own_of, rate_of}

-- the array that the entry is given for a parameter, whole
abbrev pub whole_array : (parameter len : ℕ) → View
whole_array n len = record { array = Local n; first = 0; len = len }

-- ---- words

-- there is room for the words of a parameter, an array or a scalar, in the entry's frame
abbrev pub FitsParameter : (width : ℕ) → Regions → (n : ℕ) → (is_array : Bool) → List ℕ → Type 0
FitsParameter width regions n true words = (length words ≤ length (regions (OfEntry n))) × (length (regions (OfLocal 0 n)) ≡ width)
FitsParameter width regions n false words = length words ≤ length (regions (OfLocal 0 n))

-- there is room for the words of a row
abbrev pub FitsRow : Variables → (width entry : ℕ) → Regions → VarId → List ℕ → Type 0
FitsRow variables width entry regions (File n) words = length words ≤ length (regions (OfFile n))
FitsRow variables width entry regions (Local n) words = FitsParameter width regions n (is_array_of (slice_get (own_of variables entry) n)) words

-- the first words of a region are these
abbrev pub GivesWords : Region → List ℕ → (old new : Regions) → Type 0
GivesWords region words old new = (r : Region) → new r ≡ with_region region (covered words (old region)) old r

-- a parameter of the entry has its words: a scalar in place, an array in an array of the entry's, all of which the parameter stands for
abbrev pub GivesParameter : (width : ℕ) → (n : ℕ) → (is_array : Bool) → List ℕ → (old new : Regions) → Type 0
GivesParameter width n true words old new =
    (kept : List ℕ) × (length kept ≡ width) × (view_of_words kept ≡ whole_array n (length words))
    × ((r : Region) → new r ≡ with_region (OfLocal 0 n) kept (with_region (OfEntry n) (covered words (old (OfEntry n))) old) r)
GivesParameter width n false words old new = GivesWords (OfLocal 0 n) words old new

-- the variable of a row has its words, and nothing else is changed; what is left of an array of the file is as it was
abbrev pub GivesRow : Variables → (width entry : ℕ) → VarId → List ℕ → (old new : Regions) → Type 0
GivesRow variables width entry (File n) words old new = GivesWords (OfFile n) words old new
GivesRow variables width entry (Local n) words old new = GivesParameter width n (is_array_of (slice_get (own_of variables entry) n)) words old new

-- ---- what is given

-- none of the first so many rows is that of an array parameter of this number
abbrev pub HasNoArrayRow : List Row → (count n : ℕ) → Type 0
HasNoArrayRow rows count n =
    (i : ℕ) (row : Row) → i < count → slice_get rows i ≡ Some row → row.variable.id ≡ Local n → row.variable.is_array ≡ false

-- an array parameter stands for its array, whole
pub record ShowsArray (variables : Variables) (entry : ℕ) (regions : Regions) (given : Given) (n : ℕ) : Type 0 where
  pub is_array : is_array_of (slice_get (own_of variables entry) n) ≡ true
  pub words : words_of given.memory (Local n) ≡ regions (OfEntry n)
  pub view : view_in given.passed.views (Local n) ≡ view_at regions 0 (Local n)

-- a parameter is given no array by the first so many rows
pub record HasNoArray (rows : List Row) (count : ℕ) (given : Given) (n : ℕ) : Type 0 where
  pub no_row : HasNoArrayRow rows count n
  pub words : words_of given.memory (Local n) ≡ []

-- what the entry's frame and the memory begin with by the first so many rows stands in the regions
pub record ShowsGiven (variables : Variables) (width entry : ℕ) (regions : Regions) (rows : List Row) (count : ℕ) (given : Given) : Type 0 where
  pub file : (n : ℕ) → words_of given.memory (File n) ≡ regions (OfFile n)
  pub arrays : (n : ℕ) → ShowsArray variables entry regions given n ⊎ HasNoArray rows count given n
  pub scalars : (n : ℕ) → has_entry given.passed.vars (Local n) ≡ true → is_array_of (slice_get (own_of variables entry) n) ≡ false
      × IsScalarIn width (rate_of (slice_get (own_of variables entry) n)) (words_of given.passed.vars (Local n)) (regions (OfLocal 0 n))
