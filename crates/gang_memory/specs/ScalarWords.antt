-- The words of a scalar.
use Rattle.std.specs.Prelude.{◌≡◌, ℕ, ◌+◌, ◌^◌, ◌<◌, ◌≤◌, false, List, length}
use Rattle.gang_types.specs.declared.types.Rate.{Rate}
use Rattle.gang_types.specs.Lanes.{Lanes, no_lane}
use Rattle.gang_model.specs.Running.State.{assigned_words, declared_words, seen, words_for}
use Rattle.gang_memory.specs.Elements.{StandsAt}

-- the scalar's words stand among words from `first` on
pub record IsScalarAt (width : ℕ) (rate : Rate) (first : ℕ) (scalar words : List ℕ) : Type 0 where
  pub long : length scalar ≡ words_for width rate
  pub stands : StandsAt first scalar words

-- the answer is what lanes see of the scalar that stands at `first`
abbrev pub IsSeenAt : (width : ℕ) → Rate → (first : ℕ) → Lanes → (words answer : List ℕ) → Type 0
IsSeenAt width rate first lanes words answer =
    (scalar : List ℕ) → IsScalarAt width rate first scalar words → answer ≡ seen rate lanes scalar

-- lanes may write to a scalar at `first`: there is a lane, the words are there, and a word for each lane of the gang may
-- still be set
pub record IsWritable (width : ℕ) (rate : Rate) (first : ℕ) (lanes : Lanes) (words : List ℕ) (left : ℕ)
    : Type 0 where
  pub lane : no_lane lanes ≡ false
  pub small : first + width < 2 ^ 64
  pub inside : first + words_for width rate ≤ length words
  pub enough : width ≤ left

-- the scalar that stood at `first` stands there with the lanes' values assigned to it
abbrev pub IsAssigned : (width : ℕ) → Rate → (first : ℕ) → Lanes → (values old new : List ℕ) → Type 0
IsAssigned width rate first lanes values old new =
    (scalar : List ℕ) → IsScalarAt width rate first scalar old
    → IsScalarAt width rate first (assigned_words rate lanes values scalar) new

-- a scalar stands at `first` that lanes have declared with their values
abbrev pub IsDeclared : (width : ℕ) → Rate → (first : ℕ) → Lanes → (values new : List ℕ) → Type 0
IsDeclared width rate first lanes values new =
    IsScalarAt width rate first (declared_words rate lanes values) new
