-- What changes from where a program stands to where it stands next.
use Rattle.std.specs.Prelude.{◌≡◌, ℕ, List, All, Contains, map, slice_get, Option, Some, None, option_map}
use Rattle.gang_model.specs.Types.Tree.{Program}
use Rattle.gang_model.specs.Running.State.{State}
use Rattle.run_page.specs.declared.views.Change.{Change}
use Rattle.run_page.specs.declared.views.Change.TheVariants as change
use Rattle.run_page.specs.Sights.{IsSeen, Shows, Sight}

-- a difference between two moments
pub data Difference : Type 0 where
  -- a lane or an element of a variable has this word, and had another; or the variable was not there
  HasWord : Sight → (part word : ℕ) → Difference
  -- a variable is no longer there
  IsGone : Sight → Difference

-- what was seen where a program stood; nothing where it did not stand yet
abbrev pub WasSeen : Program → Option State → Sight → Type 0
WasSeen p None sight = ⊥
WasSeen p (Some state) sight = IsSeen p state sight

abbrev pub Showed : Program → (most : ℕ) → Option State → Sight → (part word : ℕ) → Type 0
Showed p most None sight part word = ⊥
Showed p most (Some state) sight part word = Shows p most state sight part word

-- there is this difference between where a program stood, if it did, and where it stands, as far as the first so many words of each variable are seen
abbrev pub Differs : Program → (most : ℕ) → (before : Option State) → (now : State) → Difference → Type 0
Differs p most before now (HasWord sight part word) = Shows p most now sight part word × (Showed p most before sight part word → ⊥)
Differs p most before now (IsGone sight) = WasSeen p before sight × (IsSeen p now sight → ⊥)

-- what a change tells, of variables that have numbers
abbrev pub told : List Sight → Change → Option Difference
told sights (change.Word variable part word) = option_map (λ sight. HasWord sight part word) (slice_get sights variable)
told sights (change.Gone variable) = option_map IsGone (slice_get sights variable)

-- the changes tell each difference, and nothing else
pub record TellDifferences (p : Program) (most : ℕ) (before : Option State) (now : State) (sights : List Sight) (changes : List Change) : Type 0 where
  pub sound : All (λ it. (difference : Difference) × (told sights it ≡ Some difference) × Differs p most before now difference) changes
  pub complete : (difference : Difference) → Differs p most before now difference → Contains (map (told sights) changes) (Some difference)
