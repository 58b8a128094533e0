-- What writes leave of a store.
use Rattle.std.specs.Prelude.{◌≡◌, ℕ, ◌+◌, ◌<◌, ◌≤◌, ◌⊎◌, List, length, slice_index}

-- there are as many words as before, and all but these `len` from `first` on are the same
pub record IsKeptOutside (first len : ℕ) (old new : List ℕ) : Type 0 where
  pub long : length new ≡ length old
  pub same : (i : ℕ) → (i < first) ⊎ (first + len ≤ i) → slice_index new i ≡ slice_index old i

-- Of a store's words only these `len` from `first` on were written, by at most so many writes, and what it has besides its
-- words and how many may still be set is the same.
pub record WritesOnly {Store Rest : Type 0} (words : Store → List ℕ) (left : Store → ℕ) (rest : Store → Rest)
    (first len writes : ℕ) (old new : Store) : Type 0 where
  pub others : IsKeptOutside first len (words old) (words new)
  pub few : left old ≤ left new + writes
  pub same : rest new ≡ rest old
