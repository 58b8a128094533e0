-- Copies at some moments of a run.
use Rattle.std.specs.Prelude.{◌≡◌, ◌⊎◌, ℕ, ◌+◌, ◌/◌, ◌^◌, Bool, List, [], ◌∷◌, ◌++◌, length, max, min, remove, sum_by, nat_lt, nat_eq, nat_le, ◌&&◌, ◌||◌}
use Rattle.whole_runs.specs.declared.copies.CopiedMoment.{CopiedMoment}
use Rattle.whole_runs.specs.declared.notes.NotedPoke.{NotedPoke}

-- whether a place after so many of the pokes and so many steps after these is not past the end
abbrev pub is_within : List NotedPoke → (steps : ℕ) → (before done : ℕ) → Bool
is_within notes steps before done = nat_lt before (length notes) || (nat_eq before (length notes) && nat_le done steps)

-- one of the copies may go, and another one may come
abbrev pub MayKeep : {X : Type 0} → (old : List X) → X → (new : List X) → Type 0
MayKeep old copy new = (i : ℕ) × ((new ≡ remove old i) ⊎ (new ≡ remove old i ++ copy ∷ []))

-- how many copies there can be of so many words each: as many as have 2^23 words together, but at least 8 and at most 1,024
abbrev pub most_copies : (words : ℕ) → ℕ
most_copies words = max 8 (min 1024 (2 ^ 23 / max 1 words))

-- what is kept of a run: the words of its start, copies of other moments, and how many of these there can be
pub record KeptMoments : Type 0 where
  pub start : List ℕ
  pub copies : List CopiedMoment
  pub most : ℕ

-- how many words the start and the copies have together
abbrev pub kept_words : KeptMoments → ℕ
kept_words kept = length kept.start + sum_by (λ c. length c.words.items) kept.copies
