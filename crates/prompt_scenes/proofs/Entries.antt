-- What is displayed and what is noted, without those of a number.
use Rattle.std.proofs.Common.{◌≡◌, ℕ, List, [], ◌∷◌, map, refl, ap, inl, inr}
use Rattle.std.specs.Prelude.{◌==◌, filter, not}
use Rattle.std.proofs.lemmas.Bool.{cases_Bool}
use Rattle.prompt_scenes.specs.declared.holding.Checkpoint.{Checkpoint}
use Rattle.prompt_scenes.specs.declared.holding.Displayed.{Displayed}
use Rattle.prompt_scenes.specs.Holding.{entry_of, noted_of}

-- moments that are noted, without those of a number
pub without_noted : (n : ℕ) (xs : List Checkpoint) → map noted_of (filter (λ e. not (e.number == n)) xs) ≡ filter (λ (e : ℕ × ℕ). not (e.0 == n)) (map noted_of xs)
without_noted n [] = refl
without_noted n (x ∷ xs) = elim (cases_Bool (not (x.number == n))) [
  | inl e ↦ rw e (ap (λ l. noted_of x ∷ l) (without_noted n xs))
  | inr e ↦ rw e (without_noted n xs)
]

-- without those of a number
pub without_entries : (n : ℕ) (xs : List Displayed) → map entry_of (filter (λ e. not (e.number == n)) xs) ≡ filter (λ (e : ℕ × List ℕ). not (e.0 == n)) (map entry_of xs)
without_entries n [] = refl
without_entries n (x ∷ xs) = elim (cases_Bool (not (x.number == n))) [
  | inl e ↦ rw e (ap (λ l. entry_of x ∷ l) (without_entries n xs))
  | inr e ↦ rw e (without_entries n xs)
]
