-- Names by their numbers, with one more.
use Rattle.std.proofs.Common.{true≢false, Bool, true, false, ◌≤◌, ◌≡◌, refl, sym, ap, ◌∙◌, inl, inr, ℕ, zero, suc, ◌<◌, List, [], ◌∷◌, ◌++◌, length, Option, Some, arith}
use Rattle.std.specs.Prelude.{◌⊎◌, ◌==◌, bytes_eq, option_map, slice_get}
use Rattle.std.proofs.lemmas.Bool.Decides.{nat_tests}
use Rattle.std.proofs.lemmas.Slice.Eq.{bytes_eq-Decides}

module _ {X : Type 0} (text : X → List ℕ) where
  abbrev pub at : List X → ℕ → Option (List ℕ)
  at names number = option_map text (slice_get names number)

  pub at_old : (names : List X) (new : X) (number : ℕ) (name : List ℕ) → at names number ≡ Some name → at (names ++ new ∷ []) number ≡ Some name
  at_old [] new number name is = absurd (cc is)
  at_old (first ∷ names) new zero name is = is
  at_old (first ∷ names) new (suc number) name is = at_old names new number name is

  pub at_last : (names : List X) (new : X) → at (names ++ new ∷ []) (length names) ≡ Some (text new)
  at_last [] new = refl
  at_last (first ∷ names) new = at_last names new

  pub which : (names : List X) (new : X) (number : ℕ) (name : List ℕ) → at (names ++ new ∷ []) number ≡ Some name → (at names number ≡ Some name) ⊎ ((number ≡ length names) × (text new ≡ name))
  which [] new zero name is = inr (refl, cc)
  which [] new (suc number) name is = absurd (cc is)
  which (first ∷ names) new zero name is = inl is
  which (first ∷ names) new (suc number) name is = elim (which names new number name is) [ inl old ↦ inl old | inr last ↦ inr (ap suc last.0, last.1) ]

  -- names with one more that is none of them are distinct where they are
  pub distinct_more : (names : List X) (new : X) → ((number : ℕ) → at names number ≡ Some (text new) → ⊥)
      → ((number other : ℕ) (name : List ℕ) → at names number ≡ Some name → at names other ≡ Some name → number ≡ other)
      → (number other : ℕ) (name : List ℕ) → at (names ++ new ∷ []) number ≡ Some name → at (names ++ new ∷ []) other ≡ Some name → number ≡ other
  distinct_more names new none distinct number other name is also = elim (which names new number name is) [
    | inl old ↦ elim (which names new other name also) [ inl older ↦ distinct number other name old older | inr last ↦ absurd (none number (old ∙ ap Some (sym last.1))) ]
    | inr last ↦ elim (which names new other name also) [ inl old ↦ absurd (none other (old ∙ ap Some (sym last.1))) | inr same ↦ last.0 ∙ sym same.0 ]
  ]

  pub within : (names : List X) (number : ℕ) (name : List ℕ) → at names number ≡ Some name → number < length names
  within [] number name is = absurd (cc is)
  within (first ∷ names) zero name is = omega arith
  within (first ∷ names) (suc number) name is = omega (arith, within names number name is)

  -- where none of the first numbers has a name, and there are no others, none has
  pub none_above : (names : List X) (name : List ℕ) (n : ℕ) → length names ≤ n → ((k : ℕ) → k < n → at names k ≡ Some name → ⊥) → (number : ℕ) → at names number ≡ Some name → ⊥
  none_above names name n all none number is = none number (omega (arith, within names number name is, all)) is

pub some_same : (x y : List ℕ) → Some x ≡ Some y → x ≡ y
some_same x y is = cc is

pub is_name : (x y : List ℕ) → bytes_eq x y ≡ true → x ≡ y
is_name x y = (bytes_eq-Decides x y).0

pub is_no_name : (x y : List ℕ) → bytes_eq x y ≡ false → x ≡ y → ⊥
is_no_name x y other is = true≢false (sym ((bytes_eq-Decides x y).1 is) ∙ other)

-- a function's name is that of a number just where it has this number
pub numbered : (given number : ℕ) (first name : List ℕ) → (given ≡ number → first ≡ name) → (first ≡ name → given ≡ number) → bytes_eq first name ≡ (given == number)
numbered given number first name same back = go (bytes_eq first name) (given == number) refl refl
  where
    go : (a b : Bool) → bytes_eq first name ≡ a → (given == number) ≡ b → bytes_eq first name ≡ (given == number)
    go true true e f = e ∙ sym f
    go false false e f = e ∙ sym f
    go true false e f = let is = back (is_name first name e) in absurd (grind (arith, nat_tests))
    go false true e f = let is : given ≡ number = grind (arith, nat_tests) in absurd (is_no_name first name e (same is))
