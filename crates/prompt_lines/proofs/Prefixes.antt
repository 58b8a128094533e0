-- The definition's prefix of a text, and the standard one.
use Rattle.std.proofs.Common.{◌≡◌, ◌≢◌, ℕ, List, [], ◌∷◌, ◌++◌, Option, Some, None, true, refl, sym, ap, ◌∙◌, inl, inr, arith, eq-eqb}
use Rattle.std.specs.Prelude.{◌==◌, MatchOption}
use Rattle.std.proofs.lemmas.Bool.{cases_Bool}
use Rattle.std.proofs.lemmas.Bool.Decides.{nat_tests}
use Rattle.std.specs.Borrow.{Bor}
use Rattle.gang_model.specs.Texts.Spellings.{behind}
use Rattle.prompt_lines.specs.Readings.{bytes_option}

-- what follows a prefix
pub behind_prefix : (prefix rest : List ℕ) → behind prefix (prefix ++ rest) ≡ Some rest
behind_prefix [] rest = refl
behind_prefix (p ∷ prefix) rest = let same : (p == p) ≡ true = eq-eqb p p refl in rw same (behind_prefix prefix rest)

-- a text that does not begin so
pub behind_none : (prefix text : List ℕ) → ((rest : List ℕ) → text ≢ prefix ++ rest) → behind prefix text ≡ None
behind_none [] text other = absurd (other text refl)
behind_none (p ∷ prefix) [] other = refl
behind_none (p ∷ prefix) (b ∷ text) other = elim (cases_Bool (p == b)) [
  | inl e ↦
      let same : b ≡ p = grind (arith, nat_tests) in
      rw e (behind_none prefix text (λ rest is. other rest (ap (λ x. x ∷ text) same ∙ ap (λ l. p ∷ l) is)))
  | inr e ↦ rw e refl
]

-- what is left of a text whose prefix is taken away
pub behind_is : (prefix text : List ℕ) (r : Option (Bor (List ℕ))) → MatchOption r ((rest : List ℕ) → text ≢ prefix ++ rest) (λ x. text ≡ prefix ++ x.now)
    → bytes_option r ≡ behind prefix text
behind_is prefix text None other = sym (behind_none prefix text other)
behind_is prefix text (Some rest) is = sym (ap (behind prefix) is ∙ behind_prefix prefix rest.now)
