-- What commas separate, read and spelled.
use Rattle.std.proofs.Common.{◌≡◌, inl, inr, ℕ, zero, suc, ◌≤◌, List, [], ◌∷◌, length, Some, refl, subst, arith}
use Rattle.gang_model.specs.declared.marks.Mark.TheVariants as mark
use Rattle.gang_model.specs.Source.Tokens.{marked, Lexeme}
use Rattle.gang_model.specs.Source.Spells.{Takes, Stops, any_level}
use Rattle.gang_model.specs.Source.SpellsStatements.{SpellsList}
use Rattle.ispc_parser_words.specs.Front.{take}
use Rattle.ispc_parser_words.proofs.Tokens.{take_takes, take_again}
use Rattle.ispc_parser_words.proofs.Tokens.{take_none}
use Rattle.ispc_parser_words.proofs.Follows.{stops_at}
use Rattle.ispc_parser_shared.specs.Front.{Reader, list_of}
use Rattle.ispc_parser_shared.proofs.Tokens.{other_first}
use Rattle.std.proofs.lemmas.Option.{same_Some}
use Rattle.ispc_lexer.proofs.Runs.{bind_some, chosen}

one_more : (n k : ℕ) → k ≤ n → suc k ≤ suc n
one_more n k h = omega arith

pub list_sound : {A : Type 0} (one : Reader A) (R : A → List Lexeme → List Lexeme → Type 0)
    → ((x : A) (ts rest : List Lexeme) → one ts ≡ Some (x, rest) → R x ts rest)
    → (n : ℕ) (xs : List A) (ts rest : List Lexeme) → list_of one n ts ≡ Some (xs, rest) → SpellsList R xs ts rest × (length xs ≤ n)
unfolding list_of
list_sound one R good zero xs ts rest e = absurd cc
list_sound {A} one R good (suc n) xs ts rest e =
    let q1 = bind_some (one ts) _ (xs, rest) e in
    elim (chosen (take mark.Comma q1.0.1) _ _ (Some (xs, rest)) q1.2) [
      | inl p ↦
          let q2 = bind_some (list_of one n p.0) _ (xs, rest) p.2 in
          let more = list_sound one R good n q2.0.0 p.0 q2.0.1 q2.1 in
          subst (λ (y : List A × List Lexeme). SpellsList R y.0 ts y.1 × (length y.0 ≤ suc n)) (same_Some (q1.0.0 ∷ q2.0.0, q2.0.1) (xs, rest) q2.2)
          (grown q1.0.0 q2.0.0 q1.0.1 p.0 q2.0.1 (good q1.0.0 ts q1.0.1 q1.1) (take_takes mark.Comma q1.0.1 p.0 p.1) more.0, one_more n (length q2.0.0) more.1)
      | inr p ↦
          subst (λ (y : List A × List Lexeme). SpellsList R y.0 ts y.1 × (length y.0 ≤ suc n)) (same_Some (q1.0.0 ∷ [], q1.0.1) (xs, rest) p.1)
          (good q1.0.0 ts q1.0.1 q1.1, one_more n 0 (omega arith))
    ]
  where
    grown : (x : A) (ys : List A) (a b c : List Lexeme) → R x ts a → Takes (marked mark.Comma) a b → SpellsList R ys b c → SpellsList R (x ∷ ys) ts c
    grown x [] a b c h k more = absurd more
    grown x (y ∷ ys) a b c h k more = (a, b, h, k, more)

pub list_complete : {A : Type 0} (one : Reader A) (R : A → List Lexeme → List Lexeme → Type 0)
    → ((x : A) (ts rest : List Lexeme) → R x ts rest → Stops any_level rest → one ts ≡ Some (x, rest))
    → (n : ℕ) (xs : List A) (ts rest after : List Lexeme) → SpellsList R xs ts rest → length xs ≤ n → Takes (marked mark.RightParen) rest after → list_of one n ts ≡ Some (xs, rest)
unfolding list_of
list_complete one R good n [] ts rest after h few close = absurd h
list_complete one R good zero (x ∷ xs) ts rest after h few close = absurd (omega (arith, few))
list_complete one R good (suc n) (x ∷ []) ts rest after h few close =
    rw (
      good x ts rest h (stops_at any_level (marked mark.RightParen) rest after close (omega arith)),
      take_none mark.Comma rest (other_first mark.Comma (marked mark.RightParen) rest after close refl),
    ) refl
list_complete one R good (suc n) (x ∷ y ∷ ys) ts rest after h few close =
    rw (
      good x ts h.0 h.2 (stops_at any_level (marked mark.Comma) h.0 h.1 h.3 (omega arith)),
      take_again mark.Comma h.0 h.1 h.3,
      list_complete one R good n (y ∷ ys) h.1 rest after h.4 (omega (arith, few)) close,
    ) refl
