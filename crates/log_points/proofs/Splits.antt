-- A text before and behind the first byte of a kind.
use Rattle.std.proofs.Common.{◌≡◌, refl, sym, ap, subst, ◌∙◌, ℕ, suc, ◌<◌, ◌+◌, Bool, true, false, List, [], ◌∷◌, ◌++◌, length, take, drop, inl, inr, arith}
use Rattle.std.specs.Prelude.{◌==◌, ◌||◌, not, if◌then◌else◌, MatchOption, Option, None, Some}
use Rattle.std.specs.Borrow.{Bor}
use Rattle.std.specs.List.{after_first, before_first, list_any, position_or_len}
use Rattle.std.proofs.lemmas.Bool.{cases_Bool, eqb-true}
use Rattle.std.proofs.lemmas.List.{append_assoc, length-append}
use Rattle.log_points.specs.declared.texts.Part.{Part}
use Rattle.log_points.specs.Texts.{IsClosed, IsPart, IsWhole, Lacks, closes, opens}

module _ (c : ℕ) where
  -- where the first byte is of the kind, or not
  at_here : (x : ℕ) (xs : List ℕ) (b : Bool) → (x == c) ≡ b → position_or_len (λ b. b == c) (x ∷ xs) ≡ (if not b then 1 + position_or_len (λ b. b == c) xs else 0)
  at_here x xs b is = ap (λ b. if not b then 1 + position_or_len (λ b. b == c) xs else 0) is

  at_more : (x : ℕ) (xs : List ℕ) → (x == c) ≡ false → position_or_len (λ b. b == c) (x ∷ xs) ≡ suc (position_or_len (λ b. b == c) xs)
  at_more x xs is =
      let one : 1 + position_or_len (λ b. b == c) xs ≡ suc (position_or_len (λ b. b == c) xs) = omega arith in
      at_here x xs false is ∙ one

  any_here : (x : ℕ) (xs : List ℕ) → (x == c) ≡ false → list_any (λ b. b == c) (x ∷ xs) ≡ list_any (λ b. b == c) xs
  any_here x xs is = ap (λ b. b || list_any (λ b. b == c) xs) is

  pub lacks_before : (s : List ℕ) → Lacks c (before_first (λ b. b == c) s)
  lacks_before [] = refl
  lacks_before (x ∷ xs) = elim (cases_Bool (x == c)) [
    | inl is ↦ ap (λ n. list_any (λ b. b == c) (take n (x ∷ xs))) (at_here x xs true is)
    | inr other ↦
        ap (λ n. list_any (λ b. b == c) (take n (x ∷ xs))) (at_more x xs other)
        ∙ any_here x (take (position_or_len (λ b. b == c) xs) xs) other
        ∙ lacks_before xs
  ]

  pub splits_at : (s : List ℕ) → position_or_len (λ b. b == c) s < length s → s ≡ before_first (λ b. b == c) s ++ c ∷ after_first (λ b. b == c) s
  splits_at [] h = absurd (omega (arith, h))
  splits_at (x ∷ xs) h = elim (cases_Bool (x == c)) [
    | inl is ↦
        ap (λ y. y ∷ xs) (eqb-true x c is)
        ∙ sym (ap (λ n. take n (x ∷ xs) ++ c ∷ drop (n + 1) (x ∷ xs)) (at_here x xs true is))
    | inr other ↦
        let n = position_or_len (λ b. b == c) xs in
        let here = at_more x xs other in
        let more : position_or_len (λ b. b == c) xs < length xs = omega (arith, h, here) in
        let one : suc n + 1 ≡ suc (n + 1) = omega arith in
        ap (λ ys. x ∷ ys) (splits_at xs more)
        ∙ sym (ap (λ k. take (suc n) (x ∷ xs) ++ c ∷ drop k (x ∷ xs)) one)
        ∙ sym (ap (λ k. take k (x ∷ xs) ++ c ∷ drop (k + 1) (x ∷ xs)) here)
  ]

  pub none_there : (s : List ℕ) → position_or_len (λ b. b == c) s ≡ length s → Lacks c s
  none_there [] h = refl
  none_there (x ∷ xs) h = elim (cases_Bool (x == c)) [
    | inl is ↦ absurd (omega (arith, h, at_here x xs true is))
    | inr other ↦
        let more : position_or_len (λ b. b == c) xs ≡ length xs = omega (arith, h, at_more x xs other) in
        any_here x xs other ∙ none_there xs more
  ]

-- a text around the first byte of a kind
abbrev pub SplitsAt : (c : ℕ) → (text before behind : List ℕ) → Type 0
SplitsAt c text before behind = (text ≡ before ++ c ∷ behind) × Lacks c before

pub split_is : (c : ℕ) (s : List ℕ) (r : Option (Bor (List ℕ) × Bor (List ℕ)))
    → MatchOption r (position_or_len (λ b. b == c) s ≡ length s) (λ x. (x.0.now ≡ before_first (λ b. b == c) s) × (x.1.now ≡ after_first (λ b. b == c) s) × (position_or_len (λ b. b == c) s < length s))
    → MatchOption r (Lacks c s) (λ x. SplitsAt c s x.0.now x.1.now)
split_is c s None h = none_there c s h
split_is c s (Some x) h = (
  splits_at c s h.2 ∙ ap (λ before. before ++ c ∷ after_first (λ b. b == c) s) (sym h.0) ∙ ap (λ behind. x.0.now ++ c ∷ behind) (sym h.1),
  subst (λ before. Lacks c before) (sym h.0) (lacks_before c s),
)

-- the first expression in braces, by what its brace opens
pub part_of : (text before inside : List ℕ) (r : Option Part) → SplitsAt opens text before inside
    → MatchOption r (Lacks closes inside) (λ part. IsClosed before inside part.before.now part.expression.now part.behind.now)
    → MatchOption r (IsWhole text) (λ part. IsPart text part.before.now part.expression.now part.behind.now)
part_of text before inside None at lacks = inr (before, inside, at.0, at.1, lacks)
part_of text before inside (Some part) at closed = record {
  is = at.0 ∙ ap (λ xs. xs ++ opens ∷ inside) (sym closed.same) ∙ ap (λ xs. part.before.now ++ opens ∷ xs) closed.is;
  first = subst (λ xs. Lacks opens xs) (sym closed.same) at.1;
  inside = closed.first;
}

-- what stands behind an expression is shorter than the text
pub shorter : (text before expression behind : List ℕ) → IsPart text before expression behind → length behind < length text
shorter text before expression behind part =
    omega (arith, ap length part.is, length-append before (opens ∷ (expression ++ closes ∷ behind)), length-append expression (closes ∷ behind))

-- texts one behind another
pub joined : (old before shown later new : List ℕ) → new ≡ old ++ before ++ shown → old ++ (before ++ (shown ++ later)) ≡ new ++ later
joined old before shown later new is =
    ap (λ xs. old ++ xs) (sym (append_assoc before shown later))
    ∙ sym (append_assoc old (before ++ shown) later)
    ∙ ap (λ xs. xs ++ later) (sym (append_assoc old before shown))
    ∙ ap (λ xs. xs ++ later) (sym is)
