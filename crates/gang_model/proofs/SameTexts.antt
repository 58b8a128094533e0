-- Texts as lists of bytes: the program's tests of them are the definition's, which does not depend on the order of the two.
use Rattle.std.proofs.Common.{◌≡◌, ℕ, List, [], ◌∷◌, Bool, true, false, ◌&&◌, refl, sym, ap, ◌∙◌, eq-eqb, arith}
use Rattle.std.specs.Prelude.{bytes_eq, nat_eq, ◌==◌, if◌then◌else◌, Some, cond}
use lib.Pointwise.{pointwise}
use Rattle.std.proofs.lemmas.Bool.Decides.{nat_tests}
use Rattle.std.specs.Cmp.Lexicographic.{same_text as same}
use Rattle.gang_model.specs.Source.Names.{named, same_text}
use Rattle.gang_model.specs.Types.Tree.{Variable}

pub if_and : (a b : Bool) → (a && b) ≡ (if a then b else false)
if_and true b = refl
if_and false b = refl

pub pointwise-same_text : (xs ys : List ℕ) → pointwise nat_eq xs ys ≡ same_text xs ys
pointwise-same_text [] [] = refl
pointwise-same_text [] (y ∷ ys) = refl
pointwise-same_text (x ∷ xs) [] = refl
pointwise-same_text (x ∷ xs) (y ∷ ys) = ap (λ b. nat_eq x y && b) (pointwise-same_text xs ys) ∙ if_and (nat_eq x y) (same_text xs ys)

pub bytes_same : (xs ys : List ℕ) → bytes_eq xs ys ≡ same_text xs ys
bytes_same [] [] = refl
bytes_same [] (y ∷ ys) = refl
bytes_same (x ∷ xs) [] = refl
bytes_same (x ∷ xs) (y ∷ ys) = ap (λ t. nat_eq x y && t) (bytes_same xs ys) ∙ if_and (nat_eq x y) (same_text xs ys)

pub same_text-sym : (xs ys : List ℕ) → same_text xs ys ≡ same_text ys xs
same_text-sym [] [] = refl
same_text-sym [] (y ∷ ys) = refl
same_text-sym (x ∷ xs) [] = refl
same_text-sym (x ∷ xs) (y ∷ ys) = ap (λ b. if x == y then b else false) (same_text-sym xs ys) ∙ ap (λ t. if t then same_text ys xs else false) (eqb-sym x y)
  where
    eqb-sym : (a b : ℕ) → (a == b) ≡ (b == a)
    eqb-sym a b = grind (arith, nat_tests)

pub same_text-refl : (xs : List ℕ) → same_text xs xs ≡ true
same_text-refl [] = refl
same_text-refl (x ∷ xs) = ap (λ t. if t then same_text xs xs else false) (eq-eqb x x refl) ∙ same_text-refl xs

pub same_text-equal : (xs ys : List ℕ) → same_text xs ys ≡ true → xs ≡ ys
same_text-equal xs ys h = same xs ys (sym h ∙ sym (pointwise-same_text xs ys))

-- a variable that is found by a name has it
pub named_so : (name : List ℕ) (variables : List Variable) (v : Variable) → named name variables ≡ Some v → name ≡ v.name
named_so name [] v e = cc e
named_so name (x ∷ variables) v e = go (named_so name variables v) (same_text x.name name) refl
  where
    go : (named name variables ≡ Some v → name ≡ v.name) → (b : Bool) → same_text x.name name ≡ b → name ≡ v.name
    go later true h =
        let is : Some x ≡ Some v = sym (ap (λ b. cond b (Some x) (named name variables)) h) ∙ e in
        let same : x ≡ v = cc is in
        sym (same_text-equal x.name name h) ∙ ap (λ (w : Variable). w.name) same
    go later false h = later (sym (ap (λ b. cond b (Some x) (named name variables)) h) ∙ e)
