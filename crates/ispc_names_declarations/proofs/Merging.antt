-- The lesser of two faults, where each may be there or not, in any order; and the least fault of a list, part by part.
use Rattle.std.proofs.Common.{◌≡◌, ℕ, Bool, true, false, List, ◌++◌, refl, sym, ap, ◌∙◌, arith, Option, Some, None}
use Rattle.std.specs.Prelude.{◌==◌, if◌then◌else◌}
use Rattle.std.proofs.lemmas.Bool.Decides.{nat_tests}
use Rattle.gang_types.specs.declared.places.Place.{Place}
use Rattle.gang_model.specs.declared.refusals.RefusalNumber.{RefusalNumber}
use Rattle.gang_model.specs.declared.refusals.RefusalNumber.TheVariants.{S1, S2, S3, S4, S5, S6, S7, S8, S9, S10, S11, S12, S13}
use Rattle.gang_model.specs.declared.refusals.SourceRefusal.{SourceRefusal}
use Rattle.gang_model.specs.Source.Judged.{rank, is_less, lesser, least_fault, merged}
use Rattle.gang_model.proofs.JudgedLaws.{below, least_fault-append, merged-none, merged-assoc}

abbrev pub Fault : Type 0
Fault = Option SourceRefusal

-- ---- the order of the two does not matter

abbrev number_of : ℕ → RefusalNumber
number_of n = if n == 1 then S1 else (if n == 2 then S2 else (if n == 3 then S3 else (if n == 4 then S4 else (if n == 5 then S5 else (if n == 6 then S6 else (if n == 7 then S7 else (if n == 8 then S8 else (if n == 9 then S9 else (if n == 10 then S10 else (if n == 11 then S11 else (if n == 12 then S12 else S13)))))))))))

number_of-rank : (r : RefusalNumber) → number_of (rank r) ≡ r
number_of-rank S1 = refl
number_of-rank S2 = refl
number_of-rank S3 = refl
number_of-rank S4 = refl
number_of-rank S5 = refl
number_of-rank S6 = refl
number_of-rank S7 = refl
number_of-rank S8 = refl
number_of-rank S9 = refl
number_of-rank S10 = refl
number_of-rank S11 = refl
number_of-rank S12 = refl
number_of-rank S13 = refl

same_line : (l c n l' c' n' : ℕ) → below l c n l' c' n' ≡ false → below l' c' n' l c n ≡ false → l ≡ l'
same_line l c n l' c' n' h k = grind (arith, nat_tests)

same_col : (l c n l' c' n' : ℕ) → below l c n l' c' n' ≡ false → below l' c' n' l c n ≡ false → c ≡ c'
same_col l c n l' c' n' h k = grind (arith, nat_tests)

same_number : (l c n l' c' n' : ℕ) → below l c n l' c' n' ≡ false → below l' c' n' l c n ≡ false → n ≡ n'
same_number l c n l' c' n' h k = grind (arith, nat_tests)

not_both : (l c n l' c' n' : ℕ) → below l c n l' c' n' ≡ true → below l' c' n' l c n ≡ true → ⊥
not_both l c n l' c' n' h k = grind (arith, nat_tests)

same_fault : (a b : SourceRefusal) → is_less a b ≡ false → is_less b a ≡ false → a ≡ b
same_fault a b h k =
    let line = same_line a.place.line a.place.col (rank a.number) b.place.line b.place.col (rank b.number) h k in
    let col = same_col a.place.line a.place.col (rank a.number) b.place.line b.place.col (rank b.number) h k in
    let ranks = same_number a.place.line a.place.col (rank a.number) b.place.line b.place.col (rank b.number) h k in
    let number : a.number ≡ b.number = sym (number_of-rank a.number) ∙ (ap number_of ranks ∙ number_of-rank b.number) in
    let place : a.place ≡ b.place =
    ap (λ (l : ℕ). record { line = l; col = a.place.col }) line ∙ ap (λ (c : ℕ). record { line = b.place.line; col = c }) col in
    ap (λ (n : RefusalNumber). record { number = n; place = a.place }) number ∙ ap (λ (p : Place). record { number = b.number; place = p }) place

lesser-comm : (a b : SourceRefusal) → lesser a b ≡ lesser b a
lesser-comm a b = by (is_less b a) refl (is_less a b) refl
  where
    by : (p : Bool) → is_less b a ≡ p → (q : Bool) → is_less a b ≡ q → (if p then b else a) ≡ (if q then a else b)
    by true p true q =
        absurd (not_both a.place.line a.place.col (rank a.number) b.place.line b.place.col (rank b.number) q p)
    by true p false q = refl
    by false p true q = refl
    by false p false q = same_fault a b q p

pub merged-comm : (a b : Fault) → merged a b ≡ merged b a
merged-comm None None = refl
merged-comm None (Some b) = refl
merged-comm (Some a) None = refl
merged-comm (Some a) (Some b) = ap Some (lesser-comm a b)

-- the second of three first
pub second_first : (a b c : Fault) → merged b (merged a c) ≡ merged a (merged b c)
second_first a b c = sym (merged-assoc b a c) ∙ (ap (λ x. merged x c) (merged-comm b a) ∙ merged-assoc a b c)

-- two pairs, taken the other way
pub two_pairs : (a b c d : Fault) → merged (merged a b) (merged c d) ≡ merged (merged a c) (merged b d)
two_pairs a b c d =
    merged-assoc a b (merged c d) ∙ (ap (merged a) (second_first c b d) ∙ sym (merged-assoc a c (merged b d)))

-- ---- part by part

-- two parts
pub pair_fault : (xs ys : List SourceRefusal) (a b r : Fault) → a ≡ least_fault xs → b ≡ least_fault ys → r ≡ merged a b → r ≡ least_fault (xs ++ ys)
pair_fault xs ys a b r left right whole =
    whole ∙ (ap (λ x. merged x b) left ∙ (ap (merged (least_fault xs)) right ∙ sym (least_fault-append xs ys)))

-- two parts, in either order
pub either_order : (xs ys : List SourceRefusal) → least_fault (xs ++ ys) ≡ least_fault (ys ++ xs)
either_order xs ys = least_fault-append xs ys ∙ (merged-comm (least_fault xs) (least_fault ys) ∙ sym (least_fault-append ys xs))

-- one more part: what is found and what is left come to the same
pub one_more : (total found fault more here rest later : Fault) → total ≡ merged found rest → rest ≡ merged here later → fault ≡ here → more ≡ merged found fault
    → total ≡ merged more later
one_more total found fault more here rest later t r f m =
    t ∙ (ap (merged found) r ∙ (sym (merged-assoc found here later) ∙ ap (λ x. merged x later) (sym (m ∙ ap (merged found) f))))

-- nothing is left
pub all_found : (total found rest : Fault) → total ≡ merged found rest → rest ≡ None → found ≡ total
all_found total found rest t r = sym (t ∙ (ap (merged found) r ∙ merged-none found))
