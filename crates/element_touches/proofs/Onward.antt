-- Elements one after another.
use Rattle.std.proofs.Common.{◌≡◌, refl, sym, ap, ◌∙◌, ℕ, zero, suc, ◌+◌, ◌<◌, ◌≤◌, Bool, true, List, [], ◌∷◌, drop, get_or, length, arith}
use Rattle.std.specs.Prelude.{◌==◌, ◌&&◌, if◌then◌else◌, slice_index}
use Rattle.std.specs.List.{list_all, list_any}
use Rattle.std.proofs.lemmas.List.{drop_more}
use Rattle.gang_model.specs.Running.Lanes.{members_from}
use Rattle.element_touches.specs.Touches.{different, is_consecutive, is_equal}

-- from one place on, and from the next
pub different_more : (xs : List ℕ) (i : ℕ) → i < length xs
    → different (drop i xs) ≡ (if list_any (λ y. y == slice_index xs i) (drop (i + 1) xs) then 0 else 1) + different (drop (i + 1) xs)
different_more xs i below = ap different (drop_more xs i 0 below)

pub consecutive_more : (xs : List ℕ) (i x y : ℕ) → i + 1 < length xs → x ≡ get_or xs i x → y ≡ get_or xs (i + 1) y
    → is_consecutive (drop i xs) ≡ ((y == x + 1) && is_consecutive (drop (i + 1) xs))
consecutive_more xs i x y below is other =
    let next = drop_more xs (i + 1) y below ∙ ap (λ z. z ∷ drop (i + 1 + 1) xs) (sym other) in
    ap is_consecutive (drop_more xs i x (omega (arith, below)) ∙ ap (λ z. z ∷ drop (i + 1) xs) (sym is) ∙ ap (λ l. x ∷ l) next)
    ∙ ap (λ l. (y == x + 1) && is_consecutive l) (sym next)

-- the last one follows the one before it
few_consecutive : (xs : List ℕ) → length xs ≤ 1 → is_consecutive xs ≡ true
few_consecutive [] few = refl
few_consecutive (x ∷ []) few = refl
few_consecutive (x ∷ y ∷ xs) few = absurd (omega (arith, few))

length_dropped : (i : ℕ) (xs : List ℕ) → length xs ≤ i + 1 → length (drop i xs) ≤ 1
length_dropped zero [] few = omega arith
length_dropped (suc i) [] few = omega arith
length_dropped zero (x ∷ xs) few = few
length_dropped (suc i) (x ∷ xs) few = length_dropped i xs (omega (arith, few))

pub consecutive_all : (xs : List ℕ) (i : ℕ) → length xs ≤ i + 1 → is_consecutive (drop i xs) ≡ true
consecutive_all xs i few = few_consecutive (drop i xs) (length_dropped i xs few)

pub equal_first : (xs : List ℕ) → list_all (λ y. y == slice_index xs 0) (drop 1 xs) ≡ is_equal xs
equal_first [] = refl
equal_first (x ∷ xs) = refl

pub equal_more : (test : ℕ → Bool) (xs : List ℕ) (i x : ℕ) → i < length xs → x ≡ get_or xs i x
    → list_all test (drop i xs) ≡ (test x && list_all test (drop (i + 1) xs))
equal_more test xs i x below is = ap (list_all test) (drop_more xs i x below ∙ ap (λ y. y ∷ drop (i + 1) xs) (sym is))

-- from one lane on, and from the next
pub members_more : (lanes : List Bool) (k : ℕ) (b : Bool) → k < length lanes → b ≡ get_or lanes k b
    → members_from k (drop k lanes) ≡ (if b then k ∷ members_from (suc k) (drop (k + 1) lanes) else members_from (suc k) (drop (k + 1) lanes))
members_more lanes k b below is = ap (members_from k) (drop_more lanes k b below ∙ ap (λ y. y ∷ drop (k + 1) lanes) (sym is))
