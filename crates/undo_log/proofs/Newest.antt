-- A list whose newest item comes last, from the newest on.
use Rattle.std.proofs.Common.{◌≡◌, refl, sym, ap, ◌∙◌, ℕ, zero, suc, ◌-◌, ◌<◌, ◌≤◌, List, [], ◌∷◌, ◌++◌, length, take, drop, arith, Bool, true, false, ◌||◌}
use Rattle.std.specs.Prelude.{reverse}
use Rattle.std.proofs.lemmas.List.{reverse-append, length-reverse, take-append-drop, take-append-le, length-drop, take_all}
use Rattle.std.specs.List.{list_any}
use Rattle.std.proofs.lemmas.List.Folds.{list_any-append}
use Rattle.circular_buffer.specs.Buffer.{keep_last}

pub one_newer : {X : Type 0} (xs : List X) (x : X) → reverse (xs ++ x ∷ []) ≡ x ∷ reverse xs
one_newer xs x = reverse-append xs (x ∷ [])

split_newest : {X : Type 0} (n : ℕ) (xs : List X) → reverse xs ≡ reverse (drop n xs) ++ reverse (take n xs)
split_newest n xs = ap reverse (sym (take-append-drop n xs)) ∙ reverse-append (take n xs) (drop n xs)

length_newest : {X : Type 0} (n m : ℕ) (xs : List X) → n ≤ length xs → m ≡ length xs - n → length (reverse (drop m xs)) ≡ n
length_newest n m xs h e = length-reverse (drop m xs) ∙ (length-drop m xs ∙ omega (arith, h, e))

-- the newest n stay
pub oldest_gone : {X : Type 0} (n : ℕ) (xs : List X) → n ≤ length xs → reverse (keep_last n xs) ≡ take n (reverse xs)
oldest_gone n xs h =
    let long = length_newest n (length xs - n) xs h refl in
    sym (ap (take n) (split_newest (length xs - n) xs)
    ∙ (take-append-le n (reverse (drop (length xs - n) xs)) (reverse (take (length xs - n) xs)) (omega (arith, long)) ∙ take_all n (reverse (drop (length xs - n) xs)) (omega (arith, long))))

drop_front : {X : Type 0} (n : ℕ) (xs ys : List X) → length xs ≡ n → drop n (xs ++ ys) ≡ ys
drop_front n [] ys e = let z : n ≡ 0 = omega (arith, e) in ap (λ k. drop k ys) z
drop_front n (x ∷ xs) ys e = let s : n ≡ suc (n - 1) = omega (arith, e) in ap (λ k. drop k ((x ∷ xs) ++ ys)) s ∙ drop_front (n - 1) xs ys (omega (arith, e))

-- the newest n go
pub newest_gone : {X : Type 0} (n : ℕ) (xs : List X) → n ≤ length xs → reverse (take (length xs - n) xs) ≡ drop n (reverse xs)
newest_gone n xs h =
    sym (ap (drop n) (split_newest (length xs - n) xs)
    ∙ drop_front n (reverse (drop (length xs - n) xs)) (reverse (take (length xs - n) xs)) (length_newest n (length xs - n) xs h refl))

swapped : (a b : Bool) → (a || (b || false)) ≡ (b || a)
swapped true true = refl
swapped true false = refl
swapped false true = refl
swapped false false = refl

-- a test of each item does not ask for their order
pub any_newest : {X : Type 0} (p : X → Bool) (xs : List X) → list_any p (reverse xs) ≡ list_any p xs
any_newest p [] = refl
any_newest p (x ∷ xs) =
    ap (list_any p) (reverse-append (x ∷ []) xs) ∙ (list_any-append p (reverse xs) (x ∷ []) ∙ (swapped (list_any p (reverse xs)) (p x) ∙ ap (λ b. p x || b) (any_newest p xs)))
