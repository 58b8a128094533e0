-- Elements of lists by their places.
use Rattle.std.proofs.Common.{inl, inr, ◌≡◌, refl, sym, ap, ◌∙◌, subst, ℕ, zero, suc, ◌+◌, List, [], ◌∷◌, ◌++◌, length, drop, Some, None, add-one}
use Rattle.std.specs.Prelude.{slice_get, Contains, ◌⊎◌}
use Rattle.std.proofs.lemmas.Option.{slice_get_within, get_or_from_slice_get, slice_get-get_or}

-- an element stays at its place where others are put behind
pub get_before : {X : Type 0} (xs ys : List X) (k : ℕ) (x : X) → slice_get xs k ≡ Some x → slice_get (xs ++ ys) k ≡ Some x
get_before [] ys k x is = absurd (cc)
get_before (y ∷ xs) ys zero x is = is
get_before (y ∷ xs) ys (suc k) x is = get_before xs ys k x is

-- the one that is put behind others
pub get_last : {X : Type 0} (xs : List X) (x : X) → slice_get (xs ++ x ∷ []) (length xs) ≡ Some x
get_last [] x = refl
get_last (y ∷ xs) x = get_last xs x

-- an element is one of those before, or the last one
pub get_cases : {X : Type 0} (xs : List X) (y : X) (k : ℕ) (x : X) → slice_get (xs ++ y ∷ []) k ≡ Some x → (slice_get xs k ≡ Some x) ⊎ ((k ≡ length xs) × (y ≡ x))
get_cases [] y zero x is = inr (refl, cc)
get_cases [] y (suc k) x is = absurd (cc)
get_cases (z ∷ xs) y zero x is = inl is
get_cases (z ∷ xs) y (suc k) x is = elim (get_cases xs y k x is) [ inl before ↦ inl before | inr last ↦ inr (ap suc last.0, last.1) ]

-- the one at the front of what is left
pub front_left : {X : Type 0} (xs : List X) (n : ℕ) (x : X) → slice_get xs n ≡ Some x → drop n xs ≡ x ∷ drop (n + 1) xs
front_left xs n x is = subst (λ m. drop n xs ≡ x ∷ drop m xs) (sym (add-one n)) (go xs n x is)
  where
    go : {X : Type 0} (xs : List X) (n : ℕ) (x : X) → slice_get xs n ≡ Some x → drop n xs ≡ x ∷ drop (suc n) xs
    go [] n x is = absurd (cc)
    go (y ∷ xs) zero x is = cc
    go (y ∷ xs) (suc n) x is = go xs n x is

-- where there is none at a place, nothing is left
pub none_left : {X : Type 0} (xs : List X) (n : ℕ) → slice_get xs n ≡ None → drop n xs ≡ []
none_left [] zero is = refl
none_left [] (suc n) is = refl
none_left (y ∷ xs) zero is = absurd (cc)
none_left (y ∷ xs) (suc n) is = none_left xs n is

-- an element is at some place
pub place_of : {X : Type 0} (xs : List X) (x : X) → Contains xs x → (k : ℕ) × (slice_get xs k ≡ Some x)
place_of xs x (k, within, is) = (k, slice_get-get_or xs k x within ∙ ap Some is)

pub at_place : {X : Type 0} (xs : List X) (x : X) (k : ℕ) → slice_get xs k ≡ Some x → Contains xs x
at_place xs x k is = (k, slice_get_within xs k x is, get_or_from_slice_get xs k x x is)
