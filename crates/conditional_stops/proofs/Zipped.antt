-- Two lists whose elements are related one by one.
use Rattle.std.proofs.Common.{◌≡◌, refl, ap, ℕ, zero, suc, ◌<◌, List, [], ◌∷◌, ◌++◌, length, get_or, set, take, arith}
use Rattle.std.specs.List.{AllZip}

module _ {A B : Type 0} (R : A → B → Type 0) where
  pub zip_length : (xs : List A) (ys : List B) → AllZip R xs ys → length xs ≡ length ys
  zip_length [] [] all = refl
  zip_length [] (y ∷ ys) all = absurd all
  zip_length (x ∷ xs) [] all = absurd all
  zip_length (x ∷ xs) (y ∷ ys) all = ap suc (zip_length xs ys all.1)

  -- those at a place
  pub zip_at : (xs : List A) (ys : List B) (k : ℕ) (x : A) (y : B) → AllZip R xs ys → k < length xs → R (get_or xs k x) (get_or ys k y)
  zip_at [] ys k x y all inside = absurd (omega arith)
  zip_at (a ∷ xs) [] k x y all inside = absurd all
  zip_at (a ∷ xs) (b ∷ ys) zero x y all inside = all.0
  zip_at (a ∷ xs) (b ∷ ys) (suc k) x y all inside = zip_at xs ys k x y all.1 (omega arith)

  -- another one at a place
  pub zip_set : (xs : List A) (ys : List B) (k : ℕ) (x : A) (y : B) → AllZip R xs ys → k < length xs → R (get_or xs k x) y → AllZip R xs (set ys k y)
  zip_set [] ys k x y all inside one = absurd (omega arith)
  zip_set (a ∷ xs) [] k x y all inside one = absurd all
  zip_set (a ∷ xs) (b ∷ ys) zero x y all inside one = (one, all.1)
  zip_set (a ∷ xs) (b ∷ ys) (suc k) x y all inside one = (all.0, zip_set xs ys k x y all.1 (omega arith) one)

  -- one more, which any one is related to
  pub zip_more : (xs : List A) (ys : List B) (k : ℕ) (y : B) → AllZip R (take k xs) ys → k < length xs → ((x : A) → R x y) → AllZip R (take (suc k) xs) (ys ++ y ∷ [])
  zip_more [] ys k y all inside each = absurd (omega arith)
  zip_more (a ∷ xs) [] zero y all inside each = (each a, tt)
  zip_more (a ∷ xs) (b ∷ ys) zero y all inside each = absurd all
  zip_more (a ∷ xs) [] (suc k) y all inside each = absurd all
  zip_more (a ∷ xs) (b ∷ ys) (suc k) y all inside each = (all.0, zip_more xs ys k y all.1 (omega arith) each)
