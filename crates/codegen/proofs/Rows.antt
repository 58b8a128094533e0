-- Lists that fit one by one.
use Rattle.std.proofs.Common.{◌≡◌, ℕ, zero, suc, ◌+◌, ◌<◌, ◌≤◌, List, [], ◌∷◌, ◌++◌, length, get_or, take, map, refl, ap, sym, ◌∙◌, subst, arith}
use Rattle.std.specs.Prelude.{min, Some, slice_get}
use Rattle.std.proofs.lemmas.List.{length-map, take_more, map-append}
use Rattle.codegen.specs.Codes.{Fit}

-- they have the same length
pub fit_long : {A B : Type 0} (P : A → B → Type 0) (xs : List A) (ys : List B) → Fit P xs ys → length xs ≡ length ys
fit_long P [] [] h = refl
fit_long P [] (y ∷ ys) h = absurd h
fit_long P (x ∷ xs) [] h = absurd h
fit_long P (x ∷ xs) (y ∷ ys) h = ap suc (fit_long P xs ys h.1)

pub fit_more : {A B : Type 0} (P : A → B → Type 0) (xs : List A) (ys : List B) (x : A) (y : B) → Fit P xs ys → P x y → Fit P (xs ++ x ∷ []) (ys ++ y ∷ [])
fit_more P [] [] x y h k = (k, tt)
fit_more P [] (b ∷ ys) x y h k = absurd h
fit_more P (a ∷ xs) [] x y h k = absurd h
fit_more P (a ∷ xs) (b ∷ ys) x y h k = (h.0, fit_more P xs ys x y h.1 k)

-- those so far, and the next one
pub fit_next : {A B C : Type 0} (P : B → C → Type 0) (f : A → C) (items : List A) (i : ℕ) (a : A) (made new : List B) (b : B)
    → i < length items → a ≡ get_or items i a → Fit P made (map f (take i items)) → P b (f a) → new ≡ made ++ b ∷ [] → Fit P new (map f (take (i + 1) items))
fit_next P f items i a made new b below is before fits pushed =
    let more = take_more items i a below ∙ ap (λ x. take i items ++ x ∷ []) (sym is) in
    subst (λ l. Fit P new (map f l)) (sym more)
    (subst (λ l. Fit P new l) (sym (map-append f (take i items) (a ∷ [])))
    (subst (λ l. Fit P l (map f (take i items) ++ f a ∷ [])) (sym pushed) (fit_more P made (map f (take i items)) b (f a) before fits)))

-- ---- two lists side by side

module _ {A B C D : Type 0} (P : C → D → Type 0) (f : A → C) (g : B → D) where
  -- those that are walked
  pub pair_of : (xs : List A) (ys : List B) → Fit P (map f xs) (map g ys) → (i : ℕ) (a : A) (b : B) → i < length xs → i < length ys → a ≡ get_or xs i a → b ≡ get_or ys i b → P (f a) (g b)
  pair_of [] ys h i a b below within here there = absurd (omega (arith, below))
  pair_of (x ∷ xs) [] h i a b below within here there = absurd h
  pair_of (x ∷ xs) (y ∷ ys) h zero a b below within here there = subst (λ c. P (f c) (g b)) (sym here) (subst (λ d. P (f x) (g d)) (sym there) h.0)
  pair_of (x ∷ xs) (y ∷ ys) h (suc i) a b below within here there = pair_of xs ys h.1 i a b (omega arith) (omega arith) here there

  pub pairs_long : (xs : List A) (ys : List B) → Fit P (map f xs) (map g ys) → length xs ≡ length ys
  pairs_long xs ys h = sym (length-map xs f) ∙ fit_long P (map f xs) (map g ys) h ∙ length-map ys g

-- whoever walks as many as the shorter list has has walked both where they are equally long
pub both_walked : (n x y : ℕ) → n ≡ min x y → x ≡ y → (x ≤ n) × (y ≤ n)
both_walked n x y least same = (omega arith, omega arith)

-- ---- lists of what is made of the same items

module _ {A B C : Type 0} where
  pub fit_both : (P : B → C → Type 0) (f : A → B) (g : A → C) (xs : List A) → ((n : ℕ) (x : A) → slice_get xs n ≡ Some x → P (f x) (g x)) → Fit P (map f xs) (map g xs)
  fit_both P f g [] h = tt
  fit_both P f g (x ∷ xs) h = (h 0 x refl, fit_both P f g xs (λ n y is. h (suc n) y is))

  pub fit_unmapped : (P : B → C → Type 0) (g : A → C) (xs : List B) (ys : List A) → Fit P xs (map g ys) → Fit (λ x y. P x (g y)) xs ys
  fit_unmapped P g [] [] h = tt
  fit_unmapped P g [] (y ∷ ys) h = absurd h
  fit_unmapped P g (x ∷ xs) [] h = absurd h
  fit_unmapped P g (x ∷ xs) (y ∷ ys) h = (h.0, fit_unmapped P g xs ys h.1)
