-- Elements of lists by their numbers, and the first one that passes a test.
use Rattle.std.proofs.Common.{ℕ, zero, suc, ◌-◌, Bool, true, false, cond, List, [], ◌∷◌, ◌++◌, length, length-append, ◌≡◌, ◌⊎◌, inl, inr, refl, sym, ◌∙◌, ap, subst, arith}
use Rattle.std.specs.Prelude.{All, map, filter, Some, None, slice_get, find}
use Rattle.std.specs.List.{flat_map}
use Rattle.std.proofs.lemmas.List.Elements.{All-nil, All-cons}
use Rattle.std.proofs.lemmas.Option.{same_Some, none-some}
use Rattle.gang_model.proofs.StandingLaws.{Each}

-- what holds of each element
pub all_of_each : {A : Type 0} (P : A → Type 0) (xs : List A) → Each P xs → All P xs
all_of_each P [] each = All-nil P
all_of_each P (x ∷ xs) each = All-cons P x xs each.0 (all_of_each P xs each.1)

pub each_at : {A : Type 0} (P : A → Type 0) (xs : List A) → ((k : ℕ) (x : A) → slice_get xs k ≡ Some x → P x) → Each P xs
each_at P [] at = tt
each_at P (x ∷ xs) at = (at 0 x refl, each_at P xs (λ k y e. at (suc k) y e))

-- an element of a list with one more behind it is of the list, or is this one
pub get_behind : {A : Type 0} (xs : List A) (x : A) (k : ℕ) (y : A) → slice_get (xs ++ x ∷ []) k ≡ Some y → (slice_get xs k ≡ Some y) ⊎ ((k ≡ length xs) × (x ≡ y))
get_behind [] x zero y e = inr (refl, same_Some x y e)
get_behind [] x (suc k) y e = absurd (none-some y e)
get_behind (z ∷ xs) x zero y e = inl e
get_behind (z ∷ xs) x (suc k) y e = by (get_behind xs x k y e)
  where
    by : (slice_get xs k ≡ Some y) ⊎ ((k ≡ length xs) × (x ≡ y)) → (slice_get xs k ≡ Some y) ⊎ ((suc k ≡ suc (length xs)) × (x ≡ y))
    by (inl before) = inl before
    by (inr last) = inr (ap suc last.0, last.1)

-- the first element that passes has a number, and passes
pub find_at : {A : Type 0} (test : A → Bool) (xs : List A) (x : A) → find test xs ≡ Some x → (k : ℕ) × (slice_get xs k ≡ Some x) × (test x ≡ true)
find_at test [] x e = absurd (none-some x e)
find_at test (y ∷ xs) x e = by (find_at test xs x) (test y) refl e
  where
    by : (find test xs ≡ Some x → (k : ℕ) × (slice_get xs k ≡ Some x) × (test x ≡ true)) → (b : Bool) → test y ≡ b → cond b (Some y) (find test xs) ≡ Some x
        → (k : ℕ) × (slice_get (y ∷ xs) k ≡ Some x) × (test x ≡ true)
    by next true is e = (0, e, ap test (sym (same_Some y x e)) ∙ is)
    by next false is e = let later = next e in (suc later.0, later.1, later.2)

-- none passes where none is found
pub find_none : {A : Type 0} (test : A → Bool) (xs : List A) (k : ℕ) (x : A) → find test xs ≡ None → slice_get xs k ≡ Some x → test x ≡ false
find_none test [] k x e at = absurd (none-some x at)
find_none test (y ∷ xs) k x e at = by (λ j. find_none test xs j x) (test y) refl e k at
  where
    by : ((j : ℕ) → find test xs ≡ None → slice_get xs j ≡ Some x → test x ≡ false) → (b : Bool) → test y ≡ b → cond b (Some y) (find test xs) ≡ None
        → (k : ℕ) → slice_get (y ∷ xs) k ≡ Some x → test x ≡ false
    by next true is e k at = absurd (none-some y (sym e))
    by next false is e zero at = ap test (sym (same_Some y x at)) ∙ is
    by next false is e (suc k) at = next k e at

-- what holds of each element that passes
pub each_passing : {A : Type 0} (P : A → Type 0) (test : A → Bool) (xs : List A) → ((k : ℕ) (x : A) → slice_get xs k ≡ Some x → test x ≡ true → P x) → Each P (filter test xs)
each_passing P test [] at = tt
each_passing P test (y ∷ xs) at = by (each_passing P test xs (λ k x e. at (suc k) x e)) (test y) refl
  where
    by : Each P (filter test xs) → (b : Bool) → test y ≡ b → Each P (cond b (y ∷ filter test xs) (filter test xs))
    by later true is = (at 0 y refl is, later)
    by later false is = later

-- all elements stay where all pass
pub all_pass : {A : Type 0} (test : A → Bool) (xs : List A) → Each (λ x. test x ≡ true) xs → filter test xs ≡ xs
all_pass test [] each = refl
all_pass test (x ∷ xs) each = ap (λ b. cond b (x ∷ filter test xs) (filter test xs)) each.0 ∙ ap (λ ys. x ∷ ys) (all_pass test xs each.1)

-- none stays where none passes
pub none_pass : {A : Type 0} (test : A → Bool) (xs : List A) → Each (λ x. test x ≡ false) xs → filter test xs ≡ []
none_pass test [] each = refl
none_pass test (x ∷ xs) each = ap (λ b. cond b (x ∷ filter test xs) (filter test xs)) each.0 ∙ none_pass test xs each.1

pub each_map : {A B : Type 0} (f : A → B) (P : B → Type 0) (xs : List A) → Each (λ x. P (f x)) xs → Each P (map f xs)
each_map f P [] each = tt
each_map f P (x ∷ xs) each = (each.0, each_map f P xs each.1)

pub each_get : {A : Type 0} (P : A → Type 0) (xs : List A) (k : ℕ) (x : A) → Each P xs → slice_get xs k ≡ Some x → P x
each_get P [] k x each e = absurd (none-some x e)
each_get P (y ∷ xs) zero x each e = subst P (same_Some y x e) each.0
each_get P (y ∷ xs) (suc k) x each e = each_get P xs k x each.1 e

pub each_follows : {A : Type 0} (P Q : A → Type 0) (xs : List A) → ((x : A) → P x → Q x) → Each P xs → Each Q xs
each_follows P Q [] next each = tt
each_follows P Q (x ∷ xs) next each = (next x each.0, each_follows P Q xs next each.1)

-- two lists are empty where both together are
pub both_empty : {A : Type 0} (xs ys : List A) → xs ++ ys ≡ [] → (xs ≡ []) × (ys ≡ [])
both_empty [] ys e = (refl, e)
both_empty (x ∷ xs) ys e = cc e

behind_got : {A : Type 0} (xs : List A) (x : A) → slice_get (xs ++ x ∷ []) (length xs) ≡ Some x
behind_got [] x = refl
behind_got (y ∷ xs) x = behind_got xs x

-- the last element
pub last_got : {A : Type 0} (xs : List A) (x : A) → slice_get (xs ++ x ∷ []) (length (xs ++ x ∷ []) - 1) ≡ Some x
last_got xs x = ap (slice_get (xs ++ x ∷ [])) (omega (arith, length-append xs (x ∷ []))) ∙ behind_got xs x

-- where no element gives anything, each gives nothing
pub none_given : {A B : Type 0} (given : A → List B) (xs : List A) (k : ℕ) (x : A) → flat_map given xs ≡ [] → slice_get xs k ≡ Some x → given x ≡ []
none_given given [] k x e at = absurd (none-some x at)
none_given given (y ∷ xs) zero x e at = subst (λ z. given z ≡ []) (same_Some y x at) (both_empty (given y) (flat_map given xs) e).0
none_given given (y ∷ xs) (suc k) x e at = none_given given xs k x (both_empty (given y) (flat_map given xs) e).1 at
