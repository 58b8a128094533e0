-- Elements of lists by their numbers.
use Rattle.std.proofs.Common.{ℕ, zero, suc, List, [], ◌∷◌, ◌++◌, length, ◌<◌, ◌≡◌, arith}
use Rattle.std.specs.Prelude.{Some, slice_get}
use Rattle.std.proofs.lemmas.Option.{none-some}
use Rattle.gang_model.proofs.StandingLaws.{Each}

-- an element stands where it stood when more follow
pub get_more : {A : Type 0} (xs ys : List A) (k : ℕ) (x : A) → slice_get xs k ≡ Some x → slice_get (xs ++ ys) k ≡ Some x
get_more [] ys k x e = absurd (none-some x e)
get_more (y ∷ xs) ys zero x e = e
get_more (y ∷ xs) ys (suc k) x e = get_more xs ys k x e

-- an element stands within its list
pub get_within : {A : Type 0} (xs : List A) (k : ℕ) (x : A) → slice_get xs k ≡ Some x → k < length xs
get_within [] k x e = absurd (none-some x e)
get_within (y ∷ xs) zero x e = omega arith
get_within (y ∷ xs) (suc k) x e = let later = get_within xs k x e in omega (arith, later)

-- what follows for each element
pub each_follows : {A : Type 0} (P Q : A → Type 0) (xs : List A) → ((x : A) → P x → Q x) → Each P xs → Each Q xs
each_follows P Q [] next all = tt
each_follows P Q (x ∷ xs) next all = (next x all.0, each_follows P Q xs next all.1)
