-- The first place where a text stands, as it is kept.
use Rattle.std.proofs.Common.{◌≡◌, refl, ap, ◌+◌, List, [], ◌∷◌, map, Bool, not, cond}
use Rattle.std.specs.List.{position, position_or_len}
use Rattle.std.proofs.lemmas.List.{length-map}

first_kept : {A B : Type 0} (f : A → B) (p : B → Bool) (xs : List A) → position_or_len (λ x. p (f x)) xs ≡ position_or_len p (map f xs)
first_kept f p [] = refl
first_kept f p (x ∷ xs) = ap (λ n. cond (not (p (f x))) (1 + n) 0) (first_kept f p xs)

pub place_kept : {A B : Type 0} (f : A → B) (p : B → Bool) (xs : List A) → position (λ x. p (f x)) xs ≡ position p (map f xs)
place_kept f p xs = rw (first_kept f p xs) (simp length-map)
