-- Names of functions among others.
use Rattle.std.specs.Prelude.{◌≡◌, refl, Bool, true, false, ◌||◌, List, [], ◌∷◌, map, find, Option, Some, is_some, if◌then◌else◌}
use Rattle.std.specs.List.{list_any}

found_or_later : {B : Type 0} (b : Bool) (y : B) (rest : Option B) (later : Bool) → is_some rest ≡ later → is_some (if b then Some y else rest) ≡ (b || later)
found_or_later true y rest later e = refl
found_or_later false y rest later e = e

-- something is found in the images of some exactly where one of them is what is looked for
pub found_any : {A B : Type 0} (p : B → Bool) (f : A → B) (xs : List A) → is_some (find p (map f xs)) ≡ list_any (λ x. p (f x)) xs
found_any p f [] = refl
found_any p f (x ∷ xs) = found_or_later (p (f x)) (f x) (find p (map f xs)) (list_any (λ x. p (f x)) xs) (found_any p f xs)
