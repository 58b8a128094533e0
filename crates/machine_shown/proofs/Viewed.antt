-- What stands at an index of a list that is viewed.
use Rattle.std.proofs.Common.{ℕ, ◌<◌, ◌≤◌, ◌≡◌, ◌∙◌, refl, sym, ap, arith, List, length, get_or, map, Some, None}
use Rattle.std.specs.Prelude.{option_map, slice_get}
use Rattle.std.proofs.lemmas.List.{length-map}
use Rattle.std.proofs.lemmas.Option.{slice_get-map, slice_get_past, slice_get_read, slice_get_within}

-- an item that was read from a copy of a list
pub read_at : {A : Type 0} (items xs : List A) (i : ℕ) (x : A) → xs ≡ items → i < length xs → x ≡ get_or xs i x → slice_get items i ≡ Some x
read_at items xs i x same below is = ap (λ ys. slice_get ys i) (sym same) ∙ slice_get_read xs (length xs) i x refl below is

module _ {A B : Type 0} (view : A → B) (xs : List A) (n : ℕ) where
  pub viewed_at : (x : A) → slice_get xs n ≡ Some x → slice_get (map view xs) n ≡ Some (view x)
  viewed_at x is = slice_get-map view xs n ∙ ap (option_map view) is

  pub viewed_past : length xs ≤ n → slice_get (map view xs) n ≡ None
  viewed_past few = slice_get-map view xs n ∙ ap (option_map view) (slice_get_past xs n few)

  pub viewed_within : (y : B) → slice_get (map view xs) n ≡ Some y → n < length xs
  viewed_within y e = let within : n < length (map view xs) = slice_get_within (map view xs) n y e in omega (arith, within, length-map xs view)
