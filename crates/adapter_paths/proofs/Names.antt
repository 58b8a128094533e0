-- What is said of borrowed names, of the names themselves.
use Rattle.std.proofs.Common.{◌≡◌, ◌∙◌, ℕ, ◌-◌, ◌&&◌, List, [], ◌∷◌, ap, refl, sym, drop, length, map, nat_eq}
use Rattle.std.proofs.lemmas.List.{drop-map, length-map}
use Rattle.std.specs.Borrow.{Bor}
use Rattle.std.specs.List.{ends_with}
use Rattle.std.specs.Prelude.{Bool, bytes_eq}
use lib.Pointwise.{pointwise}
use Rattle.adapter_paths.specs.Ways.{ends_so, names_of}

abbrev name_eq : Bor (List ℕ) → Bor (List ℕ) → Bool
name_eq x y = bytes_eq x.now y.now

same_names : (xs ys : List (Bor (List ℕ))) → pointwise name_eq xs ys ≡ pointwise bytes_eq (names_of xs) (names_of ys)
same_names [] [] = refl
same_names [] (y ∷ ys) = refl
same_names (x ∷ xs) [] = refl
same_names (x ∷ xs) (y ∷ ys) = ap (λ others. bytes_eq x.now y.now && others) (same_names xs ys)

pub end_of : (way end : List (Bor (List ℕ))) → ends_with name_eq way end ≡ ends_so (names_of way) (names_of end)
end_of way end =
    let now = λ (name : Bor (List ℕ)). name.now in
    let n = length way - length end in
    same_names end (drop n way)
    ∙ ap (pointwise bytes_eq (names_of end)) (sym (drop-map now n way))
    ∙ ap (λ k. pointwise bytes_eq (names_of end) (drop k (names_of way))) (sym (ap (λ k. k - length (names_of end)) (length-map way now) ∙ ap (λ k. length way - k) (length-map end now)))
