-- A list that grows by one element.
use Rattle.std.proofs.Common.{◌≡◌, ℕ, ◌+◌, ◌<◌, List, [], ◌∷◌, ◌++◌, flat_map, map, length, take, get_or, ap, sym, ◌∙◌, add-one, append-nil, append_assoc}
use Rattle.std.proofs.Math.Seq.{take-suc}
use Rattle.std.proofs.lemmas.Grind.{flat_map-append}
use Rattle.std.proofs.lemmas.List.{map-append}

-- what becomes of a list with one element more
pub pushed : {A B : Type 0} (f : A → B) (xs ys : List A) (x : A) (y : B) (made : List B) → ys ≡ xs ++ x ∷ [] → f x ≡ y → map f xs ≡ made → map f ys ≡ made ++ y ∷ []
pushed f xs ys x y made are is so =
    ap (map f) are
    ∙ map-append f xs (x ∷ [])
    ∙ ap (λ fx. map f xs ++ fx ∷ []) is
    ∙ ap (λ zs. zs ++ y ∷ []) so

-- what is made for each of a list, behind a front, and for one of them more, at any default
pub made_behind : {A B : Type 0} (g : A → List B) (front : List B) (zs : List A) (i : ℕ) (d : A) (old new : List B) → i < length zs → old ≡ front ++ flat_map g (take i zs) → new ≡ old ++ g (get_or zs i d)
    → new ≡ front ++ flat_map g (take (i + 1) zs)
made_behind g front zs i d old new within so more =
    let z = get_or zs i d in
    more
    ∙ ap (λ made. made ++ g z) so
    ∙ append_assoc front (flat_map g (take i zs)) (g z)
    ∙ ap (λ last. front ++ (flat_map g (take i zs) ++ last)) (sym (append-nil (g z)))
    ∙ ap (λ made. front ++ made) (sym (flat_map-append g (take i zs) (z ∷ [])))
    ∙ ap (λ list. front ++ flat_map g list) (sym (take-suc zs i d within) ∙ ap (λ n. take n zs) (sym (add-one i)))
