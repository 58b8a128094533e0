-- Lines of the console, one more for each text.
use Rattle.std.proofs.Common.{◌≡◌, ℕ, ◌+◌, ◌<◌, List, [], ◌∷◌, ◌++◌, map, length, take, get_or, ap, sym, ◌∙◌, add-one}
use Rattle.std.proofs.Math.Seq.{take-suc}
use Rattle.std.proofs.lemmas.List.{map-append}

-- what is made for each of a list, and for one of them more, at any default
pub one_more : {A B : Type 0} (view : A → B) (made : B → B) (xs : List A) (i : ℕ) (d : A) (old new : List A) (line : A) → i < length xs → map view old ≡ map made (map view (take i xs)) → new ≡ old ++ line ∷ [] → view line ≡ made (view (get_or xs i d))
    → map view new ≡ map made (map view (take (i + 1) xs))
one_more view made xs i d old new line within so is one =
    let x = get_or xs i d in
    ap (map view) is
    ∙ map-append view old (line ∷ [])
    ∙ ap (λ l. map view old ++ l ∷ []) one
    ∙ ap (λ front. front ++ made (view x) ∷ []) so
    ∙ sym (map-append made (map view (take i xs)) (view x ∷ []))
    ∙ ap (map made) (sym (map-append view (take i xs) (x ∷ [])))
    ∙ ap (λ list. map made (map view list)) (sym (take-suc xs i d within) ∙ ap (λ n. take n xs) (sym (add-one i)))
