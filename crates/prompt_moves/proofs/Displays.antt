-- What is displayed, one after another.
use Rattle.std.proofs.Common.{◌≡◌, ℕ, ◌+◌, List, [], ◌∷◌, ◌++◌, map, take, refl, sym, ap, ◌∙◌, append_assoc, append-nil}
use Rattle.std.proofs.lemmas.List.{map-append}
use Rattle.gang_model.specs.Texts.CommandText.{command_of}
use Rattle.prompt_scenes.specs.declared.holding.Displayed.{Displayed}
use Rattle.prompt_scenes.specs.Readings.{print_of}
use Rattle.prompt_scenes.specs.Holding.{entry_of}
use Rattle.prompt_moves.specs.Following.{printed, shown}

-- some, and then others
shown-append : (xs ys : List (ℕ × List ℕ)) → shown (xs ++ ys) ≡ shown xs ++ shown ys
shown-append [] ys = refl
shown-append (x ∷ xs) ys =
    ap (λ cs. printed (print_of (command_of x.1)) ++ cs) (shown-append xs ys) ∙ sym (append_assoc (printed (print_of (command_of x.1))) (shown xs) (shown ys))

-- one more
pub shown_next : (xs : List Displayed) (i : ℕ) (x : Displayed) → take (i + 1) xs ≡ take i xs ++ x ∷ []
    → shown (map entry_of (take i xs)) ++ printed (print_of (command_of x.text.items)) ≡ shown (map entry_of (take (i + 1) xs))
shown_next xs i x more =
    ap (λ cs. shown (map entry_of (take i xs)) ++ cs) (sym (append-nil (printed (print_of (command_of x.text.items)))))
    ∙ sym (shown-append (map entry_of (take i xs)) (entry_of x ∷ []))
    ∙ ap shown (sym (map-append entry_of (take i xs) (x ∷ [])) ∙ ap (map entry_of) (sym more))
