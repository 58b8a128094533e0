-- The numbers of breakpoints and watches, as they are given and as the definitions have them.
use Rattle.std.proofs.Common.{◌≡◌, ℕ, List, [], ◌∷◌, refl, ap, ◌∙◌}
use Rattle.std.specs.Prelude.{◌==◌, ◌||◌}
use Rattle.std.specs.List.{list_any}
use Rattle.gang_model.specs.Debugger.Debugger.{Setting, Stop}
use Rattle.debug_answers.specs.declared.stops.NumberedStop.{NumberedStop}
use Rattle.debug_answers.specs.Meanings.{AreStops}
use Rattle.prompt_scenes.specs.Conditions.{is_there}

-- a number is given where it is meant
pub same_numbers : (s : Setting) (n : ℕ) (given : List NumberedStop) (meant : List (ℕ × Stop)) → AreStops s given meant → list_any (λ (entry : NumberedStop). entry.number == n) given ≡ is_there n meant
same_numbers s n [] [] are = refl
same_numbers s n [] (entry ∷ meant) are = absurd are
same_numbers s n (first ∷ given) [] are = absurd are
same_numbers s n (first ∷ given) (entry ∷ meant) (number, stop, others) =
    ap (λ k. (k == n) || list_any (λ (entry : NumberedStop). entry.number == n) given) number ∙ ap (λ b. (entry.0 == n) || b) (same_numbers s n given meant others)
