-- Tests of every byte.
use Rattle.std.proofs.Common.{◌≡◌, ℕ, List, [], ◌∷◌, Bool, ◌&&◌, refl, ap, ◌∙◌}
use Rattle.std.specs.List.{list_all}
use Rattle.gang_model.specs.Texts.Spellings.{all_are}
use Rattle.gang_model.proofs.SameTexts.{if_and}

pub all_same : (test : ℕ → Bool) (xs : List ℕ) → list_all test xs ≡ all_are test xs
all_same test [] = refl
all_same test (x ∷ xs) = ap (λ t. test x && t) (all_same test xs) ∙ if_and (test x) (all_are test xs)
