-- The lines of moments that were noted.
use Rattle.std.proofs.Common.{◌≡◌, ℕ, ◌+◌, ◌<◌, List, [], ◌∷◌, ◌++◌, length, map, take, get_or, refl, sym, ap, ◌∙◌}
use Rattle.std.specs.Prelude.{flat_map}
use Rattle.prompt_texts.proofs.Putting.{flat_more}
use Rattle.prompt_scenes.specs.declared.holding.Checkpoint.{Checkpoint}
use Rattle.prompt_scenes.specs.Holding.{noted_of}
use Rattle.prompt_moves.specs.Noted.{line_text}

of_each : (xs : List Checkpoint) → flat_map line_text (map noted_of xs) ≡ flat_map (λ x. line_text (noted_of x)) xs
of_each [] = refl
of_each (x ∷ xs) = ap (λ l. line_text (noted_of x) ++ l) (of_each xs)

-- those up to and with one
pub lines_more : (xs : List Checkpoint) (i : ℕ) (d : Checkpoint) → i < length xs
    → flat_map line_text (map noted_of (take (i + 1) xs)) ≡ flat_map line_text (map noted_of (take i xs)) ++ line_text (noted_of (get_or xs i d))
lines_more xs i d inside =
    of_each (take (i + 1) xs) ∙ flat_more (λ x. line_text (noted_of x)) xs i d inside
    ∙ sym (ap (λ l. l ++ line_text (noted_of (get_or xs i d))) (of_each (take i xs)))
