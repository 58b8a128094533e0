-- The lines of functions, from one on.
use Rattle.std.proofs.Common.{◌≡◌, ℕ, ◌+◌, ◌<◌, Bool, List, ◌∷◌, ◌++◌, length, drop, get_or, sym, ap, ◌∙◌, append_assoc, arith}
use Rattle.std.proofs.lemmas.List.{drop_more}
use Rattle.gang_model.specs.Source.Parsed.{ParsedFunction}
use Rattle.gang_model.specs.Texts.Text.{Bytes}
use Rattle.lane_report.specs.Reports.{function_line, function_lines}

-- where there is an answer for each of the functions that are left, there is one for the first, and for each of the others
module _ (f : ParsedFunction) (left others : List ParsedFunction) (first : left ≡ f ∷ others) (answers : List Bool) (n : ℕ) (all : n + length left ≡ length answers) where
  pub one_more : n + 1 + length others ≡ length answers
  one_more = let longer = ap length first in omega (arith, longer, all)

  pub is_answered : n < length answers
  is_answered = let more = one_more in omega (arith, more)

  -- its line, and those of the others
  pub line_first : (whole front : Bytes) (d : Bool) → whole ≡ front ++ function_lines left (drop n answers)
      → whole ≡ front ++ (function_line f (get_or answers n d) ++ function_lines others (drop (n + 1) answers))
  line_first whole front d is =
      is ∙ ap (λ fs. front ++ function_lines fs (drop n answers)) first ∙ ap (λ l. front ++ function_lines (f ∷ others) l) (drop_more answers n d is_answered)

  pub line_done : (whole front : Bytes) (d : Bool) → whole ≡ front ++ function_lines left (drop n answers)
      → whole ≡ (front ++ function_line f (get_or answers n d)) ++ function_lines others (drop (n + 1) answers)
  line_done whole front d is =
      line_first whole front d is ∙ sym (append_assoc front (function_line f (get_or answers n d)) (function_lines others (drop (n + 1) answers)))
