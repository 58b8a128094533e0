-- Names and texts as lists of bytes, and the variable that a name stands for (a choice of this project).
use Rattle.std.specs.Prelude.{ℕ, ◌==◌, Bool, true, false, List, [], ◌∷◌, Option, find, if◌then◌else◌}
use Rattle.gang_model.specs.Types.Tree.{Variable}

-- whether two texts have the same bytes
abbrev pub same_text : List ℕ → List ℕ → Bool
same_text [] [] = true
same_text [] (y ∷ ys) = false
same_text (x ∷ xs) [] = false
same_text (x ∷ xs) (y ∷ ys) = if x == y then same_text xs ys else false

-- the first variable of this name
abbrev pub named : List ℕ → List Variable → Option Variable
named name variables = find (λ v. same_text v.name name) variables
