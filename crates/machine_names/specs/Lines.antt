-- The lines that a breakpoint can stand on.
use Rattle.std.specs.Prelude.{ℕ, List, flat_map, map}
use Rattle.gang_model.specs.Types.Tree.{Function}

-- the lines of all steps and closing braces of functions
abbrev pub lines_in : List Function → List ℕ
lines_in functions = flat_map (λ f. map (λ standing. standing.place.line) f.standings) functions
