-- The definitions worked out by hand.
use Rattle.std.proofs.Common.{◌≡◌, ℕ, List, [], ◌∷◌, map, Some, None, codes, refl}
use Rattle.gang_types.specs.declared.types.IntType.TheVariants.{Int32}
use Rattle.gang_types.specs.declared.types.Rate.TheVariants.{Uniform}
use Rattle.gang_model.specs.Types.Tree.{Empty, Function, Program, Standing}
use Rattle.function_lines.specs.Lines.{first_line, function_line}

-- a function whose steps stand on these lines, in the order of their numbers
abbrev standing : ℕ → Standing
standing line = record { place = record { line = line; col = 5 }; scope = [] }

abbrev function : List ℕ → List ℕ → Function
function name lines = record { name = name; result = Uniform; result_type = Int32; body = Empty; standings = map standing lines }

-- the test of a `while` has the last number and stands first
a_loop : first_line (function (codes "f") (6 ∷ 7 ∷ 5 ∷ 8 ∷ [])) ≡ Some 5
a_loop = refl

abbrev program : Program
program = record { functions = function (codes "f") (2 ∷ 3 ∷ []) ∷ function (codes "g") (6 ∷ []) ∷ function (codes "f") (9 ∷ []) ∷ []; globals = [] }

-- an empty function stands on its closing brace
an_empty_function : function_line program (codes "g") ≡ Some 6
an_empty_function = refl

-- the first of two of one name
the_first : function_line program (codes "f") ≡ Some 2
the_first = refl

-- a name is not a part of one
a_longer_name : function_line program (codes "gg") ≡ None
a_longer_name = refl
