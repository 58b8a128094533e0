-- The lines of a program's functions, by their names.
use Rattle.std.specs.Prelude.{ℕ, List, [], ◌∷◌, map, Option, None, if◌then◌else◌}
use Rattle.gang_model.specs.Debugger.Debugger.{least_from}
use Rattle.gang_model.specs.Source.Names.{same_text}
use Rattle.gang_model.specs.Types.Tree.{Function, Program}

-- the first line of a function on which a step stands, or its closing brace
abbrev pub first_line : Function → Option ℕ
first_line f = least_from 0 (map (λ standing. standing.place.line) f.standings)

-- that of the first function of a name
abbrev pub line_in : List Function → (name : List ℕ) → Option ℕ
line_in [] name = None
line_in (f ∷ functions) name = if same_text f.name name then first_line f else line_in functions name

-- the same in a program
abbrev pub function_line : Program → (name : List ℕ) → Option ℕ
function_line program name = line_in program.functions name
