-- The line and the array of an access, as a person reads them.
use Rattle.std.specs.Prelude.{ℕ, List, [], Option, Some, None, slice_get}
use Rattle.gang_types.specs.declared.places.Spot.{Spot}
use Rattle.gang_types.specs.declared.places.VarId.{VarId}
use Rattle.gang_types.specs.declared.places.VarId.TheVariants.{File, Local}
use Rattle.ispc_names_table.specs.declared.table.Standing.{Standing}
use Rattle.typed_tree.specs.declared.program.Function.{Function}
use Rattle.typed_tree.specs.declared.program.Global.{Global}
use Rattle.typed_tree.specs.declared.program.Program.{Program}
use Rattle.typed_tree.specs.declared.program.Variable.{Variable}

-- the name of a variable of the file
abbrev pub file_name : Option Global → List ℕ
file_name None = []
file_name (Some global) = global.variable.name.items

-- the name of a variable of a function
abbrev pub local_name : Option Variable → List ℕ
local_name None = []
local_name (Some variable) = variable.name.items

-- the name of the variable of this number in a function
abbrev pub name_in : Option Function → ℕ → List ℕ
name_in None number = []
name_in (Some f) number = local_name (slice_get f.variables.items number)

-- the name of an array that stands in a step
abbrev pub array_name : Program → Spot → VarId → List ℕ
array_name p spot (File number) = file_name (slice_get p.globals.items number)
array_name p spot (Local number) = name_in (slice_get p.functions.items spot.function.0) number

-- the line of a step
abbrev pub line_in : Option Standing → ℕ
line_in None = 0
line_in (Some standing) = standing.place.line

-- the line of a step of a function, 0 where there is none
abbrev pub line_at : Option Function → (number : ℕ) → ℕ
line_at None number = 0
line_at (Some f) number = line_in (slice_get f.scopes.standings.items number)
