-- The variables of a function that are in scope at its steps, from the links between declarations.
use Rattle.std.specs.Prelude.{ℕ, ◌==◌, List, [], ◌∷◌, ◌++◌, length, map, Option, Some, None, if◌then◌else◌}
use Rattle.gang_types.specs.declared.places.VarId.TheVariants.{Local}
use Rattle.gang_model.specs.Names.Scope.{Environment, NameStanding, bound, unhidden}
use Rattle.ispc_names_table.specs.declared.table.Declaration.{Declaration}
use Rattle.ispc_names_table.specs.declared.table.Standing.{Standing}
use Rattle.ispc_names_table.specs.declared.table.StepScopes.{StepScopes}

-- the last declaration first
abbrev pub newest_first : List Declaration → List Declaration
newest_first [] = []
newest_first (d ∷ ds) = newest_first ds ++ d ∷ []

-- from a variable on, the innermost first, along the links; the declarations stand newest first
abbrev pub linked : List Declaration → Option ℕ → Environment
linked [] innermost = []
linked (d ∷ older) None = []
linked (d ∷ older) (Some k) = if k == length older then bound d.name.items (Local k) ∷ linked older d.outside else linked older (Some k)

-- the variables in scope from a variable on, the innermost first
abbrev pub in_scope : List Declaration → Option ℕ → Environment
in_scope ds innermost = linked (newest_first ds) innermost

-- a step, with what the debugger lists there
abbrev pub standing_view : List Declaration → Standing → NameStanding
standing_view ds s = record { place = s.place; names = unhidden (in_scope ds s.innermost) }

-- the steps, with what the debugger lists at each
abbrev pub standings_view : StepScopes → List NameStanding
standings_view t = map (standing_view t.declarations.items) t.standings.items
