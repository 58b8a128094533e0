-- The steps of all functions of a source.
use Rattle.std.specs.Prelude.{◌≡◌, List, map}
use Rattle.gang_model.specs.Source.Parsed.{ParsedSource, functions_in}
use Rattle.gang_model.specs.Names.Scope.{file_scope, standings_of}
use Rattle.ispc_names_table.specs.declared.table.StepScopes.{StepScopes}
use Rattle.ispc_names_table.specs.Scopes.{standings_view}

-- the steps of the functions of a source, by the numbers of the functions, with what is listed at each
abbrev pub AreTablesOf : ParsedSource → List StepScopes → Type 0
AreTablesOf source tables = map standings_view tables ≡ map (standings_of (file_scope source)) (functions_in source)
