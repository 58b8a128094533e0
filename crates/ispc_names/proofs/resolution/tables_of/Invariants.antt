use Rattle.std.proofs.Common.{◌≡◌, map, take}
use Rattle.gang_model.specs.Source.Parsed.{ParsedSource}
use Rattle.gang_model.specs.Names.Scope.{file_scope, standings_of}
use Rattle.ispc_names_table.specs.Scopes.{standings_view}
use Rattle.ispc_names.proofs.ItemSteps.{functions}
use Rattle.ispc_names.proofs.resolution.tables_of.Given as goal

abbrev pub invariant-loop-item : goal.invariant-loop-item
invariant-loop-item l = (source : ParsedSource) → map standings_view l.tables.items ≡ map (standings_of (file_scope source)) (functions (take l.item-index l.item-items))
