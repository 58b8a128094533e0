-- the variables before this one have other names, or are not listed
use Rattle.std.proofs.Common.{◌≡◌, length}
use Rattle.std.specs.Prelude.{map, slice_get}
use Rattle.gang_model.specs.Source.Names.{named}
use Rattle.gang_model.specs.Debugger.Positions.{scope_of}
use Rattle.ispc_names_table.specs.Scopes.{in_scope}
use Rattle.ispc_names_table.proofs.ListedNumbers.{is_listed, name_at}
use Rattle.typed_tree.specs.Views.{function_view, variable_view}
use Rattle.machine_names.proofs.Listed.{from_number, innermost_at}
use Rattle.machine_names.proofs.names.local_named.Given as goal

abbrev pub invariant-loop-number : goal.invariant-loop-number
invariant-loop-number g l =
    let ds = l.function.scopes.declarations.items in
    let test = is_listed (name_at ds) (in_scope ds (innermost_at (slice_get l.function.scopes.standings.items l.step))) in
    named l.name (from_number (map variable_view l.function.variables.items) test l.number (length ds)) ≡ named l.name (scope_of (slice_get (function_view l.function).standings l.step))
