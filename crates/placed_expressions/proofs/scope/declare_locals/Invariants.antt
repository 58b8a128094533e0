-- the last variables of the function that are in scope are declared
use Rattle.std.proofs.Common.{◌≡◌, ◌++◌, length}
use Rattle.std.specs.Prelude.{map, slice_get}
use Rattle.ispc_names_table.specs.Scopes.{in_scope}
use Rattle.ispc_names_table.proofs.ListedNumbers.{is_listed, name_at}
use Rattle.typed_tree.specs.Views.{variable_view}
use Rattle.machine_names.proofs.Listed.{from_number, innermost_at}
use Rattle.frame_expressions.specs.Meanings.{variable_entry}
use Rattle.placed_expressions.proofs.scope.declare_locals.Given as goal

abbrev pub invariant-loop-number : goal.invariant-loop-number
invariant-loop-number l =
    let ds = l.function.scopes.declarations.items in
    let test = is_listed (name_at ds) (in_scope ds (innermost_at (slice_get l.function.scopes.standings.items l.step))) in
    l.scope.entries ≡ map variable_entry (from_number (map variable_view l.function.variables.items) test l.number (length ds)) ++ l.fn.scope.entries
