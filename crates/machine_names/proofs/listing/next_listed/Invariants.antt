-- those from this number on are those from the first number on
use Rattle.std.proofs.Common.{◌≡◌, ◌≤◌, length}
use Rattle.std.specs.Prelude.{map, slice_get}
use Rattle.ispc_names_table.specs.Scopes.{in_scope}
use Rattle.ispc_names_table.proofs.ListedNumbers.{is_listed, name_at}
use Rattle.typed_tree.specs.Views.{variable_view}
use Rattle.machine_names.proofs.Listed.{innermost_at, kind_from}
use Rattle.machine_names.proofs.listing.next_listed.Given as goal

abbrev pub invariant-loop-number : goal.invariant-loop-number
invariant-loop-number g l =
    let vs = map variable_view l.function.variables.items in
    let ds = l.function.scopes.declarations.items in
    let test = is_listed (name_at ds) (in_scope ds (innermost_at (slice_get l.function.scopes.standings.items l.step))) in
    (kind_from l.kind vs test l.from (length ds) ≡ kind_from l.kind vs test l.number (length ds)) × (l.from ≤ l.number)
