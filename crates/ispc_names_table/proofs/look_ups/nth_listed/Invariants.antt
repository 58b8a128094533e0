use Rattle.std.proofs.Common.{◌≡◌, length}
use Rattle.std.specs.Prelude.{slice_get}
use Rattle.ispc_names_table.specs.Scopes.{in_scope}
use Rattle.ispc_names_table.proofs.ListedNumbers.{is_listed, name_at, passing}
use Rattle.ispc_names_table.proofs.look_ups.nth_listed.Given as goal

abbrev pub invariant-loop-number : goal.invariant-loop-number
invariant-loop-number l =
    slice_get (passing (is_listed (name_at l.declarations) (in_scope l.declarations l.innermost)) l.number (length l.declarations)) l.left
    ≡ slice_get (passing (is_listed (name_at l.declarations) (in_scope l.declarations l.innermost)) 0 (length l.declarations)) l.k
