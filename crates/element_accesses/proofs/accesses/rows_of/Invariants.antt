-- those that were come to have their rows
use Rattle.std.proofs.Common.{take}
use Rattle.element_accesses.specs.Rows.{AreRows}
use Rattle.element_accesses.specs.Views.{founds_view}
use Rattle.element_accesses.proofs.accesses.rows_of.Given as goal

abbrev pub invariant-loop-access : goal.invariant-loop-access
invariant-loop-access l = AreRows l.program l.rows.items (founds_view (take l.access-index l.access-items))
