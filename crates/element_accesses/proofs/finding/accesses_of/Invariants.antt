-- those of the functions that are left are still to be added
use Rattle.std.proofs.Common.{◌≡◌, ◌++◌, drop, map}
use Rattle.typed_tree.specs.Views.{function_view, program_view}
use Rattle.element_accesses.specs.Found.{accesses_from, accesses_of}
use Rattle.element_accesses.specs.Views.{founds_view}
use Rattle.element_accesses.proofs.finding.accesses_of.Given as goal

abbrev pub invariant-loop-number : goal.invariant-loop-number
invariant-loop-number l = founds_view l.found.items ++ accesses_from l.number (map function_view (drop l.number l.function-items)) ≡ accesses_of (program_view l.fn.program)
