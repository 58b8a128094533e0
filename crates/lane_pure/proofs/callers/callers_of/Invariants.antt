-- the calls of the functions that are left are still to be put
use Rattle.std.proofs.Common.{◌≡◌, [], drop, length, map}
use Rattle.std.specs.Prelude.{replicate}
use Rattle.typed_tree.specs.Views.{function_view, program_view}
use Rattle.lane_pure.specs.Callers.{lists, with_functions}
use Rattle.lane_pure.proofs.callers.callers_of.Given as goal

abbrev pub invariant-loop-number : goal.invariant-loop-number
invariant-loop-number l = with_functions l.number (map function_view (drop l.number l.function-items)) (lists l.callers.items)
    ≡ with_functions 0 (program_view l.fn.program).functions (replicate (length (program_view l.fn.program).functions) [])
