-- what is noted of those that are left, behind those that were read
use Rattle.std.proofs.Common.{◌≡◌, [], drop, map}
use Rattle.adapter_session.specs.Given.{all_numbers}
use Rattle.adapter_session.specs.Terms.{carried_functions, function_of}
use Rattle.adapter_session.proofs.functions.carried_functions.Given as goal

abbrev pub invariant-loop-entry : goal.invariant-loop-entry
invariant-loop-entry l =
    carried_functions (map function_of l.functions) (all_numbers (drop l.entry-index l.old)) (all_numbers l.stops) (map function_of l.made.items)
    ≡ carried_functions (map function_of l.functions) (all_numbers l.old) (all_numbers l.fn.stops) []
