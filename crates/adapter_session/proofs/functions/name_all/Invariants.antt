-- the names of those that are left, behind those that were read
use Rattle.std.proofs.Common.{◌≡◌, drop, map}
use Rattle.adapter_session.specs.Changes.{asked_view}
use Rattle.adapter_session.specs.Given.{all_numbers}
use Rattle.adapter_session.specs.Terms.{all_named, function_of}
use Rattle.adapter_session.proofs.functions.name_all.Given as goal

abbrev pub invariant-loop-one : goal.invariant-loop-one
invariant-loop-one l =
    all_named (map asked_view (drop l.one-index l.asked)) (all_numbers l.stops) (map function_of l.functions.items) ≡ all_named (map asked_view l.asked) (all_numbers l.came) (map function_of l.fn.functions.items)
