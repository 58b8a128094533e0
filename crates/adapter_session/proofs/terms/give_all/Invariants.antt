-- what those that are left get, behind those that were read
use Rattle.std.proofs.Common.{◌≡◌, drop, map}
use Rattle.conditional_stops.specs.Views.{table_of}
use Rattle.adapter_session.specs.Changes.{asked_view}
use Rattle.adapter_session.specs.Given.{all_numbers}
use Rattle.adapter_session.specs.Terms.{numbered}
use Rattle.adapter_session.proofs.terms.give_all.Given as goal

abbrev pub invariant-loop-one : goal.invariant-loop-one
invariant-loop-one l = numbered (map asked_view (drop l.one-index l.asked)) (all_numbers l.stops) (table_of l.table) ≡ numbered (map asked_view l.asked) (all_numbers l.came) (table_of l.fn.table)
