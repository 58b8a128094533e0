-- what is carried to those that are left, behind those that were read
use Rattle.std.proofs.Common.{◌≡◌, drop}
use Rattle.conditional_stops.specs.Tables.{nothing}
use Rattle.conditional_stops.specs.Views.{table_of}
use Rattle.adapter_session.specs.Given.{all_numbers}
use Rattle.adapter_session.specs.Terms.{carried}
use Rattle.adapter_session.proofs.terms.carried.Given as goal

abbrev pub invariant-loop-entry : goal.invariant-loop-entry
invariant-loop-entry l =
    carried (table_of l.asked) (all_numbers (drop l.entry-index l.old)) (all_numbers l.stops) (table_of l.table) ≡ carried (table_of l.asked) (all_numbers l.old) (all_numbers l.fn.stops) nothing
