use Rattle.conditional_stops.specs.Tables.{nothing}
use Rattle.conditional_stops.specs.Views.{table_of}
use Rattle.adapter_session.specs.Given.{all_numbers}
use Rattle.adapter_session.specs.Terms.{carried}
use Rattle.adapter_session.proofs.TermLists.{carries_end, carries_more}
use Rattle.adapter_session.proofs.terms.carried.Goals as goal

pub loop-entry-preserved : goal.loop-entry-preserved
loop-entry-preserved c =
    let asked = table_of c.args.asked.now in
    let old = c.args.old.now in
    carries_more asked old c.loop-entry.entry-index _ (all_numbers c.loop-entry.stops.now) (all_numbers c.carry-stops.result.now) (table_of c.loop-entry.table) (table_of c.carry-stops.new.table)
    (carried asked (all_numbers old) (all_numbers c.args.stops.now) nothing) c.loop-entry-test.true c.carry-stops.ensures.given c.carry-stops.ensures.behind c.loop-entry.invariant

pub returns : goal.returns
returns c =
    let asked = table_of c.args.asked.now in
    let old = c.args.old.now in
    carries_end asked old c.loop-entry.entry-index (all_numbers c.loop-entry.stops.now) (table_of c.loop-entry.table) (carried asked (all_numbers old) (all_numbers c.args.stops.now) nothing) c.loop-entry-test.false c.loop-entry.invariant
