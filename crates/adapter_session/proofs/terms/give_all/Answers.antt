use Rattle.std.proofs.Common.{map}
use Rattle.conditional_stops.specs.Views.{table_of}
use Rattle.adapter_session.specs.Changes.{asked_view}
use Rattle.adapter_session.specs.Given.{all_numbers}
use Rattle.adapter_session.specs.Terms.{numbered}
use Rattle.adapter_session.proofs.TermLists.{gives_end, gives_more}
use Rattle.adapter_session.proofs.terms.give_all.Goals as goal

pub loop-one-preserved : goal.loop-one-preserved
loop-one-preserved c =
    let asked = c.args.asked.now in
    gives_more asked c.loop-one.one-index _ (all_numbers c.loop-one.stops.now) (all_numbers c.give_next-stops.result.now) (table_of c.loop-one.table) (table_of c.give_next-stops.new.table)
    (numbered (map asked_view asked) (all_numbers c.args.came.now) (table_of c.args.table.now)) c.loop-one-test.true c.give_next-stops.ensures.given c.give_next-stops.ensures.behind c.loop-one.invariant

pub returns : goal.returns
returns c =
    let asked = c.args.asked.now in
    gives_end asked c.loop-one.one-index (all_numbers c.loop-one.stops.now) (table_of c.loop-one.table) (numbered (map asked_view asked) (all_numbers c.args.came.now) (table_of c.args.table.now)) c.loop-one-test.false c.loop-one.invariant
