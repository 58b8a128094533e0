use Rattle.std.proofs.Common.{ap, ◌∙◌, map}
use Rattle.adapter_session.specs.Changes.{asked_view}
use Rattle.adapter_session.specs.Given.{all_numbers}
use Rattle.adapter_session.specs.Terms.{all_named, first_named, function_of}
use Rattle.adapter_session.proofs.FunctionLists.{names_end, names_more}
use Rattle.adapter_session.proofs.functions.name_all.Goals as goal

pub loop-one-preserved : goal.loop-one-preserved
loop-one-preserved c =
    let asked = c.args.asked.now in
    let before = all_numbers c.loop-one.stops.now in
    let old = map function_of c.loop-one.functions.items in
    names_more asked c.loop-one.one-index _ before (all_numbers c.name_next-stops.result.now) old (map function_of c.name_next-stops.new.functions.items)
    (all_named (map asked_view asked) (all_numbers c.args.came.now) (map function_of c.args.functions.now.items)) c.loop-one-test.true (c.name_next-stops.ensures.noted ∙ ap (λ name. first_named before name old) c.bytes_of.ensures)
    c.name_next-stops.ensures.behind c.loop-one.invariant

pub returns : goal.returns
returns c =
    let asked = c.args.asked.now in
    names_end asked c.loop-one.one-index (all_numbers c.loop-one.stops.now) (map function_of c.loop-one.functions.items) (all_named (map asked_view asked) (all_numbers c.args.came.now) (map function_of c.args.functions.now.items))
    c.loop-one-test.false c.loop-one.invariant
