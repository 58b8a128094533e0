use Rattle.std.proofs.Common.{[], ap, ◌∙◌, map}
use Rattle.adapter_session.specs.Given.{all_numbers}
use Rattle.adapter_session.specs.Terms.{carried_functions, first_named, function_of}
use Rattle.adapter_session.proofs.FunctionLists.{carries_function, functions_end}
use Rattle.adapter_session.proofs.functions.carried_functions.Goals as goal

pub loop-entry-init : goal.loop-entry-init
loop-entry-init c =
    ap (λ items. carried_functions (map function_of c.args.functions.now) (all_numbers c.args.old.now) (all_numbers c.args.stops.now) (map function_of items)) c.new-made.ensures

pub loop-entry-preserved : goal.loop-entry-preserved
loop-entry-preserved c =
    let functions = map function_of c.args.functions.now in
    let old = c.args.old.now in
    let before = all_numbers c.loop-entry.stops.now in
    let made = map function_of c.loop-entry.made.items in
    carries_function functions old c.loop-entry.entry-index _ before (all_numbers c.name_next-stops.result.now) made (map function_of c.name_next-stops.new.functions.items)
    (carried_functions functions (all_numbers old) (all_numbers c.args.stops.now) []) c.loop-entry-test.true
    (c.name_next-stops.ensures.noted ∙ ap (λ name. first_named before name made) c.name_of.ensures) c.name_next-stops.ensures.behind c.loop-entry.invariant

pub returns : goal.returns
returns c =
    let functions = map function_of c.args.functions.now in
    let old = c.args.old.now in
    functions_end functions old c.loop-entry.entry-index (all_numbers c.loop-entry.stops.now) (map function_of c.loop-entry.made.items) (carried_functions functions (all_numbers old) (all_numbers c.args.stops.now) [])
    c.loop-entry-test.false c.loop-entry.invariant
