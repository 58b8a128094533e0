use Rattle.std.proofs.Common.{sym}
use Rattle.std.specs.Prelude.{◌^◌}
use Rattle.lane_counts.proofs.Noting.{few_more}
use Rattle.prompt_walks.proofs.LanesSoFar.{few_one, with_one}
use Rattle.prompt_walks.proofs.lanes_told.SoFar.and_step.Goals as goal

pub returns-clause-counted : goal.returns-clause-counted
returns-clause-counted c few p chosen stand later is at_line in_function =
    with_one p chosen c.args.self _ c.args.at.gang c.args.at.lanes c.args.of_line c.args.of_function stand later is.lanes (sym at_line) (sym in_function)
    (c.and_step_if-line.ensures few.line) (c.and_step_if-function.ensures few.function) (c.and_step_if-all.ensures few.all) c.width-width.ensures.value

pub returns-clause-few : goal.returns-clause-few
returns-clause-few c n few small =
    let old = c.args.self in
    few_one n old _ c.args.at.gang c.args.at.lanes c.args.of_line c.args.of_function
    (c.and_step_if-line.ensures (few_more old.line n (2 ^ 40) small few.line)) (c.and_step_if-function.ensures (few_more old.function n (2 ^ 40) small few.function))
    (c.and_step_if-all.ensures (few_more old.all n (2 ^ 40) small few.all)) c.width-width.ensures.value few
