use Rattle.std.proofs.Common.{◌∙◌, map}
use Rattle.log_points.specs.Points.{logs_of}
use Rattle.adapter_session.specs.Changes.{asked_view}
use Rattle.adapter_session.specs.Given.{all_numbers}
use Rattle.adapter_session.specs.Terms.{logged}
use Rattle.adapter_session.proofs.LogLists.{logs_end, logs_more}
use Rattle.adapter_session.proofs.logging.log_all.Goals as goal

pub loop-one-preserved : goal.loop-one-preserved
loop-one-preserved c =
    let asked = c.args.asked.now in (
      c.log_next-stops.ensures.terms ∙ c.loop-one.invariant.0,
      logs_more asked c.loop-one.one-index _ (all_numbers c.loop-one.stops.now) (all_numbers c.log_next-stops.result.now) (logs_of c.loop-one.logs) (logs_of c.log_next-stops.new.logs)
          (logged (map asked_view asked) (all_numbers c.args.came.now) (logs_of c.args.logs.now)) c.loop-one-test.true c.log_next-stops.ensures.given c.log_next-stops.ensures.behind c.loop-one.invariant.1,
    )

pub returns-clause-points : goal.returns-clause-points
returns-clause-points c =
    let asked = c.args.asked.now in
    logs_end asked c.loop-one.one-index (all_numbers c.loop-one.stops.now) (logs_of c.loop-one.logs) (logged (map asked_view asked) (all_numbers c.args.came.now) (logs_of c.args.logs.now)) c.loop-one-test.false c.loop-one.invariant.1

pub returns-clause-terms : goal.returns-clause-terms
returns-clause-terms c = c.loop-one.invariant.0
