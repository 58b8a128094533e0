use Rattle.std.proofs.Common.{[], ap, ◌∙◌}
use Rattle.conditional_stops.specs.Views.{table_of}
use Rattle.log_points.specs.Points.{logs_of}
use Rattle.adapter_session.specs.Given.{all_numbers}
use Rattle.adapter_session.specs.Terms.{carried_logs}
use Rattle.adapter_session.proofs.LogLists.{carried_end, carries_log}
use Rattle.adapter_session.proofs.logging.carried_logs.Goals as goal

pub loop-entry-init : goal.loop-entry-init
loop-entry-init c = (
  c.new-logs.ensures.terms,
  ap (carried_logs (logs_of c.args.asked.now) (all_numbers c.args.old.now) (all_numbers c.args.stops.now)) c.new-logs.ensures.points,
)

pub loop-entry-preserved : goal.loop-entry-preserved
loop-entry-preserved c =
    let asked = logs_of c.args.asked.now in
    let old = c.args.old.now in (
      c.carry_log-stops.ensures.terms ∙ c.loop-entry.invariant.0,
      carries_log asked old c.loop-entry.entry-index _ (all_numbers c.loop-entry.stops.now) (all_numbers c.carry_log-stops.result.now) (logs_of c.loop-entry.logs) (logs_of c.carry_log-stops.new.logs)
          (carried_logs asked (all_numbers old) (all_numbers c.args.stops.now) []) c.loop-entry-test.true c.carry_log-stops.ensures.given c.carry_log-stops.ensures.behind c.loop-entry.invariant.1,
    )

pub returns-clause-points : goal.returns-clause-points
returns-clause-points c =
    let asked = logs_of c.args.asked.now in
    let old = c.args.old.now in
    carried_end asked old c.loop-entry.entry-index (all_numbers c.loop-entry.stops.now) (logs_of c.loop-entry.logs) (carried_logs asked (all_numbers old) (all_numbers c.args.stops.now) []) c.loop-entry-test.false c.loop-entry.invariant.1

pub returns-clause-terms : goal.returns-clause-terms
returns-clause-terms c = ap table_of c.loop-entry.invariant.0
