-- what is carried to those that are left, behind those that were read
use Rattle.std.proofs.Common.{◌≡◌, [], drop}
use Rattle.log_points.specs.Points.{logs_of}
use Rattle.adapter_session.specs.Given.{all_numbers}
use Rattle.adapter_session.specs.Terms.{carried_logs}
use Rattle.adapter_session.proofs.logging.carried_logs.Given as goal

abbrev pub invariant-loop-entry : goal.invariant-loop-entry
invariant-loop-entry l =
    (l.logs.terms ≡ l.fn.terms)
    × (carried_logs (logs_of l.asked) (all_numbers (drop l.entry-index l.old)) (all_numbers l.stops) (logs_of l.logs) ≡ carried_logs (logs_of l.asked) (all_numbers l.old) (all_numbers l.fn.stops) [])
