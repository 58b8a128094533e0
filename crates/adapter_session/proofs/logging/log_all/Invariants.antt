-- the messages of those that are left, behind those that were read
use Rattle.std.proofs.Common.{◌≡◌, drop, map}
use Rattle.log_points.specs.Points.{logs_of}
use Rattle.adapter_session.specs.Changes.{asked_view}
use Rattle.adapter_session.specs.Given.{all_numbers}
use Rattle.adapter_session.specs.Terms.{logged}
use Rattle.adapter_session.proofs.logging.log_all.Given as goal

abbrev pub invariant-loop-one : goal.invariant-loop-one
invariant-loop-one l =
    (l.logs.terms ≡ l.fn.logs.terms)
    × (logged (map asked_view (drop l.one-index l.asked)) (all_numbers l.stops) (logs_of l.logs) ≡ logged (map asked_view l.asked) (all_numbers l.came) (logs_of l.fn.logs))
