-- the stops so far were made anew, or could not be
use Rattle.std.proofs.Common.{drop, map}
use Rattle.gang_model.specs.Debugger.Debugger.{Debugger, Setting}
use Rattle.debug_session.specs.Sessions.{StandsFor}
use Rattle.adapter_session.specs.Given.{all_numbers}
use Rattle.adapter_session.specs.Terms.{function_of}
use Rattle.adapter_session.proofs.MadeAnew.{Restoring}
use Rattle.adapter_session.proofs.restoring.restore_all.Given as goal

abbrev pub invariant-loop-index : goal.invariant-loop-index
invariant-loop-index g l =
    (s t : Setting) (d e : Debugger) → StandsFor g.M.RecordedMachine.stands l.old s d → StandsFor g.M.RecordedMachine.stands l.fn.session t e
    → Restoring g.M.RecordedMachine.stands t (map function_of l.functions) d.stops e l.next (drop l.index d.stops) (all_numbers l.made.items) l.session
