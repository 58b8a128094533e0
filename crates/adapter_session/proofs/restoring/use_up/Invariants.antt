-- the numbers before this one were used up
use Rattle.gang_model.specs.Debugger.Debugger.{Debugger, Setting}
use Rattle.debug_session.specs.Sessions.{StandsFor}
use Rattle.adapter_session.proofs.MadeAnew.{Using}
use Rattle.adapter_session.proofs.restoring.use_up.Given as goal

abbrev pub invariant-loop-used : goal.invariant-loop-used
invariant-loop-used g l = (t : Setting) (e : Debugger) → StandsFor g.M.RecordedMachine.stands l.fn.session t e → Using g.M.RecordedMachine.stands t l.next l.number e l.used l.session
