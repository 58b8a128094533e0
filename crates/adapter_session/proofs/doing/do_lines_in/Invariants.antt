-- the lines so far were done
use Rattle.std.proofs.Common.{map, string_bytes, take}
use Rattle.gang_model.specs.Debugger.Debugger.{Debugger, Setting}
use Rattle.debug_session.specs.Sessions.{StandsFor}
use Rattle.adapter_session.specs.Doing.{DoesLinesIn}
use Rattle.adapter_session.proofs.doing.do_lines_in.Given as goal

abbrev pub invariant-loop-line : goal.invariant-loop-line
invariant-loop-line g l = (s : Setting) (d : Debugger) → StandsFor g.M.RecordedMachine.stands l.fn.session s d
    → DoesLinesIn g.M.RecordedMachine.stands s l.frame (map string_bytes (take l.line-index l.lines)) d l.last l.session
