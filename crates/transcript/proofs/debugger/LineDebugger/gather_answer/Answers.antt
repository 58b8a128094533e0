use Rattle.transcript.proofs.Gathering.{fails_behind, says_behind}
use Rattle.transcript.proofs.debugger.LineDebugger.gather_answer.Goals as goal

pub returns-in-Ok-clause-said : goal.returns-in-Ok-clause-said
returns-in-Ok-clause-said g c s d st =
    says_behind g.Self.LineDebugger.stands s d c.args.line.now _ _ _ _ _ c.answer_line.result _ c.in-Ok.ensures.given c.in-Ok.ensures.none (c.answer_line.ensures.said s d st)

pub returns-in-Err-clause-said : goal.returns-in-Err-clause-said
returns-in-Err-clause-said g c s d st =
    fails_behind g.Self.LineDebugger.stands s d c.args.line.now c.args.self.now _ _ _ _ c.in-Err.ensures.given c.in-Err.ensures.none
