use Rattle.std.proofs.Common.{sym, ◌∙◌}
use Rattle.transcript.proofs.Gathering.{given_all, given_front, given_none, works_still}
use Rattle.transcript.proofs.answering.answer_piece.Goals as goal

pub returns-in-Fails-clause-answered : goal.returns-in-Fails-clause-answered
returns-in-Fails-clause-answered g c s d begun st is =
    given_none g.D.LineDebugger.stands s d begun _ _ _ _ _ _ (c.in-Fails.ensures.answered s d begun st is)

pub returns-in-Ok : goal.returns-in-Ok
returns-in-Ok g c =
    record {
      answered = λ s d begun st is. given_all g.D.LineDebugger.stands s d begun _ c.gather_piece.result _ _ _ _ _ _ (c.gather_piece.ensures.answered s d begun st is) c.in-Ok.ensures.given;
      failed = c.in-Ok.ensures.failed ∙ sym (works_still c.gather_piece.result c.in_default.not-Fails);
      none = λ goes. c.in-Ok.ensures.none;
      room = c.in-Ok.ensures.same_room ∙ c.gather_piece.ensures.room;
    }

pub returns-in-Err : goal.returns-in-Err
returns-in-Err g c =
    record {
      answered = λ s d begun st is.
          given_front g.D.LineDebugger.stands s d begun _ c.gather_piece.result _ _ _ _ _ _ c.in_default.not-Fails (c.gather_piece.ensures.answered s d begun st is) c.in-Err.ensures.given;
      failed = c.in-Err.ensures.failed;
      none = λ goes. c.in-Err.ensures.none;
      room = c.in-Err.ensures.same_room ∙ c.gather_piece.ensures.room;
    }
