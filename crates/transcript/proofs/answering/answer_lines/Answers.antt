use Rattle.std.proofs.Common.{rules, ◌<◌, [], ◌++◌, length, take, refl, sym, subst, arith}
use Rattle.std.proofs.KnownBytes.{Consumes-nil, Consumes-trans, Consumes-kept}
use Rattle.transcript.specs.declared.debugger.Turn.TheVariants.{Goes}
use Rattle.transcript.specs.Answered.{after_replies, begun_after}
use Rattle.transcript.proofs.PieceAnswers.{IsEnded, answers_last, consumes_none, ends_at, ends_before, ends_fault, piece_none, piece_then}
use Rattle.transcript.proofs.Turns.{no_turn, piece_answered, some_came, turn_more, turn_taken, turns_taken}
use Rattle.transcript.proofs.answering.answer_lines.Goals as goal

pub loop-count-init : goal.loop-count-init
loop-count-init g c =
    ((omega arith, c.new-room.ensures.none, c.new-room.ensures.works), ([], Consumes-nil _, (λ s d st. piece_none g.D.LineDebugger.stands s d [] _ _ _ st c.new-line.ensures), c.requires.fresh, c.requires.reader_works, c.requires.writer_works, no_turn (λ s d. g.D.LineDebugger.stands c.args.debugger.now s d) _ _))

pub loop-count-preserved : goal.loop-count-preserved
loop-count-preserved g c =
    let (pieces, (came, used, answered, reads, r, w, turns)) = c.loop-count.invariant in
    let piece = take c.in-Ok.n c.read.new.into in (
      (search rules, c.in-Goes.ensures.none refl, c.in-Goes.ensures.room),
      (
        came ++ piece,
        Consumes-trans _ _ _ came piece used c.in-Ok.ensures.bytes.0,
        (λ s d st.
            let before = answered s d st in
            let leads = before.2 refl in
            piece_then g.D.LineDebugger.stands s d [] came piece Goes _ _ _ _ _ _ _ before (c.in-Goes.ensures.answered s (after_replies d before.0) (begun_after [] came) leads.debugger leads.line)),
        omega (arith, c.in-Ok.ensures.count),
        c.in-Ok.ensures.failed,
        c.in-Goes.ensures.failed,
        turn_more (λ s d. g.D.LineDebugger.stands c.args.debugger.now s d) _ _ _ _ came piece _ turns c.in-Ok.ensures.heard (some_came c.in-Ok.n c.read.new.into (search rules) (search rules))
            (λ s d st. piece_answered g.D.LineDebugger.stands s d came _ _ _ _ (answered s d st)),
      ),
    )

pub returns-in-Err-clause-transcript : goal.returns-in-Err-clause-transcript
returns-in-Err-clause-transcript g c s d st =
    let (pieces, (came, used, answered, reads, r, w, turns)) = c.loop-count.invariant in
    let before = answered s d st in
    ends_fault s d came _ _ _ _ (Consumes-kept _ _ _ came used c.in-Err.ensures.bytes) (before.0, before.1)

pub returns-in-Ok-eq0-clause-transcript : goal.returns-in-Ok-eq0-clause-transcript
returns-in-Ok-eq0-clause-transcript g c s d st =
    let (pieces, (came, used, answered, reads, r, w, turns)) = c.loop-count.invariant in
    let left = g.R.CommandReader.left in
    let written = g.O.AnswerWriter.written in
    let before = answered s d st in
    let leads = before.2 refl in
    let room : 0 < length c.read.new.into = search rules in
    let none = consumes_none _ _ _ _ c.in-Ok-eq0.field-0-test c.in-Ok-eq0.ensures.bytes.0 in
    let last = c.answer_last_line.ensures.answered s (after_replies d before.0) (begun_after [] came) leads.debugger leads.line in
    subst (λ end. IsEnded s d end (left c.args.reader.now) (left c.read.new.self) (written c.args.writer.now) (written c.answer_last_line.new.writer)) (sym c.after.ensures)
    (ends_at s d c.answer_last_line.result came _ _ _ _ (Consumes-kept _ _ _ came used none) (c.in-Ok-eq0.ensures.bytes.1 c.in-Ok-eq0.field-0-test room) (answers_last s d came before.0 c.answer_last_line.result _ _ _ before.1 last))

pub returns-in_default-clause-transcript : goal.returns-in_default-clause-transcript
returns-in_default-clause-transcript g c s d st =
    let (pieces, (came, used, answered, reads, r, w, turns)) = c.loop-count.invariant in
    let left = g.R.CommandReader.left in
    let written = g.O.AnswerWriter.written in
    let piece = take c.in-Ok.n c.read.new.into in
    let before = answered s d st in
    let leads = before.2 refl in
    let last = piece_then g.D.LineDebugger.stands s d [] came piece c.answer_piece.result _ _ _ _ _ _ _ before (c.answer_piece.ensures.answered s (after_replies d before.0) (begun_after [] came) leads.debugger leads.line) in
    subst (λ end. IsEnded s d end (left c.args.reader.now) (left c.read.new.self) (written c.args.writer.now) (written c.answer_piece.new.writer)) (sym c.after-in_default.ensures)
    (ends_before s d c.answer_piece.result (came ++ piece) _ _ _ _ c.in_default.not-Goes (Consumes-trans _ _ _ came piece used c.in-Ok.ensures.bytes.0) (last.0, last.1))

pub returns-clause-transcript : goal.returns-clause-transcript
returns-clause-transcript g c s d st =
    let (pieces, (came, used, answered, reads, r, w, turns)) = c.loop-count.invariant in
    let before = answered s d st in
    ends_fault s d came _ _ _ _ used (before.0, before.1)

pub returns-in-Err-clause-order : goal.returns-in-Err-clause-order
returns-in-Err-clause-order g c s d st =
    let (pieces, (came, used, answered, reads, r, w, turns)) = c.loop-count.invariant in
    turn_taken (λ s d. g.D.LineDebugger.stands c.args.debugger.now s d) _ _ _ _ came _ _ s d turns c.in-Err.ensures.heard st (piece_answered g.D.LineDebugger.stands s d came _ _ _ _ (answered s d st))

pub returns-in-Ok-eq0-clause-order : goal.returns-in-Ok-eq0-clause-order
returns-in-Ok-eq0-clause-order g c s d st =
    let (pieces, (came, used, answered, reads, r, w, turns)) = c.loop-count.invariant in
    turn_taken (λ s d. g.D.LineDebugger.stands c.args.debugger.now s d) _ _ _ _ came _ _ s d turns c.in-Ok-eq0.ensures.heard st (piece_answered g.D.LineDebugger.stands s d came _ _ _ _ (answered s d st))

pub returns-in_default-clause-order : goal.returns-in_default-clause-order
returns-in_default-clause-order g c s d st =
    let (pieces, (came, used, answered, reads, r, w, turns)) = c.loop-count.invariant in
    turn_taken (λ s d. g.D.LineDebugger.stands c.args.debugger.now s d) _ _ _ _ came _ _ s d turns c.in-Ok.ensures.heard st (piece_answered g.D.LineDebugger.stands s d came _ _ _ _ (answered s d st))

pub returns-clause-order : goal.returns-clause-order
returns-clause-order g c s d st =
    let (pieces, (came, used, answered, reads, r, w, turns)) = c.loop-count.invariant in
    turns_taken (λ s d. g.D.LineDebugger.stands c.args.debugger.now s d) _ _ _ came s d turns st
