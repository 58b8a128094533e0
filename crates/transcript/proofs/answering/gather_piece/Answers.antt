use Rattle.std.proofs.Common.{rules, ◌≡◌, ◌<◌, ◌+◌, [], ◌∷◌, ◌++◌, length, get_or, take, take_all, arith, drop, subst, sym, refl}
use Rattle.transcript.specs.declared.debugger.Turn.TheVariants.{Goes}
use Rattle.transcript.specs.Answered.{held_of}
use Rattle.transcript.specs.Gathering.{GathersPiece, SaysBehind, gathered}
use Rattle.transcript.proofs.CutLines.{held_full, held_more, piece_at, take_at_byte}
use Rattle.transcript.proofs.Gathering.{gathers_and_byte, gathers_and_line, gathers_before, gathers_none}
use Rattle.transcript.proofs.answering.gather_piece.Goals as goal
use Rattle.transcript.proofs.answering.gather_piece.Goals.{then-byte-eq-LINE_FEED+in-Goes, else-byte-eq-LINE_FEED+then-not-is_full, else-byte-eq-LINE_FEED+else-not-is_full}

pub loop-byte-init : goal.loop-byte-init
loop-byte-init g c =
    (λ s d begun st is. gathers_none g.D.LineDebugger.stands s d begun _ _ _ _ st is c.requires.none, c.requires.works, c.requires.room)

pub returns-in_default : goal.returns-in_default
returns-in_default g c =
    let piece = c.args.piece.now in
    let i = c.loop-byte.byte-index in
    let stands = g.D.LineDebugger.stands in
    let old = g.O.AnswerWriter.written c.args.writer.now in
    let mid = g.O.AnswerWriter.written c.loop-byte.writer in
    let new = g.O.AnswerWriter.written c.gather_answer.new.writer in
    let room = gathered c.loop-byte.room in
    let room' = gathered c.gather_answer.new.room in
    let turn = c.gather_answer.result in
    let y = c.gather_answer.new.self in
    let held = c.loop-byte.line.items in
    let inside : i < length piece = search rules in
    let here : get_or piece i 0 ≡ 10 = search rules in
    record {
      answered = λ s d begun st is.
          let line = gathers_and_line stands s d begun (take i piece) turn _ y held held old mid new room room' (c.loop-byte.invariant.0 s d begun st is)
          (λ d st. subst (λ l. SaysBehind stands s d l turn y mid new room room') c.as_slice.ensures.value (c.gather_answer.ensures.said s d st)) (λ goes. absurd (c.in_default.not-Goes goes)) in
          let whole = gathers_before stands s d begun (take i piece ++ 10 ∷ []) (drop (i + 1) piece) turn y held old new room' c.in_default.not-Goes line in
          subst (λ p. GathersPiece stands s d begun p turn y held old new room') (sym (piece_at piece i 10 inside here)) whole;
      failed = c.gather_answer.ensures.failed;
      room = c.gather_answer.ensures.room;
    }

pub loop-byte-preserved : goal.loop-byte-preserved
loop-byte-preserved g c =
    let (answered, works, has_room) = c.loop-byte.invariant in
    let i = c.loop-byte.byte-index in
    let piece = c.args.piece.now in
    let stands = g.D.LineDebugger.stands in
    let old = g.O.AnswerWriter.written c.args.writer.now in
    let mid = g.O.AnswerWriter.written c.loop-byte.writer in
    let room = gathered c.loop-byte.room in
    let b = get_or piece i 0 in
    let inside : i < length piece = search rules in
    elim c.if-byte-eq-LINE_FEED.branch [
      | then-byte-eq-LINE_FEED+in-Goes w ↦
          let y = w.gather_answer.new.self in
          let new = g.O.AnswerWriter.written w.gather_answer.new.writer in
          let room' = gathered w.gather_answer.new.room in
          rw (w.debugger-is, w.line-is, w.room-is, w.writer-is) (
            λ s d begun st is.
                subst (λ p. GathersPiece stands s d begun p Goes y w.clear.new.self.items old new room') (sym (take_at_byte piece i 10 inside w.if-byte-eq-LINE_FEED.true))
                (gathers_and_line stands s d begun (take i piece) Goes _ y c.loop-byte.line.items w.clear.new.self.items old mid new room room' (answered s d begun st is)
                (λ d st. subst (λ l. SaysBehind stands s d l Goes y mid new room room') w.as_slice.ensures.value (w.in-Goes.ensures.said s d st)) (λ goes. w.clear.ensures)),
            w.in-Goes.ensures.failed,
            w.in-Goes.ensures.room,
          )
      | else-byte-eq-LINE_FEED+then-not-is_full w ↦
          let space : length c.loop-byte.line.items < 257 = search rules in
          let held : w.push.new.self.items ≡ held_of (c.loop-byte.line.items ++ b ∷ []) = held_more c.loop-byte.line.items w.push.new.self.items b space w.push.ensures.items in
          rw (w.debugger-is, w.line-is, w.room-is, w.writer-is) (
            λ s d begun st is.
                subst (λ p. GathersPiece stands s d begun p Goes c.loop-byte.debugger w.push.new.self.items old mid room) (sym (take_at_byte piece i b inside refl))
                (gathers_and_byte stands s d begun (take i piece) c.loop-byte.debugger c.loop-byte.line.items w.push.new.self.items old mid room b (answered s d begun st is) w.if-byte-eq-LINE_FEED.false held),
            works,
            has_room,
          )
      | else-byte-eq-LINE_FEED+else-not-is_full w ↦
          let full : length c.loop-byte.line.items ≡ 257 = search rules in
          rw (w.debugger-is, w.line-is, w.room-is, w.writer-is) (
            λ s d begun st is.
                subst (λ p. GathersPiece stands s d begun p Goes c.loop-byte.debugger c.loop-byte.line.items old mid room) (sym (take_at_byte piece i b inside refl))
                (gathers_and_byte stands s d begun (take i piece) c.loop-byte.debugger c.loop-byte.line.items c.loop-byte.line.items old mid room b (answered s d begun st is) w.if-byte-eq-LINE_FEED.false (held_full c.loop-byte.line.items b full)),
            works,
            has_room,
          )
    ]

pub returns-clause-answered : goal.returns-clause-answered
returns-clause-answered g c s d begun st is =
    let piece = c.args.piece.now in
    let all : take c.loop-byte.byte-index piece ≡ piece = take_all c.loop-byte.byte-index piece (omega (arith, c.loop-byte-test.false)) in
    subst (λ p. GathersPiece g.D.LineDebugger.stands s d begun p Goes c.loop-byte.debugger c.loop-byte.line.items (g.O.AnswerWriter.written c.args.writer.now) (g.O.AnswerWriter.written c.loop-byte.writer) (gathered c.loop-byte.room)) all
    (c.loop-byte.invariant.0 s d begun st is)
