-- what of the piece was answered so far
use Rattle.std.proofs.Common.{◌≡◌, take, false}
use Rattle.gang_model.specs.Debugger.Debugger.{Debugger, Setting}
use Rattle.gang_model.specs.Texts.Text.{Bytes}
use Rattle.transcript.specs.declared.debugger.Turn.TheVariants.{Goes}
use Rattle.transcript.specs.Answered.{held_of}
use Rattle.transcript.specs.Gathering.{GathersPiece, gathered, lacks_room}
use Rattle.transcript.proofs.answering.gather_piece.Given as goal

abbrev pub invariant-loop-byte : goal.invariant-loop-byte
invariant-loop-byte g l =
    ((s : Setting) (d : Debugger) (begun : Bytes) → g.D.LineDebugger.stands l.initial.debugger s d → l.initial.line.items ≡ held_of begun
    → GathersPiece g.D.LineDebugger.stands s d begun (take l.byte-index l.piece) Goes l.debugger l.line.items (g.O.AnswerWriter.written l.initial.writer) (g.O.AnswerWriter.written l.writer) (gathered l.room))
    × (g.O.AnswerWriter.has_failed l.writer ≡ false)
    × (lacks_room l.room ≡ false)
