-- the lines of the calls before the last one were written
use Rattle.std.proofs.Common.{◌≡◌, ◌++◌, ◌-◌, false}
use Rattle.std.specs.Io.KnownBytes.{Appends}
use Rattle.gang_model.specs.Debugger.Debugger.{Debugger, Setting, now}
use Rattle.gang_model.specs.Texts.Text.{Bytes}
use Rattle.debug_texts.specs.Wording.{calls_text}
use Rattle.debug_texts.proofs.frame_texts.write_calls.Given as goal

abbrev pub invariant-loop-last : goal.invariant-loop-last
invariant-loop-last g l =
    ((s : Setting) (d : Debugger) → g.M.RecordedMachine.stands l.machine s d → (done : Bytes)
    × Appends (g.O.AnswerWriter.written l.initial.writer) (g.O.AnswerWriter.written l.writer) done
    × (calls_text s.program (now s d).frames (l.depth - 1) ≡ done ++ calls_text s.program (now s d).frames (l.last - 1)))
    × (g.O.AnswerWriter.has_failed l.writer ≡ false)

abbrev pub decreases-loop-last : goal.decreases-loop-last
decreases-loop-last g l = l.last
