-- the lines before this breakpoint or watch were written
use Rattle.std.proofs.Common.{◌≡◌, ℕ, List, false, take}
use Rattle.std.specs.Io.KnownBytes.{Appends}
use Rattle.gang_model.specs.Debugger.Debugger as model
use Rattle.gang_model.specs.Debugger.Debugger.{Debugger, Setting}
use Rattle.gang_model.specs.Texts.Text.{stop_lines}
use Rattle.debug_answers.specs.Meanings.{AreStops}
use Rattle.debug_texts.proofs.stop_texts.write_stop_lines.Given as goal

abbrev pub invariant-loop-stop : goal.invariant-loop-stop
invariant-loop-stop g l =
    ((s : Setting) (d : Debugger) (meant : List (ℕ × model.Stop)) → g.M.RecordedMachine.stands l.machine s d → AreStops s l.stops meant
    → Appends (g.O.AnswerWriter.written l.initial.writer) (g.O.AnswerWriter.written l.writer) (stop_lines (take l.stop-index meant)))
    × (g.O.AnswerWriter.has_failed l.writer ≡ false)
