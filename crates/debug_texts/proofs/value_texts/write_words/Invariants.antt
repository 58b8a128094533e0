-- the values of the words before this one were written
use Rattle.std.proofs.Common.{◌≡◌, false, take}
use Rattle.std.specs.Io.KnownBytes.{Appends}
use Rattle.gang_model.specs.Types.Tree.{Variable}
use Rattle.gang_model.specs.Debugger.Debugger.{Debugger, Setting, now, shown_words}
use Rattle.debug_traits.specs.Machines.{IsShown}
use Rattle.debug_texts.specs.Wording.{values_text}
use Rattle.debug_texts.proofs.value_texts.write_words.Given as goal

abbrev pub invariant-loop-index : goal.invariant-loop-index
invariant-loop-index g l =
    ((s : Setting) (d : Debugger) (v : Variable) → g.M.RecordedMachine.stands l.machine s d → IsShown s d v l.shown
    → Appends (g.O.AnswerWriter.written l.initial.writer) (g.O.AnswerWriter.written l.writer) (values_text l.shown.value_type (take l.index (shown_words (now s d) v))))
    × (g.O.AnswerWriter.has_failed l.writer ≡ false)
