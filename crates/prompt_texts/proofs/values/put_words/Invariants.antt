-- the values of the words before this one were written
use Rattle.std.proofs.Common.{take}
use Rattle.gang_model.specs.Types.Tree.{Variable}
use Rattle.gang_model.specs.Debugger.Debugger.{Debugger, Setting, now, shown_words}
use Rattle.debug_traits.specs.Machines.{IsShown}
use Rattle.prompt_texts.specs.Forms.{values_text}
use Rattle.prompt_texts.specs.Shown.{Puts}
use Rattle.prompt_texts.proofs.values.put_words.Given as goal

abbrev pub invariant-loop-index : goal.invariant-loop-index
invariant-loop-index g l =
    (s : Setting) (d : Debugger) (v : Variable) → g.M.RecordedMachine.stands l.machine s d → IsShown s d v l.shown
    → Puts (values_text l.digits l.shown.value_type (take l.index (shown_words (now s d) v)))
    l.initial.page.has_failed l.page.has_failed (g.O.AnswerWriter.written l.initial.page.writer) (g.O.AnswerWriter.written l.page.writer)
