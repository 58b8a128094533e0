-- what was written and the lines of the variables from this place on are the lines of all
use Rattle.std.proofs.Common.{◌≡◌, ◌++◌, ◌-◌, ℕ, List, false}
use Rattle.std.specs.Io.KnownBytes.{Appends}
use Rattle.gang_model.specs.Debugger.Debugger.{Debugger, Setting}
use Rattle.debug_texts.proofs.Locals.{lines_of_all}
use Rattle.debug_texts.proofs.local_texts.write_local_lines.Given as goal

abbrev pub invariant-loop-local : goal.invariant-loop-local
invariant-loop-local g l =
    ((s : Setting) (d : Debugger) → g.M.RecordedMachine.stands l.machine s d
    → (front : List ℕ) × Appends (g.O.AnswerWriter.written l.initial.writer) (g.O.AnswerWriter.written l.writer) front
    × (lines_of_all s d (g.M.RecordedMachine.locals_from l.machine s d l.from) ≡ front ++ lines_of_all s d (g.M.RecordedMachine.locals_from l.machine s d l.place)))
    × (g.O.AnswerWriter.has_failed l.writer ≡ false)

abbrev pub decreases-loop-local : goal.decreases-loop-local
decreases-loop-local g l = 18446744073709551616 - l.place
