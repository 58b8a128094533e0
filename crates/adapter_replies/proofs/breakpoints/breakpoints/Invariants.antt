-- the breakpoints so far
use Rattle.std.proofs.Common.{◌≡◌, ℕ, List, map, take}
use Rattle.gang_model.specs.Debugger.Debugger as model
use Rattle.gang_model.specs.Debugger.Debugger.{Debugger, Setting}
use Rattle.debug_answers.specs.Meanings.{AreStops}
use Rattle.adapter_replies.specs.Breakpoints.{told_breakpoint}
use Rattle.adapter_replies.proofs.breakpoints.breakpoints.Given as goal

abbrev pub invariant-loop-line : goal.invariant-loop-line
invariant-loop-line g l = (s : Setting) (d : Debugger) (meant : List (ℕ × model.Stop)) → g.M.RecordedMachine.stands l.machine s d → AreStops s l.fn.stops meant
    → l.made.items ≡ map (told_breakpoint s l.is_program meant) (take l.line-index l.lines)
