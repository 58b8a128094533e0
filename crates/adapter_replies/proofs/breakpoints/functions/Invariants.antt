-- the breakpoints of functions so far
use Rattle.std.proofs.Common.{◌≡◌, ℕ, List, map, take}
use Rattle.gang_model.specs.Debugger.Debugger as model
use Rattle.gang_model.specs.Debugger.Debugger.{Debugger, Setting}
use Rattle.debug_answers.specs.Meanings.{AreStops}
use Rattle.adapter_replies.specs.Breakpoints.{told_function}
use Rattle.adapter_replies.proofs.breakpoints.functions.Given as goal

abbrev pub invariant-loop-function : goal.invariant-loop-function
invariant-loop-function g l = (s : Setting) (d : Debugger) (meant : List (ℕ × model.Stop)) → g.M.RecordedMachine.stands l.machine s d → AreStops s l.fn.stops meant
    → l.made.items ≡ map (told_function s meant) (take l.function-index l.functions)
