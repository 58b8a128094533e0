-- the watches so far
use Rattle.std.proofs.Common.{◌≡◌, ℕ, List, map, take}
use Rattle.gang_model.specs.Debugger.Debugger as model
use Rattle.gang_model.specs.Debugger.Debugger.{Debugger, Setting}
use Rattle.debug_answers.specs.Meanings.{AreStops}
use Rattle.adapter_replies.specs.Breakpoints.{told_watch}
use Rattle.adapter_replies.proofs.breakpoints.watches.Given as goal

abbrev pub invariant-loop-target : goal.invariant-loop-target
invariant-loop-target g l = (s : Setting) (d : Debugger) (meant : List (ℕ × model.Stop)) → g.M.RecordedMachine.stands l.machine s d → AreStops s l.fn.stops meant
    → l.made.items ≡ map (told_watch s d meant) (take l.target-index l.targets)
