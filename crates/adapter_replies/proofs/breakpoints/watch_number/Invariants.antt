-- none of those that were read is a watch of the target
use Rattle.std.proofs.Common.{◌≡◌, ℕ, List, drop}
use Rattle.gang_model.specs.Debugger.Debugger as model
use Rattle.gang_model.specs.Debugger.Debugger.{Debugger, Setting, first_stop}
use Rattle.debug_answers.specs.Meanings.{AreStops}
use Rattle.debug_commands.specs.Views.{target_view}
use Rattle.adapter_replies.specs.Breakpoints.{watches_target}
use Rattle.adapter_replies.proofs.breakpoints.watch_number.Given as goal

abbrev pub invariant-loop-entry : goal.invariant-loop-entry
invariant-loop-entry g l = (s : Setting) (d : Debugger) (meant : List (ℕ × model.Stop)) → g.M.RecordedMachine.stands l.machine s d → AreStops s l.stops meant
    → (rest : List (ℕ × model.Stop)) × AreStops s (drop l.entry-index l.stops) rest × (first_stop (watches_target (target_view l.target)) meant ≡ first_stop (watches_target (target_view l.target)) rest)
