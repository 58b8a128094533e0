-- none of those that were read is on the line
use Rattle.std.proofs.Common.{◌≡◌, ℕ, List, drop, Some}
use Rattle.gang_model.specs.Debugger.Debugger as model
use Rattle.gang_model.specs.Debugger.Debugger.{Setting, first_stop, on_line}
use Rattle.debug_answers.specs.Meanings.{AreStops}
use Rattle.debug_session.proofs.table.breakpoint_on.Given as goal

abbrev pub invariant-loop-entry : goal.invariant-loop-entry
invariant-loop-entry l = (s : Setting) (meant : List (ℕ × model.Stop)) → AreStops s l.stops meant
    → (rest : List (ℕ × model.Stop)) × AreStops s (drop l.entry-index l.stops) rest × (first_stop (on_line (Some l.line)) meant ≡ first_stop (on_line (Some l.line)) rest)
