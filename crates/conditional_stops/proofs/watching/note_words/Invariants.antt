-- the words of the watches that were read are noted
use Rattle.std.proofs.Common.{◌≡◌, ◌++◌, ℕ, List, drop}
use Rattle.gang_model.specs.Debugger.Debugger as model
use Rattle.gang_model.specs.Debugger.Debugger.{Debugger, Setting, now}
use Rattle.debug_answers.specs.Meanings.{AreStops}
use Rattle.debug_session.specs.Moves.{noted, watch_words}
use Rattle.debug_session.specs.Sessions.{bare}
use Rattle.conditional_stops.proofs.watching.note_words.Given as goal

abbrev pub invariant-loop-entry : goal.invariant-loop-entry
invariant-loop-entry g l =
    (s : Setting) (d : Debugger) (meant : List (ℕ × model.Stop)) → g.M.RecordedMachine.stands l.machine s (bare d) → AreStops s l.stops meant
    → (rest : List (ℕ × model.Stop)) × AreStops s (drop l.entry-index l.stops) rest × (noted l.before.items ++ watch_words (now s d) rest ≡ watch_words (now s d) meant)
