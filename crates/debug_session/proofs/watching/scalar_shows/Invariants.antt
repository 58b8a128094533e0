-- the words that were read are the same
use Rattle.std.proofs.Common.{◌≡◌, take}
use Rattle.gang_model.specs.Types.Tree.{Variable}
use Rattle.gang_model.specs.Debugger.Debugger.{Debugger, Setting, now, shown_words}
use Rattle.debug_traits.specs.Machines.{IsShown}
use Rattle.debug_session.specs.Sessions.{bare}
use Rattle.debug_session.proofs.watching.scalar_shows.Given as goal

abbrev pub invariant-loop-index : goal.invariant-loop-index
invariant-loop-index g l = (s : Setting) (d : Debugger) (v : Variable) → g.M.RecordedMachine.stands l.machine s (bare d) → IsShown s d v l.shown
    → take l.index l.noted ≡ take l.index (shown_words (now s d) v)
