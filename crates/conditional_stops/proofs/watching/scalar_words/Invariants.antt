-- the first words
use Rattle.std.proofs.Common.{◌≡◌, length, take}
use Rattle.gang_model.specs.Types.Tree.{Variable}
use Rattle.gang_model.specs.Debugger.Debugger.{Debugger, Setting, now, shown_words}
use Rattle.debug_traits.specs.Machines.{IsShown}
use Rattle.debug_session.specs.Sessions.{bare}
use Rattle.conditional_stops.proofs.watching.scalar_words.Given as goal

abbrev pub invariant-loop-index : goal.invariant-loop-index
invariant-loop-index g l = record {
  long : length l.words.items ≡ l.index;
  words : (s : Setting) (d : Debugger) (v : Variable) → g.M.RecordedMachine.stands l.machine s (bare d) → IsShown s d v l.shown → l.words.items ≡ take l.index (shown_words (now s d) v);
}
