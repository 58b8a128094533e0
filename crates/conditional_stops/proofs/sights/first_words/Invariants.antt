-- the first words
use Rattle.std.proofs.Common.{◌≡◌, length, take}
use Rattle.gang_model.specs.Types.Tree.{Variable}
use Rattle.gang_model.specs.Debugger.Debugger.{Debugger, Setting, now, shown_words}
use Rattle.debug_session.specs.Sessions.{bare}
use Rattle.debug_traits.specs.Frames.{IsShownAt, state_at}
use Rattle.conditional_stops.proofs.sights.first_words.Given as goal

abbrev pub invariant-loop-index : goal.invariant-loop-index
invariant-loop-index g l = record {
  long : length l.words.items ≡ l.index;
  words : (s : Setting) (d : Debugger) (v : Variable) → g.M.RecordedMachine.stands l.machine s (bare d) → IsShownAt s (bare d) l.depth v l.shown → l.words.items ≡ take l.index (shown_words (state_at l.depth (now s d)) v);
}
