-- the words before this index are those from the first one on
use Rattle.std.proofs.Common.{◌≡◌, ◌≤◌, ◌<◌, ◌+◌, ◌-◌, drop, length, take}
use Rattle.std.specs.Prelude.{◌^◌}
use Rattle.gang_model.specs.Types.Tree.{Variable}
use Rattle.gang_model.specs.Debugger.Debugger.{Debugger, Setting, now, shown_words}
use Rattle.debug_traits.specs.Frames.{IsShownAt, state_at}
use Rattle.prompt_texts.proofs.told.words_at.Given as goal

abbrev pub invariant-loop-index : goal.invariant-loop-index
invariant-loop-index g l = (l.from + length l.words.items ≡ l.index) × (l.index < 2 ^ 64) × (l.from ≤ l.to → l.index ≤ l.to) × ((s : Setting) (d : Debugger) (v : Variable) → g.M.RecordedMachine.stands l.machine s d → IsShownAt s d l.depth v l.shown → l.to ≤ l.shown.count
    → l.words.items ≡ take (l.index - l.from) (drop l.from (shown_words (state_at l.depth (now s d)) v)))
