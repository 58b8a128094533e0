-- the words before this one
use Rattle.std.proofs.Common.{◌≡◌, take}
use Rattle.gang_model.specs.Types.Tree.{Variable}
use Rattle.gang_model.specs.Debugger.Debugger.{Debugger, Setting}
use Rattle.debug_traits.specs.Frames.{IsShownAt}
use Rattle.adapter_replies.specs.Variables.{words_at}
use Rattle.adapter_replies.proofs.texts.all_words.Given as goal

abbrev pub invariant-loop-index : goal.invariant-loop-index
invariant-loop-index g l = (s : Setting) (d : Debugger) (v : Variable) → g.M.RecordedMachine.stands l.machine s d → IsShownAt s d l.depth v l.shown → l.words.items ≡ take l.index (words_at s d l.depth v)
