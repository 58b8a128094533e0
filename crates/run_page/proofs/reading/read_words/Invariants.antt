-- the words before this one were read
use Rattle.std.proofs.Common.{◌≡◌, take}
use Rattle.gang_model.specs.Types.Tree.{Variable}
use Rattle.gang_model.specs.Debugger.Debugger.{Debugger, Setting, now}
use Rattle.run_page.specs.Rows.{IsShownIn}
use Rattle.run_page.specs.Sights.{words_at}
use Rattle.run_page.proofs.reading.read_words.Given as goal

abbrev pub invariant-loop-index : goal.invariant-loop-index
invariant-loop-index g l =
    (s : Setting) (d : Debugger) (v : Variable) → g.M.RecordedMachine.stands l.machine s d → IsShownIn s d l.depth v l.shown
    → l.words.items ≡ take l.index (words_at l.depth (now s d) v)
