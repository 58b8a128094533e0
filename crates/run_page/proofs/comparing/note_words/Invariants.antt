-- the words before this one were noted where they are new
use Rattle.std.proofs.Common.{take}
use Rattle.run_page.specs.Rows.{Adds, IsNewWord}
use Rattle.run_page.proofs.comparing.note_words.Given as goal

abbrev pub invariant-loop-part : goal.invariant-loop-part
invariant-loop-part l = Adds (IsNewWord l.variable l.old (take l.part l.new)) l.initial.changes.items l.changes.items
