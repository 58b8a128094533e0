-- of the rows before this one the words were noted that are new
use Rattle.std.proofs.Common.{take}
use Rattle.run_page.specs.Rows.{Adds, AreConsistent, IsNewIn}
use Rattle.run_page.proofs.comparing.note_new.Given as goal

abbrev pub invariant-loop-index : goal.invariant-loop-index
invariant-loop-index l = AreConsistent l.before → Adds (IsNewIn l.before (take l.index l.now)) l.initial.changes.items l.changes.items
