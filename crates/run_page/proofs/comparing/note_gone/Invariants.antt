-- the rows before this one were noted where they are gone
use Rattle.std.proofs.Common.{take}
use Rattle.run_page.specs.Rows.{Adds, IsGoneBetween}
use Rattle.run_page.proofs.comparing.note_gone.Given as goal

abbrev pub invariant-loop-index : goal.invariant-loop-index
invariant-loop-index l = Adds (IsGoneBetween (take l.index l.before) l.now) l.initial.changes.items l.changes.items
