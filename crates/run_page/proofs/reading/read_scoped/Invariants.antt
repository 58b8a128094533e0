-- the places go up, and the variables before this place were read
use Rattle.std.proofs.Common.{◌-◌, map}
use Rattle.gang_model.specs.Debugger.Debugger.{Debugger, Setting, now}
use Rattle.run_page.specs.Rows.{AreDistinct, Grows, at_depth, picked, sight_view}
use Rattle.run_page.proofs.RowsRead.{SoFar}
use Rattle.run_page.proofs.reading.read_scoped.Given as goal

abbrev pub invariant-loop-next : goal.invariant-loop-next
invariant-loop-next g l = record {
  grows : Grows (map sight_view l.initial.variables.items) (map sight_view l.variables.items);
  distinct : AreDistinct (map sight_view l.initial.variables.items) → AreDistinct (map sight_view l.variables.items);
  so_far : (s : Setting) (d : Debugger) → g.M.RecordedMachine.stands l.machine s d
      → SoFar l.most_words (now s d) (map sight_view l.initial.variables.items) (map sight_view l.variables.items) l.initial.rows.items l.rows.items
      (at_depth l.depth (picked l.which (g.M.FramedMachine.parameters_at l.machine s d l.depth 0) (g.M.FramedMachine.locals_at l.machine s d l.depth 0)))
      (at_depth l.depth (picked l.which (g.M.FramedMachine.parameters_at l.machine s d l.depth l.from) (g.M.FramedMachine.locals_at l.machine s d l.depth l.from)));
}

abbrev pub decreases-loop-next : goal.decreases-loop-next
decreases-loop-next g l = 18446744073709551616 - l.from
