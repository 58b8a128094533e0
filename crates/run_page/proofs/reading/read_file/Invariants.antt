-- the variables before this number were read
use Rattle.std.proofs.Common.{◌≤◌, ◌-◌, drop, length, map}
use Rattle.gang_model.specs.Debugger.Debugger.{Debugger, Setting, now}
use Rattle.debug_traits.specs.Machines.{file_variables}
use Rattle.run_page.specs.Rows.{AreDistinct, Grows, at_depth, sight_view}
use Rattle.run_page.proofs.RowsRead.{SoFar}
use Rattle.run_page.proofs.reading.read_file.Given as goal

abbrev pub invariant-loop-named : goal.invariant-loop-named
invariant-loop-named g l = record {
  few : l.number ≤ length l.rows.items;
  grows : Grows (map sight_view l.initial.variables.items) (map sight_view l.variables.items);
  distinct : AreDistinct (map sight_view l.initial.variables.items) → AreDistinct (map sight_view l.variables.items);
  so_far : (s : Setting) (d : Debugger) → g.M.RecordedMachine.stands l.machine s d
      → SoFar l.most_words (now s d) (map sight_view l.initial.variables.items) (map sight_view l.variables.items) l.initial.rows.items l.rows.items
      (at_depth 0 (file_variables s)) (at_depth 0 (drop l.number (file_variables s)));
}

abbrev pub decreases-loop-named : goal.decreases-loop-named
decreases-loop-named g l = 18446744073709551616 - l.number
