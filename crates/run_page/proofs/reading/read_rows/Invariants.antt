-- the variables of the file and of the frames before this one were read
use Rattle.std.proofs.Common.{◌++◌, map}
use Rattle.gang_model.specs.Debugger.Debugger.{Debugger, Setting, now}
use Rattle.debug_traits.specs.Machines.{file_variables}
use Rattle.run_page.specs.Rows.{AreDistinct, AreRows, Grows, at_depth, seen_to, sight_view}
use Rattle.run_page.proofs.reading.read_rows.Given as goal

abbrev pub invariant-loop-below : goal.invariant-loop-below
invariant-loop-below g l = record {
  grows : Grows (map sight_view l.fn.variables.items) (map sight_view l.variables.items);
  distinct : AreDistinct (map sight_view l.fn.variables.items) → AreDistinct (map sight_view l.variables.items);
  rows : (s : Setting) (d : Debugger) → g.M.RecordedMachine.stands l.machine s d
      → AreRows (map sight_view l.variables.items) l.most_words (now s d) l.rows.items (at_depth 0 (file_variables s) ++ seen_to s.program (now s d) l.below);
}
