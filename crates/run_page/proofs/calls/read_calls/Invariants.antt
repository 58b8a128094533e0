-- the calls of the frames before this one were read
use Rattle.gang_model.specs.Debugger.Debugger.{Debugger, Setting, now}
use Rattle.run_page.specs.Calls.{AreCalls, call_lines}
use Rattle.run_page.specs.Names.{GrowsNames, names_view}
use Rattle.run_page.proofs.calls.read_calls.Given as goal

abbrev pub invariant-loop-below : goal.invariant-loop-below
invariant-loop-below g l = record {
  grows : GrowsNames (names_view l.fn.functions.items) (names_view l.functions.items);
  calls : (s : Setting) (d : Debugger) → g.M.RecordedMachine.stands l.machine s d → AreCalls (names_view l.functions.items) l.calls.items (call_lines s.program (now s d).frames l.below);
}
