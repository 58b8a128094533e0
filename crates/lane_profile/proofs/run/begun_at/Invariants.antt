-- nothing is counted, the forms are those of the program, and the frames below this depth have been entered
use Rattle.std.proofs.Common.{◌≡◌, ◌≤◌, ◌-◌, length}
use Rattle.gang_model.specs.Debugger.Debugger.{Debugger, Setting, now}
use Rattle.debug_traits.specs.Frames.{frames_at}
use Rattle.lane_counts.specs.Tallies.{HasFrames, IsBegun}
use Rattle.lane_profile.specs.Stands.{functions_of}
use Rattle.lane_profile.proofs.run.begun_at.Given as goal

abbrev pub invariant-loop-depth : goal.invariant-loop-depth
invariant-loop-depth g l = record {
  begun : IsBegun l.tally;
  forms : l.tally.forms.forms ≡ l.initial.tally.forms.forms;
  from : 1 ≤ l.depth;
  to : (s : Setting) (d : Debugger) → g.M.RecordedMachine.stands l.machine s d → 1 ≤ length (now s d).frames → l.depth ≤ length (now s d).frames;
  frames : (s : Setting) (d : Debugger) → g.M.RecordedMachine.stands l.machine s d → length s.first.frames ≤ 1
      → HasFrames l.tally (functions_of s.program (frames_at (l.depth - 1) (now s d).frames));
}
