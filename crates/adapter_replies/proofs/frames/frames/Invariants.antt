-- the frames so far, and the calls of those below
use Rattle.std.proofs.Common.{◌≡◌, ◌++◌, ◌-◌, map}
use Rattle.gang_model.specs.Debugger.Debugger.{Debugger, Setting, now}
use Rattle.adapter_replies.specs.Frames.{all_frames, calls_told, frame_view}
use Rattle.adapter_replies.proofs.frames.frames.Given as goal

abbrev pub invariant-loop-depth : goal.invariant-loop-depth
invariant-loop-depth g l =
    (s : Setting) (d : Debugger) → g.M.RecordedMachine.stands l.machine s d
    → all_frames s.program (now s d).frames ≡ map frame_view l.frames.items ++ calls_told s.program (now s d).frames (l.depth - 1)

abbrev pub decreases-loop-depth : goal.decreases-loop-depth
decreases-loop-depth g l = l.depth
