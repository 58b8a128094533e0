-- those of the frames so far that the lane is in
use Rattle.std.proofs.Common.{◌≡◌, map}
use Rattle.gang_model.specs.Debugger.Debugger.{Debugger, Setting, now}
use Rattle.adapter_replies.specs.Frames.{frame_view}
use Rattle.adapter_replies.specs.Threads as spec
use Rattle.adapter_replies.proofs.threads.lane_frames.Given as goal

abbrev pub invariant-loop-frame : goal.invariant-loop-frame
invariant-loop-frame g l =
    (s : Setting) (d : Debugger) → g.M.RecordedMachine.stands l.machine s d → map frame_view l.own.items ≡ spec.lane_frames s.program (now s d) l.lane (map frame_view l.yielded)
