use Rattle.std.proofs.Common.{sym, Some, None}
use Rattle.gang_model.specs.Debugger.Debugger.{now}
use Rattle.debug_session.proofs.Ending.{ended_by}
use Rattle.lane_profile.proofs.Frames.{no_frames, some_frames}
use Rattle.lane_profile.proofs.run.depth_of.Goals as goal

pub returns-in_default : goal.returns-in_default
returns-in_default g c s d there = sym (no_frames (now s d).frames (sym (ended_by s.program (now s d).frames None (c.in_default.ensures.place s d there))))

pub returns : goal.returns
returns g c s d there =
    some_frames (now s d).frames c.in-Some.position.depth (sym (ended_by s.program (now s d).frames (Some c.in-Some.position) (c.in-Some.ensures.place s d there))) (c.in-Some.ensures.depth s d there)
