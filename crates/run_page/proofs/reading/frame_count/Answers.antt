use Rattle.std.proofs.Common.{Some, None, sym}
use Rattle.gang_model.specs.Debugger.Debugger.{now}
use Rattle.debug_session.proofs.Ending.{ended_by}
use Rattle.run_page.proofs.RowsRead.{no_frames, some_frames}
use Rattle.run_page.proofs.reading.frame_count.Goals as goal

pub returns-in-Some : goal.returns-in-Some
returns-in-Some g c s d st =
    some_frames (now s d) c.in-Some.position.depth (sym (ended_by s.program (now s d).frames (Some c.in-Some.position) (c.in-Some.ensures.place s d st))) (c.in-Some.ensures.depth s d st)

pub returns-in-None : goal.returns-in-None
returns-in-None g c s d st = no_frames (now s d) (sym (ended_by s.program (now s d).frames None (c.in-None.ensures.place s d st)))
