-- What the drawing of a picture does to a session.
use Rattle.std.specs.Prelude.{◌≡◌, ℕ, ◌≤◌, Bool, true, false}
use Rattle.gang_model.specs.Debugger.Debugger.{Debugger, Setting, now}
use Rattle.debug_traits.specs.Machines.{fault_view}
use Rattle.debug_session.specs.declared.session.Session.{Session}
use Rattle.lane_picture.specs.declared.picture.PictureEnd.{PictureEnd}
use Rattle.lane_picture.specs.declared.picture.PictureEnd.TheVariants as end
use Rattle.lane_picture.specs.Runs as run
use Rattle.lane_picture.specs.Runs.{RunEnd, run_end, steps_taken}
use Rattle.lane_picture.specs.Tries.{HasBegun}

-- whether the writer failed
abbrev pub has_failed : PictureEnd → Bool
has_failed end.WriteFault = true
has_failed other = false

-- a picture tells how the run ended, unless the writer failed
abbrev pub TellsEnd : PictureEnd → RunEnd → Type 0
TellsEnd end.Ended e = e ≡ run.Ended
TellsEnd (end.AtFault fault) e = e ≡ run.AtFault (fault_view fault)
TellsEnd end.StepLimit e = e ≡ run.StepLimit
TellsEnd end.WriteFault e = Unit {0}

-- a session has done the command `step` some times, so often at most, and nothing else; if it may do a step, just as often as the
-- run has steps to try, and the picture tells how the run ends
pub record HasDrawn {M : Type 0} (stands : M → Setting → Debugger → Type 0) (s : Setting) (most : ℕ) (d : Debugger) (told : PictureEnd) (session : Session M) : Type 0 where
  pub begun : HasBegun stands s most d session
  pub whole : 1 ≤ s.limit → begun.taken ≡ steps_taken s.program most (now s d)
  pub ends : 1 ≤ s.limit → TellsEnd told (run_end s.program most (now s d))
