-- What is noted of a run.
use Rattle.std.specs.Prelude.{◌≡◌, ℕ, ◌≤◌}
use Rattle.gang_model.specs.Debugger.Debugger.{Debugger, Setting, now}
use Rattle.debug_session.specs.declared.session.Session.{Session}
use Rattle.lane_picture.specs.declared.columns.StepsEnd.{StepsEnd}
use Rattle.lane_picture.specs.Runs.{RunEnd}
use Rattle.lane_picture.specs.Tries.{HasRun, end_view}
use Rattle.run_page.specs.declared.page.Subject.{Subject}
use Rattle.run_page.specs.declared.record.Record.{Record}
use Rattle.run_page.specs.Calls.{HasCallsOf, HasWidthOf}
use Rattle.run_page.specs.Moments.{AreMoments, steps_done, steps_of, told_moments}
use Rattle.run_page.specs.Recording.{IsRecordOf}

-- A record has the moments that are to be told of a run which tried so many steps and ended so; and of each where the program stands, the open calls,
-- and the changes since the one before; and how wide the gang is.
pub record HasRecord (s : Setting) (d : Debugger) (subject : Subject) (tried : ℕ) (ended : RunEnd) (kept : Record) : Type 0 where
  pub steps : steps_of kept.moments.items ≡ told_moments subject (steps_done tried ended)
  pub stand : AreMoments s.program (now s d) kept.moments.items
  pub calls : HasCallsOf s d kept
  pub changes : IsRecordOf s d subject.most_words kept
  pub width : HasWidthOf s d kept

-- a session has run, and if it may do a step, this is the record of its run
pub record HasNoted {M : Type 0} (stands : M → Setting → Debugger → Type 0) (s : Setting) (subject : Subject) (d : Debugger) (kept : Record) (ended : StepsEnd) (session : Session M) : Type 0 where
  pub run : HasRun stands s subject.most_steps d ended session
  pub has : 1 ≤ s.limit → HasRecord s d subject run.begun.taken (end_view ended) kept
