-- What the writing of a page does to a session, and what is written.
use Rattle.std.specs.Prelude.{◌≡◌, ℕ, ◌<◌, ◌≤◌, take, Bool, true, false, List, ◌++◌, Option, length, map}
use Rattle.std.specs.Borrow.{Bor}
use Rattle.std.specs.Io.KnownBytes.{Appends}
use Rattle.std.specs.List.{concat}
use Rattle.gang_model.specs.Debugger.Debugger.{Debugger, Setting, now}
use Rattle.debug_traits.specs.Machines.{fault_view}
use Rattle.debug_session.specs.declared.session.Session.{Session}
use Rattle.gang_model.specs.Texts.Text.{Bytes}
use Rattle.lane_picture.specs.declared.columns.StepsEnd.{StepsEnd}
use Rattle.lane_picture.specs.Runs as run
use Rattle.lane_picture.specs.Runs.{RunEnd, run_end, steps_taken}
use Rattle.lane_picture.specs.Tries.{HasBegun, end_view}
use Rattle.run_page.specs.declared.page.PageEnd.{PageEnd}
use Rattle.run_page.specs.declared.page.PageEnd.TheVariants as end
use Rattle.run_page.specs.declared.page.Subject.{Subject}
use Rattle.run_page.specs.declared.page.Viewer.{Viewer}
use Rattle.run_page.specs.declared.record.Record.{Record}
use Rattle.run_page.specs.Noting.{HasRecord}
use Rattle.run_page.specs.RecordText.{record_text}

-- whether the writer failed
abbrev pub has_failed : PageEnd → Bool
has_failed end.WriteFault = true
has_failed other = false

-- a page tells how the run ended, unless the writer failed
abbrev pub TellsEnd : PageEnd → RunEnd → Type 0
TellsEnd end.Ended e = e ≡ run.Ended
TellsEnd (end.AtFault fault) e = e ≡ run.AtFault (fault_view fault)
TellsEnd end.StepLimit e = e ≡ run.StepLimit
TellsEnd end.WriteFault e = Unit {0}

-- a session has done the command `step` some times, so often at most, and nothing else; if it may do a step, just as often as the
-- run has steps to try, and the page tells how the run ends
pub record HasWritten {M : Type 0} (stands : M → Setting → Debugger → Type 0) (s : Setting) (most : ℕ) (d : Debugger) (told : PageEnd) (session : Session M) : Type 0 where
  pub begun : HasBegun stands s most d session
  pub whole : 1 ≤ s.limit → begun.taken ≡ steps_taken s.program most (now s d)
  pub ends : 1 ≤ s.limit → TellsEnd told (run_end s.program most (now s d))

-- ---- what is written

-- parts, one behind another
abbrev pub parts_text : List (Bor Bytes) → Bytes
parts_text parts = concat (map (λ part. part.now) parts)

-- the page of a record: the viewer round its text
abbrev pub page_text : Viewer → Subject → StepsEnd → Record → Bytes
page_text viewer subject ended kept = parts_text viewer.front.now ++ (record_text subject ended kept ++ parts_text viewer.rest.now)

-- all of a text was written; or, where the writer failed, a front of it
abbrev pub IsPut : (failed : Bool) → Bytes → (old new : Option Bytes) → Type 0
IsPut false text old new = Appends old new text
IsPut true text old new = (k : ℕ) × (k < length text) × Appends old new (take k text)

-- What was written is a page of a run and nothing else, or a front of it: that of a record of the run, with so many moments; and the page tells how
-- the run ends.
pub record IsPageOf (s : Setting) (d : Debugger) (viewer : Viewer) (subject : Subject) (moments : ℕ) (failed : Bool) (old new : Option Bytes) : Type 0 where
  pub kept : Record
  pub ended : StepsEnd
  pub text : IsPut failed (page_text viewer subject ended kept) old new
  pub ends : end_view ended ≡ run_end s.program subject.most_steps (now s d)
  pub has : HasRecord s d subject (steps_taken s.program subject.most_steps (now s d)) (end_view ended) kept
  pub count : moments ≡ length kept.moments.items
