-- as many steps were tried and done as rounds were made, and what is told of them is noted
use Rattle.std.proofs.Common.{◌≤◌}
use Rattle.gang_model.specs.Debugger.Debugger.{Debugger, Setting, now}
use Rattle.debug_session.specs.Sessions.{StandsFor}
use Rattle.lane_picture.proofs.Counting.{SoFar}
use Rattle.run_page.proofs.MomentsNoted.{told_before}
use Rattle.run_page.proofs.NotedSoFar.{NotedSoFar}
use Rattle.run_page.proofs.noting.note_run.Given as goal

abbrev pub invariant-loop-taken : goal.invariant-loop-taken
invariant-loop-taken g l = record {
  so_far : (s : Setting) (d : Debugger) → StandsFor g.M.RecordedMachine.stands l.initial.session s d → SoFar g.M.RecordedMachine.stands s l.subject.most_steps d l.taken l.session;
  noted : (s : Setting) (d : Debugger) → StandsFor g.M.RecordedMachine.stands l.initial.session s d → 1 ≤ s.limit
      → NotedSoFar s.program l.most_words (now s d) (told_before l.subject l.taken) l.record l.told.rows.items l.told.calls.items;
}
