-- as many steps were tried and done as rounds were made, with a column and values for each
use Rattle.std.proofs.Common.{◌≡◌, ◌≤◌, length}
use Rattle.gang_model.specs.Debugger.Debugger.{Debugger, Setting, now}
use Rattle.debug_commands.specs.TargetViews.{target_option}
use Rattle.debug_session.specs.Sessions.{StandsFor}
use Rattle.lane_picture.specs.Seen.{AreColumns}
use Rattle.lane_picture.specs.Watched.{HaveValues}
use Rattle.lane_picture.proofs.Counting.{SoFar}
use Rattle.lane_picture.proofs.columns.see_steps.Given as goal

abbrev pub invariant-loop-count : goal.invariant-loop-count
invariant-loop-count g l = record {
  each : length l.seen.columns.items ≡ l._count;
  so_far : (s : Setting) (d : Debugger) → StandsFor g.M.RecordedMachine.stands l.initial.session s d → SoFar g.M.RecordedMachine.stands s l.most_steps d l._count l.session;
  stand : (s : Setting) (d : Debugger) → StandsFor g.M.RecordedMachine.stands l.initial.session s d → 1 ≤ s.limit → AreColumns s.program (now s d) l.seen.columns.items;
  values : (s : Setting) (d : Debugger) → StandsFor g.M.RecordedMachine.stands l.initial.session s d → 1 ≤ s.limit → HaveValues s.program (target_option l.watched) l.seen.values.items (now s d) l.seen.columns.items;
}
