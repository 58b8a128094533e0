-- so many of the last pokes are passed
use Rattle.whole_runs.proofs.Counts.{HavePassed}
use Rattle.whole_runs.proofs.notes.Notes.kept_steps.Given as goal

abbrev pub invariant-loop-passed : goal.invariant-loop-passed
invariant-loop-passed l = HavePassed l.self.pokes.items l.self.steps l.self.kept l.passed l.left l.steps
