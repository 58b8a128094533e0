use Rattle.machine_steps.proofs.RowsGiven.{AreGivenSoFar}
use Rattle.machine_steps.proofs.rows.give_rows.Given as goal

-- the rows so far are given
abbrev pub invariant-loop-row : goal.invariant-loop-row
invariant-loop-row g l = AreGivenSoFar g.T.Timeline.history g.row.W l.compiled l.entry l.row-index l.rows l.fn.words l.words
