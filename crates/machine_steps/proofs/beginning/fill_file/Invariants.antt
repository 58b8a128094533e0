use Rattle.machine_steps.proofs.FirstWords.{AreFilled}
use Rattle.machine_steps.proofs.beginning.fill_file.Given as goal

-- the variables of the file so far have their words
abbrev pub invariant-loop-number : goal.invariant-loop-number
invariant-loop-number g l = AreFilled g.T.Timeline.history g.row.W l.number l.compiled.program.globals.items l.fn.words l.words
