-- the most of the steps before this one
use Rattle.std.proofs.Common.{◌≡◌, take}
use Rattle.codegen.specs.Cells.{most_set}
use Rattle.codegen.proofs.counting.most_set.Given as goal

abbrev pub invariant-loop-step : goal.invariant-loop-step
invariant-loop-step l = l.most ≡ most_set l.width (take l.step-index l.steps)
