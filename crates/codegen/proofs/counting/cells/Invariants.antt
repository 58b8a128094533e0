-- the most of the functions before this one
use Rattle.std.proofs.Common.{◌≡◌, take}
use Rattle.codegen.specs.Cells.{cells_by}
use Rattle.codegen.proofs.counting.cells.Given as goal

abbrev pub invariant-loop-steps : goal.invariant-loop-steps
invariant-loop-steps l = l.most ≡ cells_by l.width (take l.steps-index l.steps-items)
