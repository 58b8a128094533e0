-- the most that a function before this one has
use Rattle.std.proofs.Common.{◌≡◌, take}
use Rattle.gang_memory.specs.Layouts.{most_variables}
use Rattle.gang_memory.proofs.layout.most_variables.Given as goal

abbrev pub invariant-loop-function : goal.invariant-loop-function
invariant-loop-function l = l.most ≡ most_variables (take l.function-index l.fn.functions)
