-- How many words the code of a step sets at most: as many as what the step does.
use Rattle.std.specs.Prelude.{ℕ, ◌+◌, ◌*◌, List, length, max, Vec}
use Rattle.std.specs.Global.{Global}
use Rattle.machine_states.specs.Cells.{greatest, words_left}
use Rattle.codegen.specs.declared.code.StepCode.{StepCode}
use Rattle.codegen.specs.declared.code.StepCode.TheVariants as step

abbrev pub words_set_by : (width : ℕ) → StepCode → ℕ
words_set_by width (step.Declare variable value next) = 2 * width
words_set_by width (step.Assign variable value next) = 2 * width
words_set_by width (step.Change variable change value next) = 2 * width
words_set_by width (step.AssignElement array index value next) = 2 * width
words_set_by width (step.ChangeElement array index change value next) = 2 * width
words_set_by width (step.PackedStore array from value result_for next) = 3 * width + 1
words_set_by width (step.PackedLoad array from into result_for next) = 3 * width + 1
words_set_by width (step.Return value next) = 2 * width + 1
words_set_by width (step.Check test next) = width
words_set_by width (step.Go next) = width
words_set_by width (step.Branch test yes' no') = width
words_set_by width (step.Choose selector segments next) = width
words_set_by width (step.Begin form rounds next) = 3 * width + 11
words_set_by width (step.Round form body) = 4 * width + 3
words_set_by width (step.Enter function args result_for next) = length args.items * width + width + 5

-- the most of a function, and of a program
abbrev pub most_set : (width : ℕ) → List StepCode → ℕ
most_set width steps = greatest (words_set_by width) steps

abbrev pub cells_by : (width : ℕ) → List (Vec StepCode Global) → ℕ
cells_by width functions = max (words_left width) (greatest (λ steps. most_set width steps.items) functions)
