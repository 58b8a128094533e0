-- Which foreach forms stand round each step of a function.
use Rattle.std.specs.Prelude.{ℕ, List, [], length, slice_index_or}
use Rattle.gang_model.specs.Types.Tree.{StepNumber, RoundsOf, Function, Program}
use Rattle.foreach_lowering.specs.Forms.{forms_round, most_nested}
use Rattle.machine_states.specs.Cells.{greatest}

-- the forms round a step, the innermost first; none round the closing brace
abbrev pub forms_about : Function → StepNumber → List RoundsOf
forms_about f number = slice_index_or (forms_round [] f.body) number []

-- how many there are
abbrev pub nested_at : Function → StepNumber → ℕ
nested_at f number = length (forms_about f number)

-- the most round one step of a program
abbrev pub most_levels : Program → ℕ
most_levels p = greatest most_nested p.functions
