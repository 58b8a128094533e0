-- The programs that a machine runs.
use Rattle.std.specs.Prelude.{◌≡◌, ℕ, List, filter, length, map, Some, slice_get}
use Rattle.gang_model.specs.Types.Tree as t
use Rattle.mask_states.specs.Stands.{AreLowerable}
use Rattle.machine_states.specs.Declared.{AreDeclaredFirst}
use Rattle.machine_states.specs.WellScoped.{IsWellScopedProgram}
use Rattle.machine_states.specs.Variables.{Variables}
use Rattle.expression_code.specs.ProgramRoom.{HaveRoom}
use Rattle.typed_tree.specs.declared.program.Function.{Function}
use Rattle.typed_tree.specs.declared.program.Program.{Program}
use Rattle.typed_tree.specs.Views.{program_view, variable_view}

-- the variables of a function, by their numbers
abbrev pub own_variables : Function → List t.Variable
own_variables f = map variable_view f.variables.items

-- the variables of a typed program
abbrev pub variables_of : Program → Variables
variables_of program = record {
  file = map (λ g. variable_view g.variable) program.globals.items;
  own = map own_variables program.functions.items;
  parameters = map (λ f. length (filter (λ v. v.is_parameter) (own_variables f))) program.functions.items;
}

-- A well-scoped program, whose steps are numbered in running order, in which each name is declared before, each call finds its function, and
-- each expression finds room.
pub record IsRunnable (program : Program) : Type 0 where
  pub most : ℕ
  pub well_scoped : IsWellScopedProgram (variables_of program) most (program_view program)
  pub declared : AreDeclaredFirst (variables_of program) (program_view program)
  pub lowerable : AreLowerable (program_view program)
  pub room : (n : ℕ) (f : t.Function) → slice_get (program_view program).functions n ≡ Some f → HaveRoom f.body
