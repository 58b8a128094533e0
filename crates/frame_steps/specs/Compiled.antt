-- What a compiled program is a program of.
use Rattle.std.specs.Prelude.{◌≡◌, ℕ, Option, Some, map, slice_get}
use Rattle.gang_model.specs.Types.Tree.{Function, Program, RoundsOf}
use Rattle.foreach_lowering.specs.Forms.{round_forms}
use Rattle.mask_states.specs.Points.{closing_number, entry_of, points_in}
use Rattle.machine_states.specs.Nesting.{most_levels}
use Rattle.machine_states.specs.Variables.{Variables}
use Rattle.typed_tree.specs.Views.{program_view}
use Rattle.codegen.specs.Codes.{DoEach, RoundEach}
use Rattle.codegen.specs.Programs as programs
use Rattle.codegen.specs.Programs.{IsRunnable}
use Rattle.frame_steps.specs.declared.compiled.CompiledProgram.{CompiledProgram}

-- its program, the variables of that, and one of its functions
abbrev pub program_of : CompiledProgram → Program
program_of compiled = program_view compiled.program

abbrev pub variables_of : CompiledProgram → Variables
variables_of compiled = programs.variables_of compiled.program

abbrev pub function_of : CompiledProgram → (n : ℕ) → Option Function
function_of compiled n = slice_get (program_of compiled).functions n

-- a step of a function is the rounds of this form
pub record IsRounds (compiled : CompiledProgram) (function number : ℕ) (f : Function) (form : RoundsOf) : Type 0 where
  pub is_function : function_of compiled function ≡ Some f
  pub is_form : slice_get (round_forms f) number ≡ Some (Some form)

-- the program is one that a machine runs, the code does what its points do, has the index variables of rounds, and tells how many forms stand
-- in one another, and lanes begin at the first step of each function
pub record IsCompiled (compiled : CompiledProgram) : Type 0 where
  pub runnable : IsRunnable compiled.program
  pub does : DoEach compiled.code.functions.items (map points_in (program_of compiled).functions)
  pub rounds : RoundEach compiled.code.functions.items (program_of compiled).functions
  pub levels : compiled.code.levels ≡ most_levels (program_of compiled)
  pub begins : compiled.code.entries.items ≡ map (λ f. entry_of f.body (closing_number f)) (program_of compiled).functions
