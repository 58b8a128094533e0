-- What is ready to be run, and what the words of a machine are before its first step.
use Rattle.std.specs.Prelude.{◌≡◌, ℕ, ◌^◌, ◌<◌, List}
use Rattle.undo_log.specs.History.{History, new_history}
use Rattle.gang_model.specs.Debugger.Debugger.{step_lines}
use Rattle.gang_model.specs.Debugger.Events.{Row}
use Rattle.gang_model.specs.Types.Tree.{Function}
use Rattle.typed_tree.specs.Views.{program_view}
use Rattle.gang_memory.specs.Layouts.{IsLayoutOf}
use Rattle.gang_memory.specs.Ranges.{sizes_of}
use Rattle.input_rows.specs.declared.row.InputRow.{InputRow}
use Rattle.input_rows.specs.Inputs.{entry_lengths}
use Rattle.machine_states.specs.Nesting.{most_levels}
use Rattle.machine_states.specs.Variables.{parameters_of}
use Rattle.codegen.specs.Programs.{variables_of}
use Rattle.machine_words.specs.Ranges.{head_sizes, machine_sizes}
use Rattle.frame_steps.specs.Compiled.{IsCompiled}
use Rattle.machine_steps.specs.Beginning.{MayBegin}
use Rattle.gang_machine.specs.declared.opening.PreparedProgram.{PreparedProgram}

-- a program that a machine runs, with its code, the lines of its steps, and the layout of its words at this width, where the arrays
-- that its entry is given have these lengths
pub record IsPrepared (width : ℕ) (prepared : PreparedProgram) : Type 0 where
  pub compiled : IsCompiled prepared.compiled
  pub lines : step_lines (program_view prepared.compiled.program) ≡ prepared.lines.items
  pub lengths : List ℕ
  pub layout : IsLayoutOf width prepared.compiled.program lengths machine_sizes (head_sizes width (most_levels (program_view prepared.compiled.program))) prepared.layout
  pub small : prepared.layout.words < 2 ^ 64

-- a run of this entry may begin with these rows, and the layout has as many words for the entry's arrays as the rows have
pub record MayOpen (prepared : PreparedProgram) (entry : ℕ) (f : Function) (given : List Row) (rows : List InputRow) : Type 0 where
  pub begins : MayBegin prepared.compiled.program entry f given rows
  pub arrays : sizes_of prepared.layout.entry.items ≡ entry_lengths (parameters_of (variables_of prepared.compiled.program) entry) given

-- a record is new: it has so many words, all are 0, and no event is kept
abbrev pub IsNew : (words : ℕ) → History → Type 0
IsNew words history = history ≡ new_history words history.limit history.room
