-- What a run begins with: the rows of an input, and what the first words of a variable leave.
use Rattle.std.specs.Prelude.{◌≡◌, ℕ, true, false, List, length, Some, slice_get}
use Rattle.gang_types.specs.declared.places.VarId.TheVariants.{File, Local}
use Rattle.gang_model.specs.Debugger.Events.{Given, Row, initial_memory, with_rows}
use Rattle.gang_model.specs.Running.State.{words_of}
use Rattle.gang_model.specs.Types.Tree.{Function}
use Rattle.undo_log.specs.History.{History}
use Rattle.typed_tree.specs.declared.program.Program.{Program}
use Rattle.typed_tree.specs.Views.{program_view}
use Rattle.gang_memory.specs.Recorded.{without_words}
use Rattle.input_rows.specs.declared.row.InputRow.{InputRow}
use Rattle.input_rows.specs.Inputs.{AreInputs, entry_length}
use Rattle.input_rows.specs.Rows.{AreRows}
use Rattle.machine_states.specs.EntryParameters.{HasEntryParameters}
use Rattle.machine_states.specs.GivenRows.{ShowsGiven}
use Rattle.machine_states.specs.Regions.{OfEntry, OfFile, Region, Regions, same_region}
use Rattle.codegen.specs.Programs.{variables_of}
use Rattle.machine_words.specs.declared.words.MachineWords.{MachineWords}
use Rattle.machine_words.specs.Words.{AreLaid, regions_in}
use Rattle.frame_steps.specs.declared.compiled.CompiledProgram.{CompiledProgram}
use Rattle.frame_steps.specs.Compiled.{program_of}
use Rattle.frame_steps.specs.Standing.{AreFor}

-- rows of the definitions, given by their numbers, with which a run of a function of the program may begin
pub record MayBegin (program : Program) (entry : ℕ) (f : Function) (given : List Row) (rows : List InputRow) : Type 0 where
  pub is_function : slice_get (program_view program).functions entry ≡ Some f
  pub parameters : HasEntryParameters (variables_of program) entry f
  pub inputs : AreInputs (program_view program) f given
  pub rows_are : AreRows given rows

-- the entry's arrays have as many words as their rows
abbrev pub HaveEntryLengths : Regions → List Row → Type 0
HaveEntryLengths regions given = (n : ℕ) → length (regions (OfEntry n)) ≡ entry_length given n

-- the variable of this number has these words; nothing else is changed, and nothing is kept of the words before
pub record FillsVariable {T : Type 0} (history : T → History) (width number : ℕ) (words : List ℕ) (old new : MachineWords T) : Type 0 where
  pub filled : regions_in history width new (OfFile number) ≡ words
  pub others : (r : Region) → same_region (OfFile number) r ≡ false → regions_in history width new r ≡ regions_in history width old r
  pub layout : new.layout ≡ old.layout
  pub laid : AreLaid history width new
  pub rest : without_words (history new.store.timeline) ≡ without_words (history old.store.timeline)

-- each variable of the file has its first words, and nothing else is changed
pub record FillsFile {T : Type 0} (history : T → History) (width : ℕ) (compiled : CompiledProgram) (old new : MachineWords T) : Type 0 where
  pub file : (n : ℕ) → regions_in history width new (OfFile n) ≡ words_of (initial_memory width (program_of compiled).globals) (File n)
  pub lie : AreFor history width compiled new
  pub layout : new.layout ≡ old.layout
  pub rest : without_words (history new.store.timeline) ≡ without_words (history old.store.timeline)

-- the regions are changed so; the words lie as before, and nothing is kept of those before
pub record AreChanged {T : Type 0} (history : T → History) (width : ℕ) (Change : Regions → Regions → Type 0) (old new : MachineWords T) : Type 0 where
  pub change : Change (regions_in history width old) (regions_in history width new)
  pub layout : new.layout ≡ old.layout
  pub laid : AreLaid history width new
  pub rest : without_words (history new.store.timeline) ≡ without_words (history old.store.timeline)

-- each row of a parameter of this number is that of an array
abbrev pub AreArrayRows : List Row → ℕ → Type 0
AreArrayRows given n = (i : ℕ) (row : Row) → slice_get given i ≡ Some row → row.variable.id ≡ Local n → row.variable.is_array ≡ true

-- what the rows give is shown, and the words lie as before
pub record GivesRows {T : Type 0} (history : T → History) (width : ℕ) (compiled : CompiledProgram) (entry : ℕ) (rows : List InputRow) (old new : MachineWords T) : Type 0 where
  pub shown : (f : Function) (given : List Row) (first : Given) → MayBegin compiled.program entry f given rows → HaveEntryLengths (regions_in history width old) given
      → ShowsGiven (variables_of compiled.program) width entry (regions_in history width old) given 0 first
      → ShowsGiven (variables_of compiled.program) width entry (regions_in history width new) given (length given) (with_rows given first)
  pub lie : AreFor history width compiled new
  pub layout : new.layout ≡ old.layout
  pub rest : without_words (history new.store.timeline) ≡ without_words (history old.store.timeline)
