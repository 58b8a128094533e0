-- What becomes of the words of a machine when a result is given to what it is for.
use Rattle.std.specs.Prelude.{◌≡◌, ℕ, ◌+◌, ◌≤◌, List, [], ◌∷◌, Some}
use Rattle.gang_types.specs.declared.types.IntType.{IntType}
use Rattle.gang_types.specs.Lanes.{Lanes}
use Rattle.gang_model.specs.Types.Tree.{Function, ResultFor}
use Rattle.undo_log.specs.History.{History}
use Rattle.gang_memory.specs.Recorded.{without_words}
use Rattle.machine_states.specs.WellScoped.{ResultWellScoped}
use Rattle.machine_states.specs.Regions.{FunctionOf, OfHead, Region, Regions}
use Rattle.machine_states.specs.Steps.{Delivers}
use Rattle.machine_words.specs.declared.words.MachineWords.{MachineWords}
use Rattle.machine_words.specs.Words.{AreLaid, left_of, regions_in}
use Rattle.frame_steps.specs.declared.compiled.CompiledProgram.{CompiledProgram}
use Rattle.frame_steps.specs.Compiled.{function_of, variables_of}

-- a frame runs g, which has what a result is for
pub record TakesResult (compiled : CompiledProgram) (regions : Regions) (frame : ℕ) (for : ResultFor) (g : Function) : Type 0 where
  pub n : ℕ
  pub runs : regions (OfHead frame FunctionOf) ≡ n ∷ []
  pub is_function : function_of compiled n ≡ Some g
  pub well_scoped : ResultWellScoped (variables_of compiled) n for

-- A result of this type is given to what it is for, in these lanes of a frame of g; nothing else is changed but what `Delivers` says. At most
-- w + 1 words were set.
pub record GivesResult {T : Type 0} (history : T → History) (left : T → ℕ) (width frame : ℕ) (g : Function) (for : ResultFor) (type : IntType) (lanes : Lanes) (values : List ℕ) (old new : MachineWords T) : Type 0 where
  pub delivered : Regions
  pub delivers : Delivers width frame g for type lanes values (regions_in history width old) delivered
  pub regions : (r : Region) → regions_in history width new r ≡ delivered r
  pub layout : new.layout ≡ old.layout
  pub laid : AreLaid history width new
  pub rest : without_words (history new.store.timeline) ≡ without_words (history old.store.timeline)
  pub few : left_of history left old ≤ left_of history left new + (width + 1)
