-- Where the words of a machine stand, and what a step leaves.
use Rattle.std.specs.Prelude.{◌≡◌, ℕ, ◌+◌, ◌-◌, ◌^◌, ◌≤◌, false, min, List, [], ◌∷◌, Option, Some, None, Result, Ok, Err, slice_get}
use Rattle.gang_types.specs.Lanes.{no_lane}
use Rattle.gang_types.specs.Masks.{IsGangWidth, lanes_of}
use Rattle.gang_model.specs.Types.Tree.{Expr, Function}
use Rattle.gang_model.specs.Running.Lanes.{Fault as ModelFault}
use Rattle.gang_model.specs.Running.State.{Frame}
use Rattle.undo_log.specs.History.{History, marked}
use Rattle.undo_log.specs.declared.timeline.Undone.{Undone}
use Rattle.undo_log.specs.declared.timeline.Undone.TheVariants as undone
use Rattle.debug_traits.specs.declared.machine.Fault.{Fault}
use Rattle.debug_traits.specs.declared.machine.StepEnd.{StepEnd}
use Rattle.debug_traits.specs.declared.machine.StepEnd.TheVariants as end
use Rattle.debug_traits.specs.Machines.{fault_view}
use Rattle.gang_memory.specs.Layouts.{IsLayoutOf}
use Rattle.gang_memory.specs.Recorded.{without_words}
use Rattle.mask_states.specs.Points.{Point, points_in}
use Rattle.mask_states.specs.Masked.{Masked}
use Rattle.mask_states.specs.MaskedStep.{Goes, Over, masked_step}
use Rattle.machine_states.specs.Cells.{cells_of, words_set}
use Rattle.machine_states.specs.Declared.{AreDeclared, NamesDeclared, declared_before}
use Rattle.machine_states.specs.Nesting.{most_levels}
use Rattle.machine_states.specs.WellScoped.{IsWellScopedExpr}
use Rattle.machine_states.specs.Regions.{Depth, Regions}
use Rattle.machine_states.specs.Shows.{Shows}
use Rattle.machine_states.specs.Steps.{IsNext, GoesTo, FailsWith, waiting_in}
use Rattle.expression_instructions.specs.declared.code.Instruction.{Instruction}
use Rattle.expression_runs.specs.Room.{HasRoom}
use Rattle.codegen.specs.Codes.{Does, IsValue}
use Rattle.codegen.specs.declared.code.StepCode.{StepCode}
use Rattle.machine_words.specs.declared.words.MachineWords.{MachineWords}
use Rattle.machine_words.specs.Ranges.{head_sizes, machine_sizes}
use Rattle.machine_words.specs.Words.{AreLaid, left_of, regions_in}
use Rattle.frame_steps.specs.declared.active.Active.{Active}
use Rattle.frame_steps.specs.declared.compiled.CompiledProgram.{CompiledProgram}
use Rattle.frame_steps.specs.Compiled.{IsCompiled, program_of, variables_of}

-- the words show a masked state, of which each frame has declared what its lanes have passed
pub record IsShown {T : Type 0} (history : T → History) (width : ℕ) (compiled : CompiledProgram) (words : MachineWords T) (masked : Masked) : Type 0 where
  pub shows : Shows (program_of compiled) (variables_of compiled) width (regions_in history width words) masked
  pub declared : AreDeclared (variables_of compiled) (program_of compiled) masked

-- the words lie as the program's layout says, where the entry's arrays have these lengths, and have room for what one event of it
-- sets; the code is that of a program that a machine runs
pub record AreFor {T : Type 0} (history : T → History) (width : ℕ) (compiled : CompiledProgram) (words : MachineWords T) : Type 0 where
  pub gang : IsGangWidth width
  pub compiled_is : IsCompiled compiled
  pub lengths : List ℕ
  pub layout : IsLayoutOf width compiled.program lengths machine_sizes (head_sizes width (most_levels (program_of compiled))) words.layout
  pub laid : AreLaid history width words
  pub room : cells_of width (program_of compiled) ≤ (history words.store.timeline).room

-- each frame was made for some lane
abbrev pub HaveLanes : List Frame → Type 0
HaveLanes [] = Unit {0}
HaveLanes (frame ∷ frames) = (no_lane frame.lanes ≡ false) × HaveLanes frames

-- so they do, and show some masked state, of which each frame has a lane
pub record AreSound {T : Type 0} (history : T → History) (width : ℕ) (compiled : CompiledProgram) (words : MachineWords T) : Type 0 where
  pub lie : AreFor history width compiled words
  pub masked : Masked
  pub shown : IsShown history width compiled words masked
  pub called : HaveLanes masked.state.frames

-- ---- the next step

-- this is the next step, with its level and its lanes; it has this point, or is the function's closing brace
pub record IsActive (width : ℕ) (compiled : CompiledProgram) (regions : Regions) (active : Active) (f : Function) (point : Option Point) : Type 0 where
  pub next : IsNext (program_of compiled) width regions active.frame active.level active.function f active.step point
  pub lanes : lanes_of width active.lanes ≡ waiting_in regions active.frame active.level active.step

-- the next step, none where no frame is left
abbrev pub IsNextOf : (width : ℕ) → CompiledProgram → Regions → Option Active → Type 0
IsNextOf width compiled regions None = regions Depth ≡ 0 ∷ []
IsNextOf width compiled regions (Some active) = (f : Function) × IsActive width compiled regions active f (slice_get (points_in f) active.step)

-- the code does the point of the next step
abbrev pub DoesNext : (width : ℕ) → CompiledProgram → Regions → Active → StepCode → Type 0
DoesNext width compiled regions active code = (f : Function) × (point : Point) × Does code point × IsActive width compiled regions active f (Some point)

-- a lane does the next step, which sets words enough for a value in each lane and for where each goes on
abbrev pub SetsValues : (width : ℕ) → CompiledProgram → Regions → Active → Type 0
SetsValues width compiled regions active = (f : Function) × (point : Point) × IsActive width compiled regions active f (Some point) × (width + width ≤ words_set width point)
    × (no_lane (lanes_of width active.lanes) ≡ false)

-- the next step is a closing brace
abbrev pub IsClosing : (width : ℕ) → CompiledProgram → Regions → Active → Type 0
IsClosing width compiled regions active = (f : Function) × IsActive width compiled regions active f None

-- ---- values

-- the code computes an expression that the next step may have: it reads scalars that are declared, and finds room
pub record IsValueAt (width : ℕ) (compiled : CompiledProgram) (regions : Regions) (active : Active) (e : Expr) (code : List Instruction) : Type 0 where
  pub f : Function
  pub point : Option Point
  pub active_is : IsActive width compiled regions active f point
  pub value : IsValue e code
  pub well_scoped : IsWellScopedExpr (variables_of compiled) active.function e
  pub declared : NamesDeclared (declared_before (variables_of compiled) active.function f active.step) e
  pub room : HasRoom e

-- the answer is the value, or its fault
abbrev pub IsAnswer : {A : Type 0} → Result A Fault → Result A ModelFault → Type 0
IsAnswer (Ok values) meant = meant ≡ Ok values
IsAnswer (Err fault) meant = meant ≡ Err (fault_view fault)

-- ---- records

-- as many words may be set in an event as there is room for, or 2 ^ 64 - 1 where there is room for more
abbrev pub event_room : {T : Type 0} → (history : T → History) → MachineWords T → ℕ
event_room history words = min (history words.store.timeline).room (2 ^ 64 - 1)

-- nothing is changed but what is kept: this event, with all words before it
pub record Begins {T : Type 0} (history : T → History) (left : T → ℕ) (width : ℕ) (event : Undone) (old new : MachineWords T) : Type 0 where
  pub words : (history new.store.timeline).words ≡ (history old.store.timeline).words
  pub layout : new.layout ≡ old.layout
  pub recorded : without_words (history new.store.timeline) ≡ without_words (marked event (history old.store.timeline))
  pub left_is : event_room history old ≤ left_of history left new

-- this event is kept with all words before it, and the words lie as before
pub record Records {T : Type 0} (history : T → History) (width : ℕ) (event : Undone) (old new : MachineWords T) : Type 0 where
  pub recorded : without_words (history new.store.timeline) ≡ without_words (marked event (history old.store.timeline))
  pub layout : new.layout ≡ old.layout
  pub laid : AreLaid history width new

-- ---- steps

-- a step was done and recorded; or it has a fault, and nothing changed
abbrev pub EndsAs : {T : Type 0} → (history : T → History) → (width : ℕ) → CompiledProgram → Masked → (old : MachineWords T) → Result (Unit {0}) Fault → (new : MachineWords T) → Type 0
EndsAs history width compiled masked old (Ok done) new =
    GoesTo (program_of compiled) (variables_of compiled) width masked (regions_in history width new) × Records history width undone.Step old new
EndsAs history width compiled masked old (Err fault) new = FailsWith (program_of compiled) masked (fault_view fault) × (new ≡ old)

-- the same of each masked state that the old words show
abbrev pub Ends : {T : Type 0} → (history : T → History) → (width : ℕ) → CompiledProgram → (old : MachineWords T) → Result (Unit {0}) Fault → (new : MachineWords T) → Type 0
Ends history width compiled old result new = (masked : Masked) → IsShown history width compiled old masked → EndsAs history width compiled masked old result new

-- a whole step: done and recorded; or a fault, or the program has ended, and nothing changed
abbrev pub Steps : {T : Type 0} → (history : T → History) → (width : ℕ) → CompiledProgram → Masked → (old : MachineWords T) → StepEnd → (new : MachineWords T) → Type 0
Steps history width compiled masked old end.Done new =
    (next : Masked) × (masked_step (program_of compiled) masked ≡ Goes next) × IsShown history width compiled new next × Records history width undone.Step old new
Steps history width compiled masked old (end.Fault fault) new = FailsWith (program_of compiled) masked (fault_view fault) × (new ≡ old)
Steps history width compiled masked old end.Ended new = (masked_step (program_of compiled) masked ≡ Over) × (new ≡ old)
