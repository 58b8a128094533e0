-- What becomes of the words of a machine when a frame is left: its result goes to what it is for, and the lanes of the call go on.
use Rattle.std.specs.Prelude.{◌≡◌, ℕ, ◌+◌, ◌-◌, ◌≤◌, false, List, [], ◌∷◌, Some, length, slice_get}
use Rattle.gang_types.specs.declared.types.IntType.{IntType}
use Rattle.gang_types.specs.declared.types.Rate.{Rate}
use Rattle.gang_types.specs.Lanes.{Lanes, no_lane}
use Rattle.gang_types.specs.Masks.{lanes_of}
use Rattle.gang_model.specs.Types.Tree.{Arg, Function, Program, ResultFor, StepNumber}
use Rattle.gang_model.specs.Running.State.{seen}
use Rattle.undo_log.specs.History.{History}
use Rattle.gang_memory.specs.Recorded.{without_words}
use Rattle.mask_states.specs.Points.{Enter, points_in}
use Rattle.machine_states.specs.Effects.{sent_on}
use Rattle.machine_states.specs.Regions.{FunctionOf, LanesOf, NumbersOf, OfHead, OfLevel, Region, Regions, ResultOf, ReturnedOf, lanes_in}
use Rattle.machine_states.specs.Shows.{result_of}
use Rattle.machine_states.specs.Steps.{Delivers, IsInnermost, converted_values, least_in, waiting_in}
use Rattle.typed_tree.specs.Views.{result_view}
use Rattle.machine_words.specs.declared.words.MachineWords.{MachineWords}
use Rattle.machine_words.specs.Words.{AreLaid, left_of, regions_in}
use Rattle.frame_steps.specs.declared.compiled.CompiledProgram.{CompiledProgram}
use Rattle.frame_steps.specs.Compiled.{program_of}
use Rattle.machine_steps.specs.declared.leaving.AwaitedCall.{AwaitedCall}

-- ---- the result

-- the lanes of the call that made a frame
abbrev pub lanes_called : (width : ℕ) → Regions → (frame : ℕ) → Lanes
lanes_called width regions frame = lanes_in width regions (OfHead frame LanesOf)

-- the result of a frame of a function with a result of this rate, as lanes see it
abbrev pub result_seen : (width : ℕ) → Regions → (frame : ℕ) → Rate → Lanes → List ℕ
result_seen width regions frame rate lanes =
    seen rate lanes (result_of rate (lanes_in width regions (OfHead frame ReturnedOf)) (regions (OfHead frame ResultOf)))

-- lanes see the same values: so they are, converted in them
abbrev pub AreSameIn : Lanes → (values others : List ℕ) → Type 0
AreSameIn lanes values others = (from to : IntType) → converted_values from to lanes values ≡ converted_values from to lanes others

-- ---- the call

-- the next step of a frame that runs g, in this level of it, is a call, with what its result is for and where its lanes go on
pub record IsAtCall (p : Program) (width : ℕ) (regions : Regions) (frame level n : ℕ) (g : Function) (for : ResultFor) (next : StepNumber) : Type 0 where
  pub called : ℕ
  pub args : List Arg
  pub runs : regions (OfHead frame FunctionOf) ≡ n ∷ []
  pub is_function : slice_get p.functions n ≡ Some g
  pub innermost : IsInnermost width regions frame g level
  pub calls : slice_get (points_in g) (least_in regions frame g level) ≡ Some (Enter called args for next)

-- a frame waits at this call: some lanes of a level of it, which has a number for each lane
pub record WaitsAt (width : ℕ) (compiled : CompiledProgram) (regions : Regions) (frame : ℕ) (call : AwaitedCall) : Type 0 where
  pub n : ℕ
  pub g : Function
  pub is_call : IsAtCall (program_of compiled) width regions frame call.level n g (result_view call.result_for) call.next
  pub lanes_are : lanes_of width call.lanes ≡ waiting_in regions frame call.level (least_in regions frame g call.level)
  pub some : no_lane (lanes_of width call.lanes) ≡ false
  pub sized : length (regions (OfLevel frame call.level NumbersOf)) ≡ width

-- the lanes of a level of a frame that runs g go on behind their call
abbrev pub behind_call : Regions → (frame level : ℕ) → (g : Function) → (next : StepNumber) → Regions → Regions
behind_call regions frame level g next = sent_on frame level (waiting_in regions frame level (least_in regions frame g level)) (λ k. next)

-- The result of a frame of f is given to the frame below, which made its call, and the lanes that wait there go on behind the call.
-- At most 2 * w + 1 words were set.
pub record GoesPastCall {T : Type 0} (history : T → History) (left : T → ℕ) (width : ℕ) (compiled : CompiledProgram) (frame : ℕ) (f : Function) (old new : MachineWords T) : Type 0 where
  pub level : ℕ
  pub n : ℕ
  pub g : Function
  pub for : ResultFor
  pub next : StepNumber
  pub call : IsAtCall (program_of compiled) width (regions_in history width old) (frame - 1) level n g for next
  pub delivered : Regions
  pub delivers : Delivers width (frame - 1) g for f.result_type (lanes_called width (regions_in history width old) frame)
      (result_seen width (regions_in history width old) frame f.result (lanes_called width (regions_in history width old) frame))
      (regions_in history width old) delivered
  pub regions : (r : Region) → regions_in history width new r ≡ behind_call (regions_in history width old) (frame - 1) level g next delivered r
  pub layout : new.layout ≡ old.layout
  pub laid : AreLaid history width new
  pub rest : without_words (history new.store.timeline) ≡ without_words (history old.store.timeline)
  pub few : left_of history left old ≤ left_of history left new + (width + width + 1)
