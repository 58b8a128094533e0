-- The levels of a frame and what they keep of foreach forms, as the code reads them.
use Rattle.std.specs.Prelude.{◌≡◌, ℕ, ◌<◌, [], ◌∷◌, Some, length}
use Rattle.gang_types.specs.Masks.{lanes_of}
use Rattle.gang_model.specs.Types.Tree.{Function, RoundsOf}
use Rattle.mask_states.specs.Points.{points_in}
use Rattle.foreach_lowering.specs.Law.{HasDimensions, IsKept}
use Rattle.foreach_lowering.specs.RoundViews.{AreLeft, IsFormOf, kept_view}
use Rattle.foreach_lowering.specs.declared.rounds.RoundsLeft.{RoundsLeft}
use Rattle.machine_states.specs.Levels.{IsForm, kept_in}
use Rattle.machine_states.specs.Regions.{CountersOf, Depth, EndOf, FunctionOf, NumbersOf, OfHead, OfLevel, Regions, ValuesOf}
use Rattle.machine_states.specs.Shows.{level_words}
use Rattle.machine_states.specs.Steps.{IsInnermost, least_in, waiting_in}
use Rattle.codegen.specs.Codes.{IndexesOf}
use Rattle.codegen.specs.declared.code.IndexCode.{IndexCode}
use Rattle.frame_steps.specs.declared.compiled.CompiledProgram.{CompiledProgram}
use Rattle.frame_steps.specs.declared.levels.FrameStep.{FrameStep}
use Rattle.frame_steps.specs.Compiled.{function_of}

-- a form of a function that the frame runs has begun in this level of the frame
pub record HasForm (width : ℕ) (compiled : CompiledProgram) (regions : Regions) (frame level function : ℕ) (form : RoundsOf) : Type 0 where
  pub f : Function
  pub is_function : function_of compiled function ≡ Some f
  pub is_form : IsForm (points_in f) width (level_words regions frame level) form

-- the level keeps the rounds of a form with these index variables: it has the words for them, and no more is left than there is
pub record KeepsRounds (width : ℕ) (regions : Regions) (frame level : ℕ) (code : IndexCode) (form : RoundsOf) : Type 0 where
  pub indexes : IndexesOf code form
  pub dimensions : HasDimensions form
  pub counted : length (regions (OfLevel frame level CountersOf)) ≡ 9
  pub valued : length (regions (OfLevel frame level ValuesOf)) ≡ width
  pub kept : IsKept form width (kept_in width form (level_words regions frame level))

-- what is left of a form's rounds is what the level keeps of it
pub record AreRoundsOf (width : ℕ) (regions : Regions) (frame level : ℕ) (form : RoundsOf) (left : RoundsLeft width) : Type 0 where
  pub kept : kept_view width left ≡ kept_in width form (level_words regions frame level)
  pub of_form : IsFormOf width form left
  pub are_left : AreLeft width left

-- ---- levels

-- there is such a frame, and it runs this function
pub record IsRunning (regions : Regions) (frame function : ℕ) : Type 0 where
  pub height : ℕ
  pub depth : regions Depth ≡ height ∷ []
  pub below : frame < height
  pub runs : regions (OfHead frame FunctionOf) ≡ function ∷ []

-- the level has a number for each lane, and an end if it is a form's
pub record HasLevel (width : ℕ) (regions : Regions) (frame level : ℕ) : Type 0 where
  pub numbered : length (regions (OfLevel frame level NumbersOf)) ≡ width
  pub ended : 0 < level → length (regions (OfLevel frame level EndOf)) ≡ 1

-- the innermost level, its least number, and the lanes that wait for it
pub record IsFrameStep (width : ℕ) (regions : Regions) (frame : ℕ) (f : Function) (found : FrameStep) : Type 0 where
  pub innermost : IsInnermost width regions frame f found.level
  pub least_number : found.step ≡ least_in regions frame f found.level
  pub lanes : lanes_of width found.lanes ≡ waiting_in regions frame found.level found.step
