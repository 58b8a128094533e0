-- What lanes wait for in the levels of a frame, as the code reads them.
use Rattle.std.specs.Prelude.{◌≡◌, ℕ, length, Option, Some, None, if◌then◌else◌}
use Rattle.gang_model.specs.Types.Tree.{StepNumber, Function}
use Rattle.mask_states.specs.Points.{points_in}
use Rattle.mask_states.specs.Masked.{Level}
use Rattle.machine_states.specs.Levels.{AreForms, Forms}
use Rattle.machine_states.specs.Regions.{NumbersOf, OfLevel, Regions}
use Rattle.machine_states.specs.Shows.{level_words}
use Rattle.frame_steps.specs.declared.compiled.CompiledProgram.{CompiledProgram}
use Rattle.frame_steps.specs.Compiled.{function_of}
use Rattle.lane_places.specs.Levels.{is_past, number_in}

-- what a lane waits for in a form, none where it is past it
abbrev pub number_unless_past : (lane : ℕ) → Level → Option StepNumber
number_unless_past lane level = if is_past lane level then None else Some (number_in lane level)

-- forms of a function that a frame runs have begun in the frame, up to this level; its body has a number for each lane
pub record HasForms (width : ℕ) (compiled : CompiledProgram) (regions : Regions) (frame function level : ℕ) : Type 0 where
  pub f : Function
  pub is_function : function_of compiled function ≡ Some f
  pub forms : Forms
  pub long : length forms ≡ level
  pub are : AreForms (points_in f) width (level_words regions frame) forms
  pub body_sized : length (regions (OfLevel frame 0 NumbersOf)) ≡ width
