-- The code of the next step.
use Rattle.std.proofs.Common.{ℕ, ◌≤◌, subst, arith, List, length, Some}
use Rattle.std.specs.Prelude.{◌≡◌, slice_get}
use Rattle.std.proofs.lemmas.Option.{slice_get_past}
use Rattle.gang_model.specs.Types.Tree.{Function}
use Rattle.mask_states.specs.Points.{points_in}
use Rattle.machine_states.specs.Regions.{Regions}
use Rattle.codegen.specs.declared.code.StepCode.{StepCode}
use Rattle.codegen.specs.Codes.{DoAll, Does}
use Rattle.codegen.proofs.Rows.{fit_long}
use Rattle.frame_steps.specs.declared.active.Active.{Active}
use Rattle.frame_steps.specs.declared.compiled.CompiledProgram.{CompiledProgram}
use Rattle.frame_steps.specs.Standing.{DoesNext, IsActive, IsClosing, IsNextOf}
use Rattle.frame_steps.proofs.FunctionCode.{fit_with}

module _ (width : ℕ) (compiled : CompiledProgram) (regions : Regions) (active : Active) (next : IsNextOf width compiled regions (Some active)) where
  -- the next step's function
  abbrev pub next_function : Function
  next_function = next.0

  module _ (steps : List StepCode) (does : DoAll steps (points_in next_function)) where
    -- it has code
    pub does_next : (code : StepCode) → slice_get steps active.step ≡ Some code → DoesNext width compiled regions active code
    does_next code is =
        let found = fit_with Does steps (points_in next_function) active.step code does is in
        (next_function, found.0, found.2, subst (λ o. IsActive width compiled regions active next_function o) found.1 next.1)

    -- or is the closing brace
    pub is_closing : length steps ≤ active.step → IsClosing width compiled regions active
    is_closing past =
        let long = fit_long Does steps (points_in next_function) does in
        (next_function, subst (λ o. IsActive width compiled regions active next_function o) (slice_get_past (points_in next_function) active.step (omega (arith, past, long))) next.1)
