use Rattle.std.proofs.Common.{◌≡◌, map, take}
use Rattle.gang_model.specs.Running.RunningOrder.{IsNumberedProgram}
use Rattle.typed_tree.specs.Views.{function_view, program_view}
use Rattle.mask_states.specs.Points.{points_in}
use Rattle.mask_lowering.specs.Views.{first_step, points_view}
use Rattle.mask_lowering.proofs.masked.lower.Given as goal

-- the functions so far have their points and their first steps
abbrev pub invariant-loop-function : goal.invariant-loop-function
invariant-loop-function l =
    IsNumberedProgram (program_view l.fn.program) → (map points_view l.functions.items ≡ map points_in (map function_view (take l.function-index l.function-items)))
    × (map (λ n. n) l.entries.items ≡ map first_step (map function_view (take l.function-index l.function-items)))
