-- What holds of each step that lanes wait for, in each level of a frame.
use Rattle.std.specs.Prelude.{◌≡◌, ℕ, ◌<◌, List, [], ◌∷◌, length, Some, slice_get}
use Rattle.gang_model.specs.Types.Tree.{StepNumber, Function}
use Rattle.mask_states.specs.Points.{Turn, closing_number, points_in}
use Rattle.mask_states.specs.Placed.{HasPoint}
use Rattle.mask_states.specs.Masked.{Level, next_in}
use Rattle.machine_states.specs.RoundNumbers.{rounds_about}

-- It holds of the steps that lanes wait for in a level. The lanes that are not in the call, or in the round, wait at the level's end from
-- the beginning, so it is asked for there once all lanes wait there.
pub record LevelHolds (P : StepNumber → Type 0) (level : Level) : Type 0 where
  pub waits : (lane : ℕ) (number : StepNumber) → slice_get level.numbers lane ≡ Some number → number < level.end → P number
  pub ends : next_in level ≡ level.end → P level.end

-- a lane that waits in a form's level, and not for its rounds, waits for a step right in the form
abbrev pub WaitsInside : Function → Level → Type 0
WaitsInside f level = (lane : ℕ) (number : StepNumber) → slice_get level.numbers lane ≡ Some number → number < level.end → rounds_about f number ≡ Some level.end

-- a function's body ends at the closing brace, a form at its rounds, of which it holds at any time
abbrev pub EndHolds : (P : StepNumber → Type 0) → Function → Level → (below : List Level) → Type 0
EndHolds P f level [] = level.end ≡ closing_number f
EndHolds P f level (next ∷ below) = P level.end × ((body : StepNumber) × HasPoint (points_in f) level.end (Turn body)) × WaitsInside f level

-- in each level of a frame that runs a function, by how many levels are below it
abbrev pub LevelsHold : (P : (depth : ℕ) → StepNumber → Type 0) → Function → List Level → Type 0
LevelsHold P f [] = Unit {0}
LevelsHold P f (level ∷ below) = LevelHolds (P (length below)) level × EndHolds (P (length below)) f level below × LevelsHold P f below
