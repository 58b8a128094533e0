use Rattle.std.proofs.Common.{◌≡◌, drop, map}
use Rattle.prompt_scenes.specs.Changes.{step_in}
use Rattle.prompt_scenes.specs.Holding.{noted_of}
use Rattle.prompt_scenes.proofs.holding.Holding.checkpoint.Given as goal

abbrev pub invariant-loop-checkpoint : goal.invariant-loop-checkpoint
invariant-loop-checkpoint l = step_in (map noted_of (drop l.checkpoint-index l.checkpoint-items)) l.number ≡ step_in (map noted_of l.checkpoint-items) l.number
