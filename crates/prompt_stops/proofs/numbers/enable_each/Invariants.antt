-- the numbers that were read are enabled
use Rattle.std.proofs.Common.{◌≡◌, drop}
use Rattle.prompt_scenes.specs.Holding.{held}
use Rattle.prompt_stops.specs.Numbers.{enabled_each}
use Rattle.prompt_stops.proofs.numbers.enable_each.Given as goal

abbrev pub invariant-loop-number : goal.invariant-loop-number
invariant-loop-number g l = enabled_each (drop l.number-index l.numbers) (held l.holding) ≡ enabled_each l.numbers (held l.initial.holding)
