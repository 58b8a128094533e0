-- the numbers that were read are disabled
use Rattle.std.proofs.Common.{◌≡◌, drop}
use Rattle.prompt_scenes.specs.Holding.{held}
use Rattle.prompt_stops.specs.Numbers.{disabled_each}
use Rattle.prompt_stops.proofs.numbers.disable_each.Given as goal

abbrev pub invariant-loop-number : goal.invariant-loop-number
invariant-loop-number g l = disabled_each (drop l.number-index l.numbers) (held l.holding) ≡ disabled_each l.numbers (held l.initial.holding)
