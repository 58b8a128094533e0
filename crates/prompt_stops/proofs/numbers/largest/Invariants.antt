-- the largest of the numbers that were read
use Rattle.std.proofs.Common.{◌≡◌, drop}
use Rattle.prompt_stops.specs.Listed.{largest}
use Rattle.prompt_stops.proofs.numbers.largest.Given as goal

abbrev pub invariant-loop-number : goal.invariant-loop-number
invariant-loop-number l = largest l.found (drop l.number-index l.numbers) ≡ largest l.first l.numbers
