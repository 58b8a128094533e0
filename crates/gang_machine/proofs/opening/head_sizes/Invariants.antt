use Rattle.std.proofs.Common.{◌≡◌}
use Rattle.machine_words.specs.Ranges.{head_sizes}
use Rattle.gang_machine.proofs.opening.head_sizes.Given as goal

abbrev pub invariant-loop : goal.invariant-loop
invariant-loop g l = l.sizes.items ≡ head_sizes g.row.W l.counter
