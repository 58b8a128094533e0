-- the same is kept for each step
use Rattle.std.proofs.Common.{◌+◌, ◌-◌, vec_len}
use Rattle.expression_watches.specs.Codes.{IsSame}
use Rattle.expression_watches.proofs.codes.KeptCodes.grow.Given as goal

abbrev pub invariant-loop-self : goal.invariant-loop-self
invariant-loop-self l = IsSame l.initial.self.codes.items l.self.codes.items

abbrev pub decreases-loop-self : goal.decreases-loop-self
decreases-loop-self l = l.number + 1 - vec_len l.self.codes
