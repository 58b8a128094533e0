use Rattle.std.proofs.Common.{◌≡◌, take}
use Rattle.mask_states.specs.Masked.{least}
use Rattle.frame_steps.proofs.waiting.least.Given as goal

abbrev pub invariant-loop-number : goal.invariant-loop-number
invariant-loop-number g l = l.found ≡ least l.end (take l.number-index l.numbers)
