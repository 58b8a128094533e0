-- no lane before this one is active
use Rattle.std.proofs.Common.{◌≡◌, ℕ, ◌<◌, false}
use Rattle.gang_types.specs.Lanes.{has}
use Rattle.gang_types.specs.Masks.{IsGangWidth, lanes_of}
use Rattle.adapter_replies.proofs.expressions.one_text.Given as goal

abbrev pub invariant-loop-lane : goal.invariant-loop-lane
invariant-loop-lane l = IsGangWidth l.lanes.width → (k : ℕ) → k < l.lane → has (lanes_of l.lanes.width l.lanes.lanes) k ≡ false
