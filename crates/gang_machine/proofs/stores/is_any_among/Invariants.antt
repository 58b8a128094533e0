-- the lanes before this one have none of the elements
use Rattle.std.proofs.Common.{◌≡◌, ◌+◌, ◌<◌, ℕ, true, false}
use Rattle.std.specs.Prelude.{◌&&◌, nat_le, nat_lt}
use Rattle.gang_types.specs.Lanes.{has}
use Rattle.gang_types.specs.Masks.{lanes_of}
use Rattle.gang_model.specs.Running.Lanes.{at}
use Rattle.gang_machine.proofs.stores.is_any_among.Given as goal

abbrev pub invariant-loop-lane : goal.invariant-loop-lane
invariant-loop-lane g l =
    (k : ℕ) → k < l.lane → has (lanes_of g.row.W l.fn.lanes) k ≡ true
    → (nat_le l.fn.from (l.fn.first + at l.fn.indices k) && nat_lt (l.fn.first + at l.fn.indices k) (l.fn.from + l.fn.count)) ≡ false
