-- the functions of the numbers before this one are counted
use Rattle.std.proofs.Common.{◌≡◌, ℕ}
use Rattle.std.specs.Prelude.{nat_lt, ◌&&◌}
use Rattle.lane_counts.specs.Counted.{counts_at, noted}
use Rattle.lane_counts.specs.Pending.{has_function}
use Rattle.lane_counts.proofs.table.Table.add_each.Given as goal

abbrev pub invariant-loop-number : goal.invariant-loop-number
invariant-loop-number l = (k : ℕ) → counts_at l.self.rows.items k
    ≡ noted (nat_lt k l.number && has_function k l.frames.lasts.items) l.lanes l.width 0 (counts_at l.initial.self.rows.items k)
