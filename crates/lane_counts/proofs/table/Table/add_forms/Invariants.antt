-- the forms of the numbers before this one are counted
use Rattle.std.proofs.Common.{◌≡◌, ℕ}
use Rattle.std.specs.Prelude.{nat_lt, ◌&&◌, slice_get}
use Rattle.lane_counts.specs.Counted.{counts_at, noted}
use Rattle.lane_counts.specs.Formed.{has_part}
use Rattle.lane_counts.proofs.table.Table.add_forms.Given as goal

abbrev pub invariant-loop-number : goal.invariant-loop-number
invariant-loop-number l = (k : ℕ) → counts_at l.self.rows.items k
    ≡ noted (nat_lt k l.number && has_part l.part (slice_get l.forms k) l.spot) l.lanes l.width 0 (counts_at l.initial.self.rows.items k)
