-- the counts are as they were
use Rattle.std.proofs.Common.{◌≡◌, ℕ, ◌+◌, ◌-◌, vec_len}
use Rattle.lane_counts.specs.Counted.{counts_at}
use Rattle.lane_counts.proofs.table.Table.grow.Given as goal

abbrev pub invariant-loop-self : goal.invariant-loop-self
invariant-loop-self l = (k : ℕ) → counts_at l.self.rows.items k ≡ counts_at l.initial.self.rows.items k

abbrev pub decreases-loop-self : goal.decreases-loop-self
decreases-loop-self l = l.number + 1 - vec_len l.self.rows
