-- none of those before is of a word of such an index
use Rattle.std.proofs.Common.{◌≡◌, ◌&&◌, nat_le, nat_lt, take, false}
use Rattle.std.specs.List.{list_any}
use Rattle.undo_log.proofs.changes.is_one_between.Given as goal

abbrev pub invariant-loop-change : goal.invariant-loop-change
invariant-loop-change l = list_any (λ c. nat_le l.first c.index && nat_lt c.index l.end) (take l.change-index l.changes) ≡ false
