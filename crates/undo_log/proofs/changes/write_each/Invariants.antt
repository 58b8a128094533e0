-- those behind this one are taken back
use Rattle.std.proofs.Common.{◌≡◌, ◌≤◌, length, take}
use Rattle.std.specs.Prelude.{reverse}
use Rattle.undo_log.specs.DeltaRings.{taken_back}
use Rattle.undo_log.proofs.changes.write_each.Given as goal

abbrev pub invariant-loop-left : goal.invariant-loop-left
invariant-loop-left l = record {
  bound : l.left ≤ length l.changes;
  long : length l.words ≡ length l.fn.words;
  words : taken_back (reverse (take l.left l.changes)) l.words ≡ taken_back (reverse l.changes) l.fn.words;
}

abbrev pub decreases-loop-left : goal.decreases-loop-left
decreases-loop-left l = l.left
