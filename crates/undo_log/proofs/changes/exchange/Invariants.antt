-- the words before this one are set
use Rattle.std.proofs.Common.{◌≡◌, length, take}
use Rattle.std.specs.Simd.Lanes.{put_chunk}
use Rattle.undo_log.specs.DeltaRings.{run_changes}
use Rattle.undo_log.proofs.changes.exchange.Given as goal

abbrev pub invariant-loop-index : goal.invariant-loop-index
invariant-loop-index g l = record {
  words : l.words ≡ put_chunk l.fn.first l.fn.words (take l.index l.fn.values);
  changes : take l.index l.changes ≡ run_changes l.fn.first l.index l.fn.words;
  long : length l.changes ≡ length l.fn.values;
}
