-- the first words are copied, and there are as many as before
use Rattle.std.proofs.Common.{◌≡◌, length, take}
use Rattle.gang_machine.proofs.again.copy_words.Given as goal

abbrev pub invariant-loop-index : goal.invariant-loop-index
invariant-loop-index g l = record {
  long : length l.copy ≡ length (g.T.Timeline.history l.words.store.timeline).words;
  front : take l.index l.copy ≡ take l.index (g.T.Timeline.history l.words.store.timeline).words;
}
