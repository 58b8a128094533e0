-- the first words
use Rattle.std.proofs.Common.{◌≡◌, take}
use Rattle.undo_log.proofs.copying.all_words.Given as goal

abbrev pub invariant-loop-index : goal.invariant-loop-index
invariant-loop-index g l = l.copy.items ≡ take l.index (g.T.Timeline.history l.timeline).words
