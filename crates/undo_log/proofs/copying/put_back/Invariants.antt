-- the first words are those of the copy
use Rattle.std.proofs.Common.{◌≡◌, ◌++◌, take, drop}
use Rattle.undo_log.specs.History.{put_words}
use Rattle.undo_log.proofs.copying.put_back.Given as goal

abbrev pub invariant-loop-index : goal.invariant-loop-index
invariant-loop-index g l = g.T.Timeline.history l.timeline
    ≡ put_words (take l.index l.copy ++ drop l.index (g.T.Timeline.history l.initial.timeline).words) (g.T.Timeline.history l.initial.timeline)
