use Rattle.std.proofs.Common.{refl, ap}
use Rattle.gang_memory.specs.Recorded.{without_words}
use Rattle.frame_steps.proofs.Standings.{left_after}
use Rattle.frame_steps.proofs.recording.begin.Goals as goal

pub returns : goal.returns
returns g c = record {
  words = ap (λ h. h.words) c.mark.ensures.history;
  layout = refl;
  recorded = ap without_words c.mark.ensures.history;
  left_is = left_after (g.T.Timeline.history c.mark.new.self).past (g.T.Timeline.left c.mark.new.self) (g.T.Timeline.history c.args.words.now.store.timeline).room c.mark.ensures.left;
}
