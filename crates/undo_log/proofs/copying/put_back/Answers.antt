use Rattle.std.proofs.Common.{◌≡◌, ◌+◌, suc, ap, ◌∙◌, ◌++◌, arith, take, drop}
use Rattle.std.specs.Prelude.{slice_index}
use Rattle.undo_log.specs.History.{put_words, with_word}
use Rattle.undo_log.proofs.Copies.{put_one}
use Rattle.undo_log.proofs.copying.put_back.Goals as goal

pub loop-index-preserved : goal.loop-index-preserved
loop-index-preserved g c =
    let h = g.T.Timeline.history c.args.timeline.now in
    let copy = c.args.copy.now in
    let i = c.loop-index.index in
    let one : suc i ≡ i + 1 = omega arith in
    c.set.ensures.history ∙ ap (with_word i (slice_index copy i)) c.loop-index.invariant
    ∙ ap (λ words. put_words words h) (put_one copy h.words i c.requires.long c.loop-index-test.true)
    ∙ ap (λ n. put_words (take n copy ++ drop n h.words) h) one
