use Rattle.std.proofs.Common.{subst}
use Rattle.std.proofs.lemmas.List.{replicate_more}
use Rattle.prompt_texts.specs.Shown.{Puts}
use Rattle.prompt_texts.proofs.Putting.{puts_both}
use Rattle.prompt_texts.proofs.lanes.put_blanks.Goals as goal

pub loop-blank-preserved : goal.loop-blank-preserved
loop-blank-preserved g c =
    let written = g.O.AnswerWriter.written in
    let old = c.args.page.now in
    let new = c.put.new.self in
    subst (λ t. Puts t old.has_failed new.has_failed (written old.writer) (written new.writer)) (replicate_more c.loop-blank._blank 32)
    (puts_both _ _ _ _ _ _ _ _ c.loop-blank.invariant c.put.ensures)
