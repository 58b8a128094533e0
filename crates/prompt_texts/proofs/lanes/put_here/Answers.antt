use Rattle.std.proofs.Common.{sym, subst}
use Rattle.prompt_texts.specs.LaneShares.{here_text}
use Rattle.prompt_texts.specs.Shown.{Puts}
use Rattle.prompt_texts.proofs.Putting.{puts_both}
use Rattle.prompt_texts.proofs.lanes.put_here.Goals as goal

pub returns-in-Some : goal.returns-in-Some
returns-in-Some g c =
    let written = g.O.AnswerWriter.written in
    let old = c.args.page.now in
    let new = c.put_function.new.page in
    subst (λ here. Puts (here_text here) old.has_failed new.has_failed (written old.writer) (written new.writer)) (sym c.in-Some.is)
    (puts_both _ _ _ _ _ _ _ _ c.put_line.ensures c.put_function.ensures)
