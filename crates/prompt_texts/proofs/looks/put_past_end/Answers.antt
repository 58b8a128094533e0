use Rattle.std.proofs.Common.{subst}
use Rattle.prompt_texts.specs.Shown.{Puts}
use Rattle.prompt_texts.specs.SourceLines.{count_text}
use Rattle.prompt_texts.proofs.Putting.{puts_both}
use Rattle.prompt_texts.proofs.looks.put_past_end.Goals as goal

pub returns : goal.returns
returns g c =
    let written = g.O.AnswerWriter.written in
    let old = c.put_line_number.new.page in
    let new = c.put_count.new.page in
    let count = subst (λ n. Puts (count_text n) old.has_failed new.has_failed (written old.writer) (written new.writer)) c.lines.ensures c.put_count.ensures in
    puts_both _ _ _ _ _ _ _ _ c.put.ensures (puts_both _ _ _ _ _ _ _ _ c.put_line_number.ensures count)
