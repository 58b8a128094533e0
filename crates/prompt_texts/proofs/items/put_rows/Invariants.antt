-- the items before this place were written
use Rattle.std.proofs.Common.{take}
use Rattle.prompt_texts.specs.Items.{rows_text}
use Rattle.prompt_texts.specs.Shown.{Puts}
use Rattle.prompt_texts.proofs.items.put_rows.Given as goal

abbrev pub invariant-loop-place : goal.invariant-loop-place
invariant-loop-place g l = Puts (rows_text l.digits l.value_type l.size 0 (take l.place l.items))
    l.initial.page.has_failed l.page.has_failed (g.O.AnswerWriter.written l.initial.page.writer) (g.O.AnswerWriter.written l.page.writer)
