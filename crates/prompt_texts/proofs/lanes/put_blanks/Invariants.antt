-- the blanks before this one were written
use Rattle.std.proofs.Common.{replicate}
use Rattle.prompt_texts.specs.Shown.{Puts}
use Rattle.prompt_texts.proofs.lanes.put_blanks.Given as goal

abbrev pub invariant-loop-blank : goal.invariant-loop-blank
invariant-loop-blank g l = Puts (replicate l._blank 32)
    l.initial.page.has_failed l.page.has_failed (g.O.AnswerWriter.written l.initial.page.writer) (g.O.AnswerWriter.written l.page.writer)
