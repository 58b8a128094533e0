-- the lines before this one were written
use Rattle.std.proofs.Common.{◌≤◌, ◌-◌, suc}
use Rattle.prompt_texts.specs.Shown.{Puts}
use Rattle.prompt_texts.specs.SourceLines.{lines_text}
use Rattle.prompt_texts.proofs.looks.put_lines.Given as goal

abbrev pub invariant-loop-number : goal.invariant-loop-number
invariant-loop-number g l = (l.first ≤ l.number) × (l.number - l.first ≤ suc l.last - l.first) × Puts (lines_text l.source.text.now l.here l.first (l.number - l.first))
    l.initial.page.has_failed l.page.has_failed (g.O.AnswerWriter.written l.initial.page.writer) (g.O.AnswerWriter.written l.page.writer)
