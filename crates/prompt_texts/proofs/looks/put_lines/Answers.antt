use Rattle.std.proofs.Common.{◌≡◌, ◌≤◌, ◌+◌, ◌-◌, ℕ, suc, List, sym, subst, arith}
use Rattle.std.specs.Prelude.{flat_map}
use Rattle.std.specs.List.{range_with_len}
use Rattle.prompt_texts.specs.Shown.{Puts}
use Rattle.prompt_texts.specs.SourceLines.{line_mark, line_of, line_text, lines_text}
use Rattle.prompt_texts.proofs.Putting.{numbers_more, puts_both}
use Rattle.prompt_texts.proofs.looks.put_lines.Goals as goal

pub loop-number-preserved : goal.loop-number-preserved
loop-number-preserved g c =
    let text = c.args.source.text.now in
    let first = c.args.first in
    let number = c.loop-number.number in
    let line = λ (k : ℕ). line_text k (line_mark c.args.here k) (line_of text k) in
    let written = g.O.AnswerWriter.written in
    let old = c.args.page.now in
    let middle = c.loop-number.page in
    let new = c.put_line.new.page in
    let puts = λ (t : List ℕ). Puts t old.has_failed new.has_failed (written old.writer) (written new.writer) in
    let (from, few, before) = c.loop-number.invariant in
    let on : suc (number - first) ≡ number + 1 - first = omega (arith, from) in
    let here : number ≡ first + (number - first) = omega (arith, from) in
    let one = subst (λ mark. Puts (line_text number mark (line_of text number)) middle.has_failed new.has_failed (written middle.writer) (written new.writer)) c.line_mark.ensures c.put_line.ensures in
    let that = subst (λ k. Puts (line k) middle.has_failed new.has_failed (written middle.writer) (written new.writer)) here one in (
      omega (arith, from),
      omega (arith, from, c.loop-number-test.true),
      subst (λ k. puts (lines_text text c.args.here first k)) on
          (subst puts (sym (numbers_more line first (number - first))) (puts_both _ _ _ _ _ _ _ _ before that)),
    )

pub returns : goal.returns
returns g c =
    let text = c.args.source.text.now in
    let written = g.O.AnswerWriter.written in
    let old = c.args.page.now in
    let new = c.loop-number.page in
    let (from, few, before) = c.loop-number.invariant in
    let all : c.loop-number.number - c.args.first ≡ suc c.args.last - c.args.first = omega (arith, from, few, c.loop-number-test.false) in
    subst (λ k. Puts (lines_text text c.args.here c.args.first k) old.has_failed new.has_failed (written old.writer) (written new.writer)) all before
