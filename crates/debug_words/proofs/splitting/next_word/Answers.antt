use Rattle.std.proofs.Common.{◌≡◌, length, ◌-◌, take, drop, sym, ap, ◌∙◌}
use Rattle.std.specs.Prelude.{if◌then◌else◌}
use Rattle.std.specs.List.{prefix_len}
use Rattle.gang_model.specs.Texts.Spellings.{is_blank}
use Rattle.debug_words.specs.LineWords.{is_mark_of, is_plain, words_from}
use Rattle.debug_words.proofs.SplitWords.{first_and_rest, no_word, tail_is}
use Rattle.debug_words.proofs.splitting.next_word.Goals as goal
use Rattle.debug_words.proofs.splitting.next_word.Goals.{then-is_mark, else-is_mark}

pub returns-in_err-first : goal.returns-in_err-first
returns-in_err-first c =
    let empty = c.in_err-first.ensures.item.3 in
    let behind = tail_is c.args.line.now c.blank_len.result (prefix_len is_blank c.args.line.now) c.blank_len.ensures.run in
    no_word (is_mark_of c.args.marks) c.args.line.now (rw behind at empty) ∙ ap (words_from c.args.marks) (sym c.from_residual.ensures)

pub returns : goal.returns
returns c =
    let rest = take (length c.args.line.now - c.blank_len.result) (drop c.blank_len.result c.args.line.now) in
    let at = c.in_ok-first.ensures.item.3.1 0 in
    let some = c.in_ok-first.ensures.item.3.0 in
    let behind = tail_is c.args.line.now c.blank_len.result (prefix_len is_blank c.args.line.now) c.blank_len.ensures.run in
    let long : c.if-is_mark.len ≡ (if is_mark_of c.args.marks c.in_ok-first.first.now then 1 else prefix_len (is_plain c.args.marks) rest) = elim c.if-is_mark.branch [
      | then-is_mark w ↦ w.len-is ∙ ap (λ t. if t then 1 else prefix_len (is_plain c.args.marks) rest) (sym (sym c.is_mark.ensures ∙ w.if-is_mark.true))
      | else-is_mark w ↦ w.len-is ∙ (w.plain_len-len.ensures.run ∙ ap (λ t. if t then 1 else prefix_len (is_plain c.args.marks) rest) (sym (sym c.is_mark.ensures ∙ w.if-is_mark.false)))
    ] in
    rw (c.split_at.ensures.front, c.split_at.ensures.back) (first_and_rest (is_mark_of c.args.marks) c.args.line.now rest c.in_ok-first.first.now c.if-is_mark.len behind some at long)
