use Rattle.std.proofs.Common.{suc, ◌+◌, ◌≡◌, ◌∙◌, ◌∷◌, ◌≤◌, [], get_or, length, ap, sym, subst, arith}
use Rattle.std.proofs.lemmas.List.{take_all, take_more}
use Rattle.prompt_texts.specs.Shown.{Puts, masked, shown_byte}
use Rattle.prompt_texts.proofs.Masking.{length-masked, masked_at}
use Rattle.prompt_texts.proofs.Putting.{puts_both}
use Rattle.prompt_texts.proofs.page.Page.put_masked.Goals as goal

pub loop-at-preserved : goal.loop-at-preserved
loop-at-preserved g c =
    let text = c.args.text.now in
    let at = c.loop-at.at in
    let written = g.O.AnswerWriter.written in
    let old = c.args.self.now in
    let middle = c.loop-at.self in
    let new = c.put.new.self in
    let on : at + 1 ≡ suc at = omega arith in
    let byte = c.shown_byte.ensures ∙ ap (λ b. shown_byte b (get_or text at 0)) c.loop-at.invariant.0 ∙ sym (masked_at text at c.loop-at-test.true) in
    let one = subst (λ b. Puts (b ∷ []) middle.has_failed new.has_failed (written middle.writer) (written new.writer)) byte c.put.ensures in (
      sym (ap (λ n. get_or (0 ∷ text) n 0) on),
      subst (λ t. Puts t old.has_failed new.has_failed (written old.writer) (written new.writer))
          (sym (take_more (masked text) at 0 (omega (arith, length-masked text, c.loop-at-test.true))))
          (puts_both _ _ _ _ _ _ _ _ c.loop-at.invariant.1 one),
    )

pub returns : goal.returns
returns g c =
    let text = c.args.text.now in
    let written = g.O.AnswerWriter.written in
    let old = c.args.self.now in
    let new = c.loop-at.self in
    let past : length (masked text) ≤ c.loop-at.at = omega (arith, length-masked text, c.loop-at-test.false) in
    subst (λ t. Puts t old.has_failed new.has_failed (written old.writer) (written new.writer)) (take_all c.loop-at.at (masked text) past) c.loop-at.invariant.1
