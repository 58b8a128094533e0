use Rattle.std.proofs.Common.{◌≡◌, ◌-◌, ◌++◌, replicate, length, subst, arith}
use Rattle.prompt_texts.specs.Shown.{Puts, masked}
use Rattle.prompt_texts.proofs.Masking.{length-masked}
use Rattle.prompt_texts.proofs.Putting.{puts_both}
use Rattle.prompt_texts.proofs.lanes.put_name.Goals as goal

pub returns : goal.returns
returns g c =
    let written = g.O.AnswerWriter.written in
    let name = c.args.name.now in
    let old = c.args.page.now in
    let new = c.put_blanks.new.page in
    let left : c.saturating_sub.result ≡ 22 - length (masked name) = omega (arith, c.saturating_sub.ensures, length-masked name) in
    subst (λ n. Puts (masked name ++ replicate n 32) old.has_failed new.has_failed (written old.writer) (written new.writer)) left
    (puts_both _ _ _ _ _ _ _ _ c.put_masked.ensures c.put_blanks.ensures)
