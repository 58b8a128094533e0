use Rattle.std.proofs.Common.{◌≡◌, false, rules, sym, subst}
use Rattle.std.specs.Prelude.{◌++◌, ◌-◌, codes, nat_le, if◌then◌else◌}
use Rattle.prompt_texts.specs.Shown.{Puts}
use Rattle.prompt_texts.proofs.Putting.{puts_both}
use Rattle.prompt_values.specs.Numbered.{count_text, name_text}
use Rattle.prompt_values.proofs.numbered.tell_none.Goals as goal

pub returns-else-next-le1 : goal.returns-else-next-le1
returns-else-next-le1 g c =
    let a = c.args in
    let written = g.O.AnswerWriter.written in
    let old = a.page.now in
    let new = c.put_count.new.page in
    let later : nat_le a.next 1 ≡ false = search (rules, c.if-next-le1.false) in
    subst (λ b. Puts (if b then codes "No value was printed yet: `print T` shows one, and gives it a number.\n" else codes "There is no value " ++ name_text a.name ++ count_text (a.next - 1))
    old.has_failed new.has_failed (written old.writer) (written new.writer)) (sym later)
    (puts_both _ _ _ _ _ _ _ _ c.put-else-next-le1.ensures (puts_both _ _ _ _ _ _ _ _ c.put_name.ensures c.put_count.ensures))
