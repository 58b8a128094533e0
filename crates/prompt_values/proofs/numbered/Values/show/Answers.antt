use Rattle.std.proofs.Common.{sym, subst, ap, ◌∙◌}
use Rattle.std.specs.Prelude.{option_map}
use Rattle.prompt_texts.specs.Shown.{Puts}
use Rattle.prompt_values.specs.Numbered.{kept, named, value_or_none}
use Rattle.prompt_values.proofs.numbered.Values.show.Goals as goal

pub returns-in-Some : goal.returns-in-Some
returns-in-Some g c =
    let a = c.args in
    let k = kept a.self.now in
    let written = g.O.AnswerWriter.written in
    let old = a.page.now in
    let new = c.put_numbered.new.page in
    subst (λ found. Puts (value_or_none a.digits a.name k.next found) old.has_failed new.has_failed (written old.writer) (written new.writer))
    (sym (ap (option_map (λ value. value.now)) c.in-Some.is) ∙ c.named.ensures) c.put_numbered.ensures

pub returns-in-None : goal.returns-in-None
returns-in-None g c =
    let a = c.args in
    let k = kept a.self.now in
    let written = g.O.AnswerWriter.written in
    let old = a.page.now in
    let new = c.tell_none.new.page in
    subst (λ found. Puts (value_or_none a.digits a.name k.next found) old.has_failed new.has_failed (written old.writer) (written new.writer))
    (sym (ap (option_map (λ value. value.now)) c.in-None.is) ∙ c.named.ensures) c.tell_none.ensures
