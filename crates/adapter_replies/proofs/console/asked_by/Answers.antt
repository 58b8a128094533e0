use Rattle.std.proofs.Common.{◌≡◌, ◌∙◌, ap, sym, Bool, false, codes}
use Rattle.std.specs.Prelude.{if◌then◌else◌}
use Rattle.gang_model.specs.Source.Names.{same_text}
use Rattle.adapter_replies.specs.declared.console.Asked.{Asked}
use Rattle.adapter_replies.specs.declared.console.Asked.TheVariants.{Help, Locals, Parameters}
use Rattle.adapter_replies.specs.Console.{is_help, words_or_value}
use Rattle.adapter_replies.specs.Hints.{hint_in}
use Rattle.adapter_replies.proofs.console.asked_by.Goals as goal

-- what is asked for by a text that is none of three
of_another : (help args locals : Bool) (told other : Asked) → help ≡ false → args ≡ false → locals ≡ false → told ≡ other
    → told ≡ (if help then Help else (if args then Parameters else (if locals then Locals else other)))
of_another help args locals told other no_help no_args no_locals is =
    is
    ∙ sym (ap (λ b. if b then Locals else other) no_locals)
    ∙ sym (ap (λ b. if b then Parameters else (if locals then Locals else other)) no_args)
    ∙ sym (ap (λ b. if b then Help else (if args then Parameters else (if locals then Locals else other))) no_help)

pub returns-else-is_same-2 : goal.returns-else-is_same-2
returns-else-is_same-2 c =
    let text = c.args.text.now in
    of_another (is_help text) (same_text text (codes "info args")) (same_text text (codes "info locals")) c.words_or_value.result (words_or_value (hint_in text))
    (sym c.is_help.ensures ∙ c.if-is_help.false)
    (ap (λ t. same_text t (codes "info args")) (sym c.as_bytes.ensures.value) ∙ sym c.is_same.ensures ∙ c.if-is_same.false)
    (ap (λ t. same_text t (codes "info locals")) (sym c.as_bytes-else-is_same.ensures.value) ∙ sym c.is_same-else-is_same.ensures ∙ c.if-is_same-2.false)
    (c.words_or_value.ensures ∙ ap words_or_value (c.hint_in.ensures ∙ ap hint_in c.as_bytes-else-is_same-2.ensures.value))
