use Rattle.std.proofs.Common.{Some, codes, ap, sym, ◌∙◌, is_some, option_map}
use Rattle.std.specs.Prelude.{◌∷◌}
use Rattle.serde_json.specs.View.{view}
use Rattle.adapter_messages.specs.Arguments.{text_at, text_of, unmarked}
use Rattle.adapter_messages.specs.Faults.{first_missing, frame_options}
use Rattle.adapter_messages.proofs.requests.read_set_expression.Goals as goal

pub returns-clause-accepted : goal.returns-clause-accepted
returns-clause-accepted c = (
  sym c.text_at.ensures ∙ c.in_ok-expression.ensures.given,
  ap (option_map unmarked) (sym c.text_at-2.ensures ∙ c.in_ok-new.ensures.given) ∙ ap Some (sym c.unmarked.ensures),
  sym c.number_at.ensures,
  c.is_hexadecimal.ensures,
)

pub returns-clause-complete : goal.returns-clause-complete
returns-clause-complete c =
    let m = view c.args.message.now in
    let value = text_at (codes "/arguments/value") m in
    let options = frame_options m in
    ap (λ given. first_missing ((codes "expression", is_some given) ∷ (codes "value", is_some value) ∷ options)) (sym c.text_at.ensures ∙ c.in_ok-expression.ensures.given)
    ∙ ap (λ given. first_missing ((codes "value", is_some given) ∷ options)) (sym c.text_at-2.ensures ∙ c.in_ok-new.ensures.given)
    ∙ sym (ap text_of (sym c.in_default.is) ∙ c.wrong_frame.ensures)
