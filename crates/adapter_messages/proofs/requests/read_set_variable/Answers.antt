use Rattle.std.proofs.Common.{Some, codes, ap, sym, ◌∙◌, is_some, option_map}
use Rattle.std.specs.Prelude.{[], ◌∷◌}
use Rattle.serde_json.specs.View.{view}
use Rattle.adapter_messages.specs.Arguments.{text_at, unmarked}
use Rattle.adapter_messages.specs.Faults.{first_missing}
use Rattle.adapter_messages.proofs.requests.read_set_variable.Goals as goal

pub returns-clause-accepted : goal.returns-clause-accepted
returns-clause-accepted c = (
  sym c.number_at.ensures ∙ c.in-Some.is,
  ap (option_map unmarked) (sym c.text_at.ensures ∙ c.in_ok-name.ensures.given) ∙ ap Some (sym c.unmarked.ensures),
  ap (option_map unmarked) (sym c.text_at-2.ensures ∙ c.in_ok-value.ensures.given) ∙ ap Some (sym c.unmarked-2.ensures),
  c.is_hexadecimal.ensures,
)

pub returns-clause-complete : goal.returns-clause-complete
returns-clause-complete c =
    let m = view c.args.message.now in
    let name = text_at (codes "/arguments/name") m in
    let value = text_at (codes "/arguments/value") m in
    ap (λ given. first_missing ((codes "variablesReference", is_some given) ∷ (codes "name", is_some name) ∷ (codes "value", is_some value) ∷ [])) (sym c.number_at.ensures ∙ c.in-Some.is)
    ∙ ap (λ given. first_missing ((codes "name", is_some given) ∷ (codes "value", is_some value) ∷ [])) (sym c.text_at.ensures ∙ c.in_ok-name.ensures.given)
    ∙ ap (λ given. first_missing ((codes "value", is_some given) ∷ [])) (sym c.text_at-2.ensures ∙ c.in_ok-value.ensures.given)
