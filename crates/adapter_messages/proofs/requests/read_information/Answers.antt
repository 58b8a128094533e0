use Rattle.std.proofs.Common.{Some, codes, ap, sym, ◌∙◌, is_some, if◌then◌else◌, option_map}
use Rattle.serde_json.specs.View.{view}
use Rattle.adapter_messages.specs.Arguments.{text_of, unmarked}
use Rattle.adapter_messages.specs.Faults.{container_options, first_missing}
use Rattle.adapter_messages.proofs.requests.read_information.Goals as goal

pub returns-clause-accepted : goal.returns-clause-accepted
returns-clause-accepted c = (
  sym c.number_at.ensures,
  sym c.number_at-2.ensures,
  ap (option_map unmarked) (sym c.text_at.ensures ∙ c.in_ok-name.ensures.given) ∙ ap Some (sym c.unmarked.ensures),
)

pub returns-clause-complete : goal.returns-clause-complete
returns-clause-complete c =
    let options = container_options (view c.args.message.now) in
    ap (λ given. if is_some given then first_missing options else Some (codes "name")) (sym c.text_at.ensures ∙ c.in_ok-name.ensures.given)
    ∙ sym (ap text_of (sym c.in_default.is) ∙ c.wrong_container.ensures)
