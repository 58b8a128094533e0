use Rattle.std.proofs.Common.{Some, codes, ap, sym, ◌∙◌, is_some, if◌then◌else◌}
use Rattle.serde_json.specs.View.{view}
use Rattle.adapter_messages.specs.Arguments.{text_of}
use Rattle.adapter_messages.specs.Faults.{first_missing, frame_options}
use Rattle.adapter_messages.proofs.requests.read_evaluate.Goals as goal

pub returns-clause-accepted : goal.returns-clause-accepted
returns-clause-accepted c = (sym c.text_at.ensures ∙ c.in_ok-expression.ensures.given, sym c.number_at.ensures, c.context_of.ensures, c.is_hexadecimal.ensures)

pub returns-clause-complete : goal.returns-clause-complete
returns-clause-complete c =
    let options = frame_options (view c.args.message.now) in
    ap (λ given. if is_some given then first_missing options else Some (codes "expression")) (sym c.text_at.ensures ∙ c.in_ok-expression.ensures.given)
    ∙ sym (ap text_of (sym c.in_default.is) ∙ c.wrong_frame.ensures)
