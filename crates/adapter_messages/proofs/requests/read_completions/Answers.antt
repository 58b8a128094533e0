use Rattle.std.proofs.Common.{codes, ap, sym, ◌∙◌, is_some}
use Rattle.std.specs.Prelude.{◌∷◌}
use Rattle.serde_json.specs.View.{view}
use Rattle.adapter_messages.specs.Arguments.{number_at, text_of}
use Rattle.adapter_messages.specs.Faults.{first_missing, frame_options}
use Rattle.adapter_messages.proofs.requests.read_completions.Goals as goal

pub returns-clause-accepted : goal.returns-clause-accepted
returns-clause-accepted c = (sym c.text_at.ensures ∙ c.in_ok-text.ensures.given, sym c.number_at.ensures ∙ c.in-Some.is, sym c.number_at-2.ensures)

pub returns-clause-complete : goal.returns-clause-complete
returns-clause-complete c =
    let m = view c.args.message.now in
    let column = number_at (codes "/arguments/column") m in
    let options = frame_options m in
    ap (λ given. first_missing ((codes "text", is_some given) ∷ (codes "column", is_some column) ∷ options)) (sym c.text_at.ensures ∙ c.in_ok-text.ensures.given)
    ∙ ap (λ given. first_missing ((codes "column", is_some given) ∷ options)) (sym c.number_at.ensures ∙ c.in-Some.is)
    ∙ sym (ap text_of (sym c.in_default-wrong_frame.is) ∙ c.wrong_frame.ensures)
