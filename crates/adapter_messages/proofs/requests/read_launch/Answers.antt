use Rattle.std.proofs.Common.{false, true, Some, codes, ap, sym, ◌∙◌, is_some, if◌then◌else◌}
use Rattle.std.specs.Prelude.{unwrap_or}
use Rattle.serde_json.specs.View.{view}
use Rattle.adapter_messages.specs.Arguments.{text_of}
use Rattle.adapter_messages.specs.Faults.{first_missing, launch_options}
use Rattle.adapter_messages.proofs.requests.read_launch.Goals as goal

pub returns-clause-accepted : goal.returns-clause-accepted
returns-clause-accepted c = record {
  program = sym c.text_at.ensures ∙ c.in_ok-program.ensures.given;
  input = sym c.text_at-2.ensures;
  entry = sym c.text_at-3.ensures;
  width = sym c.number_at.ensures;
  history = sym c.number_at-2.ensures;
  steps = sym c.number_at-3.ensures;
  stops_on_entry = ap (λ given. unwrap_or given true) (sym c.flag_at.ensures) ∙ sym c.unwrap_or.ensures;
  lane_threads = ap (λ given. unwrap_or given false) (sym c.flag_at-2.ensures) ∙ sym c.unwrap_or-2.ensures;
}

pub returns-clause-complete : goal.returns-clause-complete
returns-clause-complete c =
    let message = view c.args.message.now in
    ap (λ program. if is_some program then first_missing (launch_options message) else Some (codes "program")) (sym c.text_at.ensures ∙ c.in_ok-program.ensures.given)
    ∙ sym (ap text_of (sym c.in_default.is) ∙ c.wrong_option.ensures)
