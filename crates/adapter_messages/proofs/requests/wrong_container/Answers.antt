use Rattle.std.proofs.Common.{codes}
use Rattle.serde_json.specs.View.{view}
use Rattle.adapter_messages.specs.Faults.{frame_options}
use Rattle.adapter_messages.proofs.Needs.{wrong_then}
use Rattle.adapter_messages.proofs.requests.wrong_container.Goals as goal

pub returns : goal.returns
returns c = wrong_then (codes "variablesReference") _ _ _ (frame_options (view c.args.message.now)) _ c.wrong_or.ensures c.is_right_number-reference.ensures c.wrong_frame-wrong.ensures
