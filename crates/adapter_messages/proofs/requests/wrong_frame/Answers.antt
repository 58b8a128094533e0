use Rattle.std.proofs.Common.{[], None, codes, refl}
use Rattle.adapter_messages.proofs.Needs.{wrong_then}
use Rattle.adapter_messages.proofs.requests.wrong_frame.Goals as goal

pub returns : goal.returns
returns c = wrong_then (codes "frameId") _ _ None [] _ c.wrong_or.ensures c.is_right_number-frame.ensures refl
