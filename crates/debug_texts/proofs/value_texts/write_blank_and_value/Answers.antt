use Rattle.std.proofs.Common.{refl}
use Rattle.debug_texts.proofs.Writing.{writes_parts}
use Rattle.debug_texts.proofs.value_texts.write_blank_and_value.Goals as goal

pub returns : goal.returns
returns g c = writes_parts _ _ _ _ _ _ _ c.write_value.result refl c.in_ok-write_all.ensures.0 c.write_value.ensures
