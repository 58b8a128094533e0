use Rattle.debug_inputs.proofs.NameIndex.{closed}
use Rattle.debug_inputs.proofs.receivers.Receivers.close.Goals as goal

pub returns : goal.returns
returns c = λ other. closed c.args.self.now.index.entries _ c.in_ok-to_vec.field-0 c.args.name.now other c.in_ok-insert.ensures.entries (c.in_ok-to_vec.ensures.items_if_clones_equal (λ x y h. h))
