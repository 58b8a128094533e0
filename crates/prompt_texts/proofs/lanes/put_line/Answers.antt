use Rattle.prompt_texts.proofs.Putting.{puts_both}
use Rattle.prompt_texts.proofs.lanes.put_line.Goals as goal

pub returns : goal.returns
returns g c = puts_both _ _ _ _ _ _ _ _ c.put.ensures (puts_both _ _ _ _ _ _ _ _ c.put_left.ensures c.put_share.ensures)
