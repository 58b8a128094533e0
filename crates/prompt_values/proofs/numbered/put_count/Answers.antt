use Rattle.prompt_texts.proofs.Putting.{puts_both}
use Rattle.prompt_values.proofs.numbered.put_count.Goals as goal

pub returns : goal.returns
returns g c = puts_both _ _ _ _ _ _ _ _ c.put.ensures c.put_printed_number.ensures
