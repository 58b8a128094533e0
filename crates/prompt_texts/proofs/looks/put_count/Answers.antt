use Rattle.prompt_texts.proofs.Putting.{puts_both}
use Rattle.prompt_texts.proofs.looks.put_count.Goals as goal

pub returns : goal.returns
returns g c = puts_both _ _ _ _ _ _ _ _ c.put.ensures c.put_lines_number.ensures
