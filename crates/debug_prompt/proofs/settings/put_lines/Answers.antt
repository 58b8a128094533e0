use Rattle.prompt_texts.proofs.Putting.{puts_both}
use Rattle.debug_prompt.proofs.settings.put_lines.Goals as goal

pub returns : goal.returns
returns g c = puts_both _ _ _ _ _ _ _ _ c.put.ensures (puts_both _ _ _ _ _ _ _ _ c.put_size.ensures c.put-2.ensures)
