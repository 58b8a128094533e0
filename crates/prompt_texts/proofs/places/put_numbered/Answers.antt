use Rattle.prompt_texts.proofs.Putting.{puts_both}
use Rattle.prompt_texts.proofs.places.put_numbered.Goals as goal

pub returns : goal.returns
returns g c =
    puts_both _ _ _ _ _ _ _ _ (puts_both _ _ _ _ _ _ _ _ (puts_both _ _ _ _ _ _ _ _ (puts_both _ _ _ _ _ _ _ _ c.put.ensures c.put_line_number.ensures)
    c.put-2.ensures) c.put_masked.ensures) c.put-3.ensures
