use Rattle.prompt_texts.proofs.Putting.{puts_both}
use Rattle.prompt_texts.proofs.lanes.put_counts.Goals as goal

pub returns : goal.returns
returns g c =
    puts_both _ _ _ _ _ _ _ _ (puts_both _ _ _ _ _ _ _ _ (puts_both _ _ _ _ _ _ _ _ c.put_right.ensures c.put_percents.ensures) c.put_right-2.ensures) c.put.ensures
