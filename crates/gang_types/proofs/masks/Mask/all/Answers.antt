use Rattle.gang_types.proofs.MaskWords.{all_lanes}
use Rattle.gang_types.proofs.masks.Mask.all.Goals as goal

pub returns : goal.returns
returns g c = all_lanes g.row.W c.every_bit.result c.every_bit.ensures
