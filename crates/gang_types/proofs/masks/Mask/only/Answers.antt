use Rattle.gang_types.proofs.MaskWords.{only_lane}
use Rattle.gang_types.proofs.masks.Mask.only.Goals as goal

pub returns : goal.returns
returns g c = only_lane g.row.W c.one_bit.result c.args.lane c.one_bit.ensures c.requires.within
