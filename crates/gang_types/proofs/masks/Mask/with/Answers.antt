use Rattle.gang_types.proofs.MaskWords.{with_lane}
use Rattle.gang_types.proofs.masks.Mask.with.Goals as goal

pub returns : goal.returns
returns g c = with_lane g.row.W c.args.self.word c.one_bit.result c.args.lane c.one_bit.ensures c.requires.within
