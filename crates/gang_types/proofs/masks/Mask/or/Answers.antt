use Rattle.gang_types.proofs.MaskWords.{or_lanes}
use Rattle.gang_types.proofs.masks.Mask.or.Goals as goal

pub returns : goal.returns
returns c w k = or_lanes w c.args.self.word c.args.other.word k
