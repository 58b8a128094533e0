use Rattle.gang_types.proofs.MaskWords.{and_lanes}
use Rattle.gang_types.proofs.masks.Mask.and.Goals as goal

pub returns : goal.returns
returns c w = and_lanes w c.args.self.word c.args.other.word
