use Rattle.gang_types.proofs.MaskWords.{none_lanes}
use Rattle.gang_types.proofs.masks.Mask.none.Goals as goal

pub returns : goal.returns
returns c w = none_lanes w
