use Rattle.gang_types.specs.Masks.{lanes_of}
use Rattle.gang_types.proofs.MaskWords.{counted, counted-le}
use Rattle.gang_types.proofs.masks.Mask.count.Goals as goal

pub returns-clause-value : goal.returns-clause-value
returns-clause-value g c = counted (lanes_of g.row.W c.args.self) c.word.result c.word.ensures

pub returns-clause-within : goal.returns-clause-within
returns-clause-within g c = counted-le g.row.W c.args.self.word c.word.result c.word.ensures
