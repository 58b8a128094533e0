use Rattle.gang_types.specs.Masks.{lanes_of}
use Rattle.gang_types.proofs.MaskWords.{empty_word}
use Rattle.gang_types.proofs.masks.Mask.is_empty.Goals as goal

pub returns : goal.returns
returns g c = empty_word (lanes_of g.row.W c.args.self) c.word.result c.word.ensures
