use Rattle.std.proofs.Common.{◌∙◌, ap, sym}
use Rattle.std.specs.Prelude.{bit_and}
use Rattle.gang_types.specs.MaskLaws.{word_of_lanes_of_word}
use Rattle.gang_types.proofs.masks.Mask.word.Goals as goal

pub returns : goal.returns
returns g c = ap (bit_and c.args.self.word) c.every_bit.ensures ∙ sym (word_of_lanes_of_word g.row.W c.args.self.word)
