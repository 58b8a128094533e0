use Rattle.std.proofs.Common.{◌∙◌, ap}
use Rattle.gang_types.specs.Masks.{lanes_of_word}
use Rattle.gang_types.specs.MaskLaws.{lanes_of_word_of_lanes}
use Rattle.gang_types.proofs.MaskWords.{kept_lanes}
use Rattle.gang_types.proofs.masks.Mask.from_word.Goals as goal

pub returns-clause-lanes : goal.returns-clause-lanes
returns-clause-lanes g c = kept_lanes g.row.W c.args.word c.every_bit.result c.every_bit.ensures

pub returns-clause-kept : goal.returns-clause-kept
returns-clause-kept g c lanes long is =
    kept_lanes g.row.W c.args.word c.every_bit.result c.every_bit.ensures
    ∙ ap (lanes_of_word g.row.W) is
    ∙ lanes_of_word_of_lanes g.row.W lanes long
