use Rattle.std.proofs.Common.{◌∙◌, ap, sym}
use Rattle.gang_types.specs.Masks.{lanes_of}
use Rattle.expression_instructions.specs.Values.{leaf_value}
use Rattle.expression_instructions.proofs.operations.leaf_words.Goals as goal

pub returns-in-ProgramCount : goal.returns-in-ProgramCount
returns-in-ProgramCount g c =
    λ state shown. c.widths.ensures state ∙ ap (λ leaf. leaf_value leaf (lanes_of g.row.W c.args.mask) state) (sym c.in-ProgramCount.is)
