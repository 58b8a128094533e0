use Rattle.std.proofs.Common.{◌∙◌}
use Rattle.gang_types.specs.Masks.{lanes_of}
use Rattle.gang_types.specs.MaskLaws.{length-lanes_of_word}
use Rattle.gang_model.specs.Running.State.{words_in}
use Rattle.expression_instructions.proofs.Seen.{seen_from}
use Rattle.expression_instructions.proofs.operations.read.Goals as goal

pub returns : goal.returns
returns g c =
    λ state shown. c.only.ensures
    ∙ seen_from g.row.W (lanes_of g.row.W c.args.mask) c.args.variable.rate c.words.result (words_in state c.args.variable.id) (length-lanes_of_word g.row.W c.args.mask.word) (c.words.ensures state shown)
