use Rattle.std.proofs.Common.{◌∙◌, ap, sym}
use Rattle.gang_types.specs.Masks.{lanes_of}
use Rattle.gang_types.specs.MaskLaws.{length-lanes_of_word}
use Rattle.gang_model.specs.Running.Lanes.{each}
use Rattle.expression_instructions.proofs.operations.widths.Goals as goal

pub returns : goal.returns
returns g c = λ state. c.splat.ensures ∙ ap (λ n. each (lanes_of g.row.W c.args.mask) (λ k. n)) (sym (length-lanes_of_word g.row.W c.args.mask.word))
