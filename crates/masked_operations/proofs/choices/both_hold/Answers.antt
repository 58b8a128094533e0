use Rattle.std.proofs.Common.{◌∙◌, ap}
use Rattle.gang_types.specs.Lanes.{lanes_where}
use Rattle.gang_types.specs.Masks.{lanes_of}
use Rattle.gang_model.specs.Running.Lanes.{each, holds}
use Rattle.masked_operations.proofs.Sets.{truths_of_both}
use Rattle.masked_operations.proofs.choices.both_hold.Goals as goal

pub returns : goal.returns
returns g c =
    c.splat.ensures
    ∙ ap (λ s. each s (λ k. 1)) (c.where_true-both.ensures ∙ ap (λ s. lanes_where s (holds c.args.right)) c.where_true.ensures)
    ∙ truths_of_both (lanes_of g.row.W c.args.mask) (holds c.args.left) (holds c.args.right)
