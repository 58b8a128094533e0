use Rattle.std.proofs.Common.{◌∙◌, ap}
use Rattle.std.specs.Prelude.{not}
use Rattle.gang_types.specs.Lanes.{lanes_where, without}
use Rattle.gang_types.specs.Masks.{lanes_of}
use Rattle.gang_model.specs.Running.Lanes.{each, holds}
use Rattle.masked_operations.proofs.Sets.{truths_of_either}
use Rattle.masked_operations.proofs.choices.either_holds.Goals as goal

pub returns : goal.returns
returns g c =
    c.splat.ensures
    ∙ ap (λ s. each s (λ k. 1))
    (c.without.ensures g.row.W
    ∙ ap (without (lanes_of g.row.W c.args.mask)) (c.where_false-neither.ensures ∙ ap (λ s. lanes_where s (λ k. not (holds c.args.right k))) c.where_false.ensures))
    ∙ truths_of_either (lanes_of g.row.W c.args.mask) (holds c.args.left) (holds c.args.right)
