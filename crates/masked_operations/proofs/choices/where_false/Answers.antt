use Rattle.std.proofs.Common.{◌∙◌, ap}
use Rattle.gang_types.specs.Lanes.{without}
use Rattle.gang_types.specs.Masks.{lanes_of}
use Rattle.gang_model.specs.Running.Lanes.{holds}
use Rattle.masked_operations.proofs.Sets.{without_where}
use Rattle.masked_operations.proofs.choices.where_false.Goals as goal

pub returns : goal.returns
returns g c =
    c.without.ensures g.row.W
    ∙ ap (without (lanes_of g.row.W c.args.mask)) c.where_true.ensures
    ∙ without_where (lanes_of g.row.W c.args.mask) (holds c.args.words)
