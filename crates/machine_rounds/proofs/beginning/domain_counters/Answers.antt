use Rattle.std.proofs.Common.{◌≤◌, ◌∙◌, ap, arith, length}
use Rattle.foreach_lowering.specs.Grids.{all_left}
use Rattle.machine_rounds.proofs.BeginBounds.{keeps_domain}
use Rattle.machine_rounds.proofs.beginning.domain_counters.Goals as goal

pub returns : goal.returns
returns g c ds long =
    let few : (1 ≤ length ds) × (length ds ≤ 3) = (omega (arith, long, c.requires.few.0), omega (arith, long, c.requires.few.1)) in
    keeps_domain g.row.W c.args.order ds c.args.words.now few c.bounds_of-bounds.result c.all_left-left.result (c.bounds_of-bounds.ensures ds long)
    (c.all_left-left.ensures.left ∙ ap all_left c.grid.ensures)
