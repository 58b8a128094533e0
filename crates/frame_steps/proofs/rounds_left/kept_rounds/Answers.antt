use Rattle.std.proofs.Common.{◌∙◌, arith, subst}
use Rattle.machine_words.specs.Words.{regions_in}
use Rattle.frame_steps.specs.Rounds.{KeepsRounds}
use Rattle.frame_steps.proofs.LeftRounds.{domain_rounds}
use Rattle.frame_steps.proofs.rounds_left.kept_rounds.Goals as goal

pub returns-in-Domain : goal.returns-in-Domain
returns-in-Domain g c of keeps =
    let regions = regions_in g.T.Timeline.history g.row.W c.args.words.now in
    domain_rounds g.row.W regions c.args.frame c.args.level c.in-Domain.order c.in-Domain.indices c.bounds_of.result c.grid_left.result
    (λ ds long few. c.bounds_of.ensures ds (omega (arith, long, c.len.ensures, c.in-Domain.indices.ok)) ∙ c.bounds_kept.ensures ds few)
    c.grid_left.ensures of
    (subst (λ code. KeepsRounds g.row.W regions c.args.frame c.args.level code of) c.in-Domain.is keeps)
