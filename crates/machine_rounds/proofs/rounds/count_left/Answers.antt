use Rattle.std.proofs.Common.{sym, subst}
use Rattle.machine_states.specs.Regions.{CountersOf, OfLevel}
use Rattle.machine_states.specs.Rounds.{counters_behind}
use Rattle.machine_words.specs.Words.{Writes, regions_in}
use Rattle.machine_rounds.proofs.RoundWrites.{sets_three}
use Rattle.machine_rounds.proofs.rounds.count_left.Goals as goal

pub returns-in-Domain : goal.returns-in-Domain
returns-in-Domain g c =
    let region = OfLevel c.args.active.frame c.args.active.level CountersOf in
    subst (λ left. Writes g.T.Timeline.history g.T.Timeline.left g.row.W region (counters_behind g.row.W left (regions_in g.T.Timeline.history g.row.W c.args.words.now region)) 3 c.args.words.now c.set-in-Domain-2.new.self)
    (sym c.in-Domain.is)
    (sets_three g.T.Timeline.history g.T.Timeline.left g.row.W region 6 7 8 c.in-Domain.left.leads c.in-Domain.left.rows c.in-Domain.left.columns
    c.args.words.now c.set.new.self c.set-in-Domain.new.self c.set-in-Domain-2.new.self c.set.ensures c.set-in-Domain.ensures c.set-in-Domain-2.ensures)
