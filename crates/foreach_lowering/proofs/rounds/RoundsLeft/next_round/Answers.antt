use Rattle.foreach_lowering.proofs.Counted.{counts_rounds}
use Rattle.foreach_lowering.proofs.rounds.RoundsLeft.next_round.Goals as goal

pub returns-in-Domain-clause-law : goal.returns-in-Domain-clause-law
returns-in-Domain-clause-law g c = counts_rounds g.row.W c.requires.width

pub returns-in-EachLane-clause-law : goal.returns-in-EachLane-clause-law
returns-in-EachLane-clause-law g c = counts_rounds g.row.W c.requires.width

pub returns-in-EachValue-clause-law : goal.returns-in-EachValue-clause-law
returns-in-EachValue-clause-law g c = counts_rounds g.row.W c.requires.width
