use Rattle.std.proofs.Common.{is_some}
use Rattle.gang_types.specs.Masks.{lanes_of}
use Rattle.foreach_lowering.specs.Views.{grid_view}
use Rattle.foreach_lowering.specs.DomainViews.{domain_slot}
use Rattle.foreach_lowering.proofs.ByLanes.{AreBelow, AreWordsBelow}
use Rattle.foreach_lowering.proofs.domain.Domain.next_round.Given as goal

abbrev pub invariant-loop-lane : goal.invariant-loop-lane
invariant-loop-lane g l = record {
  lanes : AreBelow (λ k. is_some (domain_slot g.row.W l.fn.self (grid_view l.taken.place) k)) l.lane (lanes_of g.row.W l.lanes);
  first : AreWordsBelow 0 (domain_slot g.row.W l.fn.self (grid_view l.taken.place)) g.row.W l.lane l.first;
  second : AreWordsBelow 1 (domain_slot g.row.W l.fn.self (grid_view l.taken.place)) g.row.W l.lane l.second;
  third : AreWordsBelow 2 (domain_slot g.row.W l.fn.self (grid_view l.taken.place)) g.row.W l.lane l.third;
}
