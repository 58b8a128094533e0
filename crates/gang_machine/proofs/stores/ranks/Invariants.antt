-- the lanes before this one have their ranks
use Rattle.gang_types.specs.Masks.{lanes_of}
use Rattle.gang_memory.proofs.Members.{RanksTo}
use Rattle.gang_machine.proofs.stores.ranks.Given as goal

abbrev pub invariant-loop-lane : goal.invariant-loop-lane
invariant-loop-lane g l = RanksTo g.row.W (lanes_of g.row.W l.fn.lanes) l.lane l.below l.ranks
