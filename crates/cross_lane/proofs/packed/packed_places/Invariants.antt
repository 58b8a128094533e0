use Rattle.gang_types.specs.Masks.{lanes_of}
use Rattle.cross_lane.proofs.Members.{PackedTo}
use Rattle.cross_lane.proofs.packed.packed_places.Given as goal

abbrev pub invariant-loop-lane : goal.invariant-loop-lane
invariant-loop-lane g l = PackedTo g.row.W (lanes_of g.row.W l.fn.mask) l.lane l.number l.places
