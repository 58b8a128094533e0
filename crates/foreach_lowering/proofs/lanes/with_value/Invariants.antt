use Rattle.std.specs.Prelude.{◌==◌, ◌&&◌}
use Rattle.gang_types.specs.Lanes.{has}
use Rattle.gang_types.specs.Masks.{lanes_of}
use Rattle.gang_model.specs.Running.Lanes.{at}
use Rattle.foreach_lowering.proofs.ByLanes.{AreBelow}
use Rattle.foreach_lowering.proofs.lanes.with_value.Given as goal

abbrev pub invariant-loop-lane : goal.invariant-loop-lane
invariant-loop-lane g l = AreBelow (λ k. has (lanes_of g.row.W l.fn.lanes) k && (at l.fn.values k == l.fn.value)) l.lane (lanes_of g.row.W l.equal)
