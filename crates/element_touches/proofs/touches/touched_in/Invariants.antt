-- the lanes from this one on are still to be asked
use Rattle.std.proofs.Common.{◌≡◌, ◌≤◌, ◌++◌, drop, map, take}
use Rattle.arrayvec.specs.ArrayVec.{array_vec_len}
use Rattle.gang_types.specs.Masks.{lanes_of}
use Rattle.gang_model.specs.Running.Lanes.{at, members_from}
use Rattle.element_touches.specs.Touches.{touched}
use Rattle.element_touches.proofs.touches.touched_in.Given as goal

abbrev pub invariant-loop-lane : goal.invariant-loop-lane
invariant-loop-lane g l = record {
  added : l.elements.items ++ map (at (take g.row.W l.words)) (members_from l.lane (drop l.lane (lanes_of g.row.W l.lanes))) ≡ touched (lanes_of g.row.W l.lanes) (take g.row.W l.words);
  few : array_vec_len l.elements ≤ l.lane;
}
