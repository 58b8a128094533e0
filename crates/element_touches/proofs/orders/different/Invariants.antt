-- those from this place on are still to be counted
use Rattle.std.proofs.Common.{◌≡◌, ◌+◌, ◌≤◌, drop}
use Rattle.element_touches.specs.Touches.{different}
use Rattle.element_touches.proofs.orders.different.Given as goal

abbrev pub invariant-loop-place : goal.invariant-loop-place
invariant-loop-place l = record {
  counted : l.count + different (drop l.place l.elements) ≡ different l.elements;
  few : l.count ≤ l.place;
}
