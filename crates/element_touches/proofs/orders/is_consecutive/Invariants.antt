-- those up to this place follow each other
use Rattle.std.proofs.Common.{◌≡◌, ◌-◌, ◌≤◌, drop}
use Rattle.element_touches.specs.Touches.{is_consecutive}
use Rattle.element_touches.proofs.orders.is_consecutive.Given as goal

abbrev pub invariant-loop-place : goal.invariant-loop-place
invariant-loop-place l = record {
  rest : is_consecutive (drop (l.place - 1) l.elements) ≡ is_consecutive l.elements;
  from : 1 ≤ l.place;
}
