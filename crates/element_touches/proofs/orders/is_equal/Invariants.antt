-- those before this place are the first one
use Rattle.std.proofs.Common.{◌≡◌, ◌≤◌, drop}
use Rattle.std.specs.Prelude.{◌==◌, slice_index}
use Rattle.std.specs.List.{list_all}
use Rattle.element_touches.specs.Touches.{is_equal}
use Rattle.element_touches.proofs.orders.is_equal.Given as goal

abbrev pub invariant-loop-place : goal.invariant-loop-place
invariant-loop-place l = record {
  rest : list_all (λ other. other == slice_index l.elements 0) (drop l.place l.elements) ≡ is_equal l.elements;
  from : 1 ≤ l.place;
}
