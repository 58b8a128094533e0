-- what is left is still to be added
use Rattle.std.proofs.Common.{◌≡◌, ◌++◌, drop, map}
use Rattle.typed_tree.specs.Views.{dimension_view}
use Rattle.element_accesses.specs.Found.{bounds_in}
use Rattle.element_accesses.specs.Views.{founds_view}
use Rattle.element_accesses.proofs.finding.add_bounds.Given as goal

abbrev pub invariant-loop-dimension : goal.invariant-loop-dimension
invariant-loop-dimension l = founds_view l.found.items ++ bounds_in l.spot (map dimension_view (drop l.dimension-index l.dimensions)) ≡ founds_view l.initial.found.items ++ bounds_in l.spot (map dimension_view l.fn.dimensions)
