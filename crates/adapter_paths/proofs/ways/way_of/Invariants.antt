-- the way so far, with the components that are left, is the whole way
use Rattle.std.proofs.Common.{◌≡◌}
use Rattle.std.specs.List.{fold}
use Rattle.std.specs.Path.{components_remaining}
use Rattle.adapter_paths.specs.Ways.{gone, names_of, way_of}
use Rattle.adapter_paths.proofs.ways.way_of.Given as goal

abbrev pub invariant-loop-component : goal.invariant-loop-component
invariant-loop-component l = fold gone (names_of l.way.items) (components_remaining l.component-iterator) ≡ way_of l.path
