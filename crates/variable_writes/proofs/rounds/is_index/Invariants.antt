-- the dimensions before this one have other indices
use Rattle.std.proofs.Common.{◌≡◌, drop, map}
use Rattle.typed_tree.specs.Views.{dimension_view}
use Rattle.variable_writes.specs.Writes.{is_index}
use Rattle.variable_writes.proofs.rounds.is_index.Given as goal

abbrev pub invariant-loop-dimension : goal.invariant-loop-dimension
invariant-loop-dimension l = is_index l.id (map dimension_view (drop l.dimension-index l.dimensions)) ≡ is_index l.id (map dimension_view l.dimensions)
