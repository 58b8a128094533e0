use Rattle.std.proofs.Common.{drop, length, map}
use Rattle.source_tree.specs.Tree.{dim_view}
use Rattle.typed_tree.specs.Views.{dimension_view}
use Rattle.source_answers.specs.Apart.{seen}
use Rattle.type_check_parts.proofs.InRows.{AreBegun}
use Rattle.type_check_parts.proofs.rounds.dimensions.Given as goal

-- what is typed so far and what is left come to the whole
abbrev pub invariant-loop-dim : goal.invariant-loop-dim
invariant-loop-dim l = AreBegun l.scope.entries (length l.scope.locals) l.number (map dim_view l.dims) (map dim_view (drop l.dim-index l.dims)) (seen (λ ds. map dimension_view ds.items) l.typed)
