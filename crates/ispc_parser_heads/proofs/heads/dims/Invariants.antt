use Rattle.std.proofs.Common.{◌≡◌, ◌-◌, map}
use Rattle.gang_model.specs.Source.SpellsStatements.{max_dims}
use Rattle.ispc_lexer.specs.Views.{lexemes_of}
use Rattle.source_tree.specs.Tree.{dim_view}
use Rattle.ispc_parser_shared.specs.Front.{list_of}
use Rattle.ispc_parser_shared.proofs.Lists.{with_front}
use Rattle.ispc_parser_heads.specs.Heads.{dim_of, dims_of}
use Rattle.ispc_parser_heads.proofs.heads.dims.Given as goal

abbrev pub invariant-loop : goal.invariant-loop
invariant-loop l = with_front (map dim_view l.dims.items) (list_of (dim_of l.depth) (max_dims - l.counter) (lexemes_of l.rest)) ≡ dims_of l.depth (lexemes_of l.tokens)
