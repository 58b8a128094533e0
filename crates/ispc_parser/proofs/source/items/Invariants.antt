use Rattle.std.proofs.Common.{◌≡◌, ◌-◌, length, map}
use Rattle.ispc_lexer.specs.Views.{lexemes_of}
use Rattle.source_tree.specs.Tree.{item_view}
use Rattle.ispc_parser.specs.Source.{items_of, tree_of}
use Rattle.ispc_parser.proofs.Items.{with_items}
use Rattle.ispc_parser.proofs.source.items.Given as goal

abbrev pub invariant-loop : goal.invariant-loop
invariant-loop l = with_items (map item_view l.items.items) (items_of (length l.tokens - l.counter) (lexemes_of l.rest)) ≡ tree_of (lexemes_of l.tokens)
