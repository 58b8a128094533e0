use Rattle.ispc_lexer.specs.Views.{lexemes_of}
use Rattle.source_tree.specs.Tree.{tree_view}
use Rattle.ispc_parser.proofs.Whole.{is_found, is_one, is_none}
use Rattle.ispc_parser.proofs.parser.parse.Goals as goal

pub returns : goal.returns
returns c = record {
  found = is_found tree_view (lexemes_of c.args.tokens.now) c.whole.result c.whole.ensures;
  one = is_one tree_view (lexemes_of c.args.tokens.now) c.whole.result c.whole.ensures;
  none = is_none tree_view (lexemes_of c.args.tokens.now) c.whole.result c.whole.ensures;
}
