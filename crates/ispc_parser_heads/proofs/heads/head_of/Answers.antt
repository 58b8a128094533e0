use Rattle.ispc_lexer.specs.Views.{lexemes_of}
use Rattle.ispc_parser_heads.proofs.InsideHeads.{head_is}
use Rattle.ispc_parser_heads.proofs.heads.head_of.Goals as goal

pub returns : goal.returns
returns c = rw (head_is c.args.word c.args.depth c.args.place (lexemes_of c.args.tokens.now)) c.parenthesized.ensures
