use Rattle.std.proofs.Common.{sym}
use Rattle.ispc_lexer.specs.Views.{lexemes_of}
use Rattle.ispc_parser_words.proofs.SaidAll.{said_at-spec_at}
use Rattle.ispc_parser_words.proofs.words.take_spec.Goals as goal

pub returns : goal.returns
returns c = rw (sym (said_at-spec_at (lexemes_of c.args.tokens.now))) c.words_from.ensures
