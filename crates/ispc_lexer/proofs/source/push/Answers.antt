use Rattle.ispc_lexer.proofs.ReadLoop.{lexemes_of-push}
use Rattle.ispc_lexer.proofs.source.push.Goals as goal

pub returns : goal.returns
returns c = record { value = rw c.in_ok-push.ensures.items (lexemes_of-push c.args.tokens.now.items _) }
