use Rattle.std.proofs.Common.{refl}
use Rattle.ispc_lexer.specs.Views.{lexemes_of}
use Rattle.ispc_parser_words.specs.Words.{spec_at}
use Rattle.ispc_parser_shared.specs.SpecWords.{outer_spec_of}
use Rattle.ispc_parser_shared.proofs.Fails.{fails_sooner}
use Rattle.ispc_parser_shared.proofs.misfits.outer_spec.Goals as goal

pub returns-in-Err : goal.returns-in-Err
unfolding outer_spec_of
returns-in-Err c =
    fails_sooner c.in-Err.fault c.sooner.result (spec_at (lexemes_of c.args.tokens.now)) _ c.sooner.ensures (λ none. rw none refl) c.in-Err.ensures
