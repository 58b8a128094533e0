use Rattle.std.proofs.Common.{◌≡◌, length}
use Rattle.ispc_lexer.specs.Views.{lexemes_of}
use Rattle.ispc_parser_words.specs.Said.{no_words, words_from}
use Rattle.ispc_parser_words.proofs.words.words_from.Given as goal

abbrev pub decreases-loop-word : goal.decreases-loop-word
decreases-loop-word l = length l.rest

abbrev pub invariant-loop-word : goal.invariant-loop-word
invariant-loop-word l = words_from l.words (lexemes_of l.rest) ≡ words_from (no_words l.is_cast) (lexemes_of l.tokens)
