use Rattle.std.proofs.Common.{◌≡◌, length, ◌+◌}
use Rattle.ispc_lexer.specs.Views.{lexemes_of}
use Rattle.ispc_parser_words.specs.Words as spec
use Rattle.ispc_parser_words.proofs.words.spec_words.Given as goal

abbrev pub decreases-loop-after : goal.decreases-loop-after
decreases-loop-after l = length l.rest

abbrev pub invariant-loop-after : goal.invariant-loop-after
invariant-loop-after l = record {
  counted : l.count + length (spec.words_of (lexemes_of l.rest)) ≡ length (spec.words_of (lexemes_of l.fn.tokens));
  small : l.count + length l.rest ≡ length l.fn.tokens;
}
