use Rattle.std.proofs.Common.{length, ap, sym, arith}
use Rattle.ispc_lexer.specs.Views.{lexemes_of}
use Rattle.ispc_parser_words.proofs.Tokens.{length-lexemes_of}
use Rattle.ispc_parser_words.proofs.SpecWords.{next_word_is}
use Rattle.ispc_parser_words.proofs.words.spec_words.Goals as goal

pub loop-after-smaller : goal.loop-after-smaller
loop-after-smaller c =
    let next = next_word_is (lexemes_of c.loop-after.rest.now) c.in-Some.field-0-0 (lexemes_of c.in-Some.after.now) (sym c.in-Some.ensures) in
    omega (arith, next.count, length-lexemes_of c.loop-after.rest.now, length-lexemes_of c.in-Some.after.now)

pub loop-after-preserved : goal.loop-after-preserved
loop-after-preserved c =
    let next = next_word_is (lexemes_of c.loop-after.rest.now) c.in-Some.field-0-0 (lexemes_of c.in-Some.after.now) (sym c.in-Some.ensures) in
    record {
      counted = omega (arith, ap length next.words, c.loop-after.invariant.counted);
      small = omega (arith, next.count, length-lexemes_of c.loop-after.rest.now, length-lexemes_of c.in-Some.after.now, c.loop-after.invariant.small);
    }
