use Rattle.std.proofs.Common.{refl, sym, ◌∙◌, arith}
use Rattle.ispc_lexer.specs.Views.{lexemes_of}
use Rattle.ispc_parser_words.proofs.Tokens.{length-lexemes_of}
use Rattle.ispc_parser_words.proofs.SpecWords.{next_word_is}
use Rattle.ispc_parser_words.proofs.WordSteps.{words_on, words_stop, words_end}
use Rattle.ispc_parser_words.proofs.words.words_from.Goals as goal

pub returns-in_default-with_word : goal.returns-in_default-with_word
returns-in_default-with_word c =
    rw c.unexpected.ensures
    (words_stop c.args.is_cast (lexemes_of c.args.tokens.now) c.loop-word.words c.in-Some.word (lexemes_of c.loop-word.rest.now) (lexemes_of c.in-Some.after.now) (sym c.in-Some.ensures) (cc) c.loop-word.invariant, tt)

pub loop-word-smaller : goal.loop-word-smaller
loop-word-smaller c =
    let next = next_word_is (lexemes_of c.loop-word.rest.now) c.in-Some.word (lexemes_of c.in-Some.after.now) (sym c.in-Some.ensures) in
    omega (arith, next.count, length-lexemes_of c.loop-word.rest.now, length-lexemes_of c.in-Some.after.now)

pub loop-word-preserved : goal.loop-word-preserved
loop-word-preserved c = words_on c.loop-word.words c.in-Some-with_word.more c.in-Some.word (lexemes_of c.loop-word.rest.now) (lexemes_of c.in-Some.after.now) (sym c.in-Some.ensures) (sym c.in-Some-with_word.ensures) ∙ c.loop-word.invariant

pub returns-in-Some-said : goal.returns-in-Some-said
returns-in-Some-said c = words_end c.args.is_cast (lexemes_of c.args.tokens.now) c.loop-word.words (lexemes_of c.loop-word.rest.now) (sym c.in_default.ensures) c.loop-word.invariant ∙ rw (sym c.in-Some-said.ensures) refl

pub returns-in-None : goal.returns-in-None
returns-in-None c =
    rw c.unexpected-in-None.ensures (words_end c.args.is_cast (lexemes_of c.args.tokens.now) c.loop-word.words (lexemes_of c.loop-word.rest.now) (sym c.in_default.ensures) c.loop-word.invariant ∙ rw (sym c.in-None.ensures) refl, tt)
