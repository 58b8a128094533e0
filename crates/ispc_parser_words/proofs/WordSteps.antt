-- Steps of the loop over the words of a spec.
use Rattle.std.proofs.Common.{◌≡◌, List, [], ◌∷◌, Option, Some, None, Bool, refl, sym, ap, ◌∙◌}
use Rattle.gang_model.specs.declared.marks.Mark.{Mark}
use Rattle.gang_model.specs.Source.Tokens.{Lexeme}
use Rattle.ispc_parser_words.specs.declared.words.Words.{Words}
use Rattle.ispc_lexer.specs.Options.{◌>>=◌, if_some}
use Rattle.ispc_parser_words.specs.Words.{spec_word, next_word}
use Rattle.ispc_parser_words.specs.Said.{no_words, with_word, words_from, said, said_at}
use Rattle.std.proofs.lemmas.Option.{same_Some}

word_step : (w : Words) (m : Mark) (ts after : List Lexeme) → next_word ts ≡ Some (m, after) → words_from w ts ≡ (with_word m w >>= λ more. words_from more after)
word_step w m [] after e = absurd cc
word_step w m (t ∷ ts) after e = go (spec_word t.sort) e
  where
    go : (o : Option Mark) → ◌>>=◌ {B = Mark × List Lexeme} o (λ v. Some (v, ts)) ≡ Some (m, after)
        → if_some o (λ v. with_word v w >>= λ more. words_from more ts) (Some (w, t ∷ ts)) ≡ (with_word m w >>= λ more. words_from more after)
    go None e = absurd cc
    go (Some v) e =
        let same : (v, ts) ≡ (m, after) = same_Some (v, ts) (m, after) e in
        ap (λ (x : Mark × List Lexeme). with_word x.0 w >>= λ more. words_from more x.1) same

pub words_on : (w more : Words) (m : Mark) (ts after : List Lexeme) → next_word ts ≡ Some (m, after) → with_word m w ≡ Some more → words_from more after ≡ words_from w ts
words_on w more m ts after e f = sym (word_step w m ts after e ∙ rw f refl)

pub words_stop : (is_cast : Bool) (all : List Lexeme) (w : Words) (m : Mark) (ts after : List Lexeme) → next_word ts ≡ Some (m, after) → with_word m w ≡ None → words_from w ts ≡ words_from (no_words is_cast) all → said_at is_cast all ≡ None
unfolding said_at
words_stop is_cast all w m ts after e f is = let none : words_from (no_words is_cast) all ≡ None = sym is ∙ word_step w m ts after e ∙ rw f refl in rw none refl

no_word_left : (w : Words) (ts : List Lexeme) → next_word ts ≡ None → words_from w ts ≡ Some (w, ts)
no_word_left w [] e = refl
no_word_left w (t ∷ ts) e = go (spec_word t.sort) e
  where
    go : (o : Option Mark) → ◌>>=◌ {B = Mark × List Lexeme} o (λ v. Some (v, ts)) ≡ None → if_some o (λ v. with_word v w >>= λ more. words_from more ts) (Some (w, t ∷ ts)) ≡ Some (w, t ∷ ts)
    go None e = refl
    go (Some v) e = absurd cc

pub words_end : (is_cast : Bool) (all : List Lexeme) (w : Words) (ts : List Lexeme) → next_word ts ≡ None → words_from w ts ≡ words_from (no_words is_cast) all → said_at is_cast all ≡ (said w >>= λ s. Some (s, ts))
unfolding said_at
words_end is_cast all w ts e is = let here : words_from (no_words is_cast) all ≡ Some (w, ts) = sym is ∙ no_word_left w ts e in rw here refl
