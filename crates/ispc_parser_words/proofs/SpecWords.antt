-- The words that stand at the front of the tokens.
use Rattle.std.proofs.Common.{◌≡◌, inl, inr, suc, ◌≤◌, List, [], ◌∷◌, length, Option, Some, None, Bool, true, false, refl, ap, subst, arith}
use Rattle.std.specs.Prelude.{◌&&◌, not}
use Rattle.gang_model.specs.declared.marks.Mark.{Mark}
use Rattle.gang_model.specs.declared.forms.Spec.{Spec}
use Rattle.gang_model.specs.Source.Tokens.{Sort, named, numbered, marked, Lexeme}
use Rattle.gang_model.specs.Source.Specs.{has, is_spec_word, are_spec_words, spec_of}
use Rattle.gang_model.specs.Source.Spells.{TakesWords}
use Rattle.ispc_lexer.specs.Options.{◌>>=◌, if_some}
use Rattle.ispc_parser_words.specs.Words.{spec_word, words_of, after_words, begins_word, next_word}
use Rattle.std.proofs.lemmas.Option.{same_Some}
use Rattle.ispc_lexer.proofs.Runs.{which}
use Rattle.ispc_parser_words.proofs.Tokens.{takes_shorter}

pub spec_word_is : (s : Sort) (w : Mark) → spec_word s ≡ Some w → (s ≡ marked w) × (is_spec_word w ≡ true)
spec_word_is (marked m) w e =
    elim (which (is_spec_word m) (Some m) None (Some w) e) [
      | inl p ↦ subst (λ (x : Mark). (marked m ≡ marked x) × (is_spec_word x ≡ true)) (same_Some m w p.1) (refl, p.0)
      | inr p ↦ let no_value = p.1 in absurd cc
    ]
spec_word_is (named n) w e = absurd cc
spec_word_is (numbered n u l) w e = absurd cc

spec_word_again : (w : Mark) → is_spec_word w ≡ true → spec_word (marked w) ≡ Some w
spec_word_again w e = rw e refl

pub record IsNextWord (ts : List Lexeme) (w : Mark) (rest : List Lexeme) : Type 0 where
  pub words : words_of ts ≡ w ∷ words_of rest
  pub after : after_words ts ≡ after_words rest
  pub count : length ts ≡ suc (length rest)

pub next_word_is : (ts : List Lexeme) (w : Mark) (rest : List Lexeme) → next_word ts ≡ Some (w, rest) → IsNextWord ts w rest
next_word_is [] w rest e = absurd cc
next_word_is (t ∷ ts) w rest e = let p = go (spec_word t.sort) e in record { words = p.0; after = p.1; count = p.2 }
  where
    go : (o : Option Mark) → ◌>>=◌ {B = Mark × List Lexeme} o (λ v. Some (v, ts)) ≡ Some (w, rest)
        → (if_some o (λ v. v ∷ words_of ts) [] ≡ w ∷ words_of rest) × (if_some o (λ v. after_words ts) (t ∷ ts) ≡ after_words rest) × (suc (length ts) ≡ suc (length rest))
    go None e = absurd cc
    go (Some v) e =
        let same : (v, ts) ≡ (w, rest) = same_Some (v, ts) (w, rest) e in
        subst (λ (x : Mark × List Lexeme). (v ∷ words_of ts ≡ x.0 ∷ words_of x.1) × (after_words ts ≡ after_words x.1) × (suc (length ts) ≡ suc (length x.1))) same (refl, refl, refl)

pub no_next_word : (ts : List Lexeme) → next_word ts ≡ None → (words_of ts ≡ []) × (after_words ts ≡ ts)
no_next_word [] e = (refl, refl)
no_next_word (t ∷ ts) e = go (spec_word t.sort) e
  where
    go : (o : Option Mark) → ◌>>=◌ {B = Mark × List Lexeme} o (λ w. Some (w, ts)) ≡ None → (if_some o (λ w. w ∷ words_of ts) [] ≡ []) × (if_some o (λ w. after_words ts) (t ∷ ts) ≡ t ∷ ts)
    go None e = (refl, refl)
    go (Some w) e = absurd cc

-- the words that stand there are taken
pub words_taken : (ts : List Lexeme) → TakesWords (words_of ts) ts (after_words ts)
words_taken [] = refl
words_taken (t ∷ ts) = go (spec_word t.sort) refl (words_taken ts)
  where
    go : (o : Option Mark) → spec_word t.sort ≡ o → TakesWords (words_of ts) ts (after_words ts) → TakesWords (if_some o (λ w. w ∷ words_of ts) []) (t ∷ ts) (if_some o (λ w. after_words ts) (t ∷ ts))
    go None e others = refl
    go (Some w) e others = (ts, record { token = t; is = refl; sort_is = (spec_word_is t.sort w e).0 }, others)

-- ---- words that are taken stand there

none_begin : (ts : List Lexeme) → begins_word ts ≡ false → (words_of ts ≡ []) × (after_words ts ≡ ts)
none_begin [] e = (refl, refl)
none_begin (t ∷ ts) e = go (spec_word t.sort) e
  where
    go : (o : Option Mark) → if_some o (λ w. true) false ≡ false → (if_some o (λ w. w ∷ words_of ts) [] ≡ []) × (if_some o (λ w. after_words ts) (t ∷ ts) ≡ t ∷ ts)
    go None e = (refl, refl)
    go (Some w) e = absurd cc

and_left : (a b : Bool) → a && b ≡ true → a ≡ true
and_left true b e = refl
and_left false b e = absurd cc

and_right : (a b : Bool) → a && b ≡ true → b ≡ true
and_right true b e = e
and_right false b e = absurd cc

pub taken_again : (ws : List Mark) (ts rest : List Lexeme) → TakesWords ws ts rest → are_spec_words ws ≡ true → begins_word rest ≡ false → (words_of ts ≡ ws) × (after_words ts ≡ rest)
taken_again [] ts rest h all stop = rw h (none_begin rest stop)
taken_again (w ∷ ws) ts rest h all stop =
    let word : is_spec_word w ≡ true = and_left (is_spec_word w) (not (has w ws)) (and_left (is_spec_word w && not (has w ws)) (are_spec_words ws) all) in
    let others = taken_again ws h.0 rest h.2 (and_right (is_spec_word w && not (has w ws)) (are_spec_words ws) all) stop in
    (rw (h.1.is, h.1.sort_is, word) (ap (λ (x : List Mark). w ∷ x) others.0), rw (h.1.is, h.1.sort_is, word) others.1)

spec_of_words : (ws : List Mark) (s : Spec) → spec_of ws ≡ Some s → are_spec_words ws ≡ true
unfolding spec_of
spec_of_words ws s e =
    elim (which (are_spec_words ws) _ _ (Some s) e) [
      | inl p ↦ p.0
      | inr p ↦ let no_value = p.1 in absurd cc
    ]

pub words_again : (ws : List Mark) (ts rest : List Lexeme) (s : Spec) → TakesWords ws ts rest → spec_of ws ≡ Some s → begins_word rest ≡ false → (words_of ts ≡ ws) × (after_words ts ≡ rest)
words_again ws ts rest s h e stop = taken_again ws ts rest h (spec_of_words ws s e) stop

pub words_begin : (ws : List Mark) (ts rest : List Lexeme) (s : Spec) → TakesWords ws ts rest → spec_of ws ≡ Some s → begins_word ts ≡ true
unfolding spec_of
words_begin [] ts rest s h e = absurd cc
words_begin (w ∷ ws) ts rest s h e =
    let all : are_spec_words (w ∷ ws) ≡ true = spec_of_words (w ∷ ws) s e in
    let word : is_spec_word w ≡ true = and_left (is_spec_word w) (not (has w ws)) (and_left (is_spec_word w && not (has w ws)) (are_spec_words ws) all) in
    rw (h.1.is, h.1.sort_is, word) refl

-- ---- lengths

pub words_shorter : (ws : List Mark) (ts rest : List Lexeme) → TakesWords ws ts rest → length rest ≤ length ts
words_shorter [] ts rest h = omega (arith, ap length h)
words_shorter (w ∷ ws) ts rest h = omega (arith, takes_shorter (marked w) ts h.0 h.1, words_shorter ws h.0 rest h.2)
