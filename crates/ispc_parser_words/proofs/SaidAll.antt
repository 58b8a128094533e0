-- A spec's words are read exactly where they mean something.
use Rattle.std.proofs.Common.{◌≡◌, inl, inr, List, [], ◌∷◌, ◌++◌, Option, Some, None, Bool, true, false, cond, refl, sym, ap, subst, ◌∙◌}
use Rattle.std.specs.Prelude.{◌&&◌, ◌||◌, not, option_and_then}
use denote.Enum.Bare.{sameb}
use Rattle.gang_types.specs.declared.types.IntType.{IntType}
use Rattle.gang_types.specs.declared.types.Rate.{Rate}
use Rattle.gang_types.specs.declared.types.Rate.TheVariants as rate
use Rattle.gang_model.specs.declared.marks.Mark.{Mark}
use Rattle.gang_model.specs.declared.marks.Mark.TheVariants as mark
use Rattle.gang_model.specs.contracts.marks.Mark.{the_type}
use Rattle.gang_model.specs.declared.forms.Spec.{Spec}
use Rattle.gang_model.specs.Source.Tokens.{Lexeme}
use Rattle.gang_model.specs.Source.Specs.{has, is_spec_word, are_spec_words, rate_of, type_named, unsigned_named, type_words, spec_of, cast_part}
use Rattle.source_answers.specs.declared.fault.SourceFault.{SourceFault}
use Rattle.source_answers.specs.declared.fault.SourceFault.TheVariants as faults
use Rattle.ispc_parser_words.specs.declared.words.Words.{Words}
use Rattle.ispc_lexer.specs.Options.{◌>>=◌, if_some}
use Rattle.ispc_parser_words.specs.Front.{Fails}
use Rattle.ispc_parser_words.specs.Words.{spec_word, words_of, after_words, spec_at, cast_spec_at}
use Rattle.ispc_parser_words.specs.Said.{no_words, is_some, with_unsigned, with_type, with_word, words_from, said, said_at}
use Rattle.ispc_parser_words.proofs.SpecWords.{spec_word_is}
use Rattle.ispc_parser_words.proofs.SpecOrder.{same_mark, names_type, spec_of-middle}
use Rattle.ispc_parser_words.proofs.Said.{is_marked, meant, Holds, holds_none, said_is, no_value, rate_free, refused}
use Rattle.gang_model.proofs.JudgedLaws.{or_false}
use Rattle.std.proofs.lemmas.Option.{same_Some}
use Rattle.ispc_lexer.proofs.Runs.{which}

-- ---- a word more that is taken

all_words : (c : Bool) (m : Mark) (read : List Mark) (w : Words) → Holds c read w → is_spec_word m ≡ true → has m read ≡ false → are_spec_words (m ∷ read) ≡ true
all_words c m read w h is new = rw (is, new, h.words) refl

unmarked_cast : (c v : Bool) (w : Words) → w.is_cast ≡ c → w.is_cast ≡ false → (c && v) ≡ false
unmarked_cast c v w is none = let none_c : c ≡ false = sym is ∙ none in rw none_c refl

exported_taken : (c : Bool) (read : List Mark) (w : Words) → Holds c read w → w.is_cast ≡ false → w.is_exported ≡ false → Holds c (mark.Export ∷ read) (record w { is_exported = true })
exported_taken c read w h p q = record {
  cast = h.cast;
  words = all_words c mark.Export read w h refl (h.exported ∙ q);
  exported = refl;
  static = h.static;
  «inline» = h.inline;
  constant = h.constant;
  rate = h.rate;
  unsigned = h.unsigned;
  types = h.types;
  unmarked = unmarked_cast c (true || w.is_static || w.is_inline || w.is_constant) w h.cast p;
}

static_taken : (c : Bool) (read : List Mark) (w : Words) → Holds c read w → w.is_cast ≡ false → w.is_static ≡ false → Holds c (mark.Static ∷ read) (record w { is_static = true })
static_taken c read w h p q = record {
  cast = h.cast;
  words = all_words c mark.Static read w h refl (h.static ∙ q);
  exported = h.exported;
  static = refl;
  «inline» = h.inline;
  constant = h.constant;
  rate = h.rate;
  unsigned = h.unsigned;
  types = h.types;
  unmarked = unmarked_cast c (w.is_exported || true || w.is_inline || w.is_constant) w h.cast p;
}

inline_taken : (c : Bool) (read : List Mark) (w : Words) → Holds c read w → w.is_cast ≡ false → w.is_inline ≡ false → Holds c (mark.Inline ∷ read) (record w { is_inline = true })
inline_taken c read w h p q = record {
  cast = h.cast;
  words = all_words c mark.Inline read w h refl (h.inline ∙ q);
  exported = h.exported;
  static = h.static;
  «inline» = refl;
  constant = h.constant;
  rate = h.rate;
  unsigned = h.unsigned;
  types = h.types;
  unmarked = unmarked_cast c (w.is_exported || w.is_static || true || w.is_constant) w h.cast p;
}

constant_taken : (c : Bool) (read : List Mark) (w : Words) → Holds c read w → w.is_cast ≡ false → w.is_constant ≡ false → Holds c (mark.Const ∷ read) (record w { is_constant = true })
constant_taken c read w h p q = record {
  cast = h.cast;
  words = all_words c mark.Const read w h refl (h.constant ∙ q);
  exported = h.exported;
  static = h.static;
  «inline» = h.inline;
  constant = refl;
  rate = h.rate;
  unsigned = h.unsigned;
  types = h.types;
  unmarked = unmarked_cast c (w.is_exported || w.is_static || w.is_inline || true) w h.cast p;
}

uniform_taken : (c : Bool) (read : List Mark) (w : Words) → Holds c read w → rate_of read ≡ Some None → Holds c (mark.Uniform ∷ read) (record w { rate = Some rate.Uniform })
uniform_taken c read w h none =
    let free = rate_free read none in
    record {
      cast = h.cast;
      words = all_words c mark.Uniform read w h refl free.0;
      exported = h.exported;
      static = h.static;
      «inline» = h.inline;
      constant = h.constant;
      rate = rw free.1 refl;
      unsigned = h.unsigned;
      types = h.types;
      unmarked = h.unmarked;
    }

varying_taken : (c : Bool) (read : List Mark) (w : Words) → Holds c read w → rate_of read ≡ Some None → Holds c (mark.Varying ∷ read) (record w { rate = Some rate.Varying })
varying_taken c read w h none =
    let free = rate_free read none in
    record {
      cast = h.cast;
      words = all_words c mark.Varying read w h refl free.1;
      exported = h.exported;
      static = h.static;
      «inline» = h.inline;
      constant = h.constant;
      rate = rw free.0 refl;
      unsigned = h.unsigned;
      types = h.types;
      unmarked = h.unmarked;
    }

unsigned_taken : (c : Bool) (read : List Mark) (w : Words) → Holds c read w → w.is_unsigned ≡ false → Holds c (mark.Unsigned ∷ read) (record w { is_unsigned = true })
unsigned_taken c read w h none = record {
  cast = h.cast;
  words = all_words c mark.Unsigned read w h refl (h.unsigned ∙ none);
  exported = h.exported;
  static = h.static;
  «inline» = h.inline;
  constant = h.constant;
  rate = h.rate;
  unsigned = refl;
  types = h.types;
  unmarked = h.unmarked;
}

-- where no word names a type, this one does not stand
no_type_word : (m : Mark) (ws : List Mark) → names_type m ≡ true → type_words ws ≡ [] → has m ws ≡ false
no_type_word m [] is e = refl
no_type_word m (x ∷ ws) is e =
    elim (which (names_type x) (x ∷ type_words ws) (type_words ws) [] e) [
      | inl p ↦ let never = p.1 in absurd cc
      | inr p ↦ other (sameb the_type x m) refl p.0 (no_type_word m ws is p.1)
    ]
  where
    other : (v : Bool) → sameb the_type x m ≡ v → names_type x ≡ false → has m ws ≡ false → (v || has m ws) ≡ false
    other true e not_x rest = let also : names_type m ≡ false = subst (λ (y : Mark). names_type y ≡ false) (same_mark x m e) not_x in absurd cc
    other false e not_x rest = rest

-- the same words before this one, but for the type
pub record IsTypeWord (m : Mark) : Type 0 where
  pub spec_word : is_spec_word m ≡ true
  pub names : names_type m ≡ true
  pub not_export : sameb the_type m mark.Export ≡ false
  pub not_static : sameb the_type m mark.Static ≡ false
  pub not_inline : sameb the_type m mark.Inline ≡ false
  pub not_const : sameb the_type m mark.Const ≡ false
  pub not_uniform : sameb the_type m mark.Uniform ≡ false
  pub not_varying : sameb the_type m mark.Varying ≡ false
  pub not_unsigned : sameb the_type m mark.Unsigned ≡ false

not_more : (v b : Bool) → v ≡ false → (v || b) ≡ b
not_more v b e = rw e refl

type_taken : (c : Bool) (read : List Mark) (w : Words) (m : Mark) → Holds c read w → IsTypeWord m → w.type_word ≡ None → Holds c (m ∷ read) (record w { type_word = Some m })
type_taken c read w m h is none =
    let free : type_words read ≡ [] = h.types ∙ ap (λ (o : Option Mark). if_some o (λ k. k ∷ []) []) none in
    record {
      cast = h.cast;
      words = all_words c m read w h is.spec_word (no_type_word m read is.names free);
      exported = not_more (sameb the_type m mark.Export) (has mark.Export read) is.not_export ∙ h.exported;
      static = not_more (sameb the_type m mark.Static) (has mark.Static read) is.not_static ∙ h.static;
      «inline» = not_more (sameb the_type m mark.Inline) (has mark.Inline read) is.not_inline ∙ h.inline;
      constant = not_more (sameb the_type m mark.Const) (has mark.Const read) is.not_const ∙ h.constant;
      rate = rw (is.not_uniform, is.not_varying) h.rate;
      unsigned = not_more (sameb the_type m mark.Unsigned) (has mark.Unsigned read) is.not_unsigned ∙ h.unsigned;
      types = rw (is.names, free) refl;
      unmarked = h.unmarked;
    }

-- ---- any word that is taken

flag_taken : (c : Bool) (read : List Mark) (w more after : Words) (v : Bool) (m : Mark) → (w.is_cast ≡ false → v ≡ false → Holds c (m ∷ read) after) → cond (w.is_cast || v) None (Some after) ≡ Some more → Holds c (m ∷ read) more
flag_taken c read w more after v m holds e =
    elim (which (w.is_cast || v) None (Some after) (Some more) e) [
      | inl p ↦ let never = p.1 in absurd cc
      | inr p ↦ let q = or_false w.is_cast v p.0 in subst (λ (x : Words). Holds c (m ∷ read) x) (same_Some after more p.1) (holds q.0 q.1)
    ]

rate_taken : (c : Bool) (read : List Mark) (w more after : Words) (m : Mark) → Holds c read w → (rate_of read ≡ Some None → Holds c (m ∷ read) after) → cond (is_some w.rate) None (Some after) ≡ Some more → Holds c (m ∷ read) more
rate_taken c read w more after m h holds e =
    elim (which (is_some w.rate) None (Some after) (Some more) e) [
      | inl p ↦ let never = p.1 in absurd cc
      | inr p ↦
          let none : rate_of read ≡ Some None = h.rate ∙ ap (λ (o : Option Rate). Some o) (no_value w.rate p.0) in
          subst (λ (x : Words). Holds c (m ∷ read) x) (same_Some after more p.1) (holds none)
    ]

word_unsigned : (c : Bool) (read : List Mark) (w more : Words) → Holds c read w → with_unsigned w ≡ Some more → Holds c (mark.Unsigned ∷ read) more
word_unsigned c read w more h e =
    elim (which (w.is_unsigned || not (if_some w.type_word (λ m. is_some (unsigned_named m)) true)) None (Some (record w { is_unsigned = true })) (Some more) e) [
      | inl p ↦ let never = p.1 in absurd cc
      | inr p ↦
          let q = or_false w.is_unsigned (not (if_some w.type_word (λ m. is_some (unsigned_named m)) true)) p.0 in
          subst (λ (x : Words). Holds c (mark.Unsigned ∷ read) x) (same_Some (record w { is_unsigned = true }) more p.1) (unsigned_taken c read w h q.0)
    ]

word_type : (c : Bool) (read : List Mark) (w more : Words) (m : Mark) → Holds c read w → IsTypeWord m → with_type m w ≡ Some more → Holds c (m ∷ read) more
word_type c read w more m h is e =
    elim (which (is_some w.type_word || not (is_some (cond w.is_unsigned (unsigned_named m) (type_named m)))) None (Some (record w { type_word = Some m })) (Some more) e) [
      | inl p ↦ let never = p.1 in absurd cc
      | inr p ↦
          let q = or_false (is_some w.type_word) (not (is_some (cond w.is_unsigned (unsigned_named m) (type_named m)))) p.0 in
          subst (λ (x : Words). Holds c (m ∷ read) x) (same_Some (record w { type_word = Some m }) more p.1) (type_taken c read w m h is (no_value w.type_word q.0))
    ]

abbrev type_word_is : (m : Mark) → is_spec_word m ≡ true → names_type m ≡ true → sameb the_type m mark.Export ≡ false → sameb the_type m mark.Static ≡ false → sameb the_type m mark.Inline ≡ false → sameb the_type m mark.Const ≡ false
    → sameb the_type m mark.Uniform ≡ false → sameb the_type m mark.Varying ≡ false → sameb the_type m mark.Unsigned ≡ false → IsTypeWord m
type_word_is m a b c d e f g h i = record { spec_word = a; names = b; not_export = c; not_static = d; not_inline = e; not_const = f; not_uniform = g; not_varying = h; not_unsigned = i }

taken : (c : Bool) (read : List Mark) (w more : Words) (m : Mark) → Holds c read w → is_spec_word m ≡ true → with_word m w ≡ Some more → Holds c (m ∷ read) more
taken c read w more mark.Export h is e = flag_taken c read w more (record w { is_exported = true }) w.is_exported mark.Export (exported_taken c read w h) e
taken c read w more mark.Static h is e = flag_taken c read w more (record w { is_static = true }) w.is_static mark.Static (static_taken c read w h) e
taken c read w more mark.Inline h is e = flag_taken c read w more (record w { is_inline = true }) w.is_inline mark.Inline (inline_taken c read w h) e
taken c read w more mark.Const h is e = flag_taken c read w more (record w { is_constant = true }) w.is_constant mark.Const (constant_taken c read w h) e
taken c read w more mark.Uniform h is e = rate_taken c read w more (record w { rate = Some rate.Uniform }) mark.Uniform h (uniform_taken c read w h) e
taken c read w more mark.Varying h is e = rate_taken c read w more (record w { rate = Some rate.Varying }) mark.Varying h (varying_taken c read w h) e
taken c read w more mark.Unsigned h is e = word_unsigned c read w more h e
taken c read w more mark.Void h is e = word_type c read w more mark.Void h (type_word_is mark.Void refl refl refl refl refl refl refl refl refl) e
taken c read w more mark.Bool h is e = word_type c read w more mark.Bool h (type_word_is mark.Bool refl refl refl refl refl refl refl refl refl) e
taken c read w more mark.Int h is e = word_type c read w more mark.Int h (type_word_is mark.Int refl refl refl refl refl refl refl refl refl) e
taken c read w more mark.Int8 h is e = word_type c read w more mark.Int8 h (type_word_is mark.Int8 refl refl refl refl refl refl refl refl refl) e
taken c read w more mark.Int16 h is e = word_type c read w more mark.Int16 h (type_word_is mark.Int16 refl refl refl refl refl refl refl refl refl) e
taken c read w more mark.Int32 h is e = word_type c read w more mark.Int32 h (type_word_is mark.Int32 refl refl refl refl refl refl refl refl refl) e
taken c read w more mark.Int64 h is e = word_type c read w more mark.Int64 h (type_word_is mark.Int64 refl refl refl refl refl refl refl refl refl) e
taken c read w more mark.Uint h is e = word_type c read w more mark.Uint h (type_word_is mark.Uint refl refl refl refl refl refl refl refl refl) e
taken c read w more mark.Uint8 h is e = word_type c read w more mark.Uint8 h (type_word_is mark.Uint8 refl refl refl refl refl refl refl refl refl) e
taken c read w more mark.Uint16 h is e = word_type c read w more mark.Uint16 h (type_word_is mark.Uint16 refl refl refl refl refl refl refl refl refl) e
taken c read w more mark.Uint32 h is e = word_type c read w more mark.Uint32 h (type_word_is mark.Uint32 refl refl refl refl refl refl refl refl refl) e
taken c read w more mark.Uint64 h is e = word_type c read w more mark.Uint64 h (type_word_is mark.Uint64 refl refl refl refl refl refl refl refl refl) e
taken c read w more _ h is e = absurd cc

-- ---- all the words

abbrev pub At : Type 0
At = Option (Spec × List Lexeme)

abbrev behind : Option Spec → List Lexeme → At
behind o ts = o >>= λ s. Some (s, ts)

meant-middle : (c : Bool) (m : Mark) (before after : List Mark) → meant c (before ++ m ∷ after) ≡ meant c (m ∷ before ++ after)
unfolding meant
meant-middle c m before after = ap (λ (o : Option Spec). o >>= λ s. cond (is_marked c s) None (Some s)) (spec_of-middle m before after)

end_of : (c : Bool) (read : List Mark) (w : Words) (ts : List Lexeme) → Holds c read w → behind (said w) ts ≡ behind (meant c (read ++ [])) ts
end_of c read w ts h = ap (λ (o : Option Spec). behind o ts) (said_is c read w h ∙ ap (meant c) (sym (append_nil read)))
  where
    append_nil : (l : List Mark) → l ++ [] ≡ l
    append_nil [] = refl
    append_nil (x ∷ l) = ap (λ (r : List Mark). x ∷ r) (append_nil l)

all_meant : (ts : List Lexeme) (c : Bool) (read : List Mark) (w : Words) → Holds c read w
    → (words_from w ts >>= λ x. behind (said x.0) x.1) ≡ behind (meant c (read ++ words_of ts)) (after_words ts)
all_meant [] c read w h = end_of c read w [] h
all_meant (t ∷ ts) c read w h = at_word (spec_word t.sort) refl (all_meant ts c)
  where
    at_word : (o : Option Mark) → spec_word t.sort ≡ o
        → ((read2 : List Mark) (w2 : Words) → Holds c read2 w2 → (words_from w2 ts >>= λ x. behind (said x.0) x.1) ≡ behind (meant c (read2 ++ words_of ts)) (after_words ts))
        → (if_some o (λ m. with_word m w >>= λ more. words_from more ts) (Some (w, t ∷ ts)) >>= λ x. behind (said x.0) x.1)
        ≡ behind (meant c (read ++ if_some o (λ m. m ∷ words_of ts) [])) (if_some o (λ m. after_words ts) (t ∷ ts))
    at_word None is others = end_of c read w (t ∷ ts) h
    at_word (Some m) is others =
        step (with_word m w) refl ∙ ap (λ (o : Option Spec). behind o (after_words ts)) (sym (meant-middle c m read (words_of ts)))
      where
        word : is_spec_word m ≡ true
        word = (spec_word_is t.sort m is).1

        step : (o : Option Words) → with_word m w ≡ o → ((o >>= λ more. words_from more ts) >>= λ x. behind (said x.0) x.1) ≡ behind (meant c (m ∷ read ++ words_of ts)) (after_words ts)
        step None e = sym (ap (λ (p : Option Spec). behind p (after_words ts)) (refused c read (words_of ts) w m h word e))
        step (Some more) e = others (m ∷ read) more (taken c read w more m h word e)

said_at-meant : (c : Bool) (ts : List Lexeme) → said_at c ts ≡ behind (meant c (words_of ts)) (after_words ts)
unfolding said_at
said_at-meant c ts = all_meant ts c [] (no_words c) (holds_none c)

pub said_at-spec_at : (ts : List Lexeme) → said_at false ts ≡ spec_at ts
unfolding spec_at meant
said_at-spec_at ts = said_at-meant false ts ∙ go (spec_of (words_of ts))
  where
    go : (o : Option Spec) → behind (o >>= λ s. cond (is_marked false s) None (Some s)) (after_words ts) ≡ behind o (after_words ts)
    go None = refl
    go (Some s) = refl

abbrev Cast : Type 0
Cast = Option Rate × Option IntType

abbrev cast_behind : Option Cast → List Lexeme → Option (Cast × List Lexeme)
cast_behind o ts = o >>= λ s. Some (s, ts)

-- of the spec only the rate and the type
abbrev pub cast_from : At → Option (Cast × List Lexeme)
cast_from None = None
cast_from (Some x) = Some ((x.0.rate, x.0.value_type), x.1)

pub cast_spec_at-said_at : (ts : List Lexeme) → cast_spec_at ts ≡ cast_from (said_at true ts)
unfolding cast_spec_at meant
cast_spec_at-said_at ts = go (spec_of (words_of ts)) ∙ sym (ap cast_from (said_at-meant true ts))
  where
    marked : (v : Bool) (s : Spec) → cast_behind (cond v None (Some (s.rate, s.value_type))) (after_words ts) ≡ cast_from (behind (cond v None (Some s)) (after_words ts))
    marked true s = refl
    marked false s = refl

    go : (o : Option Spec) → cast_behind (option_and_then cast_part o) (after_words ts) ≡ cast_from (behind (o >>= λ s. cond (is_marked true s) None (Some s)) (after_words ts))
    go None = refl
    go (Some s) = marked (s.is_exported || s.is_static || s.is_inline || s.is_constant) s

pub cast_fails : (e : SourceFault) (ts : List Lexeme) → Fails e (said_at true ts) → Fails e (cast_spec_at ts)
cast_fails faults.Memory ts h = tt
cast_fails (faults.Refused r) ts h = (cast_spec_at-said_at ts ∙ ap cast_from h.0, h.1)
