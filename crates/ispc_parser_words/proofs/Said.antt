-- What the words say one by one is what they say together.
use Rattle.std.proofs.Common.{◌≡◌, ◌⊎◌, inl, inr, List, [], ◌∷◌, ◌++◌, Option, Some, None, Bool, true, false, cond, refl, sym, ap, ◌∙◌}
use Rattle.std.specs.Prelude.{◌&&◌, ◌||◌, not}
use denote.Enum.Bare.{sameb}
use Rattle.gang_types.specs.declared.types.IntType.{IntType}
use Rattle.gang_types.specs.declared.types.Rate.{Rate}
use Rattle.gang_types.specs.declared.types.Rate.TheVariants as rate
use Rattle.gang_model.specs.declared.marks.Mark.{Mark}
use Rattle.gang_model.specs.declared.marks.Mark.TheVariants as mark
use Rattle.gang_model.specs.contracts.marks.Mark.{the_type}
use Rattle.gang_model.specs.declared.forms.Spec.{Spec}
use Rattle.gang_model.specs.Source.Specs.{has, is_spec_word, are_spec_words, rate_of, type_named, unsigned_named, type_words, type_from, type_of, spec_with, spec_of}
use Rattle.ispc_parser_words.specs.declared.words.Words.{Words}
use Rattle.ispc_lexer.specs.Options.{◌>>=◌, if_some}
use Rattle.ispc_parser_words.specs.Said.{no_words, is_some, type_said, with_rate, with_unsigned, with_type, with_word, said}
use Rattle.ispc_parser_words.proofs.SpecOrder.{names_type, type_words-append, spec_of-is, two_types}
use Rattle.gang_model.proofs.JudgedLaws.{not_true}
use Rattle.ispc_lexer.proofs.Runs.{which}

abbrev pub is_marked : Bool → Spec → Bool
is_marked c s = c && (s.is_exported || s.is_static || s.is_inline || s.is_constant)

-- the meaning of the words of a cast or of another spec
unfoldable pub meant : (is_cast : Bool) → List Mark → Option Spec
meant c ws = spec_of ws >>= λ s. cond (is_marked c s) None (Some s)

-- the words read so far, the last one first, say this
pub record Holds (c : Bool) (read : List Mark) (w : Words) : Type 0 where
  pub cast : w.is_cast ≡ c
  pub words : are_spec_words read ≡ true
  pub exported : has mark.Export read ≡ w.is_exported
  pub static : has mark.Static read ≡ w.is_static
  pub «inline» : has mark.Inline read ≡ w.is_inline
  pub constant : has mark.Const read ≡ w.is_constant
  pub rate : rate_of read ≡ Some w.rate
  pub unsigned : has mark.Unsigned read ≡ w.is_unsigned
  pub types : type_words read ≡ if_some w.type_word (λ m. m ∷ []) []
  pub unmarked : (c && (w.is_exported || w.is_static || w.is_inline || w.is_constant)) ≡ false

pub holds_none : (c : Bool) → Holds c [] (no_words c)
holds_none c = record { cast = refl; words = refl; exported = refl; static = refl; «inline» = refl; constant = refl; rate = refl; unsigned = refl; types = refl; unmarked = none c }
  where
    none : (c : Bool) → (c && false) ≡ false
    none true = refl
    none false = refl

-- ---- where the words end

type_of-is : (ws : List Mark) (u : Bool) (l : List Mark) → has mark.Unsigned ws ≡ u → type_words ws ≡ l → type_of ws ≡ type_from u l
type_of-is ws u l e f = ap (λ (x : Bool). type_from x (type_words ws)) e ∙ ap (type_from u) f

pub said_is : (c : Bool) (read : List Mark) (w : Words) → Holds c read w → said w ≡ meant c read
unfolding meant
said_is c read w h =
    sym (ap (λ (o : Option Spec). o >>= λ s. cond (is_marked c s) None (Some s))
    (spec_of-is read true w.is_exported w.is_static w.is_inline w.is_constant (Some w.rate) (type_said w) h.words h.exported h.static h.inline h.constant h.rate
    (type_of-is read w.is_unsigned (if_some w.type_word (λ m. m ∷ []) []) h.unsigned h.types))
    ∙ go (type_said w))
  where
    go : (t : Option (Option IntType))
        → (spec_with w.is_exported w.is_static w.is_inline w.is_constant (Some w.rate) t >>= λ s. cond (is_marked c s) None (Some s))
        ≡ ◌>>=◌ {B = Spec} t (λ ty. Some (record { is_exported = w.is_exported; is_static = w.is_static; is_inline = w.is_inline; is_constant = w.is_constant; rate = w.rate; value_type = ty }))
    go None = refl
    go (Some ty) = rw h.unmarked refl

-- ---- words that mean nothing

or_true : (a b : Bool) → (a || b) ≡ true → (a ≡ true) ⊎ (b ≡ true)
or_true true b e = inl refl
or_true false b e = inr e

pub no_value : {A : Type 0} (o : Option A) → is_some o ≡ false → o ≡ None
no_value None e = refl
no_value (Some x) e = absurd cc

or_right : (a b : Bool) → b ≡ true → (a || b) ≡ true
or_right true b e = refl
or_right false b e = e

has_left : (k : Mark) (a b : List Mark) → has k a ≡ true → has k (a ++ b) ≡ true
has_left k [] b e = absurd cc
has_left k (x ∷ a) b e =
    elim (or_true (sameb the_type x k) (has k a) e) [
      | inl p ↦ rw p refl
      | inr p ↦ or_right (sameb the_type x k) (has k (a ++ b)) (has_left k a b p)
    ]

abbrev kept : Bool → Option Spec → Option Spec
kept c o = o >>= λ s. cond (is_marked c s) None (Some s)

meant_is : (c : Bool) (l : List Mark) → meant c l ≡ kept c (cond (are_spec_words l) (spec_with (has mark.Export l) (has mark.Static l) (has mark.Inline l) (has mark.Const l) (rate_of l) (type_of l)) None)
unfolding meant spec_of
meant_is c l = refl

none_are : (c : Bool) (l : List Mark) → are_spec_words l ≡ false → meant c l ≡ None
none_are c l e =
    meant_is c l ∙ ap (λ (a : Bool). kept c (cond a (spec_with (has mark.Export l) (has mark.Static l) (has mark.Inline l) (has mark.Const l) (rate_of l) (type_of l)) None)) e

none_rate : (c : Bool) (l : List Mark) → rate_of l ≡ None → meant c l ≡ None
none_rate c l e =
    meant_is c l
    ∙ ap (λ (r : Option (Option Rate)). kept c (cond (are_spec_words l) (spec_with (has mark.Export l) (has mark.Static l) (has mark.Inline l) (has mark.Const l) r (type_of l)) None)) e
    ∙ go (are_spec_words l)
  where
    go : (a : Bool) → kept c (cond a None None) ≡ None
    go true = refl
    go false = refl

none_type : (c : Bool) (l : List Mark) → type_of l ≡ None → meant c l ≡ None
none_type c l e =
    meant_is c l
    ∙ ap (λ (t : Option (Option IntType)). kept c (cond (are_spec_words l) (spec_with (has mark.Export l) (has mark.Static l) (has mark.Inline l) (has mark.Const l) (rate_of l) t) None)) e
    ∙ go (are_spec_words l) (rate_of l)
  where
    go : (a : Bool) (r : Option (Option Rate)) → kept c (cond a (spec_with (has mark.Export l) (has mark.Static l) (has mark.Inline l) (has mark.Const l) r None) None) ≡ None
    go true None = refl
    go true (Some r) = refl
    go false r = refl

none_marked : (c : Bool) (l : List Mark) → c ≡ true → (has mark.Export l || has mark.Static l || has mark.Inline l || has mark.Const l) ≡ true → meant c l ≡ None
none_marked c l is e = meant_is c l ∙ go (are_spec_words l) (rate_of l) (type_of l)
  where
    go : (a : Bool) (r : Option (Option Rate)) (t : Option (Option IntType)) → kept c (cond a (spec_with (has mark.Export l) (has mark.Static l) (has mark.Inline l) (has mark.Const l) r t) None) ≡ None
    go true None t = refl
    go true (Some r) None = refl
    go true (Some r) (Some t) = rw (is, e) refl
    go false r t = refl

-- a word that stands there already
twice : (c : Bool) (m : Mark) (read rest : List Mark) → has m read ≡ true → meant c (m ∷ read ++ rest) ≡ None
twice c m read rest e = none_are c (m ∷ read ++ rest) (go (is_spec_word m) (has m (read ++ rest)) (are_spec_words (read ++ rest)) (has_left m read rest e))
  where
    go : (a x y : Bool) → x ≡ true → ((a && not x) && y) ≡ false
    go true true y e = refl
    go true false y e = absurd cc
    go false x y e = refl

-- ---- a word more that is refused

flag_refused : (c : Bool) (read rest : List Mark) (w : Words) (m : Mark) (v : Bool) (more : Words) → Holds c read w → has m read ≡ v
    → (has mark.Export (m ∷ read ++ rest) || has mark.Static (m ∷ read ++ rest) || has mark.Inline (m ∷ read ++ rest) || has mark.Const (m ∷ read ++ rest)) ≡ true
    → cond (w.is_cast || v) None (Some more) ≡ None → meant c (m ∷ read ++ rest) ≡ None
flag_refused c read rest w m v more h said marked e =
    elim (which (w.is_cast || v) None (Some more) None e) [
      | inl p ↦
          elim (or_true w.is_cast v p.0) [
            | inl q ↦ none_marked c (m ∷ read ++ rest) (sym h.cast ∙ q) marked
            | inr q ↦ twice c m read rest (said ∙ q)
          ]
      | inr p ↦ let some_word = p.1 in absurd cc
    ]

rate_has : (ws : List Mark) (r : Rate) → rate_of ws ≡ Some (Some r) → (has mark.Uniform ws ≡ true) ⊎ (has mark.Varying ws ≡ true)
rate_has ws r e = go (has mark.Uniform ws) (has mark.Varying ws) e
  where
    go : (u v : Bool) → cond u (cond v None (Some (Some rate.Uniform))) (Some (cond v (Some rate.Varying) None)) ≡ Some (Some r) → (u ≡ true) ⊎ (v ≡ true)
    go true v e = inl refl
    go false true e = inr refl
    go false false e = absurd cc

pub rate_free : (ws : List Mark) → rate_of ws ≡ Some None → (has mark.Uniform ws ≡ false) × (has mark.Varying ws ≡ false)
rate_free ws e = go (has mark.Uniform ws) (has mark.Varying ws) e
  where
    go : (u v : Bool) → cond u (cond v None (Some (Some rate.Uniform))) (Some (cond v (Some rate.Varying) None)) ≡ Some None → (u ≡ false) × (v ≡ false)
    go true true e = absurd cc
    go true false e = absurd cc
    go false true e = absurd cc
    go false false e = (refl, refl)

uniform_refused : (c : Bool) (read rest : List Mark) (w : Words) → Holds c read w → with_rate rate.Uniform w ≡ None → meant c (mark.Uniform ∷ read ++ rest) ≡ None
uniform_refused c read rest w h e = go w.rate h.rate e
  where
    go : (o : Option Rate) → rate_of read ≡ Some o → cond (is_some o) None (Some (record w { rate = Some rate.Uniform })) ≡ None → meant c (mark.Uniform ∷ read ++ rest) ≡ None
    go None is e = absurd cc
    go (Some r) is e =
        elim (rate_has read r is) [
          | inl p ↦ twice c mark.Uniform read rest p
          | inr p ↦ none_rate c (mark.Uniform ∷ read ++ rest) (rw (has_left mark.Varying read rest p) refl)
        ]

varying_refused : (c : Bool) (read rest : List Mark) (w : Words) → Holds c read w → with_rate rate.Varying w ≡ None → meant c (mark.Varying ∷ read ++ rest) ≡ None
varying_refused c read rest w h e = go w.rate h.rate e
  where
    go : (o : Option Rate) → rate_of read ≡ Some o → cond (is_some o) None (Some (record w { rate = Some rate.Varying })) ≡ None → meant c (mark.Varying ∷ read ++ rest) ≡ None
    go None is e = absurd cc
    go (Some r) is e =
        elim (rate_has read r is) [
          | inl p ↦ none_rate c (mark.Varying ∷ read ++ rest) (rw (has_left mark.Uniform read rest p) refl)
          | inr p ↦ twice c mark.Varying read rest p
        ]

-- `unsigned` beside a word that has no unsigned type, and maybe others
no_unsigned : (k : Mark) (l : List Mark) → unsigned_named k ≡ None → type_from true (k ∷ l) ≡ None
no_unsigned k [] e = e
no_unsigned k (x ∷ l) e = refl

types_begin : (read rest : List Mark) (k : Mark) → type_words read ≡ k ∷ [] → type_words (read ++ rest) ≡ k ∷ type_words rest
types_begin read rest k e = type_words-append read rest ∙ ap (λ (l : List Mark). l ++ type_words rest) e

unsigned_refused : (c : Bool) (read rest : List Mark) (w : Words) → Holds c read w → with_unsigned w ≡ None → meant c (mark.Unsigned ∷ read ++ rest) ≡ None
unsigned_refused c read rest w h e =
    elim (which (w.is_unsigned || not (if_some w.type_word (λ m. is_some (unsigned_named m)) true)) None (Some (record w { is_unsigned = true })) None e) [
      | inl p ↦
          elim (or_true w.is_unsigned (not (if_some w.type_word (λ m. is_some (unsigned_named m)) true)) p.0) [
            | inl q ↦ twice c mark.Unsigned read rest (h.unsigned ∙ q)
            | inr q ↦ go w.type_word h.types (not_true (if_some w.type_word (λ m. is_some (unsigned_named m)) true) q)
          ]
      | inr p ↦ let some_word = p.1 in absurd cc
    ]
  where
    go : (o : Option Mark) → type_words read ≡ if_some o (λ m. m ∷ []) [] → if_some o (λ m. is_some (unsigned_named m)) true ≡ false → meant c (mark.Unsigned ∷ read ++ rest) ≡ None
    go None is e = absurd cc
    go (Some k) is e =
        none_type c (mark.Unsigned ∷ read ++ rest) (ap (type_from true) (types_begin read rest k is) ∙ no_unsigned k (type_words rest) (no_value (unsigned_named k) e))

type_refused : (c : Bool) (read rest : List Mark) (w : Words) (m : Mark) → Holds c read w → names_type m ≡ true → is_some (type_named m) ≡ true → with_type m w ≡ None → meant c (m ∷ read ++ rest) ≡ None
type_refused c read rest w m h is_type is_named e =
    elim (which (is_some w.type_word || not (is_some (cond w.is_unsigned (unsigned_named m) (type_named m)))) None (Some (record w { type_word = Some m })) None e) [
      | inl p ↦
          elim (or_true (is_some w.type_word) (not (is_some (cond w.is_unsigned (unsigned_named m) (type_named m)))) p.0) [
            | inl q ↦ second w.type_word h.types q
            | inr q ↦ unfit w.is_unsigned h.unsigned (not_true (is_some (cond w.is_unsigned (unsigned_named m) (type_named m))) q)
          ]
      | inr p ↦ let some_word = p.1 in absurd cc
    ]
  where
    here : type_words (m ∷ read ++ rest) ≡ m ∷ type_words (read ++ rest)
    here = rw is_type refl

    second : (o : Option Mark) → type_words read ≡ if_some o (λ k. k ∷ []) [] → is_some o ≡ true → meant c (m ∷ read ++ rest) ≡ None
    second None is e = absurd cc
    second (Some k) is e =
        none_type c (m ∷ read ++ rest)
        (ap (type_from (has mark.Unsigned (m ∷ read ++ rest))) (here ∙ ap (λ (l : List Mark). m ∷ l) (types_begin read rest k is)) ∙ two_types (has mark.Unsigned (m ∷ read ++ rest)) m k (type_words rest))

    unfit : (u : Bool) → has mark.Unsigned read ≡ u → is_some (cond u (unsigned_named m) (type_named m)) ≡ false → meant c (m ∷ read ++ rest) ≡ None
    unfit true is e =
        none_type c (m ∷ read ++ rest)
        (type_of-is (m ∷ read ++ rest) true (m ∷ type_words (read ++ rest)) (or_right (sameb the_type m mark.Unsigned) (has mark.Unsigned (read ++ rest)) (has_left mark.Unsigned read rest is)) here
        ∙ no_unsigned m (type_words (read ++ rest)) (no_value (unsigned_named m) e))
    unfit false is e = absurd cc

or2 : (a c d : Bool) → (a || true || c || d) ≡ true
or2 true c d = refl
or2 false c d = refl

or3 : (a b d : Bool) → (a || b || true || d) ≡ true
or3 true b d = refl
or3 false true d = refl
or3 false false d = refl

or4 : (a b c : Bool) → (a || b || c || true) ≡ true
or4 true b c = refl
or4 false true c = refl
or4 false false true = refl
or4 false false false = refl

pub refused : (c : Bool) (read rest : List Mark) (w : Words) (m : Mark) → Holds c read w → is_spec_word m ≡ true → with_word m w ≡ None → meant c (m ∷ read ++ rest) ≡ None
refused c read rest w mark.Export h is e = flag_refused c read rest w mark.Export w.is_exported (record w { is_exported = true }) h h.exported refl e
refused c read rest w mark.Static h is e = flag_refused c read rest w mark.Static w.is_static (record w { is_static = true }) h h.static (or2 (has mark.Export (read ++ rest)) (has mark.Inline (read ++ rest)) (has mark.Const (read ++ rest))) e
refused c read rest w mark.Inline h is e = flag_refused c read rest w mark.Inline w.is_inline (record w { is_inline = true }) h h.inline (or3 (has mark.Export (read ++ rest)) (has mark.Static (read ++ rest)) (has mark.Const (read ++ rest))) e
refused c read rest w mark.Const h is e = flag_refused c read rest w mark.Const w.is_constant (record w { is_constant = true }) h h.constant (or4 (has mark.Export (read ++ rest)) (has mark.Static (read ++ rest)) (has mark.Inline (read ++ rest))) e
refused c read rest w mark.Uniform h is e = uniform_refused c read rest w h e
refused c read rest w mark.Varying h is e = varying_refused c read rest w h e
refused c read rest w mark.Unsigned h is e = unsigned_refused c read rest w h e
refused c read rest w mark.Void h is e = type_refused c read rest w mark.Void h refl refl e
refused c read rest w mark.Bool h is e = type_refused c read rest w mark.Bool h refl refl e
refused c read rest w mark.Int h is e = type_refused c read rest w mark.Int h refl refl e
refused c read rest w mark.Int8 h is e = type_refused c read rest w mark.Int8 h refl refl e
refused c read rest w mark.Int16 h is e = type_refused c read rest w mark.Int16 h refl refl e
refused c read rest w mark.Int32 h is e = type_refused c read rest w mark.Int32 h refl refl e
refused c read rest w mark.Int64 h is e = type_refused c read rest w mark.Int64 h refl refl e
refused c read rest w mark.Uint h is e = type_refused c read rest w mark.Uint h refl refl e
refused c read rest w mark.Uint8 h is e = type_refused c read rest w mark.Uint8 h refl refl e
refused c read rest w mark.Uint16 h is e = type_refused c read rest w mark.Uint16 h refl refl e
refused c read rest w mark.Uint32 h is e = type_refused c read rest w mark.Uint32 h refl refl e
refused c read rest w mark.Uint64 h is e = type_refused c read rest w mark.Uint64 h refl refl e
refused c read rest w _ h is e = absurd cc
