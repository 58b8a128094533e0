-- The order of a spec's words does not matter.
use Rattle.std.proofs.Common.{◌≡◌, List, [], ◌∷◌, ◌++◌, Option, None, Bool, true, false, cond, refl, sym, ap, ◌∙◌}
use Rattle.std.specs.Prelude.{◌&&◌, ◌||◌, not}
use denote.Enum.Bare.{sameb, same_true, true_same}
use Rattle.gang_types.specs.declared.types.IntType.{IntType}
use Rattle.gang_types.specs.declared.types.Rate.{Rate}
use Rattle.gang_model.specs.declared.marks.Mark.{Mark}
use Rattle.gang_model.specs.declared.marks.Mark.TheVariants as mark
use Rattle.gang_model.specs.contracts.marks.Mark.{the_type}
use Rattle.gang_model.specs.Source.Specs.{has, is_type_word, is_spec_word, are_spec_words, rate_of, type_words, type_from, type_of, spec_with, spec_of}

pub same_mark : (a b : Mark) → sameb the_type a b ≡ true → a ≡ b
same_mark a b e = same_true the_type tt a b e

sameb-sym : (a b : Mark) → sameb the_type a b ≡ sameb the_type b a
sameb-sym a b = go (sameb the_type a b) (sameb the_type b a) refl refl
  where
    go : (x y : Bool) → sameb the_type a b ≡ x → sameb the_type b a ≡ y → x ≡ y
    go true true e f = refl
    go false false e f = refl
    go true false e f = let back = true_same the_type b a (sym (same_mark a b e)) in absurd cc
    go false true e f = let back = true_same the_type a b (sym (same_mark b a f)) in absurd cc

-- ---- one word comes to the front

or_swap : (a b c : Bool) → (a || (b || c)) ≡ (b || (a || c))
or_swap true true c = refl
or_swap true false c = refl
or_swap false true c = refl
or_swap false false c = refl

pub has-middle : (k m : Mark) (before after : List Mark) → has k (before ++ m ∷ after) ≡ has k (m ∷ before ++ after)
has-middle k m [] after = refl
has-middle k m (x ∷ before) after =
    ap (λ (v : Bool). sameb the_type x k || v) (has-middle k m before after) ∙ or_swap (sameb the_type x k) (sameb the_type m k) (has k (before ++ after))

and_false : (x : Bool) → (x && false) ≡ false
and_false true = refl
and_false false = refl

two_apart : (a b s h g r : Bool) → ((a && not (s || h)) && ((b && not g) && r)) ≡ ((b && not (s || g)) && ((a && not h) && r))
two_apart false b s h g r = sym (and_false (b && not (s || g)))
two_apart true false s h g r = and_false (not (s || h))
two_apart true true true h g r = refl
two_apart true true false true true r = refl
two_apart true true false true false r = refl
two_apart true true false false true r = refl
two_apart true true false false false r = refl

pub are-middle : (m : Mark) (before after : List Mark) → are_spec_words (before ++ m ∷ after) ≡ are_spec_words (m ∷ before ++ after)
are-middle m [] after = refl
are-middle m (x ∷ before) after =
    let here : has x (before ++ m ∷ after) ≡ (sameb the_type x m || has x (before ++ after)) = has-middle x m before after ∙ ap (λ (v : Bool). v || has x (before ++ after)) (sameb-sym m x) in
    ap (λ (v : Bool). (is_spec_word x && not v) && are_spec_words (before ++ m ∷ after)) here
    ∙ ap (λ (v : Bool). (is_spec_word x && not (sameb the_type x m || has x (before ++ after))) && v) (are-middle m before after)
    ∙ two_apart (is_spec_word x) (is_spec_word m) (sameb the_type x m) (has x (before ++ after)) (has m (before ++ after)) (are_spec_words (before ++ after))

-- a word that names a type, but for `unsigned`
abbrev pub names_type : Mark → Bool
names_type w = is_type_word w && not (sameb the_type w mark.Unsigned)

pub type_words-append : (a b : List Mark) → type_words (a ++ b) ≡ type_words a ++ type_words b
type_words-append [] b = refl
type_words-append (x ∷ a) b = go (names_type x) (type_words-append a b)
  where
    go : (v : Bool) → type_words (a ++ b) ≡ type_words a ++ type_words b → cond v (x ∷ type_words (a ++ b)) (type_words (a ++ b)) ≡ cond v (x ∷ type_words a) (type_words a) ++ type_words b
    go true e = ap (λ (l : List Mark). x ∷ l) e
    go false e = e

pub two_types : (u : Bool) (a b : Mark) (l : List Mark) → type_from u (a ∷ b ∷ l) ≡ None
two_types true a b l = refl
two_types false a b l = refl

from-middle : (u : Bool) (m : Mark) (before after : List Mark) → type_from u (before ++ m ∷ after) ≡ type_from u (m ∷ before ++ after)
from-middle u m [] after = refl
from-middle u m (x ∷ []) after = two_types u x m after ∙ sym (two_types u m x after)
from-middle u m (x ∷ y ∷ before) after = two_types u x y (before ++ m ∷ after) ∙ sym (two_types u m x (y ∷ before ++ after))

-- the type that the words name, their order apart
types-middle : (u : Bool) (m : Mark) (before after : List Mark) → type_from u (type_words (before ++ m ∷ after)) ≡ type_from u (type_words (m ∷ before ++ after))
types-middle u m before after =
    ap (type_from u) (type_words-append before (m ∷ after)) ∙ go (names_type m) ∙ ap (λ (l : List Mark). type_from u (cond (names_type m) (m ∷ l) l)) (sym (type_words-append before after))
  where
    go : (v : Bool) → type_from u (type_words before ++ cond v (m ∷ type_words after) (type_words after)) ≡ type_from u (cond v (m ∷ (type_words before ++ type_words after)) (type_words before ++ type_words after))
    go true = from-middle u m (type_words before) (type_words after)
    go false = refl

type_of-middle : (m : Mark) (before after : List Mark) → type_of (before ++ m ∷ after) ≡ type_of (m ∷ before ++ after)
type_of-middle m before after =
    ap (λ (u : Bool). type_from u (type_words (before ++ m ∷ after))) (has-middle mark.Unsigned m before after)
    ∙ types-middle (has mark.Unsigned (m ∷ before ++ after)) m before after

rate_of-middle : (m : Mark) (before after : List Mark) → rate_of (before ++ m ∷ after) ≡ rate_of (m ∷ before ++ after)
rate_of-middle m before after = rw (has-middle mark.Uniform m before after, has-middle mark.Varying m before after) refl

-- a spec is known by these
pub spec_of-is : (l : List Mark) (a e s i c : Bool) (r : Option (Option Rate)) (t : Option (Option IntType))
    → are_spec_words l ≡ a → has mark.Export l ≡ e → has mark.Static l ≡ s → has mark.Inline l ≡ i → has mark.Const l ≡ c → rate_of l ≡ r → type_of l ≡ t
    → spec_of l ≡ cond a (spec_with e s i c r t) None
unfolding spec_of
spec_of-is l a e s i c r t ha he hs hi hc hr ht =
    ap (λ (x : Bool). cond x (spec_with (has mark.Export l) (has mark.Static l) (has mark.Inline l) (has mark.Const l) (rate_of l) (type_of l)) None) ha
    ∙ ap (λ (x : Bool). cond a (spec_with x (has mark.Static l) (has mark.Inline l) (has mark.Const l) (rate_of l) (type_of l)) None) he
    ∙ ap (λ (x : Bool). cond a (spec_with e x (has mark.Inline l) (has mark.Const l) (rate_of l) (type_of l)) None) hs
    ∙ ap (λ (x : Bool). cond a (spec_with e s x (has mark.Const l) (rate_of l) (type_of l)) None) hi
    ∙ ap (λ (x : Bool). cond a (spec_with e s i x (rate_of l) (type_of l)) None) hc
    ∙ ap (λ (x : Option (Option Rate)). cond a (spec_with e s i c x (type_of l)) None) hr
    ∙ ap (λ (x : Option (Option IntType)). cond a (spec_with e s i c r x) None) ht

pub spec_of-middle : (m : Mark) (before after : List Mark) → spec_of (before ++ m ∷ after) ≡ spec_of (m ∷ before ++ after)
spec_of-middle m before after =
    let l : List Mark = m ∷ before ++ after in
    spec_of-is (before ++ m ∷ after) (are_spec_words l) (has mark.Export l) (has mark.Static l) (has mark.Inline l) (has mark.Const l) (rate_of l) (type_of l)
    (are-middle m before after) (has-middle mark.Export m before after) (has-middle mark.Static m before after) (has-middle mark.Inline m before after) (has-middle mark.Const m before after)
    (rate_of-middle m before after) (type_of-middle m before after)
    ∙ sym (spec_of-is l (are_spec_words l) (has mark.Export l) (has mark.Static l) (has mark.Inline l) (has mark.Const l) (rate_of l) (type_of l) refl refl refl refl refl refl refl)
