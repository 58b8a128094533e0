-- Tokens at the front.
use Rattle.std.proofs.Common.{◌≡◌, inl, inr, ℕ, suc, List, [], ◌∷◌, length, Some, None, true, false, refl, ap}
use denote.Enum.Bare.{same_true, true_same}
use Rattle.std.proofs.lemmas.Option.{same_Some}
use Rattle.gang_types.specs.declared.places.Place.{Place}
use Rattle.gang_model.specs.declared.marks.Mark.{Mark}
use Rattle.gang_model.specs.contracts.marks.Mark.{the_type}
use Rattle.gang_model.specs.Source.Tokens.{Sort, named, numbered, marked, Lexeme}
use Rattle.gang_model.specs.Source.Spells.{Takes, TakesAt}
use Rattle.ispc_lexer.specs.declared.token.Token.{Token}
use Rattle.ispc_lexer.specs.Views.{lexemes_of}
use Rattle.ispc_lexer.proofs.Runs.{which}
use Rattle.ispc_parser_words.specs.Front.{is_mark, begins, take, mark_of}

pub takes_at : (s : Sort) (at : Place) (ts rest : List Lexeme) → TakesAt s at ts rest → Takes s ts rest
takes_at s at ts rest h = record { token = h.token; is = h.is; sort_is = h.sort_is }

pub mark_is : (m : Mark) (s : Sort) → is_mark m s ≡ true → s ≡ marked m
mark_is m (marked k) e = ap marked (same_true the_type tt k m e)
mark_is m (named n) e = absurd cc
mark_is m (numbered n u l) e = absurd cc

pub is_mark-same : (m : Mark) → is_mark m (marked m) ≡ true
is_mark-same m = true_same the_type m m refl

pub take_takes : (m : Mark) (ts rest : List Lexeme) → take m ts ≡ Some rest → Takes (marked m) ts rest
unfolding take
take_takes m [] rest e = absurd cc
take_takes m (t ∷ ts) rest e =
    elim (which (is_mark m t.sort) (Some ts) None (Some rest) e) [
      | inl p ↦ record { token = t; is = ap (λ (r : List Lexeme). t ∷ r) (same_Some ts rest p.1); sort_is = mark_is m t.sort p.0 }
      | inr p ↦ let no_value = p.1 in absurd cc
    ]

pub take_again : (m : Mark) (ts rest : List Lexeme) → Takes (marked m) ts rest → take m ts ≡ Some rest
unfolding take
take_again m ts rest h = rw (h.is, h.sort_is, is_mark-same m) refl

pub begins_again : (m : Mark) (ts rest : List Lexeme) → Takes (marked m) ts rest → begins m ts ≡ true
begins_again m ts rest h = rw (h.is, h.sort_is) (is_mark-same m)

pub mark_of_is : (s : Sort) (m : Mark) → mark_of s ≡ Some m → s ≡ marked m
mark_of_is (marked k) m e = ap marked (same_Some k m e)
mark_of_is (named n) m e = absurd cc
mark_of_is (numbered n u l) m e = absurd cc

pub take_none : (m : Mark) (ts : List Lexeme) → begins m ts ≡ false → take m ts ≡ None
unfolding take
take_none m [] e = refl
take_none m (t ∷ ts) e = rw e refl

-- ---- lengths

pub length-lexemes_of : (ts : List Token) → length (lexemes_of ts) ≡ length ts
length-lexemes_of [] = refl
length-lexemes_of (t ∷ ts) = ap (λ (n : ℕ). suc n) (length-lexemes_of ts)

pub takes_shorter : (s : Sort) (ts rest : List Lexeme) → Takes s ts rest → length ts ≡ suc (length rest)
takes_shorter s ts rest h = rw h.is refl

pub at_shorter : (s : Sort) (at : Place) (ts rest : List Lexeme) → TakesAt s at ts rest → length ts ≡ suc (length rest)
at_shorter s at ts rest h = rw h.is refl
