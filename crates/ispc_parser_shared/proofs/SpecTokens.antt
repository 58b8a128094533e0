-- The words before a name, read and spelled.
use Rattle.std.proofs.Common.{◌≡◌, inl, inr, List, [], ◌∷◌, Some, None, Bool, true, false, not, ◌||◌, refl, subst}
use Rattle.gang_types.specs.declared.places.Place.{Place}
use Rattle.gang_model.specs.declared.marks.Mark.{Mark}
use Rattle.gang_model.specs.declared.forms.Spec.{Spec}
use Rattle.gang_model.specs.Source.Tokens.{named, marked, Lexeme}
use Rattle.gang_model.specs.Source.Parsed.{Name}
use Rattle.gang_model.specs.Source.Specs.{spec_of}
use Rattle.gang_model.specs.Source.Spells.{TakesAt}
use Rattle.gang_model.specs.Source.SpellsStatements.{SpellsSpec, IsLocal}
use Rattle.ispc_lexer.specs.Options.{if_some}
use Rattle.ispc_parser_words.specs.Front.{begins, is_mark}
use Rattle.ispc_parser_words.specs.Words.{begins_word, spec_word, words_of, after_words, spec_at}
use Rattle.ispc_parser_words.proofs.Tokens.{mark_is}
use Rattle.ispc_parser_words.proofs.SpecWords.{words_taken, words_again}
use Rattle.ispc_parser_shared.specs.SpecWords.{is_local, local_spec_of, is_outer, outer_spec_of}
use Rattle.std.proofs.lemmas.Option.{same_Some}
use Rattle.ispc_lexer.proofs.Runs.{which, bind_some}

-- a word of a spec is no other mark
pub word_first : (m : Mark) (ts : List Lexeme) → begins_word ts ≡ true → spec_word (marked m) ≡ None → begins m ts ≡ false
word_first m [] e none = refl
word_first m (t ∷ ts) e none = go (is_mark m t.sort) refl
  where
    go : (v : Bool) → is_mark m t.sort ≡ v → v ≡ false
    go false is = refl
    go true is = let no : if_some (spec_word t.sort) (λ w. true) false ≡ false = rw (mark_is m t.sort is, none) refl in absurd cc

pub spec_sound : (s : Spec) (ts rest : List Lexeme) → spec_at ts ≡ Some (s, rest) → SpellsSpec s ts rest
unfolding spec_at
spec_sound s ts rest e =
    let q = bind_some (spec_of (words_of ts)) _ (s, rest) e in
    subst (λ (y : Spec × List Lexeme). SpellsSpec y.0 ts y.1) (same_Some (q.0, after_words ts) (s, rest) q.2) (words_of ts, words_taken ts, q.1)

name_is_no_word : (at : Place) (n : Name) (ts rest : List Lexeme) → TakesAt (named n) at ts rest → begins_word ts ≡ false
name_is_no_word at n ts rest h = rw (h.is, h.sort_is) refl

pub spec_again : (s : Spec) (at : Place) (n : Name) (ts mid rest : List Lexeme) → SpellsSpec s ts mid → TakesAt (named n) at mid rest → spec_at ts ≡ Some (s, mid)
unfolding spec_at
spec_again s at n ts mid rest h next =
    let p = words_again h.0 ts mid s h.1 h.2 (name_is_no_word at n mid rest next) in
    rw (p.0, p.1, h.2) refl

local_is : (s : Spec) → is_local s ≡ true → IsLocal s
local_is s e = let p = go s.is_exported s.is_static s.is_inline e in record { no_export = p.0; no_static = p.1; no_inline = p.2 }
  where
    go : (a b c : Bool) → not (a || b || c) ≡ true → (a ≡ false) × (b ≡ false) × (c ≡ false)
    go false false false e = (refl, refl, refl)
    go true b c e = absurd cc
    go false true c e = absurd cc
    go false false true e = absurd cc

local_again : (s : Spec) → IsLocal s → is_local s ≡ true
local_again s h = rw (h.no_export, h.no_static, h.no_inline) refl

pub local_spec_sound : (s : Spec) (ts rest : List Lexeme) → local_spec_of ts ≡ Some (s, rest) → SpellsSpec s ts rest × IsLocal s
unfolding local_spec_of
local_spec_sound s ts rest e =
    let q = bind_some (spec_at ts) _ (s, rest) e in
    elim (which (is_local q.0.0) _ _ (Some (s, rest)) q.2) [
      | inl p ↦ subst (λ (y : Spec × List Lexeme). SpellsSpec y.0 ts y.1 × IsLocal y.0) (same_Some q.0 (s, rest) p.1) (spec_sound q.0.0 ts q.0.1 q.1, local_is q.0.0 p.0)
      | inr p ↦ let no_value = p.1 in absurd cc
    ]

pub local_spec_again : (s : Spec) (at : Place) (n : Name) (ts mid rest : List Lexeme) → SpellsSpec s ts mid → IsLocal s → TakesAt (named n) at mid rest → local_spec_of ts ≡ Some (s, mid)
unfolding local_spec_of
local_spec_again s at n ts mid rest h l next = rw (spec_again s at n ts mid rest h next, local_again s l) refl

pub outer_spec_sound : (s : Spec) (ts rest : List Lexeme) → outer_spec_of ts ≡ Some (s, rest) → SpellsSpec s ts rest
unfolding outer_spec_of
outer_spec_sound s ts rest e =
    let q = bind_some (spec_at ts) _ (s, rest) e in
    elim (which (is_outer q.0.0) _ _ (Some (s, rest)) q.2) [
      | inl p ↦ subst (λ (y : Spec × List Lexeme). SpellsSpec y.0 ts y.1) (same_Some q.0 (s, rest) p.1) (spec_sound q.0.0 ts q.0.1 q.1)
      | inr p ↦ let no_value = p.1 in absurd cc
    ]
