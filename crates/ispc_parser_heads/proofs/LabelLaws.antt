-- What is read as a label is spelled so, and the other way round.
use Rattle.std.proofs.Common.{◌≡◌, inl, inr, List, Option, Some, None, Bool, true, false, refl, subst}
use Rattle.gang_types.specs.declared.places.Place.{Place}
use Rattle.gang_model.specs.declared.marks.Mark.TheVariants as mark
use Rattle.gang_model.specs.declared.forms.Label.{Label}
use Rattle.gang_model.specs.Source.Tokens.{numbered, marked, Lexeme}
use Rattle.gang_model.specs.Source.SpellsStatements.{SpellsSign, SpellsLabel}
use Rattle.gang_model.specs.Source.Spells.{Takes}
use Rattle.ispc_parser_words.specs.Front.{begins, take}
use Rattle.ispc_parser_words.proofs.Tokens.{takes_at, take_takes, take_again, take_none, begins_again}
use Rattle.ispc_parser_shared.specs.Front.{take_at, number_of}
use Rattle.ispc_parser_shared.proofs.Tokens.{other_first, take_at_sound, take_at_again, number_sound, number_again}
use Rattle.ispc_parser_heads.specs.Labels.{signed_of, whole_of, case_of, default_of, label_of}
use Rattle.std.proofs.lemmas.Option.{same_Some}
use Rattle.ispc_lexer.proofs.Runs.{which, bind_some, chosen}

-- the whole number of a label, with its suffix
abbrev SpellsWhole : Label → List Lexeme → List Lexeme → Type 0
SpellsWhole x ts rest = (is_unsigned is_long : Bool) × (a : List Lexeme)
    × SpellsSign x.is_negative ts a × Takes (numbered x.value is_unsigned is_long) a rest

signed_sound : (is_negative : Bool) (x : Label) (ts a rest : List Lexeme) → SpellsSign is_negative ts a → signed_of is_negative a ≡ Some (x, rest) → SpellsWhole x ts rest
unfolding signed_of
signed_sound is_negative x ts a rest sign e =
    let q = bind_some (number_of a) _ (x, rest) e in
    subst (λ (y : Label × List Lexeme). SpellsWhole y.0 ts y.1) (same_Some (record { is_negative = is_negative; value = q.0.0.value }, q.0.1) (x, rest) q.2)
    (q.0.0.is_unsigned, q.0.0.is_long, a, sign, number_sound q.0.0 a q.0.1 q.1)

whole_sound : (x : Label) (ts rest : List Lexeme) → whole_of ts ≡ Some (x, rest) → SpellsWhole x ts rest
unfolding whole_of
whole_sound x ts rest e =
    elim (chosen (take mark.Minus ts) _ _ (Some (x, rest)) e) [
      | inl p ↦ signed_sound true x ts p.0 rest (take_takes mark.Minus ts p.0 p.1) p.2
      | inr p ↦ signed_sound false x ts ts rest refl p.1
    ]

whole_complete : (x : Label) (ts rest : List Lexeme) → SpellsWhole x ts rest → whole_of ts ≡ Some (x, rest)
unfolding whole_of signed_of
whole_complete x ts rest h = go x.is_negative refl
  where
    go : (v : Bool) → x.is_negative ≡ v → whole_of ts ≡ Some (x, rest)
    go true e =
        let minus : Takes (marked mark.Minus) ts h.2 = subst (λ (v : Bool). SpellsSign v ts h.2) e h.3 in
        rw (take_again mark.Minus ts h.2 minus, number_again x.value h.0 h.1 h.2 rest h.4, e) refl
    go false e =
        let none : ts ≡ h.2 = subst (λ (v : Bool). SpellsSign v ts h.2) e h.3 in
        rw (none, take_none mark.Minus h.2 (other_first mark.Minus (numbered x.value h.0 h.1) h.2 rest h.4 refl), number_again x.value h.0 h.1 h.2 rest h.4, e) refl

pub label_sound : (y : Place × Option Label) (ts rest : List Lexeme) → label_of ts ≡ Some (y, rest) → SpellsLabel y.0 y.1 ts rest
unfolding label_of default_of case_of
label_sound y ts rest e =
    elim (which (begins mark.Default ts) _ _ (Some (y, rest)) e) [
      | inl p ↦
          let q1 = bind_some (take_at mark.Default ts) _ (y, rest) p.1 in
          let q2 = bind_some (take mark.Colon q1.0.1) _ (y, rest) q1.2 in
          subst (λ (z : (Place × Option Label) × List Lexeme). SpellsLabel z.0.0 z.0.1 ts z.1) (same_Some ((q1.0.0, None), q2.0) (y, rest) q2.2)
          (q1.0.1, take_at_sound mark.Default q1.0.0 ts q1.0.1 q1.1, take_takes mark.Colon q1.0.1 q2.0 q2.1)
      | inr p ↦
          let q1 = bind_some (take_at mark.Case ts) _ (y, rest) p.1 in
          let q2 = bind_some (whole_of q1.0.1) _ (y, rest) q1.2 in
          let q3 = bind_some (take mark.Colon q2.0.1) _ (y, rest) q2.2 in
          let w = whole_sound q2.0.0 q1.0.1 q2.0.1 q2.1 in
          subst (λ (z : (Place × Option Label) × List Lexeme). SpellsLabel z.0.0 z.0.1 ts z.1) (same_Some ((q1.0.0, Some q2.0.0), q3.0) (y, rest) q3.2)
          (w.0, w.1, q1.0.1, w.2, q2.0.1, take_at_sound mark.Case q1.0.0 ts q1.0.1 q1.1, w.3, w.4, take_takes mark.Colon q2.0.1 q3.0 q3.1)
    ]

pub label_complete : (at : Place) (label : Option Label) (ts rest : List Lexeme) → SpellsLabel at label ts rest → label_of ts ≡ Some ((at, label), rest)
unfolding label_of default_of case_of
label_complete at None ts rest h =
    rw (begins_again mark.Default ts h.0 (takes_at (marked mark.Default) at ts h.0 h.1), take_at_again mark.Default at ts h.0 h.1, take_again mark.Colon h.0 rest h.2) refl
label_complete at (Some x) ts rest h =
    rw (
      other_first mark.Default (marked mark.Case) ts h.2 (takes_at (marked mark.Case) at ts h.2 h.5) refl,
      take_at_again mark.Case at ts h.2 h.5,
      whole_complete x h.2 h.4 (h.0, h.1, h.3, h.6, h.7),
      take_again mark.Colon h.4 rest h.8,
    ) refl
