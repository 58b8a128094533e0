-- What is read as a declaration, an assignment or a call is spelled so.
use Rattle.std.proofs.Common.{◌≡◌, inl, inr, ℕ, List, [], ◌∷◌, Option, Some, None, refl, subst}
use denote.Enum.Bare.{sameb, same_true}
use Rattle.gang_types.specs.declared.places.Place.{Place}
use Rattle.gang_model.specs.declared.marks.Mark.{Mark}
use Rattle.gang_model.specs.declared.marks.Mark.TheVariants as mark
use Rattle.gang_model.specs.contracts.marks.Mark.{the_type}
use Rattle.gang_model.specs.Source.Tokens.{Sort, named, numbered, marked, Lexeme}
use Rattle.gang_model.specs.Source.Parsed.{Name, ParsedExpr, ParsedTarget, ParsedStmt, ParsedDeclare, ParsedAssign, ParsedChange, ParsedIncrement, ParsedDoCall}
use Rattle.gang_model.specs.Source.Spells.{Takes, TakesAt, WholeExpr, WholeArgs}
use Rattle.gang_model.specs.Source.SpellsStatements.{BeginsAt, Maybe, InBrackets, SpellsValue, SpellsDeclaration, SpellsTarget, change_of, increment_of, SpellsSimple}
use Rattle.ispc_parser_words.specs.Front.{begins, take, mark_of}
use Rattle.ispc_parser_expressions.specs.Parse.{whole_expr, whole_args}
use Rattle.ispc_parser_words.proofs.Tokens.{take_takes}
use Rattle.ispc_parser_words.proofs.Tokens.{takes_at}
use Rattle.ispc_parser_expressions.proofs.Whole.{whole_sound, args_sound}
use Rattle.ispc_parser_shared.specs.Front.{enter, name_of, in_parens}
use Rattle.ispc_parser_shared.specs.SpecWords.{local_spec_of}
use Rattle.ispc_parser_parts.specs.Parts.{behind, between, value_of, declaration_of, index_of, target_of, changed_of, assigned_of, call_of, named_of, incremented_of, simple_at, simple_of}
use Rattle.ispc_parser_shared.proofs.Tokens.{opens_here, begins_at, first_at, enter_sound, in_parens_sound, name_sound}
use Rattle.ispc_parser_shared.proofs.SpecTokens.{local_spec_sound}
use Rattle.ispc_parser_words.proofs.Tokens.{mark_of_is}
use Rattle.std.proofs.lemmas.Option.{same_Some}
use Rattle.ispc_lexer.proofs.Runs.{which, bind_some, chosen}

module _ (d : ℕ) where
  pub value_sound : (o : Option ParsedExpr) (ts rest : List Lexeme) → value_of d ts ≡ Some (o, rest) → Maybe (SpellsValue d) o ts rest
  unfolding value_of behind
  value_sound o ts rest e =
      elim (which (begins mark.Assign ts) _ _ (Some (o, rest)) e) [
        | inl p ↦
            let q = bind_some (behind mark.Assign d ts) _ (o, rest) p.1 in
            let q1 = bind_some (take mark.Assign ts) _ q.0 q.1 in
            subst (λ (y : Option ParsedExpr × List Lexeme). Maybe (SpellsValue d) y.0 ts y.1) (same_Some (Some q.0.0, q.0.1) (o, rest) q.2)
            (q1.0, take_takes mark.Assign ts q1.0 q1.1, whole_sound d q.0.0 q1.0 q.0.1 q1.2)
        | inr p ↦ subst (λ (y : Option ParsedExpr × List Lexeme). Maybe (SpellsValue d) y.0 ts y.1) (same_Some (None, ts) (o, rest) p.1) refl
      ]

  pub declaration_sound : (at : Place) (x : ParsedStmt) (ts rest : List Lexeme) → BeginsAt at ts → declaration_of d at ts ≡ Some (x, rest) → SpellsDeclaration d x ts rest
  unfolding declaration_of
  declaration_sound at x ts rest here e =
      let q1 = bind_some (local_spec_of ts) _ (x, rest) e in
      let q2 = bind_some (name_of q1.0.1) _ (x, rest) q1.2 in
      let q3 = bind_some (value_of d q2.0.1) _ (x, rest) q2.2 in
      let s = local_spec_sound q1.0.0 ts q1.0.1 q1.1 in
      subst (λ (y : ParsedStmt × List Lexeme). SpellsDeclaration d y.0 ts y.1) (same_Some (ParsedDeclare at q1.0.0 q2.0.0.0 q2.0.0.1 q3.0.0, q3.0.1) (x, rest) q3.2)
      (q1.0.1, q2.0.1, here, s.0, s.1, name_sound q2.0.0 q1.0.1 q2.0.1 q2.1, value_sound q3.0.0 q2.0.1 q3.0.1 q3.1)

  abbrev pub Index : Option ParsedExpr → List Lexeme → List Lexeme → Type 0
  Index = Maybe (λ e. InBrackets d (λ inner. WholeExpr inner e))

  pub index_sound : (o : Option ParsedExpr) (ts rest : List Lexeme) → index_of d ts ≡ Some (o, rest) → Index o ts rest
  unfolding index_of between
  index_sound o ts rest e =
      elim (which (begins mark.LeftBracket ts) _ _ (Some (o, rest)) e) [
        | inl p ↦
            let q = bind_some (between mark.LeftBracket mark.RightBracket d ts) _ (o, rest) p.1 in
            let q1 = bind_some (enter mark.LeftBracket d ts) _ q.0 q.1 in
            let q2 = bind_some (whole_expr q1.0.0 q1.0.1) _ q.0 q1.2 in
            let q3 = bind_some (take mark.RightBracket q2.0.1) _ q.0 q2.2 in
            let s = enter_sound mark.LeftBracket d q1.0.0 ts q1.0.1 q1.1 in
            subst (λ (y : Option ParsedExpr × List Lexeme). Index y.0 ts y.1) (same_Some (Some q.0.0, q.0.1) (o, rest) q.2)
            (subst (λ (y : ParsedExpr × List Lexeme). Index (Some y.0) ts y.1) (same_Some (q2.0.0, q3.0) q.0 q3.2)
            (q1.0.1, q2.0.1, s.0, opens_here d q1.0.0 (λ n. WholeExpr n q2.0.0 q1.0.1 q2.0.1) s.1 (whole_sound q1.0.0 q2.0.0 q1.0.1 q2.0.1 q2.1), take_takes mark.RightBracket q2.0.1 q3.0 q3.1))
        | inr p ↦ subst (λ (y : Option ParsedExpr × List Lexeme). Index y.0 ts y.1) (same_Some (None, ts) (o, rest) p.1) refl
      ]

  target_sound : (x : ParsedTarget) (ts rest : List Lexeme) → target_of d ts ≡ Some (x, rest) → SpellsTarget d x ts rest
  unfolding target_of
  target_sound x ts rest e =
      let q1 = bind_some (name_of ts) _ (x, rest) e in
      let q2 = bind_some (index_of d q1.0.1) _ (x, rest) q1.2 in
      subst (λ (y : ParsedTarget × List Lexeme). SpellsTarget d y.0 ts y.1) (same_Some (record { at = q1.0.0.0; name = q1.0.0.1; index = q2.0.0 }, q2.0.1) (x, rest) q2.2)
      (q1.0.1, name_sound q1.0.0 ts q1.0.1 q1.1, index_sound q2.0.0 q1.0.1 q2.0.1 q2.1)

  -- behind a target that all begins with
  module _ (target : ParsedTarget) (all b : List Lexeme) (spelled : SpellsTarget d target all b) where
    here : BeginsAt target.at all
    here = begins_at (named target.name) target.at all spelled.0 spelled.1

    changed_sound : (m : Mark) (x : ParsedStmt) (ts rest : List Lexeme) → Takes (marked m) b ts → changed_of d target m ts ≡ Some (x, rest) → SpellsSimple d x all rest
    unfolding changed_of
    changed_sound m x ts rest taken e =
        elim (chosen (increment_of m) _ _ (Some (x, rest)) e) [
          | inl q ↦
              subst (λ (y : ParsedStmt × List Lexeme). SpellsSimple d y.0 all y.1) (same_Some (ParsedIncrement target.at target q.0, ts) (x, rest) q.2)
              (m, here, q.1, inl (b, spelled, taken))
          | inr q ↦
              elim (which (sameb the_type m mark.Assign) _ _ (Some (x, rest)) q.1) [
                | inl p ↦
                    let r = bind_some (whole_expr d ts) _ (x, rest) p.1 in
                    let same : Takes (marked mark.Assign) b ts = subst (λ (k : Mark). Takes (marked k) b ts) (same_true the_type tt m mark.Assign p.0) taken in
                    subst (λ (y : ParsedStmt × List Lexeme). SpellsSimple d y.0 all y.1) (same_Some (ParsedAssign target.at target r.0.0, r.0.1) (x, rest) r.2)
                    (b, ts, here, spelled, same, whole_sound d r.0.0 ts r.0.1 r.1)
                | inr p ↦
                    let r1 = bind_some (change_of m) _ (x, rest) p.1 in
                    let r2 = bind_some (whole_expr d ts) _ (x, rest) r1.2 in
                    subst (λ (y : ParsedStmt × List Lexeme). SpellsSimple d y.0 all y.1) (same_Some (ParsedChange target.at target r1.0 r2.0.0, r2.0.1) (x, rest) r2.2)
                    (m, b, ts, here, spelled, r1.1, taken, whole_sound d r2.0.0 ts r2.0.1 r2.1)
              ]
        ]

  assigned_sound : (target : ParsedTarget) (x : ParsedStmt) (all b rest : List Lexeme) → SpellsTarget d target all b → assigned_of d target b ≡ Some (x, rest) → SpellsSimple d x all rest
  unfolding assigned_of
  assigned_sound target x all [] rest spelled e = absurd cc
  assigned_sound target x all (t ∷ ts) rest spelled e =
      let q = bind_some (mark_of t.sort) _ (x, rest) e in
      changed_sound target all (t ∷ ts) spelled q.0 x ts rest (record { token = t; is = refl; sort_is = mark_of_is t.sort q.0 q.1 }) q.2

  call_sound : (at : Place) (n : Name) (x : ParsedStmt) (all ts rest : List Lexeme) → TakesAt (named n) at all ts → call_of d at n ts ≡ Some (x, rest) → SpellsSimple d x all rest
  unfolding call_of
  call_sound at n x all ts rest first e =
      let q = bind_some (in_parens whole_args d ts) _ (x, rest) e in
      subst (λ (y : ParsedStmt × List Lexeme). SpellsSimple d y.0 all y.1) (same_Some (ParsedDoCall at n q.0.0, q.0.1) (x, rest) q.2)
      (ts, first, in_parens_sound whole_args (λ es inner. WholeArgs inner es) args_sound d q.0.0 ts q.0.1 q.1)

  named_sound : (at : Place) (n : Name) (x : ParsedStmt) (all ts rest : List Lexeme) → TakesAt (named n) at all ts → named_of d at n ts ≡ Some (x, rest) → SpellsSimple d x all rest
  unfolding named_of
  named_sound at n x all ts rest first e =
      elim (which (begins mark.LeftParen ts) _ _ (Some (x, rest)) e) [
        | inl p ↦ call_sound at n x all ts rest first p.1
        | inr p ↦
            let q = bind_some (index_of d ts) _ (x, rest) p.1 in
            assigned_sound (record { at = at; name = n; index = q.0.0 }) x all q.0.1 rest (ts, first, index_sound q.0.0 ts q.0.1 q.1) q.2
      ]

  incremented_sound : (at : Place) (m : Mark) (x : ParsedStmt) (all ts rest : List Lexeme) → TakesAt (marked m) at all ts → incremented_of d at m ts ≡ Some (x, rest) → SpellsSimple d x all rest
  unfolding incremented_of
  incremented_sound at m x all ts rest first e =
      let q1 = bind_some (increment_of m) _ (x, rest) e in
      let q2 = bind_some (target_of d ts) _ (x, rest) q1.2 in
      subst (λ (y : ParsedStmt × List Lexeme). SpellsSimple d y.0 all y.1) (same_Some (ParsedIncrement at q2.0.0 q1.0, q2.0.1) (x, rest) q2.2)
      (m, begins_at (marked m) at all ts first, q1.1, inr (ts, takes_at (marked m) at all ts first, target_sound q2.0.0 ts q2.0.1 q2.1))

  sort_sound : (t : Lexeme) (s : Sort) (x : ParsedStmt) (ts rest : List Lexeme) → t.sort ≡ s → simple_at d s t.place ts ≡ Some (x, rest) → SpellsSimple d x (t ∷ ts) rest
  sort_sound t (named n) x ts rest is e = named_sound t.place n x (t ∷ ts) ts rest (first_at t ts (named n) is) e
  sort_sound t (marked m) x ts rest is e = incremented_sound t.place m x (t ∷ ts) ts rest (first_at t ts (marked m) is) e
  sort_sound t (numbered n u l) x ts rest is e = absurd cc

  pub simple_sound : (x : ParsedStmt) (ts rest : List Lexeme) → simple_of d ts ≡ Some (x, rest) → SpellsSimple d x ts rest
  unfolding simple_of
  simple_sound x [] rest e = absurd cc
  simple_sound x (t ∷ ts) rest e = sort_sound t t.sort x ts rest refl e
