-- What is read as the head of a loop or a foreach form is spelled so.
use Rattle.std.proofs.Common.{◌≡◌, inl, inr, ℕ, List, [], ◌∷◌, Option, Some, None, refl, subst}
use Rattle.gang_model.specs.declared.marks.Mark.TheVariants as mark
use Rattle.gang_model.specs.Source.Tokens.{Lexeme}
use Rattle.gang_model.specs.Source.Parsed.{ParsedExpr, ParsedDim, ParsedStmt, ParsedEmpty, ParsedDeclare, ParsedAssign, ParsedChange, ParsedIncrement, ParsedDoCall}
use Rattle.gang_model.specs.Source.Spells.{WholeExpr}
use Rattle.gang_model.specs.Source.SpellsStatements.{Maybe, SpellsDeclaration, SpellsSimple, SpellsStart, SpellsUpdate, SpellsRounds, SpellsDim, max_dims, SpellsDims, SpellsDistinct}
use Rattle.ispc_parser_words.specs.Front.{begins, take, is_mark}
use Rattle.ispc_parser_words.specs.Words.{begins_word}
use Rattle.ispc_parser_expressions.specs.Parse.{whole_expr}
use Rattle.ispc_parser_words.proofs.Tokens.{take_takes}
use Rattle.ispc_parser_expressions.proofs.Whole.{whole_sound}
use Rattle.ispc_parser_shared.specs.Front.{name_of}
use Rattle.ispc_parser_shared.proofs.Tokens.{name_sound}
use Rattle.ispc_parser_shared.proofs.CommaLists.{list_sound}
use Rattle.ispc_parser_parts.specs.Parts.{behind}
use Rattle.ispc_parser_parts.proofs.PartsSound.{declaration_sound, simple_sound}
use Rattle.ispc_parser_heads.specs.Heads.{optional_of, start_of, update_of, ParsedRounds, rounds_of, dim_of, dims_of, ParsedDistinct, distinct_of}
use Rattle.std.proofs.lemmas.Option.{same_Some}
use Rattle.ispc_lexer.proofs.Runs.{which, bind_some}

-- ---- heads

start_declared : (d : ℕ) (x : ParsedStmt) (ts rest : List Lexeme) → SpellsDeclaration d x ts rest → SpellsStart d x ts rest
start_declared d (ParsedDeclare at s name_at n v) ts rest h = inl h
start_declared d _ ts rest h = absurd h

start_simple : (d : ℕ) (x : ParsedStmt) (ts rest : List Lexeme) → SpellsSimple d x ts rest → SpellsStart d x ts rest
start_simple d (ParsedAssign at t e) ts rest h = inr h
start_simple d (ParsedChange at t op e) ts rest h = inr h
start_simple d (ParsedIncrement at t op) ts rest h = inr h
start_simple d (ParsedDoCall at n es) ts rest h = inr h
start_simple d _ ts rest h = absurd h

update_simple : (d : ℕ) (x : ParsedStmt) (ts rest : List Lexeme) → SpellsSimple d x ts rest → SpellsUpdate d x ts rest
update_simple d (ParsedAssign at t e) ts rest h = h
update_simple d (ParsedChange at t op e) ts rest h = h
update_simple d (ParsedIncrement at t op) ts rest h = h
update_simple d (ParsedDoCall at n es) ts rest h = h
update_simple d _ ts rest h = absurd h

module _ (d : ℕ) where
  pub optional_sound : (o : Option ParsedExpr) (ts rest : List Lexeme) → optional_of d ts ≡ Some (o, rest) → Maybe (WholeExpr d) o ts rest
  unfolding optional_of
  optional_sound o ts rest e =
      elim (which (begins mark.Semicolon ts) _ _ (Some (o, rest)) e) [
        | inl p ↦ subst (λ (y : Option ParsedExpr × List Lexeme). Maybe (WholeExpr d) y.0 ts y.1) (same_Some (None, ts) (o, rest) p.1) refl
        | inr p ↦
            let q = bind_some (whole_expr d ts) _ (o, rest) p.1 in
            subst (λ (y : Option ParsedExpr × List Lexeme). Maybe (WholeExpr d) y.0 ts y.1) (same_Some (Some q.0.0, q.0.1) (o, rest) q.2) (whole_sound d q.0.0 ts q.0.1 q.1)
      ]

  start_sound : (x : ParsedStmt) (ts rest : List Lexeme) → start_of d ts ≡ Some (x, rest) → SpellsStart d x ts rest
  unfolding start_of
  start_sound x [] rest e = absurd cc
  start_sound x (t ∷ ts) rest e =
      elim (which (is_mark mark.Semicolon t.sort) _ _ (Some (x, rest)) e) [
        | inl p ↦ subst (λ (y : ParsedStmt × List Lexeme). SpellsStart d y.0 (t ∷ ts) y.1) (same_Some (ParsedEmpty, t ∷ ts) (x, rest) p.1) refl
        | inr p ↦
            elim (which (begins_word (t ∷ ts)) _ _ (Some (x, rest)) p.1) [
              | inl w ↦ start_declared d x (t ∷ ts) rest (declaration_sound d t.place x (t ∷ ts) rest refl w.1)
              | inr w ↦ start_simple d x (t ∷ ts) rest (simple_sound d x (t ∷ ts) rest w.1)
            ]
      ]

  update_sound : (x : ParsedStmt) (ts rest : List Lexeme) → update_of d ts ≡ Some (x, rest) → SpellsUpdate d x ts rest
  unfolding update_of
  update_sound x ts rest e =
      elim (which (begins mark.RightParen ts) _ _ (Some (x, rest)) e) [
        | inl p ↦ subst (λ (y : ParsedStmt × List Lexeme). SpellsUpdate d y.0 ts y.1) (same_Some (ParsedEmpty, ts) (x, rest) p.1) refl
        | inr p ↦ update_simple d x ts rest (simple_sound d x ts rest p.1)
      ]

  pub rounds_sound : (r : ParsedRounds) (ts rest : List Lexeme) → rounds_of d ts ≡ Some (r, rest) → SpellsRounds r.start r.test r.update d ts rest
  unfolding rounds_of
  rounds_sound r ts rest e =
      let q1 = bind_some (start_of d ts) _ (r, rest) e in
      let q2 = bind_some (take mark.Semicolon q1.0.1) _ (r, rest) q1.2 in
      let q3 = bind_some (optional_of d q2.0) _ (r, rest) q2.2 in
      let q4 = bind_some (take mark.Semicolon q3.0.1) _ (r, rest) q3.2 in
      let q5 = bind_some (update_of d q4.0) _ (r, rest) q4.2 in
      subst (λ (y : ParsedRounds × List Lexeme). SpellsRounds y.0.start y.0.test y.0.update d ts y.1) (same_Some (record { start = q1.0.0; test = q3.0.0; update = q5.0.0 }, q5.0.1) (r, rest) q5.2) (
        q1.0.1,
        q2.0,
        q3.0.1,
        q4.0,
        start_sound q1.0.0 ts q1.0.1 q1.1,
        take_takes mark.Semicolon q1.0.1 q2.0 q2.1,
        optional_sound q3.0.0 q2.0 q3.0.1 q3.1,
        take_takes mark.Semicolon q3.0.1 q4.0 q4.1,
        update_sound q5.0.0 q4.0 q5.0.1 q5.1,
      )

  dim_sound : (x : ParsedDim) (ts rest : List Lexeme) → dim_of d ts ≡ Some (x, rest) → SpellsDim d x ts rest
  unfolding dim_of behind
  dim_sound x ts rest e =
      let q1 = bind_some (name_of ts) _ (x, rest) e in
      let low = bind_some (behind mark.Assign d q1.0.1) _ (x, rest) q1.2 in
      let q2 = bind_some (take mark.Assign q1.0.1) _ low.0 low.1 in
      let high = bind_some (behind mark.Dots d low.0.1) _ (x, rest) low.2 in
      let q4 = bind_some (take mark.Dots low.0.1) _ high.0 high.1 in
      subst (λ (y : ParsedDim × List Lexeme). SpellsDim d y.0 ts y.1) (same_Some (record { at = q1.0.0.0; name = q1.0.0.1; low = low.0.0; high = high.0.0 }, high.0.1) (x, rest) high.2) (
        q1.0.1,
        q2.0,
        low.0.1,
        q4.0,
        name_sound q1.0.0 ts q1.0.1 q1.1,
        take_takes mark.Assign q1.0.1 q2.0 q2.1,
        whole_sound d low.0.0 q2.0 low.0.1 q2.2,
        take_takes mark.Dots low.0.1 q4.0 q4.1,
        whole_sound d high.0.0 q4.0 high.0.1 q4.2,
      )

  pub dims_sound : (xs : List ParsedDim) (ts rest : List Lexeme) → dims_of d ts ≡ Some (xs, rest) → SpellsDims xs d ts rest
  unfolding dims_of
  dims_sound xs ts rest e = list_sound (dim_of d) (SpellsDim d) dim_sound max_dims xs ts rest e

  pub distinct_sound : (v : ParsedDistinct) (ts rest : List Lexeme) → distinct_of d ts ≡ Some (v, rest) → SpellsDistinct v.at v.name v.value d ts rest
  unfolding distinct_of behind
  distinct_sound v ts rest e =
      let q1 = bind_some (name_of ts) _ (v, rest) e in
      let q3 = bind_some (behind mark.In d q1.0.1) _ (v, rest) q1.2 in
      let q2 = bind_some (take mark.In q1.0.1) _ q3.0 q3.1 in
      subst (λ (y : ParsedDistinct × List Lexeme). SpellsDistinct y.0.at y.0.name y.0.value d ts y.1) (same_Some (record { at = q1.0.0.0; name = q1.0.0.1; value = q3.0.0 }, q3.0.1) (v, rest) q3.2)
      (q1.0.1, q2.0, name_sound q1.0.0 ts q1.0.1 q1.1, take_takes mark.In q1.0.1 q2.0 q2.1, whole_sound d q3.0.0 q2.0 q3.0.1 q2.2)
