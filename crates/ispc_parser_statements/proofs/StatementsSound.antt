-- What is read as statements is spelled so.
use Rattle.std.proofs.Common.{◌≡◌, inl, inr, ℕ, zero, suc, ◌≤◌, List, [], ◌∷◌, length, Option, Some, None, false, refl, sym, ap, subst, arith}
use Rattle.gang_types.specs.declared.places.Place.{Place}
use Rattle.gang_model.specs.declared.marks.Mark.{Mark}
use Rattle.gang_model.specs.declared.marks.Mark.TheVariants as mark
use Rattle.gang_model.specs.Source.Tokens.{Sort, named, numbered, marked, Lexeme}
use Rattle.gang_model.specs.Source.Parsed.{ParsedExpr, ParsedStmt, ParsedEmpty, ParsedBlock, ParsedDeclare, ParsedAssign, ParsedChange, ParsedIncrement, ParsedDoCall, ParsedBreak, ParsedContinue, ParsedReturn, ParsedIf, ParsedIfElse, ParsedDo, ParsedSwitch, ParsedStmts, ParsedLast, ParsedNext, ParsedSegments, ParsedNoMore, ParsedSegment}
use Rattle.gang_model.specs.Source.Spells.{Takes, TakesAt, WholeExpr}
use Rattle.gang_model.specs.Source.SpellsStatements.{TakesEither, SpellsDeclaration, SpellsSimple, SpellsRounds, SpellsDims, SpellsDistinct, foreach_word, SpellsLabel, is_declaration, HasNoDeclaration, max_labels, label_count, OpensBody, SpellsStmt, SpellsStmts, SpellsSegments}
use Rattle.ispc_parser_words.specs.Front.{begins, take}
use Rattle.ispc_parser_words.specs.Words.{begins_word}
use Rattle.ispc_parser_expressions.specs.Parse.{whole_expr}
use Rattle.ispc_parser_words.proofs.Tokens.{take_takes, begins_again}
use Rattle.ispc_parser_words.proofs.Tokens.{takes_at}
use Rattle.ispc_parser_expressions.proofs.Whole.{whole_sound}
use Rattle.ispc_parser_shared.specs.declared.words.Loop.{Loop}
use Rattle.ispc_parser_shared.specs.declared.words.Loop.TheVariants as loop
use Rattle.ispc_parser_shared.specs.declared.words.Plain.{Plain}
use Rattle.ispc_parser_shared.specs.declared.words.Plain.TheVariants as plain
use Rattle.ispc_parser_shared.specs.declared.words.Opening.{Opening}
use Rattle.ispc_parser_shared.specs.declared.words.Opening.TheVariants as opening
use Rattle.ispc_parser_shared.specs.Front.{Reader, take_at, name_of, in_parens, ended_of}
use Rattle.ispc_parser_shared.specs.Openings.{opening_of}
use Rattle.ispc_parser_shared.proofs.Tokens.{opens_here, not_next, first_at, take_at_sound, in_parens_sound, name_sound}
use Rattle.ispc_parser_parts.specs.Parts.{declaration_of, simple_of}
use Rattle.ispc_parser_parts.proofs.Beginnings.{declaration_word}
use Rattle.ispc_parser_parts.proofs.PartsSound.{declaration_sound, simple_sound}
use Rattle.ispc_parser_heads.specs.Heads.{optional_of, rounds_of, dims_of, distinct_of, ParsedHead, WhileHead, ForHead, ForEachHead, ActiveHead, UniqueHead, completed, head_of}
use Rattle.ispc_parser_heads.proofs.HeadsSound.{optional_sound, rounds_sound, dims_sound, distinct_sound}
use Rattle.ispc_parser_heads.specs.Labels.{label_of}
use Rattle.ispc_parser_heads.proofs.LabelLaws.{label_sound}
use Rattle.ispc_parser_statements.specs.Statements.{plain_of, Below, block_of, body_of, else_of, if_of, switch_of, do_test_of, do_of, loop_of, opened_of, stmt_at, stmt_of, ends_stmts, stmts_of, segment_stmt_of, Segment, segment_of, segments_of, within, parsers}
use Rattle.std.proofs.lemmas.Option.{same_Some}
use Rattle.ispc_lexer.proofs.Runs.{which, bind_some}

-- ---- first words

abbrev pub TakesLoop : Loop → Place → List Lexeme → List Lexeme → Type 0
TakesLoop loop.While at ts rest = TakesEither mark.While mark.Cwhile at ts rest
TakesLoop loop.For at ts rest = TakesEither mark.For mark.Cfor at ts rest
TakesLoop (loop.ForEach is_tiled) at ts rest = TakesAt (marked (foreach_word is_tiled)) at ts rest
TakesLoop loop.ForEachActive at ts rest = TakesAt (marked mark.ForeachActive) at ts rest
TakesLoop loop.ForEachUnique at ts rest = TakesAt (marked mark.ForeachUnique) at ts rest

abbrev TakesPlain : Plain → Place → List Lexeme → List Lexeme → Type 0
TakesPlain plain.Empty at ts rest = TakesAt (marked mark.Semicolon) at ts rest
TakesPlain plain.Break at ts rest = TakesAt (marked mark.Break) at ts rest
TakesPlain plain.Continue at ts rest = TakesAt (marked mark.Continue) at ts rest
TakesPlain plain.Return at ts rest = TakesAt (marked mark.Return) at ts rest
TakesPlain plain.Simple at ts rest = Unit {0}

abbrev TakesOpening : Option Opening → Place → List Lexeme → List Lexeme → Type 0
TakesOpening None at ts rest = Unit {0}
TakesOpening (Some (opening.Plain word)) at ts rest = TakesPlain word at ts rest
TakesOpening (Some opening.Block) at ts rest = TakesAt (marked mark.LeftBrace) at ts rest
TakesOpening (Some opening.If) at ts rest = TakesEither mark.If mark.Cif at ts rest
TakesOpening (Some opening.Switch) at ts rest = TakesAt (marked mark.Switch) at ts rest
TakesOpening (Some opening.Do) at ts rest = TakesEither mark.Do mark.Cdo at ts rest
TakesOpening (Some (opening.Loop word)) at ts rest = TakesLoop word at ts rest

first_word : (m : Mark) (at : Place) (ts rest : List Lexeme) → TakesAt (marked m) at ts rest → TakesOpening (opening_of m) at ts rest
first_word mark.Semicolon at ts rest h = h
first_word mark.Break at ts rest h = h
first_word mark.Continue at ts rest h = h
first_word mark.Return at ts rest h = h
first_word mark.PlusPlus at ts rest h = tt
first_word mark.MinusMinus at ts rest h = tt
first_word mark.LeftBrace at ts rest h = h
first_word mark.If at ts rest h = inl h
first_word mark.Cif at ts rest h = inr h
first_word mark.Switch at ts rest h = h
first_word mark.Do at ts rest h = inl h
first_word mark.Cdo at ts rest h = inr h
first_word mark.While at ts rest h = inl h
first_word mark.Cwhile at ts rest h = inr h
first_word mark.For at ts rest h = inl h
first_word mark.Cfor at ts rest h = inr h
first_word mark.Foreach at ts rest h = h
first_word mark.ForeachTiled at ts rest h = h
first_word mark.ForeachActive at ts rest h = h
first_word mark.ForeachUnique at ts rest h = h
first_word _ at ts rest h = tt

-- ---- statements that hold no other one

ended_sound : {A : Type 0} (one : Reader A) (x : A) (ts rest : List Lexeme) → ended_of one ts ≡ Some (x, rest)
    → (a : List Lexeme) × (one ts ≡ Some (x, a)) × Takes (marked mark.Semicolon) a rest
unfolding ended_of
ended_sound {A} one x ts rest e =
    let q1 = bind_some (one ts) _ (x, rest) e in
    let q2 = bind_some (take mark.Semicolon q1.0.1) _ (x, rest) q1.2 in
    subst (λ (y : A × List Lexeme). (a : List Lexeme) × (one ts ≡ Some (y.0, a)) × Takes (marked mark.Semicolon) a y.1) (same_Some (q1.0.0, q2.0) (x, rest) q2.2)
    (q1.0.1, q1.1, take_takes mark.Semicolon q1.0.1 q2.0 q2.1)

ends_simple : (d : ℕ) (x : ParsedStmt) (ts a rest : List Lexeme) → SpellsSimple d x ts a → Takes (marked mark.Semicolon) a rest → SpellsStmt x d ts rest
ends_simple d (ParsedAssign at t e) ts a rest h k = (a, h, k)
ends_simple d (ParsedChange at t op e) ts a rest h k = (a, h, k)
ends_simple d (ParsedIncrement at t op) ts a rest h k = (a, h, k)
ends_simple d (ParsedDoCall at n es) ts a rest h k = (a, h, k)
ends_simple d _ ts a rest h k = absurd h

ends_declaration : (d : ℕ) (x : ParsedStmt) (ts a rest : List Lexeme) → SpellsDeclaration d x ts a → Takes (marked mark.Semicolon) a rest → SpellsStmt x d ts rest
ends_declaration d (ParsedDeclare at s name_at n v) ts a rest h k = (a, h, k)
ends_declaration d _ ts a rest h k = absurd h

module _ (d : ℕ) where
  ended_simple_sound : (x : ParsedStmt) (ts rest : List Lexeme) → ended_of (simple_of d) ts ≡ Some (x, rest) → SpellsStmt x d ts rest
  ended_simple_sound x ts rest e =
      let q = ended_sound (simple_of d) x ts rest e in
      ends_simple d x ts q.0 rest (simple_sound d x ts q.0 q.1) q.2

  plain_sound : (word : Plain) (at : Place) (x : ParsedStmt) (all ts rest : List Lexeme) → TakesPlain word at all ts → plain_of word d at all ts ≡ Some (x, rest) → SpellsStmt x d all rest
  unfolding plain_of
  plain_sound plain.Empty at x all ts rest first e =
      subst (λ (y : ParsedStmt × List Lexeme). SpellsStmt y.0 d all y.1) (same_Some (ParsedEmpty, ts) (x, rest) e) (takes_at (marked mark.Semicolon) at all ts first)
  plain_sound plain.Break at x all ts rest first e =
      let q = bind_some (take mark.Semicolon ts) _ (x, rest) e in
      subst (λ (y : ParsedStmt × List Lexeme). SpellsStmt y.0 d all y.1) (same_Some (ParsedBreak at, q.0) (x, rest) q.2) (ts, first, take_takes mark.Semicolon ts q.0 q.1)
  plain_sound plain.Continue at x all ts rest first e =
      let q = bind_some (take mark.Semicolon ts) _ (x, rest) e in
      subst (λ (y : ParsedStmt × List Lexeme). SpellsStmt y.0 d all y.1) (same_Some (ParsedContinue at, q.0) (x, rest) q.2) (ts, first, take_takes mark.Semicolon ts q.0 q.1)
  plain_sound plain.Return at x all ts rest first e =
      let q = bind_some (optional_of d ts) _ (x, rest) e in
      let a = bind_some (take mark.Semicolon q.0.1) _ (x, rest) q.2 in
      subst (λ (y : ParsedStmt × List Lexeme). SpellsStmt y.0 d all y.1) (same_Some (ParsedReturn at q.0.0, a.0) (x, rest) a.2)
      (ts, q.0.1, first, optional_sound d q.0.0 ts q.0.1 q.1, take_takes mark.Semicolon q.0.1 a.0 a.1)
  plain_sound plain.Simple at x all ts rest first e = ended_simple_sound x all rest e

-- ---- statements that hold others

pub record Inside (d : ℕ) (b : Below) : Type 0 where
  pub stmt : (x : ParsedStmt) (ts rest : List Lexeme) → b.stmt ts ≡ Some (x, rest) → SpellsStmt x d ts rest
  pub stmts : (xs : ParsedStmts) (ts rest : List Lexeme) → b.stmts ts ≡ Some (xs, rest) → SpellsStmts xs d ts rest
  pub segments : (xs : ParsedSegments) (ts rest : List Lexeme) → b.segments ts ≡ Some (xs, rest) → SpellsSegments xs d ts rest × (label_count xs ≤ max_labels)

abbrev pub IsSound : ℕ → Option Below → Type 0
IsSound d below = (b : Below) → below ≡ Some b → (n : ℕ) × (d ≡ suc n) × Inside n b

one_more : (n k : ℕ) → k ≤ n → suc k ≤ suc n
one_more n k h = omega arith

module _ (d : ℕ) (below : Option Below) (sound : IsSound d below) where
  abbrev Body : ParsedStmt → List Lexeme → List Lexeme → Type 0
  Body x ts rest = OpensBody x d (λ inner. SpellsStmt x inner ts rest)

  block_sound : (x : ParsedStmt) (ts rest : List Lexeme) → block_of below ts ≡ Some (x, rest) → (xs : ParsedStmts) × (x ≡ ParsedBlock xs) × SpellsStmt (ParsedBlock xs) d ts rest
  unfolding block_of
  block_sound x ts rest e =
      let q1 = bind_some (take mark.LeftBrace ts) _ (x, rest) e in
      let q2 = bind_some below _ (x, rest) q1.2 in
      let q3 = bind_some (q2.0.stmts q1.0) _ (x, rest) q2.2 in
      let q4 = bind_some (take mark.RightBrace q3.0.1) _ (x, rest) q3.2 in
      let i = sound q2.0 q2.1 in
      let same : (ParsedBlock q3.0.0, q4.0) ≡ (x, rest) = same_Some (ParsedBlock q3.0.0, q4.0) (x, rest) q4.2 in
      let spelled : SpellsStmt (ParsedBlock q3.0.0) d ts q4.0 =
      (q1.0, q3.0.1, take_takes mark.LeftBrace ts q1.0 q1.1, opens_here d i.0 (λ n. SpellsStmts q3.0.0 n q1.0 q3.0.1) i.1 (i.2.stmts q3.0.0 q1.0 q3.0.1 q3.1), take_takes mark.RightBrace q3.0.1 q4.0 q4.1) in
      (q3.0.0, ap (λ (y : ParsedStmt × List Lexeme). y.0) (sym same), subst (λ (y : ParsedStmt × List Lexeme). SpellsStmt (ParsedBlock q3.0.0) d ts y.1) same spelled)

  no_block : (n : ℕ) (x : ParsedStmt) (ts rest : List Lexeme) → begins mark.LeftBrace ts ≡ false → d ≡ suc n → SpellsStmt x n ts rest → Body x ts rest
  no_block n (ParsedBlock xs) ts rest e is h = let yes = begins_again mark.LeftBrace ts h.0 h.2 in absurd cc
  no_block n x ts rest e is h = opens_here d n (λ k. SpellsStmt x k ts rest) is h

  body_sound : (x : ParsedStmt) (ts rest : List Lexeme) → body_of below ts ≡ Some (x, rest) → Body x ts rest
  unfolding body_of
  body_sound x ts rest e =
      elim (which (begins mark.LeftBrace ts) _ _ (Some (x, rest)) e) [
        | inl p ↦ let q = block_sound x ts rest p.1 in subst (λ (y : ParsedStmt). Body y ts rest) (sym q.1) q.2
        | inr p ↦
            let q = bind_some below _ (x, rest) p.1 in
            let i = sound q.0 q.1 in
            no_block i.0 x ts rest p.0 i.1 (i.2.stmt x ts rest q.2)
      ]

  if_sound : (at : Place) (x : ParsedStmt) (all ts rest : List Lexeme) → TakesEither mark.If mark.Cif at all ts → if_of d below at ts ≡ Some (x, rest) → SpellsStmt x d all rest
  unfolding if_of else_of
  if_sound at x all ts rest word e =
      let q1 = bind_some (in_parens whole_expr d ts) _ (x, rest) e in
      let q2 = bind_some (body_of below q1.0.1) _ (x, rest) q1.2 in
      let t = in_parens_sound whole_expr (λ test inner. WholeExpr inner test) whole_sound d q1.0.0 ts q1.0.1 q1.1 in
      let first = body_sound q2.0.0 q1.0.1 q2.0.1 q2.1 in
      elim (which (begins mark.Else q2.0.1) _ _ (Some (x, rest)) q2.2) [
        | inl p ↦
            let q4 = bind_some (else_of below q2.0.1) _ (x, rest) p.1 in
            let q3 = bind_some (take mark.Else q2.0.1) _ q4.0 q4.1 in
            subst (λ (y : ParsedStmt × List Lexeme). SpellsStmt y.0 d all y.1) (same_Some (ParsedIfElse at q1.0.0 q2.0.0 q4.0.0, q4.0.1) (x, rest) q4.2)
            (ts, q1.0.1, q2.0.1, q3.0, word, t, first, take_takes mark.Else q2.0.1 q3.0 q3.1, body_sound q4.0.0 q3.0 q4.0.1 q3.2)
        | inr p ↦
            subst (λ (y : ParsedStmt × List Lexeme). SpellsStmt y.0 d all y.1) (same_Some (ParsedIf at q1.0.0 q2.0.0, q2.0.1) (x, rest) p.1)
            (ts, q1.0.1, word, t, first, not_next mark.Else q2.0.1 p.0)
      ]

  switch_sound : (at : Place) (x : ParsedStmt) (all ts rest : List Lexeme) → TakesAt (marked mark.Switch) at all ts → switch_of d below at ts ≡ Some (x, rest) → SpellsStmt x d all rest
  unfolding switch_of
  switch_sound at x all ts rest word e =
      let q1 = bind_some (in_parens whole_expr d ts) _ (x, rest) e in
      let q2 = bind_some (take mark.LeftBrace q1.0.1) _ (x, rest) q1.2 in
      let q3 = bind_some below _ (x, rest) q2.2 in
      let q4 = bind_some (q3.0.segments q2.0) _ (x, rest) q3.2 in
      let q5 = bind_some (take mark.RightBrace q4.0.1) _ (x, rest) q4.2 in
      let t = in_parens_sound whole_expr (λ test inner. WholeExpr inner test) whole_sound d q1.0.0 ts q1.0.1 q1.1 in
      let i = sound q3.0 q3.1 in
      let s = i.2.segments q4.0.0 q2.0 q4.0.1 q4.1 in
      subst (λ (y : ParsedStmt × List Lexeme). SpellsStmt y.0 d all y.1) (same_Some (ParsedSwitch at q1.0.0 q4.0.0, q5.0) (x, rest) q5.2)
      (ts, q1.0.1, q2.0, q4.0.1, word, t, take_takes mark.LeftBrace q1.0.1 q2.0 q2.1, opens_here d i.0 (λ n. SpellsSegments q4.0.0 n q2.0 q4.0.1) i.1 s.0, s.1, take_takes mark.RightBrace q4.0.1 q5.0 q5.1)

  do_sound : (start : Place) (x : ParsedStmt) (all ts rest : List Lexeme) → TakesEither mark.Do mark.Cdo start all ts → do_of d below ts ≡ Some (x, rest) → SpellsStmt x d all rest
  unfolding do_of do_test_of
  do_sound start x all ts rest word e =
      let q1 = bind_some (body_of below ts) _ (x, rest) e in
      let q5 = bind_some (do_test_of d q1.0.1) _ (x, rest) q1.2 in
      let q2 = bind_some (take_at mark.While q1.0.1) _ q5.0 q5.1 in
      let q3 = bind_some (in_parens whole_expr d q2.0.1) _ q5.0 q2.2 in
      let q4 = bind_some (take mark.Semicolon q3.0.1) _ q5.0 q3.2 in
      let t = in_parens_sound whole_expr (λ test inner. WholeExpr inner test) whole_sound d q3.0.0 q2.0.1 q3.0.1 q3.1 in
      subst (λ (y : ParsedStmt × List Lexeme). SpellsStmt y.0 d all y.1) (same_Some (ParsedDo q1.0.0 q5.0.0.0 q5.0.0.1, q5.0.1) (x, rest) q5.2)
      (subst (λ (t : (Place × ParsedExpr) × List Lexeme). SpellsStmt (ParsedDo q1.0.0 t.0.0 t.0.1) d all t.1) (same_Some ((q2.0.0, q3.0.0), q4.0) q5.0 q4.2)
      (start, ts, q1.0.1, q2.0.1, q3.0.1, word, body_sound q1.0.0 ts q1.0.1 q1.1, take_at_sound mark.While q2.0.0 q1.0.1 q2.0.1 q2.1, t, take_takes mark.Semicolon q3.0.1 q4.0 q4.1))

  -- a head and a body
  abbrev Completes : ParsedStmt → (all rest : List Lexeme) → ParsedHead × List Lexeme → Type 0
  Completes x all rest y = Body x y.1 rest → SpellsStmt (completed y.0 x) d all rest

  head_sound : (word : Loop) (at : Place) (h : ParsedHead) (x : ParsedStmt) (all ts mid rest : List Lexeme) → TakesLoop word at all ts → head_of word d at ts ≡ Some (h, mid)
      → Completes x all rest (h, mid)
  unfolding head_of
  head_sound loop.While at h x all ts mid rest word e =
      let q = bind_some (in_parens whole_expr d ts) _ (h, mid) e in
      let t = in_parens_sound whole_expr (λ test inner. WholeExpr inner test) whole_sound d q.0.0 ts q.0.1 q.1 in
      subst (Completes x all rest) (same_Some (WhileHead at q.0.0, q.0.1) (h, mid) q.2) (λ b. (ts, q.0.1, word, t, b))
  head_sound loop.For at h x all ts mid rest word e =
      let q = bind_some (in_parens rounds_of d ts) _ (h, mid) e in
      let t = in_parens_sound rounds_of (λ r. SpellsRounds r.start r.test r.update) rounds_sound d q.0.0 ts q.0.1 q.1 in
      subst (Completes x all rest) (same_Some (ForHead at q.0.0, q.0.1) (h, mid) q.2) (λ b. (ts, q.0.1, word, t, b))
  head_sound (loop.ForEach is_tiled) at h x all ts mid rest word e =
      let q = bind_some (in_parens dims_of d ts) _ (h, mid) e in
      let t = in_parens_sound dims_of SpellsDims dims_sound d q.0.0 ts q.0.1 q.1 in
      subst (Completes x all rest) (same_Some (ForEachHead at is_tiled q.0.0, q.0.1) (h, mid) q.2) (λ b. (ts, q.0.1, word, t, b))
  head_sound loop.ForEachActive at h x all ts mid rest word e =
      let q = bind_some (in_parens (λ inner. name_of) d ts) _ (h, mid) e in
      let t = in_parens_sound (λ inner. name_of) (λ n inner. TakesAt (named n.1) n.0) (λ n. name_sound) d q.0.0 ts q.0.1 q.1 in
      subst (Completes x all rest) (same_Some (ActiveHead at q.0.0.0 q.0.0.1, q.0.1) (h, mid) q.2) (λ b. (ts, q.0.1, word, t, b))
  head_sound loop.ForEachUnique at h x all ts mid rest word e =
      let q = bind_some (in_parens distinct_of d ts) _ (h, mid) e in
      let t = in_parens_sound distinct_of (λ v. SpellsDistinct v.at v.name v.value) distinct_sound d q.0.0 ts q.0.1 q.1 in
      subst (Completes x all rest) (same_Some (UniqueHead at q.0.0, q.0.1) (h, mid) q.2) (λ b. (ts, q.0.1, word, t, b))

  loop_sound : (word : Loop) (at : Place) (x : ParsedStmt) (all ts rest : List Lexeme) → TakesLoop word at all ts → loop_of word d below at ts ≡ Some (x, rest) → SpellsStmt x d all rest
  unfolding loop_of
  loop_sound word at x all ts rest first e =
      let q1 = bind_some (head_of word d at ts) _ (x, rest) e in
      let q2 = bind_some (body_of below q1.0.1) _ (x, rest) q1.2 in
      subst (λ (y : ParsedStmt × List Lexeme). SpellsStmt y.0 d all y.1) (same_Some (completed q1.0.0 q2.0.0, q2.0.1) (x, rest) q2.2)
      (head_sound word at q1.0.0 q2.0.0 all ts q1.0.1 q2.0.1 first q1.1 (body_sound q2.0.0 q1.0.1 q2.0.1 q2.1))

  opened_sound : (o : Opening) (at : Place) (x : ParsedStmt) (all ts rest : List Lexeme) → TakesOpening (Some o) at all ts → opened_of o d below at all ts ≡ Some (x, rest) → SpellsStmt x d all rest
  opened_sound (opening.Plain word) at x all ts rest first e = plain_sound d word at x all ts rest first e
  opened_sound opening.Block at x all ts rest first e = let q = block_sound x all rest e in subst (λ (y : ParsedStmt). SpellsStmt y d all rest) (sym q.1) q.2
  opened_sound opening.If at x all ts rest first e = if_sound at x all ts rest first e
  opened_sound opening.Switch at x all ts rest first e = switch_sound at x all ts rest first e
  opened_sound opening.Do at x all ts rest first e = do_sound at x all ts rest first e
  opened_sound (opening.Loop word) at x all ts rest first e = loop_sound word at x all ts rest first e

  sort_sound : (t : Lexeme) (s : Sort) (x : ParsedStmt) (ts rest : List Lexeme) → t.sort ≡ s → stmt_at d below s t.place (t ∷ ts) ts ≡ Some (x, rest) → SpellsStmt x d (t ∷ ts) rest
  sort_sound t (named n) x ts rest is e = ended_simple_sound d x (t ∷ ts) rest e
  sort_sound t (marked m) x ts rest is e =
      let q = bind_some (opening_of m) _ (x, rest) e in
      let first = subst (λ (o : Option Opening). TakesOpening o t.place (t ∷ ts) ts) q.1 (first_word m t.place (t ∷ ts) ts (first_at t ts (marked m) is)) in
      opened_sound q.0 t.place x (t ∷ ts) ts rest first q.2
  sort_sound t (numbered n u l) x ts rest is e = absurd cc

  pub stmt_sound : (x : ParsedStmt) (ts rest : List Lexeme) → stmt_of d below ts ≡ Some (x, rest) → SpellsStmt x d ts rest
  unfolding stmt_of
  stmt_sound x [] rest e = absurd cc
  stmt_sound x (t ∷ ts) rest e =
      elim (which (begins_word (t ∷ ts)) _ _ (Some (x, rest)) e) [
        | inl p ↦
            let q = ended_sound (declaration_of d t.place) x (t ∷ ts) rest p.1 in
            ends_declaration d x (t ∷ ts) q.0 rest (declaration_sound d t.place x (t ∷ ts) q.0 refl q.1) q.2
        | inr p ↦ sort_sound t t.sort x ts rest refl p.1
      ]

  pub stmts_sound : (n : ℕ) (xs : ParsedStmts) (ts rest : List Lexeme) → stmts_of (stmt_of d below) n ts ≡ Some (xs, rest) → SpellsStmts xs d ts rest
  unfolding stmts_of
  stmts_sound zero xs ts rest e = subst (λ (y : ParsedStmts × List Lexeme). SpellsStmts y.0 d ts y.1) (same_Some (ParsedLast, ts) (xs, rest) e) refl
  stmts_sound (suc n) xs ts rest e =
      elim (which (ends_stmts ts) _ _ (Some (xs, rest)) e) [
        | inl p ↦ subst (λ (y : ParsedStmts × List Lexeme). SpellsStmts y.0 d ts y.1) (same_Some (ParsedLast, ts) (xs, rest) p.1) refl
        | inr p ↦
            let q1 = bind_some (stmt_of d below ts) _ (xs, rest) p.1 in
            let q2 = bind_some (stmts_of (stmt_of d below) n q1.0.1) _ (xs, rest) q1.2 in
            subst (λ (y : ParsedStmts × List Lexeme). SpellsStmts y.0 d ts y.1) (same_Some (ParsedNext q1.0.0 q2.0.0, q2.0.1) (xs, rest) q2.2)
            (q1.0.1, stmt_sound q1.0.0 ts q1.0.1 q1.1, stmts_sound n q2.0.0 q1.0.1 q2.0.1 q2.1)
      ]

  -- ---- segments

  no_declaration : (x : ParsedStmt) (ts rest : List Lexeme) → begins_word ts ≡ false → SpellsStmt x d ts rest → is_declaration x ≡ false
  no_declaration (ParsedDeclare at spec name_at n v) ts rest none h = let word = declaration_word d (ParsedDeclare at spec name_at n v) ts h.0 h.1 in absurd cc
  no_declaration _ ts rest none h = refl

  segment_stmt_sound : (x : ParsedStmt) (ts rest : List Lexeme) → segment_stmt_of d below ts ≡ Some (x, rest) → SpellsStmt x d ts rest × (is_declaration x ≡ false)
  unfolding segment_stmt_of
  segment_stmt_sound x ts rest e =
      elim (which (begins_word ts) _ _ (Some (x, rest)) e) [
        | inl p ↦ let no_value = p.1 in absurd cc
        | inr p ↦ let h = stmt_sound x ts rest p.1 in (h, no_declaration x ts rest p.0 h)
      ]

  segment_stmts_sound : (n : ℕ) (xs : ParsedStmts) (ts rest : List Lexeme) → stmts_of (segment_stmt_of d below) n ts ≡ Some (xs, rest) → SpellsStmts xs d ts rest × HasNoDeclaration xs
  unfolding stmts_of
  segment_stmts_sound zero xs ts rest e =
      subst (λ (y : ParsedStmts × List Lexeme). SpellsStmts y.0 d ts y.1 × HasNoDeclaration y.0) (same_Some (ParsedLast, ts) (xs, rest) e) (refl, tt)
  segment_stmts_sound (suc n) xs ts rest e =
      elim (which (ends_stmts ts) _ _ (Some (xs, rest)) e) [
        | inl p ↦ subst (λ (y : ParsedStmts × List Lexeme). SpellsStmts y.0 d ts y.1 × HasNoDeclaration y.0) (same_Some (ParsedLast, ts) (xs, rest) p.1) (refl, tt)
        | inr p ↦
            let q1 = bind_some (segment_stmt_of d below ts) _ (xs, rest) p.1 in
            let q2 = bind_some (stmts_of (segment_stmt_of d below) n q1.0.1) _ (xs, rest) q1.2 in
            let first = segment_stmt_sound q1.0.0 ts q1.0.1 q1.1 in
            let more = segment_stmts_sound n q2.0.0 q1.0.1 q2.0.1 q2.1 in
            subst (λ (y : ParsedStmts × List Lexeme). SpellsStmts y.0 d ts y.1 × HasNoDeclaration y.0) (same_Some (ParsedNext q1.0.0 q2.0.0, q2.0.1) (xs, rest) q2.2)
            ((q1.0.1, first.0, more.0), (first.1, more.1))
      ]

  abbrev SpellsSegment : Segment → List Lexeme → List Lexeme → Type 0
  SpellsSegment x ts rest = (a : List Lexeme) × SpellsLabel x.at x.label ts a × SpellsStmts x.stmts d a rest × HasNoDeclaration x.stmts

  segment_sound : (x : Segment) (ts rest : List Lexeme) → segment_of d below ts ≡ Some (x, rest) → SpellsSegment x ts rest
  unfolding segment_of
  segment_sound x ts rest e =
      let q1 = bind_some (label_of ts) _ (x, rest) e in
      let q2 = bind_some (stmts_of (segment_stmt_of d below) (length q1.0.1) q1.0.1) _ (x, rest) q1.2 in
      let body = segment_stmts_sound (length q1.0.1) q2.0.0 q1.0.1 q2.0.1 q2.1 in
      subst (λ (y : Segment × List Lexeme). SpellsSegment y.0 ts y.1) (same_Some (record { at = q1.0.0.0; label = q1.0.0.1; stmts = q2.0.0 }, q2.0.1) (x, rest) q2.2)
      (q1.0.1, label_sound q1.0.0 ts q1.0.1 q1.1, body.0, body.1)

  segments_sound : (n : ℕ) (xs : ParsedSegments) (ts rest : List Lexeme) → segments_of (segment_of d below) n ts ≡ Some (xs, rest) → SpellsSegments xs d ts rest × (label_count xs ≤ n)
  unfolding segments_of
  segments_sound zero xs ts rest e =
      subst (λ (y : ParsedSegments × List Lexeme). SpellsSegments y.0 d ts y.1 × (label_count y.0 ≤ 0)) (same_Some (ParsedNoMore, ts) (xs, rest) e) (refl, omega arith)
  segments_sound (suc n) xs ts rest e =
      elim (which (begins mark.RightBrace ts) _ _ (Some (xs, rest)) e) [
        | inl p ↦ subst (λ (y : ParsedSegments × List Lexeme). SpellsSegments y.0 d ts y.1 × (label_count y.0 ≤ suc n)) (same_Some (ParsedNoMore, ts) (xs, rest) p.1) (refl, omega arith)
        | inr p ↦
            let q1 = bind_some (segment_of d below ts) _ (xs, rest) p.1 in
            let q2 = bind_some (segments_of (segment_of d below) n q1.0.1) _ (xs, rest) q1.2 in
            let first = segment_sound q1.0.0 ts q1.0.1 q1.1 in
            let more = segments_sound n q2.0.0 q1.0.1 q2.0.1 q2.1 in
            subst (λ (y : ParsedSegments × List Lexeme). SpellsSegments y.0 d ts y.1 × (label_count y.0 ≤ suc n))
            (same_Some (ParsedSegment q1.0.0.at q1.0.0.label q1.0.0.stmts q2.0.0, q2.0.1) (xs, rest) q2.2)
            ((first.0, q1.0.1, first.1, first.2, first.3, more.0), one_more n (label_count q2.0.0) more.1)
      ]

pub within_sound : (d : ℕ) (below : Option Below) → IsSound d below → Inside d (within d below)
within_sound d below sound = record {
  stmt = stmt_sound d below sound;
  stmts = λ xs ts rest e. stmts_sound d below sound (length ts) xs ts rest e;
  segments = segments_sound d below sound max_labels;
}

pub parsers_sound : (d : ℕ) → IsSound d (parsers d)
unfolding parsers
parsers_sound zero b e = absurd cc
parsers_sound (suc d) b e = (d, refl, subst (Inside d) (same_Some (within d (parsers d)) b e) (within_sound d (parsers d) (parsers_sound d)))
