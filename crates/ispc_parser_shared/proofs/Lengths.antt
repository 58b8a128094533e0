-- What is spelled takes tokens.
use Rattle.std.proofs.Common.{inl, inr, ℕ, ◌<◌, ◌≤◌, List, [], ◌∷◌, length, Option, Some, None, Bool, true, false, ap, arith}
use Rattle.gang_types.specs.declared.places.Place.{Place}
use Rattle.gang_model.specs.declared.marks.Mark.{Mark}
use Rattle.gang_model.specs.declared.marks.Mark.TheVariants as mark
use Rattle.gang_model.specs.declared.forms.Spec.{Spec}
use Rattle.gang_model.specs.declared.forms.Label.{Label}
use Rattle.gang_model.specs.Source.Tokens.{named, numbered, marked, Lexeme}
use Rattle.gang_model.specs.Source.Parsed.{Name, ParsedExpr, ParsedDim, ParsedTarget, ParsedStmt, ParsedEmpty, ParsedBlock, ParsedDeclare, ParsedAssign, ParsedChange, ParsedIncrement, ParsedDoCall, ParsedBreak, ParsedContinue, ParsedReturn, ParsedIf, ParsedIfElse, ParsedWhile, ParsedDo, ParsedFor, ParsedSwitch, ParsedForEach, ParsedForEachActive, ParsedForEachUnique, ParsedStmts, ParsedLast, ParsedNext, ParsedSegments, ParsedNoMore, ParsedSegment}
use Rattle.gang_model.specs.Source.Spells.{TakesAt, any_level, WholeExpr, WholeArgs}
use Rattle.gang_model.specs.Source.SpellsStatements.{TakesEither, Maybe, InParens, InBrackets, SpellsList, SpellsSpec, SpellsValue, SpellsDeclaration, SpellsTarget, SpellsSimple, SpellsStart, SpellsUpdate, SpellsRounds, SpellsDim, SpellsDims, foreach_word, SpellsDistinct, SpellsSign, SpellsLabel, OpensBody, SpellsStmt, SpellsStmts, SpellsSegments}
use Rattle.gang_model.proofs.NestingLaws.{opened}
use Rattle.ispc_parser_words.proofs.SpecWords.{words_shorter}
use Rattle.ispc_parser_words.proofs.Tokens.{takes_shorter, at_shorter}
use Rattle.ispc_parser_expressions.proofs.Starts.{spelled_shorter, items_shorter}

-- ---- tokens

pub spec_shorter : (s : Spec) (ts rest : List Lexeme) → SpellsSpec s ts rest → length rest ≤ length ts
spec_shorter s ts rest h = words_shorter h.0 ts rest h.1

either_shorter : (m k : Mark) (at : Place) (ts rest : List Lexeme) → TakesEither m k at ts rest → length rest < length ts
either_shorter m k at ts rest (inl h) = omega (arith, at_shorter (marked m) at ts rest h)
either_shorter m k at ts rest (inr h) = omega (arith, at_shorter (marked k) at ts rest h)

maybe_shorter : {A : Type 0} (R : A → List Lexeme → List Lexeme → Type 0) (o : Option A) (ts rest : List Lexeme)
    → ((x : A) → R x ts rest → length rest < length ts) → Maybe R o ts rest → length rest ≤ length ts
maybe_shorter R None ts rest f h = omega (arith, ap length h)
maybe_shorter R (Some x) ts rest f h = omega (arith, f x h)

whole_shorter : (d : ℕ) (e : ParsedExpr) (ts rest : List Lexeme) → WholeExpr d e ts rest → length rest < length ts
whole_shorter d e ts rest h = spelled_shorter e d any_level ts rest h.0

parens_shorter : (d : ℕ) (F : ℕ → List Lexeme → List Lexeme → Type 0) (ts rest : List Lexeme)
    → ((n : ℕ) (a b : List Lexeme) → F n a b → length b ≤ length a) → InParens d F ts rest → length rest < length ts
parens_shorter d F ts rest f h =
    let p = opened d (λ (n : ℕ). F n h.0 h.1) h.3 in
    omega (arith, takes_shorter (marked mark.LeftParen) ts h.0 h.2, f p.0 h.0 h.1 p.2, takes_shorter (marked mark.RightParen) h.1 rest h.4)

pub test_shorter : (d : ℕ) (e : ParsedExpr) (ts rest : List Lexeme) → InParens d (λ inner. WholeExpr inner e) ts rest → length rest < length ts
test_shorter d e ts rest h = parens_shorter d (λ inner. WholeExpr inner e) ts rest (λ n a b k. omega (arith, whole_shorter n e a b k)) h

pub list_shorter : {A : Type 0} (R : A → List Lexeme → List Lexeme → Type 0) → ((x : A) (ts rest : List Lexeme) → R x ts rest → length rest ≤ length ts)
    → (xs : List A) (ts rest : List Lexeme) → SpellsList R xs ts rest → length rest ≤ length ts
list_shorter R f [] ts rest h = absurd h
list_shorter R f (x ∷ []) ts rest h = f x ts rest h
list_shorter R f (x ∷ y ∷ ys) ts rest h = omega (arith, f x ts h.0 h.2, takes_shorter (marked mark.Comma) h.0 h.1 h.3, list_shorter R f (y ∷ ys) h.1 rest h.4)

-- ---- declarations, assignments and calls

value_shorter : (d : ℕ) (e : ParsedExpr) (ts rest : List Lexeme) → SpellsValue d e ts rest → length rest < length ts
value_shorter d e ts rest h = omega (arith, takes_shorter (marked mark.Assign) ts h.0 h.1, whole_shorter d e h.0 rest h.2)

declaration_shorter : (d : ℕ) (x : ParsedStmt) (ts rest : List Lexeme) → SpellsDeclaration d x ts rest → length rest < length ts
declaration_shorter d (ParsedDeclare at spec name_at n o) ts rest h =
    omega (arith, spec_shorter spec ts h.0 h.3, at_shorter (named n) name_at h.0 h.1 h.5, maybe_shorter (SpellsValue d) o h.1 rest (λ e. value_shorter d e h.1 rest) h.6)
declaration_shorter d _ ts rest h = absurd h

bracket_shorter : (d : ℕ) (e : ParsedExpr) (ts rest : List Lexeme) → InBrackets d (λ inner. WholeExpr inner e) ts rest → length rest < length ts
bracket_shorter d e ts rest h =
    let p = opened d (λ (n : ℕ). WholeExpr n e h.0 h.1) h.3 in
    omega (arith, takes_shorter (marked mark.LeftBracket) ts h.0 h.2, whole_shorter p.0 e h.0 h.1 p.2, takes_shorter (marked mark.RightBracket) h.1 rest h.4)

target_shorter : (d : ℕ) (x : ParsedTarget) (ts rest : List Lexeme) → SpellsTarget d x ts rest → length rest < length ts
target_shorter d x ts rest h =
    omega (arith, at_shorter (named x.name) x.at ts h.0 h.1, maybe_shorter (λ e. InBrackets d (λ inner. WholeExpr inner e)) x.index h.0 rest (λ e. bracket_shorter d e h.0 rest) h.2)

simple_shorter : (d : ℕ) (x : ParsedStmt) (ts rest : List Lexeme) → SpellsSimple d x ts rest → length rest < length ts
simple_shorter d (ParsedAssign at target e) ts rest h =
    omega (arith, target_shorter d target ts h.0 h.3, takes_shorter (marked mark.Assign) h.0 h.1 h.4, whole_shorter d e h.1 rest h.5)
simple_shorter d (ParsedChange at target op e) ts rest h =
    omega (arith, target_shorter d target ts h.1 h.4, takes_shorter (marked h.0) h.1 h.2 h.6, whole_shorter d e h.2 rest h.7)
simple_shorter d (ParsedIncrement at target op) ts rest (m, here, is, inl h) = omega (arith, target_shorter d target ts h.0 h.1, takes_shorter (marked m) h.0 rest h.2)
simple_shorter d (ParsedIncrement at target op) ts rest (m, here, is, inr h) = omega (arith, takes_shorter (marked m) ts h.0 h.1, target_shorter d target h.0 rest h.2)
simple_shorter d (ParsedDoCall at n es) ts rest h =
    omega (arith, at_shorter (named n) at ts h.0 h.1, parens_shorter d (λ inner. WholeArgs inner es) h.0 rest (λ n a b k. items_shorter es n true a b k.0) h.2)
simple_shorter d _ ts rest h = absurd h

-- ---- heads

start_shorter : (d : ℕ) (x : ParsedStmt) (ts rest : List Lexeme) → SpellsStart d x ts rest → length rest ≤ length ts
start_shorter d ParsedEmpty ts rest h = omega (arith, ap length h)
start_shorter d x ts rest h = elim h [ inl k ↦ omega (arith, declaration_shorter d x ts rest k) | inr k ↦ omega (arith, simple_shorter d x ts rest k) ]

update_shorter : (d : ℕ) (x : ParsedStmt) (ts rest : List Lexeme) → SpellsUpdate d x ts rest → length rest ≤ length ts
update_shorter d ParsedEmpty ts rest h = omega (arith, ap length h)
update_shorter d x ts rest h = omega (arith, simple_shorter d x ts rest h)

rounds_shorter : (start : ParsedStmt) (test : Option ParsedExpr) (update : ParsedStmt) (d : ℕ) (ts rest : List Lexeme) → SpellsRounds start test update d ts rest → length rest ≤ length ts
rounds_shorter start test update d ts rest h =
    omega (
      arith,
      start_shorter d start ts h.0 h.4,
      takes_shorter (marked mark.Semicolon) h.0 h.1 h.5,
      maybe_shorter (WholeExpr d) test h.1 h.2 (λ e. whole_shorter d e h.1 h.2) h.6,
      takes_shorter (marked mark.Semicolon) h.2 h.3 h.7,
      update_shorter d update h.3 rest h.8,
    )

dim_shorter : (d : ℕ) (x : ParsedDim) (ts rest : List Lexeme) → SpellsDim d x ts rest → length rest ≤ length ts
dim_shorter d x ts rest h =
    omega (
      arith,
      at_shorter (named x.name) x.at ts h.0 h.4,
      takes_shorter (marked mark.Assign) h.0 h.1 h.5,
      whole_shorter d x.low h.1 h.2 h.6,
      takes_shorter (marked mark.Dots) h.2 h.3 h.7,
      whole_shorter d x.high h.3 rest h.8,
    )

distinct_shorter : (at : Place) (n : Name) (e : ParsedExpr) (d : ℕ) (ts rest : List Lexeme) → SpellsDistinct at n e d ts rest → length rest ≤ length ts
distinct_shorter at n e d ts rest h =
    omega (arith, at_shorter (named n) at ts h.0 h.2, takes_shorter (marked mark.In) h.0 h.1 h.3, whole_shorter d e h.1 rest h.4)

-- ---- labels

sign_shorter : (is_negative : Bool) (ts rest : List Lexeme) → SpellsSign is_negative ts rest → length rest ≤ length ts
sign_shorter false ts rest h = omega (arith, ap length h)
sign_shorter true ts rest h = omega (arith, takes_shorter (marked mark.Minus) ts rest h)

label_shorter : (at : Place) (label : Option Label) (ts rest : List Lexeme) → SpellsLabel at label ts rest → length rest ≤ length ts
label_shorter at (Some label) ts rest h =
    omega (
      arith,
      at_shorter (marked mark.Case) at ts h.2 h.5,
      sign_shorter label.is_negative h.2 h.3 h.6,
      takes_shorter (numbered label.value h.0 h.1) h.3 h.4 h.7,
      takes_shorter (marked mark.Colon) h.4 rest h.8,
    )
label_shorter at None ts rest h = omega (arith, at_shorter (marked mark.Default) at ts h.0 h.1, takes_shorter (marked mark.Colon) h.0 rest h.2)

-- ---- statements

abbrev pub IsBlock : ParsedStmt → Type 0
IsBlock (ParsedBlock ss) = Unit {0}
IsBlock _ = ⊥

pub opened_body : (x : ParsedStmt) (d : ℕ) (F : ℕ → Type 0) → OpensBody x d F → (n : ℕ) × F n
opened_body (ParsedBlock ss) d F h = (d, h)
opened_body _ d F h = let p = opened d F h in (p.0, p.2)

mutual
  pub stmt_shorter : (x : ParsedStmt) (d : ℕ) (ts rest : List Lexeme) → SpellsStmt x d ts rest → length rest < length ts
  stmt_shorter ParsedEmpty d ts rest h = omega (arith, takes_shorter (marked mark.Semicolon) ts rest h)
  stmt_shorter (ParsedBlock ss) d ts rest h =
      let p = opened d (λ (n : ℕ). SpellsStmts ss n h.0 h.1) h.3 in
      omega (arith, takes_shorter (marked mark.LeftBrace) ts h.0 h.2, stmts_shorter ss p.0 h.0 h.1 p.2, takes_shorter (marked mark.RightBrace) h.1 rest h.4)
  stmt_shorter (ParsedDeclare at spec name_at n o) d ts rest h =
      omega (arith, declaration_shorter d (ParsedDeclare at spec name_at n o) ts h.0 h.1, takes_shorter (marked mark.Semicolon) h.0 rest h.2)
  stmt_shorter (ParsedBreak at) d ts rest h = omega (arith, at_shorter (marked mark.Break) at ts h.0 h.1, takes_shorter (marked mark.Semicolon) h.0 rest h.2)
  stmt_shorter (ParsedContinue at) d ts rest h = omega (arith, at_shorter (marked mark.Continue) at ts h.0 h.1, takes_shorter (marked mark.Semicolon) h.0 rest h.2)
  stmt_shorter (ParsedReturn at o) d ts rest h =
      omega (arith, at_shorter (marked mark.Return) at ts h.0 h.2, maybe_shorter (WholeExpr d) o h.0 h.1 (λ e. whole_shorter d e h.0 h.1) h.3, takes_shorter (marked mark.Semicolon) h.1 rest h.4)
  stmt_shorter (ParsedIf at e x) d ts rest h =
      let p = opened_body x d (λ (n : ℕ). SpellsStmt x n h.1 rest) h.4 in
      omega (arith, either_shorter mark.If mark.Cif at ts h.0 h.2, test_shorter d e h.0 h.1 h.3, stmt_shorter x p.0 h.1 rest p.1)
  stmt_shorter (ParsedIfElse at e x y) d ts rest h =
      let p = opened_body x d (λ (n : ℕ). SpellsStmt x n h.1 h.2) h.6 in
      let q = opened_body y d (λ (n : ℕ). SpellsStmt y n h.3 rest) h.8 in
      omega (arith, either_shorter mark.If mark.Cif at ts h.0 h.4, test_shorter d e h.0 h.1 h.5, stmt_shorter x p.0 h.1 h.2 p.1, takes_shorter (marked mark.Else) h.2 h.3 h.7, stmt_shorter y q.0 h.3 rest q.1)
  stmt_shorter (ParsedWhile at e x) d ts rest h =
      let p = opened_body x d (λ (n : ℕ). SpellsStmt x n h.1 rest) h.4 in
      omega (arith, either_shorter mark.While mark.Cwhile at ts h.0 h.2, test_shorter d e h.0 h.1 h.3, stmt_shorter x p.0 h.1 rest p.1)
  stmt_shorter (ParsedDo x at e) d ts rest h =
      let p = opened_body x d (λ (n : ℕ). SpellsStmt x n h.1 h.2) h.6 in
      omega (arith, either_shorter mark.Do mark.Cdo h.0 ts h.1 h.5, stmt_shorter x p.0 h.1 h.2 p.1, at_shorter (marked mark.While) at h.2 h.3 h.7, test_shorter d e h.3 h.4 h.8, takes_shorter (marked mark.Semicolon) h.4 rest h.9)
  stmt_shorter (ParsedFor at start test update x) d ts rest h =
      let p = opened_body x d (λ (n : ℕ). SpellsStmt x n h.1 rest) h.4 in
      omega (arith, either_shorter mark.For mark.Cfor at ts h.0 h.2, parens_shorter d (SpellsRounds start test update) h.0 h.1 (rounds_shorter start test update) h.3, stmt_shorter x p.0 h.1 rest p.1)
  stmt_shorter (ParsedForEach at is_tiled dims x) d ts rest h =
      let p = opened_body x d (λ (n : ℕ). SpellsStmt x n h.1 rest) h.4 in
      omega (
        arith,
        at_shorter (marked (foreach_word is_tiled)) at ts h.0 h.2,
        parens_shorter d (SpellsDims dims) h.0 h.1 (λ n a b k. list_shorter (SpellsDim n) (dim_shorter n) dims a b k.0) h.3,
        stmt_shorter x p.0 h.1 rest p.1,
      )
  stmt_shorter (ParsedForEachActive at name_at n x) d ts rest h =
      let p = opened_body x d (λ (k : ℕ). SpellsStmt x k h.1 rest) h.4 in
      omega (
        arith,
        at_shorter (marked mark.ForeachActive) at ts h.0 h.2,
        parens_shorter d (λ inner. TakesAt (named n) name_at) h.0 h.1 (λ k a b t. omega (arith, at_shorter (named n) name_at a b t)) h.3,
        stmt_shorter x p.0 h.1 rest p.1,
      )
  stmt_shorter (ParsedForEachUnique at name_at n e x) d ts rest h =
      let p = opened_body x d (λ (k : ℕ). SpellsStmt x k h.1 rest) h.4 in
      omega (arith, at_shorter (marked mark.ForeachUnique) at ts h.0 h.2, parens_shorter d (SpellsDistinct name_at n e) h.0 h.1 (distinct_shorter name_at n e) h.3, stmt_shorter x p.0 h.1 rest p.1)
  stmt_shorter (ParsedAssign at target e) d ts rest h = omega (arith, simple_shorter d (ParsedAssign at target e) ts h.0 h.1, takes_shorter (marked mark.Semicolon) h.0 rest h.2)
  stmt_shorter (ParsedChange at target op e) d ts rest h = omega (arith, simple_shorter d (ParsedChange at target op e) ts h.0 h.1, takes_shorter (marked mark.Semicolon) h.0 rest h.2)
  stmt_shorter (ParsedIncrement at target op) d ts rest h = omega (arith, simple_shorter d (ParsedIncrement at target op) ts h.0 h.1, takes_shorter (marked mark.Semicolon) h.0 rest h.2)
  stmt_shorter (ParsedDoCall at n es) d ts rest h = omega (arith, simple_shorter d (ParsedDoCall at n es) ts h.0 h.1, takes_shorter (marked mark.Semicolon) h.0 rest h.2)
  stmt_shorter (ParsedSwitch at e segments) d ts rest h =
      let p = opened d (λ (n : ℕ). SpellsSegments segments n h.2 h.3) h.7 in
      omega (
        arith,
        at_shorter (marked mark.Switch) at ts h.0 h.4,
        test_shorter d e h.0 h.1 h.5,
        takes_shorter (marked mark.LeftBrace) h.1 h.2 h.6,
        segments_shorter segments p.0 h.2 h.3 p.2,
        takes_shorter (marked mark.RightBrace) h.3 rest h.9,
      )

  pub stmts_shorter : (ss : ParsedStmts) (d : ℕ) (ts rest : List Lexeme) → SpellsStmts ss d ts rest → length rest ≤ length ts
  stmts_shorter ParsedLast d ts rest h = omega (arith, ap length h)
  stmts_shorter (ParsedNext s ss) d ts rest h = omega (arith, stmt_shorter s d ts h.0 h.1, stmts_shorter ss d h.0 rest h.2)

  segments_shorter : (segments : ParsedSegments) (d : ℕ) (ts rest : List Lexeme) → SpellsSegments segments d ts rest → length rest ≤ length ts
  segments_shorter ParsedNoMore d ts rest h = omega (arith, ap length h)
  segments_shorter (ParsedSegment at label ss segments) d ts rest h =
      omega (arith, label_shorter at label ts h.0 h.2, stmts_shorter ss d h.0 h.1 h.3, segments_shorter segments d h.1 rest h.5)
