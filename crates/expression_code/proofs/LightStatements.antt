-- The expressions of a spelled source have at most 256 operators, calls and indexings each.
use Rattle.std.proofs.Common.{ℕ, ◌≤◌, List, [], ◌∷◌, inl, inr, ◌⊎◌}
use Rattle.std.specs.Prelude.{Option, Some, None}
use Rattle.gang_model.specs.declared.marks.Mark.{Mark}
use Rattle.gang_model.specs.Source.Tokens.{Lexeme}
use Rattle.gang_model.specs.Source.Parsed.{ParsedExpr, ParsedDim, ParsedTarget, ParsedStmt, ParsedEmpty, ParsedBlock, ParsedDeclare, ParsedAssign, ParsedChange, ParsedIncrement, ParsedDoCall, ParsedBreak, ParsedContinue, ParsedReturn, ParsedIf, ParsedIfElse, ParsedWhile, ParsedDo, ParsedFor, ParsedSwitch, ParsedForEach, ParsedForEachActive, ParsedForEachUnique, ParsedStmts, ParsedLast, ParsedNext, ParsedSegments, ParsedNoMore, ParsedSegment, ParsedFunction, ParsedSource, ParsedFunctionItem, ParsedGlobalItem, functions_in}
use Rattle.gang_model.specs.Source.Spells.{WholeExpr, WholeArgs, AreLight, weight, max_weight}
use Rattle.gang_model.specs.Source.SpellsStatements.{Maybe, InParens, InBrackets, SpellsList, SpellsValue, SpellsDeclaration, SpellsTarget, TargetThen, ThenTarget, SpellsSimple, SpellsStart, SpellsUpdate, SpellsRounds, SpellsDim, SpellsDims, SpellsDistinct, OpensBody, SpellsStmt, SpellsStmts, SpellsSegments}
use Rattle.gang_model.specs.Source.SpellsSource.{SpellsFunction, IsTree, max_nesting}
use Rattle.gang_model.proofs.StandingLaws.{Each}
use Rattle.gang_model.proofs.NestingLaws.{opened}

-- an expression of at most 256 operators, calls and indexings
abbrev pub IsLight : ParsedExpr → Type 0
IsLight e = weight e ≤ max_weight

-- so is one that may be missing
abbrev pub IsLightIfAny : Option ParsedExpr → Type 0
IsLightIfAny None = Unit {0}
IsLightIfAny (Some e) = IsLight e

abbrev pub AreLightDims : List ParsedDim → Type 0
AreLightDims [] = Unit {0}
AreLightDims (d ∷ dims) = IsLight d.low × IsLight d.high × AreLightDims dims

abbrev mutual
  -- each whole expression of a statement is light
  pub IsLightStmt : ParsedStmt → Type 0
  IsLightStmt (ParsedBlock ss) = AreLightStmts ss
  IsLightStmt (ParsedDeclare p spec at name e) = IsLightIfAny e
  IsLightStmt (ParsedAssign p target e) = IsLightIfAny target.index × IsLight e
  IsLightStmt (ParsedChange p target op e) = IsLightIfAny target.index × IsLight e
  IsLightStmt (ParsedIncrement p target op) = IsLightIfAny target.index
  IsLightStmt (ParsedDoCall p name args) = AreLight args
  IsLightStmt (ParsedReturn p e) = IsLightIfAny e
  IsLightStmt (ParsedIf p e a) = IsLight e × IsLightStmt a
  IsLightStmt (ParsedIfElse p e a b) = IsLight e × IsLightStmt a × IsLightStmt b
  IsLightStmt (ParsedWhile p e body) = IsLight e × IsLightStmt body
  IsLightStmt (ParsedDo body p e) = IsLight e × IsLightStmt body
  IsLightStmt (ParsedFor p start e update body) = IsLightStmt start × IsLightIfAny e × IsLightStmt update × IsLightStmt body
  IsLightStmt (ParsedSwitch p e segments) = IsLight e × AreLightSegments segments
  IsLightStmt (ParsedForEach p is_tiled dims body) = AreLightDims dims × IsLightStmt body
  IsLightStmt (ParsedForEachActive p at name body) = IsLightStmt body
  IsLightStmt (ParsedForEachUnique p at name e body) = IsLight e × IsLightStmt body
  IsLightStmt s = Unit {0}

  -- so is each of statements
  pub AreLightStmts : ParsedStmts → Type 0
  AreLightStmts ParsedLast = Unit {0}
  AreLightStmts (ParsedNext s ss) = IsLightStmt s × AreLightStmts ss

  -- so is each of segments
  pub AreLightSegments : ParsedSegments → Type 0
  AreLightSegments ParsedNoMore = Unit {0}
  AreLightSegments (ParsedSegment p label ss rest) = AreLightStmts ss × AreLightSegments rest

-- ---- what is opened

-- a spelled statement is light
abbrev SpelledLight : ParsedStmt → Type 0
SpelledLight s = (d : ℕ) (ts rest : List Lexeme) → SpellsStmt s d ts rest → IsLightStmt s

light_body : (s : ParsedStmt) → SpelledLight s → (d : ℕ) (ts rest : List Lexeme) → OpensBody s d (λ inner. SpellsStmt s inner ts rest) → IsLightStmt s
light_body (ParsedBlock ss) light d ts rest h = light d ts rest h
light_body s light d ts rest h = let within = opened d (λ inner. SpellsStmt s inner ts rest) h in light within.0 ts rest within.2

-- ( .. ) with what is shown of its inside
in_parens : (d : ℕ) (inside : ℕ → List Lexeme → List Lexeme → Type 0) (P : Type 0) (ts rest : List Lexeme) → InParens d inside ts rest
    → ((inner : ℕ) (a b : List Lexeme) → inside inner a b → P) → P
in_parens d inside P ts rest h shown = let within = opened d (λ inner. inside inner h.0 h.1) h.3 in shown within.0 h.0 h.1 within.2

light_in_parens : (d : ℕ) (e : ParsedExpr) (ts rest : List Lexeme) → InParens d (λ inner. WholeExpr inner e) ts rest → IsLight e
light_in_parens d e ts rest h = in_parens d (λ inner. WholeExpr inner e) (IsLight e) ts rest h (λ inner a b whole. whole.1)

-- ---- parts of statements

light_if_any : (d : ℕ) (e : Option ParsedExpr) (ts rest : List Lexeme) → Maybe (WholeExpr d) e ts rest → IsLightIfAny e
light_if_any d None ts rest h = tt
light_if_any d (Some e) ts rest h = h.1

light_value : (d : ℕ) (e : Option ParsedExpr) (ts rest : List Lexeme) → Maybe (SpellsValue d) e ts rest → IsLightIfAny e
light_value d None ts rest h = tt
light_value d (Some e) ts rest h = h.2.1

light_index : (d : ℕ) (e : Option ParsedExpr) (ts rest : List Lexeme) → Maybe (λ i. InBrackets d (λ inner. WholeExpr inner i)) e ts rest → IsLightIfAny e
light_index d None ts rest h = tt
light_index d (Some e) ts rest h = (opened d (λ inner. WholeExpr inner e h.0 h.1) h.3).2.1

light_target : (d : ℕ) (target : ParsedTarget) (ts rest : List Lexeme) → SpellsTarget d target ts rest → IsLightIfAny target.index
light_target d target ts rest h = light_index d target.index h.0 rest h.2

light_either : (d : ℕ) (target : ParsedTarget) (m : Mark) (ts rest : List Lexeme) → TargetThen d target m ts rest ⊎ ThenTarget d target m ts rest → IsLightIfAny target.index
light_either d target m ts rest (inl h) = light_target d target ts h.0 h.1
light_either d target m ts rest (inr h) = light_target d target h.0 rest h.2

light_declaration : (d : ℕ) (s : ParsedStmt) (ts rest : List Lexeme) → SpellsDeclaration d s ts rest → IsLightStmt s
light_declaration d (ParsedDeclare at spec name_at name value) ts rest h = light_value d value h.1 rest h.6
light_declaration d s ts rest h = absurd h

light_simple : (d : ℕ) (s : ParsedStmt) (ts rest : List Lexeme) → SpellsSimple d s ts rest → IsLightStmt s
light_simple d (ParsedAssign at target e) ts rest h = (light_target d target ts h.0 h.3, h.5.1)
light_simple d (ParsedChange at target op e) ts rest h = (light_target d target ts h.1 h.4, h.7.1)
light_simple d (ParsedIncrement at target op) ts rest h = light_either d target h.0 ts rest h.3
light_simple d (ParsedDoCall at name args) ts rest h =
    in_parens d (λ inner. WholeArgs inner args) (AreLight args) h.0 rest h.2 (λ inner a b whole. whole.1)
light_simple d s ts rest h = absurd h

light_start : (d : ℕ) (s : ParsedStmt) (ts rest : List Lexeme) → SpellsStart d s ts rest → IsLightStmt s
light_start d ParsedEmpty ts rest h = tt
light_start d s ts rest (inl h) = light_declaration d s ts rest h
light_start d s ts rest (inr h) = light_simple d s ts rest h

light_update : (d : ℕ) (s : ParsedStmt) (ts rest : List Lexeme) → SpellsUpdate d s ts rest → IsLightStmt s
light_update d ParsedEmpty ts rest h = tt
light_update d s ts rest h = light_simple d s ts rest h

light_dims : (d : ℕ) (dims : List ParsedDim) (ts rest : List Lexeme) → SpellsList (SpellsDim d) dims ts rest → AreLightDims dims
light_dims d [] ts rest h = absurd h
light_dims d (x ∷ []) ts rest h = (h.6.1, h.8.1, tt)
light_dims d (x ∷ y ∷ dims) ts rest h = (h.2.6.1, h.2.8.1, light_dims d (y ∷ dims) h.1 rest h.4)

-- ---- statements

mutual
  light_stmt : (s : ParsedStmt) → SpelledLight s
  light_stmt ParsedEmpty d ts rest h = tt
  light_stmt (ParsedBlock ss) d ts rest h =
      let inside = opened d (λ inner. SpellsStmts ss inner h.0 h.1) h.3 in light_stmts ss inside.0 h.0 h.1 inside.2
  light_stmt (ParsedDeclare at spec name_at name value) d ts rest h = light_declaration d (ParsedDeclare at spec name_at name value) ts h.0 h.1
  light_stmt (ParsedBreak at) d ts rest h = tt
  light_stmt (ParsedContinue at) d ts rest h = tt
  light_stmt (ParsedReturn at value) d ts rest h = light_if_any d value h.0 h.1 h.3
  light_stmt (ParsedIf at e x) d ts rest h = (light_in_parens d e h.0 h.1 h.3, light_body x (light_stmt x) d h.1 rest h.4)
  light_stmt (ParsedIfElse at e x y) d ts rest h = (light_in_parens d e h.0 h.1 h.5, light_body x (light_stmt x) d h.1 h.2 h.6, light_body y (light_stmt y) d h.3 rest h.8)
  light_stmt (ParsedWhile at e x) d ts rest h = (light_in_parens d e h.0 h.1 h.3, light_body x (light_stmt x) d h.1 rest h.4)
  light_stmt (ParsedDo x at e) d ts rest h = (light_in_parens d e h.3 h.4 h.8, light_body x (light_stmt x) d h.1 h.2 h.6)
  light_stmt (ParsedFor at start test update x) d ts rest h =
      in_parens d (SpellsRounds start test update) (IsLightStmt (ParsedFor at start test update x)) h.0 h.1 h.3
      (λ inner a b k. (light_start inner start a k.0 k.4, light_if_any inner test k.1 k.2 k.6, light_update inner update k.3 b k.8, light_body x (light_stmt x) d h.1 rest h.4))
  light_stmt (ParsedSwitch at e segments) d ts rest h =
      let inside = opened d (λ inner. SpellsSegments segments inner h.2 h.3) h.7 in
      (light_in_parens d e h.0 h.1 h.5, light_segments segments inside.0 h.2 h.3 inside.2)
  light_stmt (ParsedForEach at is_tiled dims x) d ts rest h = (
    in_parens d (SpellsDims dims) (AreLightDims dims) h.0 h.1 h.3 (λ inner a b k. light_dims inner dims a b k.0),
    light_body x (light_stmt x) d h.1 rest h.4,
  )
  light_stmt (ParsedForEachActive at name_at name x) d ts rest h = light_body x (light_stmt x) d h.1 rest h.4
  light_stmt (ParsedForEachUnique at name_at name e x) d ts rest h = (
    in_parens d (SpellsDistinct name_at name e) (IsLight e) h.0 h.1 h.3 (λ inner a b k. k.4.1),
    light_body x (light_stmt x) d h.1 rest h.4,
  )
  light_stmt s d ts rest h = light_simple d s ts h.0 h.1

  light_stmts : (ss : ParsedStmts) (d : ℕ) (ts rest : List Lexeme) → SpellsStmts ss d ts rest → AreLightStmts ss
  light_stmts ParsedLast d ts rest h = tt
  light_stmts (ParsedNext s ss) d ts rest h = (light_stmt s d ts h.0 h.1, light_stmts ss d h.0 rest h.2)

  light_segments : (segments : ParsedSegments) (d : ℕ) (ts rest : List Lexeme) → SpellsSegments segments d ts rest → AreLightSegments segments
  light_segments ParsedNoMore d ts rest h = tt
  light_segments (ParsedSegment at label ss segments) d ts rest h = (light_stmts ss d h.0 h.1 h.3, light_segments segments d h.1 rest h.5)

-- ---- sources

-- a function's body is light
abbrev pub IsLightFunction : ParsedFunction → Type 0
IsLightFunction f = AreLightStmts f.body

light_function : (f : ParsedFunction) (ts rest : List Lexeme) → SpellsFunction f ts rest → IsLightFunction f
light_function f ts rest h =
    let inside = opened max_nesting (λ inner. SpellsStmts f.body inner h.5 h.6) h.15 in
    light_stmts f.body inside.0 h.5 h.6 inside.2

-- each function of a spelled source is light
pub light_functions : (source : ParsedSource) (ts : List Lexeme) → IsTree source ts → Each IsLightFunction (functions_in source)
light_functions [] ts tree = tt
light_functions (ParsedFunctionItem f ∷ items) ts tree = (light_function f ts tree.0 tree.1, light_functions items tree.0 tree.2)
light_functions (ParsedGlobalItem g ∷ items) ts tree = light_functions items tree.0 tree.2
