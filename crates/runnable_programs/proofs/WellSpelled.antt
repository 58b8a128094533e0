-- What the spelling of a source keeps out of its tree: a `return` in the start or the update of a `for`, a declaration right in the
-- braces of a `switch`, and a domain without dimensions or with more than three.
use Rattle.std.proofs.Common.{ℕ, ◌≤◌, false, List, [], ◌∷◌, length, ◌≡◌, refl, ◌⊎◌, inl, inr, arith}
use Rattle.gang_model.specs.Source.Tokens.{Lexeme}
use Rattle.gang_model.specs.Source.Parsed.{ParsedDim, ParsedStmt, ParsedEmpty, ParsedBlock, ParsedDeclare, ParsedAssign, ParsedChange, ParsedIncrement, ParsedDoCall, ParsedBreak, ParsedContinue, ParsedReturn, ParsedIf, ParsedIfElse, ParsedWhile, ParsedDo, ParsedFor, ParsedSwitch, ParsedForEach, ParsedForEachActive, ParsedForEachUnique, ParsedStmts, ParsedLast, ParsedNext, ParsedSegments, ParsedNoMore, ParsedSegment, ParsedFunction, ParsedSource, ParsedFunctionItem, ParsedGlobalItem, functions_in}
use Rattle.gang_model.specs.Source.SpellsStatements.{SpellsList, SpellsDeclaration, SpellsSimple, SpellsStart, SpellsUpdate, SpellsDim, max_dims, HasNoDeclaration, OpensBody, SpellsStmt, SpellsStmts, SpellsSegments}
use Rattle.gang_model.specs.Source.SpellsSource.{SpellsFunction, IsTree, max_nesting}
use Rattle.gang_model.specs.Names.Scope.{has_return}
use Rattle.gang_model.proofs.StandingLaws.{Each}
use Rattle.gang_model.proofs.NestingLaws.{opened}

-- a domain has one to three dimensions
abbrev pub HasFewDims : List ParsedDim → Type 0
HasFewDims dims = (1 ≤ length dims) × (length dims ≤ max_dims)

abbrev mutual
  -- in a statement no head of a `for` holds a `return`, no segment's own statements are declarations, and domains have few dimensions
  pub IsWellSpelled : ParsedStmt → Type 0
  IsWellSpelled (ParsedBlock ss) = AreWellSpelled ss
  IsWellSpelled (ParsedIf p e a) = IsWellSpelled a
  IsWellSpelled (ParsedIfElse p e a b) = IsWellSpelled a × IsWellSpelled b
  IsWellSpelled (ParsedWhile p e body) = IsWellSpelled body
  IsWellSpelled (ParsedDo body p e) = IsWellSpelled body
  IsWellSpelled (ParsedFor p start e update body) = (has_return start ≡ false) × (has_return update ≡ false) × IsWellSpelled start × IsWellSpelled update × IsWellSpelled body
  IsWellSpelled (ParsedSwitch p e segments) = SegmentsWellSpelled segments
  IsWellSpelled (ParsedForEach p is_tiled dims body) = HasFewDims dims × IsWellSpelled body
  IsWellSpelled (ParsedForEachActive p at name body) = IsWellSpelled body
  IsWellSpelled (ParsedForEachUnique p at name e body) = IsWellSpelled body
  IsWellSpelled s = Unit {0}

  pub AreWellSpelled : ParsedStmts → Type 0
  AreWellSpelled ParsedLast = Unit {0}
  AreWellSpelled (ParsedNext s ss) = IsWellSpelled s × AreWellSpelled ss

  pub SegmentsWellSpelled : ParsedSegments → Type 0
  SegmentsWellSpelled ParsedNoMore = Unit {0}
  SegmentsWellSpelled (ParsedSegment p label ss rest) = HasNoDeclaration ss × AreWellSpelled ss × SegmentsWellSpelled rest

-- ---- heads

-- what a head holds
abbrev IsHead : ParsedStmt → Type 0
IsHead s = (has_return s ≡ false) × IsWellSpelled s

declared_head : (d : ℕ) (s : ParsedStmt) (ts rest : List Lexeme) → SpellsDeclaration d s ts rest → IsHead s
declared_head d (ParsedDeclare p spec at name e) ts rest h = (refl, tt)
declared_head d s ts rest h = absurd h

simple_head : (d : ℕ) (s : ParsedStmt) (ts rest : List Lexeme) → SpellsSimple d s ts rest → IsHead s
simple_head d (ParsedAssign p target e) ts rest h = (refl, tt)
simple_head d (ParsedChange p target op e) ts rest h = (refl, tt)
simple_head d (ParsedIncrement p target op) ts rest h = (refl, tt)
simple_head d (ParsedDoCall p name args) ts rest h = (refl, tt)
simple_head d s ts rest h = absurd h

either_head : (d : ℕ) (s : ParsedStmt) (ts rest : List Lexeme) → SpellsDeclaration d s ts rest ⊎ SpellsSimple d s ts rest → IsHead s
either_head d s ts rest (inl h) = declared_head d s ts rest h
either_head d s ts rest (inr h) = simple_head d s ts rest h

start_head : (d : ℕ) (s : ParsedStmt) (ts rest : List Lexeme) → SpellsStart d s ts rest → IsHead s
start_head d ParsedEmpty ts rest h = (refl, tt)
start_head d s ts rest h = either_head d s ts rest h

update_head : (d : ℕ) (s : ParsedStmt) (ts rest : List Lexeme) → SpellsUpdate d s ts rest → IsHead s
update_head d ParsedEmpty ts rest h = (refl, tt)
update_head d s ts rest h = simple_head d s ts rest h

-- ---- statements

body_opened : (s : ParsedStmt) (d : ℕ) (inside : ℕ → Type 0) → OpensBody s d inside → (inner : ℕ) × inside inner
body_opened (ParsedBlock ss) d inside h = (d, h)
body_opened s d inside h = let within = opened d inside h in (within.0, within.2)

-- what stands with commas between is not nothing
some_listed : {A : Type 0} (one : A → List Lexeme → List Lexeme → Type 0) (xs : List A) (ts rest : List Lexeme) → SpellsList one xs ts rest → 1 ≤ length xs
some_listed one [] ts rest h = absurd h
some_listed one (x ∷ xs) ts rest h = omega arith

mutual
  -- what tokens spell
  spelled_statement : (s : ParsedStmt) (d : ℕ) (ts rest : List Lexeme) → SpellsStmt s d ts rest → IsWellSpelled s
  spelled_statement ParsedEmpty d ts rest h = tt
  spelled_statement (ParsedBlock ss) d ts rest h =
      let inside = opened d (λ inner. SpellsStmts ss inner h.0 h.1) h.3 in spelled_statements ss inside.0 h.0 h.1 inside.2
  spelled_statement (ParsedDeclare p spec at name e) d ts rest h = tt
  spelled_statement (ParsedAssign p target e) d ts rest h = tt
  spelled_statement (ParsedChange p target op e) d ts rest h = tt
  spelled_statement (ParsedIncrement p target op) d ts rest h = tt
  spelled_statement (ParsedDoCall p name args) d ts rest h = tt
  spelled_statement (ParsedBreak p) d ts rest h = tt
  spelled_statement (ParsedContinue p) d ts rest h = tt
  spelled_statement (ParsedReturn p e) d ts rest h = tt
  spelled_statement (ParsedIf p e a) d ts rest h =
      let inside = body_opened a d (λ inner. SpellsStmt a inner h.1 rest) h.4 in spelled_statement a inside.0 h.1 rest inside.1
  spelled_statement (ParsedIfElse p e a b) d ts rest h =
      let first = body_opened a d (λ inner. SpellsStmt a inner h.1 h.2) h.6 in
      let other = body_opened b d (λ inner. SpellsStmt b inner h.3 rest) h.8 in
      (spelled_statement a first.0 h.1 h.2 first.1, spelled_statement b other.0 h.3 rest other.1)
  spelled_statement (ParsedWhile p e body) d ts rest h =
      let inside = body_opened body d (λ inner. SpellsStmt body inner h.1 rest) h.4 in spelled_statement body inside.0 h.1 rest inside.1
  spelled_statement (ParsedDo body p e) d ts rest h =
      let inside = body_opened body d (λ inner. SpellsStmt body inner h.1 h.2) h.6 in spelled_statement body inside.0 h.1 h.2 inside.1
  spelled_statement (ParsedFor p start e update body) d ts rest h =
      let head = opened d _ h.3.3 in
      let start_is = start_head head.0 start h.3.0 head.2.0 head.2.4 in
      let update_is = update_head head.0 update head.2.3 h.3.1 head.2.8 in
      let inside = body_opened body d (λ inner. SpellsStmt body inner h.1 rest) h.4 in
      (start_is.0, update_is.0, start_is.1, update_is.1, spelled_statement body inside.0 h.1 rest inside.1)
  spelled_statement (ParsedSwitch p e segments) d ts rest h =
      let inside = opened d (λ inner. SpellsSegments segments inner h.2 h.3) h.7 in spelled_segments segments inside.0 h.2 h.3 inside.2
  spelled_statement (ParsedForEach p is_tiled dims body) d ts rest h =
      let head = opened d _ h.3.3 in
      let inside = body_opened body d (λ inner. SpellsStmt body inner h.1 rest) h.4 in
      ((some_listed (SpellsDim head.0) dims h.3.0 h.3.1 head.2.0, head.2.1), spelled_statement body inside.0 h.1 rest inside.1)
  spelled_statement (ParsedForEachActive p at name body) d ts rest h =
      let inside = body_opened body d (λ inner. SpellsStmt body inner h.1 rest) h.4 in spelled_statement body inside.0 h.1 rest inside.1
  spelled_statement (ParsedForEachUnique p at name e body) d ts rest h =
      let inside = body_opened body d (λ inner. SpellsStmt body inner h.1 rest) h.4 in spelled_statement body inside.0 h.1 rest inside.1

  spelled_statements : (ss : ParsedStmts) (d : ℕ) (ts rest : List Lexeme) → SpellsStmts ss d ts rest → AreWellSpelled ss
  spelled_statements ParsedLast d ts rest h = tt
  spelled_statements (ParsedNext s ss) d ts rest h = (spelled_statement s d ts h.0 h.1, spelled_statements ss d h.0 rest h.2)

  spelled_segments : (segments : ParsedSegments) (d : ℕ) (ts rest : List Lexeme) → SpellsSegments segments d ts rest → SegmentsWellSpelled segments
  spelled_segments ParsedNoMore d ts rest h = tt
  spelled_segments (ParsedSegment p label ss segments) d ts rest h = (h.4, spelled_statements ss d h.0 h.1 h.3, spelled_segments segments d h.1 rest h.5)

-- ---- the whole source

abbrev pub HasWellSpelledBody : ParsedFunction → Type 0
HasWellSpelledBody f = AreWellSpelled f.body

abbrev pub IsWellSpelledSource : ParsedSource → Type 0
IsWellSpelledSource source = Each HasWellSpelledBody (functions_in source)

spelled_function : (f : ParsedFunction) (ts rest : List Lexeme) → SpellsFunction f ts rest → HasWellSpelledBody f
spelled_function f ts rest h =
    let inside = opened max_nesting (λ inner. SpellsStmts f.body inner h.5 h.6) h.15 in
    spelled_statements f.body inside.0 h.5 h.6 inside.2

-- a tree that tokens spell
pub well_spelled : (source : ParsedSource) (tokens : List Lexeme) → IsTree source tokens → IsWellSpelledSource source
well_spelled [] tokens tree = tt
well_spelled (ParsedFunctionItem f ∷ items) tokens tree = (spelled_function f tokens tree.0 tree.1, well_spelled items tree.0 tree.2)
well_spelled (ParsedGlobalItem g ∷ items) tokens tree = well_spelled items tree.0 tree.2
