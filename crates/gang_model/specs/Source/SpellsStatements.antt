-- What a statement is spelled as, form by form.
use Rattle.std.specs.Prelude.{◌≡◌, ◌⊎◌, ℕ, suc, ◌≤◌, Bool, true, false, List, [], ◌∷◌, length, Option, Some, None}
use Rattle.gang_types.specs.declared.operators.BinaryOp.{BinaryOp}
use Rattle.gang_types.specs.declared.operators.BinaryOp.TheVariants as binary
use Rattle.gang_types.specs.declared.places.Place.{Place}
use Rattle.gang_model.specs.declared.marks.Mark.{Mark}
use Rattle.gang_model.specs.declared.marks.Mark.TheVariants as mark
use Rattle.gang_model.specs.declared.forms.Spec.{Spec}
use Rattle.gang_model.specs.declared.forms.Label.{Label}
use Rattle.gang_model.specs.Source.Tokens.{named, numbered, marked, Lexeme}
use Rattle.gang_model.specs.Source.Specs.{spec_of}
use Rattle.gang_model.specs.Source.Spells.{Takes, TakesAt, TakesWords, Opens, WholeExpr, WholeArgs}
use Rattle.gang_model.specs.Source.Parsed.{ParsedExpr, ParsedDim, ParsedTarget, ParsedStmt, ParsedEmpty, ParsedBlock, ParsedDeclare, ParsedAssign, ParsedChange, ParsedIncrement, ParsedDoCall, ParsedBreak, ParsedContinue, ParsedReturn, ParsedIf, ParsedIfElse, ParsedWhile, ParsedDo, ParsedFor, ParsedSwitch, ParsedForEach, ParsedForEachActive, ParsedForEachUnique, ParsedStmts, ParsedLast, ParsedNext, ParsedSegments, ParsedNoMore, ParsedSegment}

-- ---- tokens

-- a word, or its form with `c`
abbrev pub TakesEither : (word other : Mark) → Place → List Lexeme → List Lexeme → Type 0
TakesEither word other at ts rest = TakesAt (marked word) at ts rest ⊎ TakesAt (marked other) at ts rest

-- no such mark comes next
abbrev pub NotNext : Mark → List Lexeme → Type 0
NotNext m ts = (rest : List Lexeme) → Takes (marked m) ts rest → ⊥

-- the next token stands here
abbrev pub BeginsAt : Place → List Lexeme → Type 0
BeginsAt at [] = ⊥
BeginsAt at (t ∷ ts) = t.place ≡ at

-- a part that may be missing
abbrev pub Maybe : {A : Type 0} → (A → List Lexeme → List Lexeme → Type 0) → Option A → List Lexeme → List Lexeme → Type 0
Maybe one None ts rest = ts ≡ rest
Maybe one (Some x) ts rest = one x ts rest

-- ( .. ), which is a nesting
abbrev pub InParens : (nestings : ℕ) → (ℕ → List Lexeme → List Lexeme → Type 0) → List Lexeme → List Lexeme → Type 0
InParens d inside ts rest = (a b : List Lexeme)
    × Takes (marked mark.LeftParen) ts a × Opens d (λ inner. inside inner a b) × Takes (marked mark.RightParen) b rest

-- [ .. ], likewise
abbrev pub InBrackets : (nestings : ℕ) → (ℕ → List Lexeme → List Lexeme → Type 0) → List Lexeme → List Lexeme → Type 0
InBrackets d inside ts rest = (a b : List Lexeme)
    × Takes (marked mark.LeftBracket) ts a × Opens d (λ inner. inside inner a b) × Takes (marked mark.RightBracket) b rest

-- one or more, with commas between them
abbrev pub SpellsList : {A : Type 0} → (A → List Lexeme → List Lexeme → Type 0) → List A → List Lexeme → List Lexeme → Type 0
SpellsList one [] ts rest = ⊥
SpellsList one (x ∷ []) ts rest = one x ts rest
SpellsList one (x ∷ xs) ts rest = (a b : List Lexeme) × one x ts a × Takes (marked mark.Comma) a b × SpellsList one xs b rest

-- ---- declarations, assignments and calls

-- the words before a declared name, in any order
abbrev pub SpellsSpec : Spec → List Lexeme → List Lexeme → Type 0
SpellsSpec spec ts rest = (ws : List Mark) × TakesWords ws ts rest × (spec_of ws ≡ Some spec)

-- `export`, `static` and `inline` do not stand on a variable of a function
pub record IsLocal (spec : Spec) : Type 0 where
  pub no_export : spec.is_exported ≡ false
  pub no_static : spec.is_static ≡ false
  pub no_inline : spec.is_inline ≡ false

-- = e
abbrev pub SpellsValue : (nestings : ℕ) → ParsedExpr → List Lexeme → List Lexeme → Type 0
SpellsValue d e ts rest = (a : List Lexeme) × Takes (marked mark.Assign) ts a × WholeExpr d e a rest

abbrev pub SpellsDeclaration : (nestings : ℕ) → ParsedStmt → List Lexeme → List Lexeme → Type 0
SpellsDeclaration d (ParsedDeclare at spec name_at name value) ts rest = (a b : List Lexeme)
    × BeginsAt at ts × SpellsSpec spec ts a × IsLocal spec × TakesAt (named name) name_at a b × Maybe (SpellsValue d) value b rest
SpellsDeclaration d _ ts rest = ⊥

-- name or name [ e ]
abbrev pub SpellsTarget : (nestings : ℕ) → ParsedTarget → List Lexeme → List Lexeme → Type 0
SpellsTarget d target ts rest = (a : List Lexeme)
    × TakesAt (named target.name) target.at ts a × Maybe (λ e. InBrackets d (λ inner. WholeExpr inner e)) target.index a rest

-- what a mark does with a target and a value
abbrev pub change_of : Mark → Option BinaryOp
change_of mark.PlusAssign = Some binary.Add
change_of mark.MinusAssign = Some binary.Sub
change_of mark.StarAssign = Some binary.Mul
change_of mark.SlashAssign = Some binary.Div
change_of mark.PercentAssign = Some binary.Rem
change_of mark.AmpersandAssign = Some binary.And
change_of mark.BarAssign = Some binary.Or
change_of mark.CaretAssign = Some binary.Xor
change_of mark.ShiftLeftAssign = Some binary.Shl
change_of mark.ShiftRightAssign = Some binary.Shr
change_of _ = None

abbrev pub increment_of : Mark → Option BinaryOp
increment_of mark.PlusPlus = Some binary.Add
increment_of mark.MinusMinus = Some binary.Sub
increment_of _ = None

-- the mark behind the target
abbrev pub TargetThen : (nestings : ℕ) → ParsedTarget → Mark → List Lexeme → List Lexeme → Type 0
TargetThen d target m ts rest = (a : List Lexeme) × SpellsTarget d target ts a × Takes (marked m) a rest

-- the mark before it
abbrev pub ThenTarget : (nestings : ℕ) → ParsedTarget → Mark → List Lexeme → List Lexeme → Type 0
ThenTarget d target m ts rest = (a : List Lexeme) × Takes (marked m) ts a × SpellsTarget d target a rest

-- an assignment, an increment or a call, without what ends it
abbrev pub SpellsSimple : (nestings : ℕ) → ParsedStmt → List Lexeme → List Lexeme → Type 0
SpellsSimple d (ParsedAssign at target e) ts rest = (a b : List Lexeme)
    × BeginsAt at ts × SpellsTarget d target ts a × Takes (marked mark.Assign) a b × WholeExpr d e b rest
SpellsSimple d (ParsedChange at target op e) ts rest = (m : Mark) × (a b : List Lexeme)
    × BeginsAt at ts × SpellsTarget d target ts a × (change_of m ≡ Some op) × Takes (marked m) a b × WholeExpr d e b rest
SpellsSimple d (ParsedIncrement at target op) ts rest = (m : Mark)
    × BeginsAt at ts × (increment_of m ≡ Some op) × (TargetThen d target m ts rest ⊎ ThenTarget d target m ts rest)
SpellsSimple d (ParsedDoCall at name es) ts rest = (a : List Lexeme)
    × TakesAt (named name) at ts a × InParens d (λ inner. WholeArgs inner es) a rest
SpellsSimple d _ ts rest = ⊥

-- ---- heads

-- the start of a `for`
abbrev pub SpellsStart : (nestings : ℕ) → ParsedStmt → List Lexeme → List Lexeme → Type 0
SpellsStart d ParsedEmpty ts rest = ts ≡ rest
SpellsStart d s ts rest = SpellsDeclaration d s ts rest ⊎ SpellsSimple d s ts rest

-- its update
abbrev pub SpellsUpdate : (nestings : ℕ) → ParsedStmt → List Lexeme → List Lexeme → Type 0
SpellsUpdate d ParsedEmpty ts rest = ts ≡ rest
SpellsUpdate d s ts rest = SpellsSimple d s ts rest

abbrev pub SpellsRounds : (start : ParsedStmt) → Option ParsedExpr → (update : ParsedStmt) → (nestings : ℕ) → List Lexeme → List Lexeme → Type 0
SpellsRounds start test update d ts rest = (a b c f : List Lexeme)
    × SpellsStart d start ts a × Takes (marked mark.Semicolon) a b
    × Maybe (WholeExpr d) test b c × Takes (marked mark.Semicolon) c f
    × SpellsUpdate d update f rest

-- name = e ... e
abbrev pub SpellsDim : (nestings : ℕ) → ParsedDim → List Lexeme → List Lexeme → Type 0
SpellsDim d dim ts rest = (a b c f : List Lexeme)
    × TakesAt (named dim.name) dim.at ts a × Takes (marked mark.Assign) a b × WholeExpr d dim.low b c
    × Takes (marked mark.Dots) c f × WholeExpr d dim.high f rest

abbrev pub max_dims : ℕ
max_dims = 3

-- one to three, with commas between them
abbrev pub SpellsDims : List ParsedDim → (nestings : ℕ) → List Lexeme → List Lexeme → Type 0
SpellsDims dims d ts rest = SpellsList (SpellsDim d) dims ts rest × (length dims ≤ max_dims)

abbrev pub foreach_word : (is_tiled : Bool) → Mark
foreach_word true = mark.ForeachTiled
foreach_word false = mark.Foreach

-- name in e
abbrev pub SpellsDistinct : (at : Place) → List ℕ → ParsedExpr → (nestings : ℕ) → List Lexeme → List Lexeme → Type 0
SpellsDistinct at name e d ts rest = (a b : List Lexeme) × TakesAt (named name) at ts a × Takes (marked mark.In) a b × WholeExpr d e b rest

-- ---- segments

-- -
abbrev pub SpellsSign : (is_negative : Bool) → List Lexeme → List Lexeme → Type 0
SpellsSign false ts rest = ts ≡ rest
SpellsSign true ts rest = Takes (marked mark.Minus) ts rest

-- case number : or default :
abbrev pub SpellsLabel : (at : Place) → Option Label → List Lexeme → List Lexeme → Type 0
SpellsLabel at (Some label) ts rest = (is_unsigned is_long : Bool) × (a b c : List Lexeme)
    × TakesAt (marked mark.Case) at ts a × SpellsSign label.is_negative a b
    × Takes (numbered label.value is_unsigned is_long) b c × Takes (marked mark.Colon) c rest
SpellsLabel at None ts rest = (a : List Lexeme) × TakesAt (marked mark.Default) at ts a × Takes (marked mark.Colon) a rest

abbrev pub is_declaration : ParsedStmt → Bool
is_declaration (ParsedDeclare at spec name_at name value) = true
is_declaration _ = false

-- none of the statements themselves is a declaration; those inside them may be
abbrev pub HasNoDeclaration : ParsedStmts → Type 0
HasNoDeclaration ParsedLast = Unit {0}
HasNoDeclaration (ParsedNext s ss) = (is_declaration s ≡ false) × HasNoDeclaration ss

-- how many labels a switch may have
abbrev pub max_labels : ℕ
max_labels = 256

abbrev pub label_count : ParsedSegments → ℕ
label_count ParsedNoMore = 0
label_count (ParsedSegment at label ss segments) = suc (label_count segments)

-- ---- statements

-- a block is its own nesting, and another body is one more
abbrev pub OpensBody : ParsedStmt → (nestings : ℕ) → (ℕ → Type 0) → Type 0
OpensBody (ParsedBlock ss) d inside = inside d
OpensBody _ d inside = Opens d inside

-- The tokens are the statement's, and then the rest, with at most so many nestings.
abbrev mutual
  pub SpellsStmt : ParsedStmt → (nestings : ℕ) → List Lexeme → List Lexeme → Type 0
  SpellsStmt ParsedEmpty d ts rest = Takes (marked mark.Semicolon) ts rest
  SpellsStmt (ParsedBlock ss) d ts rest = (a b : List Lexeme)
      × Takes (marked mark.LeftBrace) ts a × Opens d (λ inner. SpellsStmts ss inner a b) × Takes (marked mark.RightBrace) b rest
  SpellsStmt (ParsedDeclare at spec name_at name value) d ts rest = (a : List Lexeme)
      × SpellsDeclaration d (ParsedDeclare at spec name_at name value) ts a × Takes (marked mark.Semicolon) a rest
  SpellsStmt (ParsedBreak at) d ts rest = (a : List Lexeme)
      × TakesAt (marked mark.Break) at ts a × Takes (marked mark.Semicolon) a rest
  SpellsStmt (ParsedContinue at) d ts rest = (a : List Lexeme)
      × TakesAt (marked mark.Continue) at ts a × Takes (marked mark.Semicolon) a rest
  SpellsStmt (ParsedReturn at value) d ts rest = (a b : List Lexeme)
      × TakesAt (marked mark.Return) at ts a × Maybe (WholeExpr d) value a b × Takes (marked mark.Semicolon) b rest
  -- an `else` belongs to the nearest `if` that can take it: an `if` without one stands before no `else`
  SpellsStmt (ParsedIf at e x) d ts rest = (a b : List Lexeme)
      × TakesEither mark.If mark.Cif at ts a × InParens d (λ inner. WholeExpr inner e) a b
      × OpensBody x d (λ inner. SpellsStmt x inner b rest) × NotNext mark.Else rest
  SpellsStmt (ParsedIfElse at e x y) d ts rest = (a b c f : List Lexeme)
      × TakesEither mark.If mark.Cif at ts a × InParens d (λ inner. WholeExpr inner e) a b
      × OpensBody x d (λ inner. SpellsStmt x inner b c)
      × Takes (marked mark.Else) c f × OpensBody y d (λ inner. SpellsStmt y inner f rest)
  SpellsStmt (ParsedWhile at e x) d ts rest = (a b : List Lexeme)
      × TakesEither mark.While mark.Cwhile at ts a × InParens d (λ inner. WholeExpr inner e) a b
      × OpensBody x d (λ inner. SpellsStmt x inner b rest)
  -- the place is that of its `while`
  SpellsStmt (ParsedDo x at e) d ts rest = (start : Place) × (a b c f : List Lexeme)
      × TakesEither mark.Do mark.Cdo start ts a × OpensBody x d (λ inner. SpellsStmt x inner a b)
      × TakesAt (marked mark.While) at b c × InParens d (λ inner. WholeExpr inner e) c f × Takes (marked mark.Semicolon) f rest
  SpellsStmt (ParsedFor at start test update x) d ts rest = (a b : List Lexeme)
      × TakesEither mark.For mark.Cfor at ts a × InParens d (SpellsRounds start test update) a b
      × OpensBody x d (λ inner. SpellsStmt x inner b rest)
  SpellsStmt (ParsedSwitch at e segments) d ts rest = (a b c f : List Lexeme)
      × TakesAt (marked mark.Switch) at ts a × InParens d (λ inner. WholeExpr inner e) a b
      × Takes (marked mark.LeftBrace) b c × Opens d (λ inner. SpellsSegments segments inner c f) × (label_count segments ≤ max_labels)
      × Takes (marked mark.RightBrace) f rest
  SpellsStmt (ParsedForEach at is_tiled dims x) d ts rest = (a b : List Lexeme)
      × TakesAt (marked (foreach_word is_tiled)) at ts a
      × InParens d (SpellsDims dims) a b
      × OpensBody x d (λ inner. SpellsStmt x inner b rest)
  SpellsStmt (ParsedForEachActive at name_at name x) d ts rest = (a b : List Lexeme)
      × TakesAt (marked mark.ForeachActive) at ts a × InParens d (λ inner. TakesAt (named name) name_at) a b
      × OpensBody x d (λ inner. SpellsStmt x inner b rest)
  SpellsStmt (ParsedForEachUnique at name_at name e x) d ts rest = (a b : List Lexeme)
      × TakesAt (marked mark.ForeachUnique) at ts a × InParens d (SpellsDistinct name_at name e) a b
      × OpensBody x d (λ inner. SpellsStmt x inner b rest)
  SpellsStmt s d ts rest = (a : List Lexeme) × SpellsSimple d s ts a × Takes (marked mark.Semicolon) a rest

  pub SpellsStmts : ParsedStmts → (nestings : ℕ) → List Lexeme → List Lexeme → Type 0
  SpellsStmts ParsedLast d ts rest = ts ≡ rest
  SpellsStmts (ParsedNext s ss) d ts rest = (a : List Lexeme) × SpellsStmt s d ts a × SpellsStmts ss d a rest

  -- each label with the statements up to the next one
  pub SpellsSegments : ParsedSegments → (nestings : ℕ) → List Lexeme → List Lexeme → Type 0
  SpellsSegments ParsedNoMore d ts rest = ts ≡ rest
  SpellsSegments (ParsedSegment at label ss segments) d ts rest = (a b : List Lexeme)
      × SpellsLabel at label ts a × SpellsStmts ss d a b × HasNoDeclaration ss × SpellsSegments segments d b rest
