-- The tree of a source, as it is written. Each place is that of the form's first token, where nothing else is said.
use Rattle.std.specs.Prelude.{ℕ, Bool, List, [], ◌∷◌, Option}
use Rattle.gang_types.specs.declared.types.IntType.{IntType}
use Rattle.gang_types.specs.declared.types.Rate.{Rate}
use Rattle.gang_types.specs.declared.operators.UnaryOp.{UnaryOp}
use Rattle.gang_types.specs.declared.operators.BinaryOp.{BinaryOp}
use Rattle.gang_types.specs.declared.places.Place.{Place}
use Rattle.gang_model.specs.declared.forms.Infix.{Infix}
use Rattle.gang_model.specs.declared.forms.Spec.{Spec}
use Rattle.gang_model.specs.declared.forms.GlobalForm.{GlobalForm}
use Rattle.gang_model.specs.declared.forms.Label.{Label}

-- the bytes of a name
abbrev pub Name : Type 0
Name = List ℕ

mutual
  pub data ParsedExpr : Type 0 where
    ParsedNumber : Place → (value : ℕ) → (is_unsigned is_long : Bool) → ParsedExpr
    ParsedBool : Place → Bool → ParsedExpr
    ParsedName : Place → Name → ParsedExpr
    ParsedIndex : Place → Name → (index : ParsedExpr) → ParsedExpr
    ParsedCall : Place → Name → ParsedArgs → ParsedExpr
    ParsedParen : Place → ParsedExpr → ParsedExpr
    ParsedUnary : Place → UnaryOp → ParsedExpr → ParsedExpr
    -- a cast to a rate, if one is written, and to a type, none being `void`
    ParsedCast : Place → Option Rate → Option IntType → ParsedExpr → ParsedExpr
    ParsedBinary : Infix → (left right : ParsedExpr) → ParsedExpr
    ParsedChoice : (test first second : ParsedExpr) → ParsedExpr

  pub data ParsedArgs : Type 0 where
    ParsedEnd : ParsedArgs
    ParsedValue : ParsedExpr → ParsedArgs → ParsedArgs
    -- `&a` and `&a[e]`, at the name
    ParsedPart : Place → Name → ParsedArgs → ParsedArgs
    ParsedPartFrom : Place → Name → (index : ParsedExpr) → ParsedArgs → ParsedArgs

-- `i = low ... high`, at the name
pub record ParsedDim : Type 0 where
  pub at : Place
  pub name : Name
  pub low : ParsedExpr
  pub high : ParsedExpr

-- what is assigned, at the name
pub record ParsedTarget : Type 0 where
  pub at : Place
  pub name : Name
  pub index : Option ParsedExpr

mutual
  pub data ParsedStmt : Type 0 where
    ParsedEmpty : ParsedStmt
    ParsedBlock : ParsedStmts → ParsedStmt
    ParsedDeclare : Place → Spec → (at : Place) → Name → Option ParsedExpr → ParsedStmt
    ParsedAssign : Place → ParsedTarget → ParsedExpr → ParsedStmt
    -- `op=`
    ParsedChange : Place → ParsedTarget → BinaryOp → ParsedExpr → ParsedStmt
    -- `++` and `--`, as Add and Sub, on either side of the target
    ParsedIncrement : Place → ParsedTarget → BinaryOp → ParsedStmt
    ParsedDoCall : Place → Name → ParsedArgs → ParsedStmt
    ParsedBreak ParsedContinue : Place → ParsedStmt
    ParsedReturn : Place → Option ParsedExpr → ParsedStmt
    ParsedIf : Place → ParsedExpr → (first : ParsedStmt) → ParsedStmt
    ParsedIfElse : Place → ParsedExpr → (first other : ParsedStmt) → ParsedStmt
    ParsedWhile : Place → ParsedExpr → (body : ParsedStmt) → ParsedStmt
    -- at its `while`
    ParsedDo : (body : ParsedStmt) → Place → ParsedExpr → ParsedStmt
    -- the start is a declaration, an assignment, `++`, `--`, a call or empty; the update likewise, but no declaration
    ParsedFor : Place → (start : ParsedStmt) → Option ParsedExpr → (update body : ParsedStmt) → ParsedStmt
    ParsedSwitch : Place → ParsedExpr → ParsedSegments → ParsedStmt
    ParsedForEach : Place → (is_tiled : Bool) → List ParsedDim → (body : ParsedStmt) → ParsedStmt
    -- with the name's place
    ParsedForEachActive : Place → (at : Place) → Name → (body : ParsedStmt) → ParsedStmt
    ParsedForEachUnique : Place → (at : Place) → Name → ParsedExpr → (body : ParsedStmt) → ParsedStmt

  pub data ParsedStmts : Type 0 where
    ParsedLast : ParsedStmts
    ParsedNext : ParsedStmt → ParsedStmts → ParsedStmts

  -- a label, none for `default`, and the statements up to the next one
  pub data ParsedSegments : Type 0 where
    ParsedNoMore : ParsedSegments
    ParsedSegment : Place → Option Label → ParsedStmts → ParsedSegments → ParsedSegments

-- at the name
pub record ParsedParam : Type 0 where
  pub at : Place
  pub name : Name
  pub spec : Spec
  pub is_array : Bool

-- at the name, with the place of the closing brace
pub record ParsedFunction : Type 0 where
  pub at : Place
  pub name : Name
  pub spec : Spec
  pub params : List ParsedParam
  pub body : ParsedStmts
  pub closing : Place

-- at the name
pub record ParsedGlobal : Type 0 where
  pub at : Place
  pub name : Name
  pub spec : Spec
  pub form : GlobalForm

pub data ParsedItem : Type 0 where
  ParsedFunctionItem : ParsedFunction → ParsedItem
  ParsedGlobalItem : ParsedGlobal → ParsedItem

-- a source's functions and file-scope variables, in order
abbrev pub ParsedSource : Type 0
ParsedSource = List ParsedItem

abbrev pub functions_in : ParsedSource → List ParsedFunction
functions_in [] = []
functions_in (ParsedFunctionItem f ∷ items) = f ∷ functions_in items
functions_in (ParsedGlobalItem g ∷ items) = functions_in items

abbrev pub globals_in : ParsedSource → List ParsedGlobal
globals_in [] = []
globals_in (ParsedFunctionItem f ∷ items) = globals_in items
globals_in (ParsedGlobalItem g ∷ items) = g ∷ globals_in items
