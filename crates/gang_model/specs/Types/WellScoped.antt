-- What it means that a typed tree names only variables and functions that there are, each as it is declared
-- (a choice of this project: the code that is made of a typed tree rests on it).
use Rattle.std.specs.Prelude.{◌≡◌, true, false, List, [], ◌∷◌, Option, Some, None, slice_get}
use Rattle.gang_types.specs.declared.places.VarId.{VarId}
use Rattle.gang_types.specs.declared.places.VarId.TheVariants.{File, Local}
use Rattle.gang_model.specs.Types.Tree.{Var, Expr, Number, ProgramIndex, ProgramCount, LaneMask, Read, Element, Unary, Binary, Convert, And, Or, Choice, Reduce, Scan, OfOne, OfTwo, Extract, Insert, Rotate, Shift, Shuffle, ShuffleTwo, Select, Target, Scalar, ElementOf, Arg, Value, Array, ResultFor, Nothing, Declares, Assigns, Returns, Dimension, RoundsOf, Rows, Tiles, EachLane, EachValue, Stmt, Empty, Then, Declare, Assign, Change, If, Loop, BodyFirst, Break, Continue, Return, Switch, Segment, ForEach, Call, Check, PackedStore, PackedLoad, Variable}
use Rattle.gang_model.specs.Types.Typing.{var_of}

-- the variables that a function's body may name, the file's and the function's own, and the parameters of the functions that
-- it may call, each by their numbers
pub record Table : Type 0 where
  pub file : List Variable
  pub own : List Variable
  pub parameters : List (List Variable)

-- the variable with this number
abbrev pub variable_at : Table → VarId → Option Variable
variable_at table (File k) = slice_get table.file k
variable_at table (Local k) = slice_get table.own k

-- a scalar variable is one of the table's, with its type and rate
abbrev pub IsScalar : Table → Var → Type 0
IsScalar table x = (v : Variable) × (variable_at table v.id ≡ Some v) × (v.is_array ≡ false) × (x ≡ var_of v)

-- an array is one of the table's
abbrev pub IsArray : Table → VarId → Type 0
IsArray table id = (v : Variable) × (variable_at table v.id ≡ Some v) × (v.is_array ≡ true) × (id ≡ v.id)

-- an expression names variables of the table alone, scalars as scalars and arrays as arrays
abbrev pub ExprScoped : Table → Expr → Type 0
ExprScoped table (Number n) = Unit {0}
ExprScoped table ProgramIndex = Unit {0}
ExprScoped table ProgramCount = Unit {0}
ExprScoped table LaneMask = Unit {0}
ExprScoped table (Read x) = IsScalar table x
ExprScoped table (Element array index) = IsArray table array × ExprScoped table index
ExprScoped table (Unary op type a) = ExprScoped table a
ExprScoped table (Binary op type a b) = ExprScoped table a × ExprScoped table b
ExprScoped table (Convert from to a) = ExprScoped table a
ExprScoped table (And a b) = ExprScoped table a × ExprScoped table b
ExprScoped table (Or a b) = ExprScoped table a × ExprScoped table b
ExprScoped table (Choice test a b) = ExprScoped table test × ExprScoped table a × ExprScoped table b
ExprScoped table (Reduce f type a) = ExprScoped table a
ExprScoped table (Scan f type a) = ExprScoped table a
ExprScoped table (OfOne f type a) = ExprScoped table a
ExprScoped table (OfTwo f type a b) = ExprScoped table a × ExprScoped table b
ExprScoped table (Extract a index) = ExprScoped table a × ExprScoped table index
ExprScoped table (Insert a index new) = ExprScoped table a × ExprScoped table index × ExprScoped table new
ExprScoped table (Rotate a by) = ExprScoped table a × ExprScoped table by
ExprScoped table (Shift a by) = ExprScoped table a × ExprScoped table by
ExprScoped table (Shuffle a places) = ExprScoped table a × ExprScoped table places
ExprScoped table (ShuffleTwo a b places) = ExprScoped table a × ExprScoped table b × ExprScoped table places
ExprScoped table (Select test a b) = ExprScoped table test × ExprScoped table a × ExprScoped table b

-- an expression, if there is one
abbrev pub SomeScoped : Table → Option Expr → Type 0
SomeScoped table None = Unit {0}
SomeScoped table (Some e) = ExprScoped table e

-- a target is a variable or an array of the table
abbrev pub TargetScoped : Table → Target → Type 0
TargetScoped table (Scalar x) = IsScalar table x
TargetScoped table (ElementOf array rate index) = IsArray table array × ExprScoped table index

-- what a call passes fits the parameters, one by one
abbrev pub ArgsScoped : Table → List Variable → List Arg → Type 0
ArgsScoped table [] [] = Unit {0}
ArgsScoped table [] (a ∷ args) = ⊥
ArgsScoped table (p ∷ parameters) [] = ⊥
ArgsScoped table (p ∷ parameters) (Value x e ∷ args) = (p.is_array ≡ false) × (x ≡ var_of p) × ExprScoped table e × ArgsScoped table parameters args
ArgsScoped table (p ∷ parameters) (Array parameter array from ∷ args) =
    (p.is_array ≡ true) × (parameter ≡ p.id) × IsArray table array × SomeScoped table from × ArgsScoped table parameters args

-- a call's result goes to a variable of the table
abbrev pub ResultScoped : Table → ResultFor → Type 0
ResultScoped table Nothing = Unit {0}
ResultScoped table (Declares x) = IsScalar table x
ResultScoped table (Assigns x) = IsScalar table x
ResultScoped table Returns = Unit {0}

-- index variables and bounds name variables of the table alone
abbrev pub DimensionsScoped : Table → List Dimension → Type 0
DimensionsScoped table [] = Unit {0}
DimensionsScoped table (d ∷ dims) = IsScalar table d.index × ExprScoped table d.low × ExprScoped table d.high × DimensionsScoped table dims

-- so does the head of a foreach form
abbrev pub RoundsScoped : Table → RoundsOf → Type 0
RoundsScoped table (Rows dims) = DimensionsScoped table dims
RoundsScoped table (Tiles dims) = DimensionsScoped table dims
RoundsScoped table (EachLane x) = IsScalar table x
RoundsScoped table (EachValue x e) = IsScalar table x × ExprScoped table e

-- a statement names variables of the table alone, and calls functions that there are
abbrev pub StmtScoped : Table → Stmt → Type 0
StmtScoped table Empty = Unit {0}
StmtScoped table (Then first rest) = StmtScoped table first × StmtScoped table rest
StmtScoped table (Declare number x e) = IsScalar table x × SomeScoped table e
StmtScoped table (Assign number target e) = TargetScoped table target × ExprScoped table e
StmtScoped table (Change number target type op in_type e) = TargetScoped table target × ExprScoped table e
StmtScoped table (If number e first other) = ExprScoped table e × StmtScoped table first × StmtScoped table other
StmtScoped table (Loop number e update body) = ExprScoped table e × StmtScoped table update × StmtScoped table body
StmtScoped table (BodyFirst number e body) = ExprScoped table e × StmtScoped table body
StmtScoped table (Break number) = Unit {0}
StmtScoped table (Continue number) = Unit {0}
StmtScoped table (Return number e) = SomeScoped table e
StmtScoped table (Switch number e segments) = ExprScoped table e × StmtScoped table segments
StmtScoped table (Segment label body rest) = StmtScoped table body × StmtScoped table rest
StmtScoped table (ForEach number rounds body) = RoundsScoped table rounds × StmtScoped table body
StmtScoped table (Call number function args result_for) =
    (parameters : List Variable) × (slice_get table.parameters function ≡ Some parameters) × ArgsScoped table parameters args × ResultScoped table result_for
StmtScoped table (Check number e) = ExprScoped table e
StmtScoped table (PackedStore number array from e result_for) = IsArray table array × SomeScoped table from × ExprScoped table e × ResultScoped table result_for
StmtScoped table (PackedLoad number array from x result_for) = IsArray table array × SomeScoped table from × IsScalar table x × ResultScoped table result_for
