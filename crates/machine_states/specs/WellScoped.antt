-- Programs whose expressions read, and whose statements write, scalars and arrays that are where they should be: each name stands for a
-- variable of the function's own, of the file, or for an array, a call passes each parameter, and an index variable is the function's own.
use Rattle.std.specs.Prelude.{◌≡◌, ℕ, suc, ◌<◌, ◌≤◌, true, List, [], ◌∷◌, All, Option, Some, None, length, slice_get}
use Rattle.gang_types.specs.declared.types.Rate.TheVariants.{Uniform, Varying}
use Rattle.gang_types.specs.declared.places.VarId.TheVariants.{File, Local}
use Rattle.gang_model.specs.Types.Tree.{Expr, Read, Element, Unary, Binary, Convert, And, Or, Choice, Reduce, Scan, OfOne, OfTwo, Extract, Insert, Rotate, Shift, Shuffle, ShuffleTwo, Select, Scalar, ElementOf, Arg, Value, Array, ResultFor, Nothing, Declares, Assigns, Returns, Dimension, RoundsOf, Rows, Tiles, EachLane, EachValue, Stmt, Empty, Then, Declare, Assign, Change, If, Loop, BodyFirst, Break, Continue, Return, Switch, Segment, ForEach, Call, Check, PackedStore, PackedLoad, Variable, Standing, Function, Program}
use Rattle.mask_states.specs.Points.{Point, Put, Go, Branch, Choose, Begin, Turn, Enter}
use Rattle.foreach_lowering.specs.Law.{HasDimensions}
use Rattle.machine_states.specs.Variables.{Variables, IsArray, IsScalar, IsOwn, IsOwnArray, own_of, parameters_of}

-- an expression of a function reads scalars and elements of arrays
abbrev pub IsWellScopedExpr : Variables → (function : ℕ) → Expr → Type 0
IsWellScopedExpr variables n (Read x) = IsScalar variables n x
IsWellScopedExpr variables n (Element array index) = IsArray variables n array × IsWellScopedExpr variables n index
IsWellScopedExpr variables n (Unary op type a) = IsWellScopedExpr variables n a
IsWellScopedExpr variables n (Binary op type a b) = IsWellScopedExpr variables n a × IsWellScopedExpr variables n b
IsWellScopedExpr variables n (Convert from to a) = IsWellScopedExpr variables n a
IsWellScopedExpr variables n (And a b) = IsWellScopedExpr variables n a × IsWellScopedExpr variables n b
IsWellScopedExpr variables n (Or a b) = IsWellScopedExpr variables n a × IsWellScopedExpr variables n b
IsWellScopedExpr variables n (Choice test a b) = IsWellScopedExpr variables n test × IsWellScopedExpr variables n a × IsWellScopedExpr variables n b
IsWellScopedExpr variables n (Reduce f type a) = IsWellScopedExpr variables n a
IsWellScopedExpr variables n (Scan f type a) = IsWellScopedExpr variables n a
IsWellScopedExpr variables n (OfOne f type a) = IsWellScopedExpr variables n a
IsWellScopedExpr variables n (OfTwo f type a b) = IsWellScopedExpr variables n a × IsWellScopedExpr variables n b
IsWellScopedExpr variables n (Extract a index) = IsWellScopedExpr variables n a × IsWellScopedExpr variables n index
IsWellScopedExpr variables n (Insert a index new) = IsWellScopedExpr variables n a × IsWellScopedExpr variables n index × IsWellScopedExpr variables n new
IsWellScopedExpr variables n (Rotate a by) = IsWellScopedExpr variables n a × IsWellScopedExpr variables n by
IsWellScopedExpr variables n (Shift a by) = IsWellScopedExpr variables n a × IsWellScopedExpr variables n by
IsWellScopedExpr variables n (Shuffle a places) = IsWellScopedExpr variables n a × IsWellScopedExpr variables n places
IsWellScopedExpr variables n (ShuffleTwo a b places) = IsWellScopedExpr variables n a × IsWellScopedExpr variables n b × IsWellScopedExpr variables n places
IsWellScopedExpr variables n (Select test a b) = IsWellScopedExpr variables n test × IsWellScopedExpr variables n a × IsWellScopedExpr variables n b
IsWellScopedExpr variables n e = Unit {0}

abbrev pub IsWellScopedOption : Variables → (function : ℕ) → Option Expr → Type 0
IsWellScopedOption variables n None = Unit {0}
IsWellScopedOption variables n (Some e) = IsWellScopedExpr variables n e

-- the arguments of a call are values of the called function's variables, or parts of arrays, by their numbers from the k-th on
abbrev pub ArgsWellScoped : Variables → (function called k : ℕ) → List Arg → Type 0
ArgsWellScoped variables n called k [] = Unit {0}
ArgsWellScoped variables n called k (Value x e ∷ args) = IsOwn variables called k x × IsWellScopedExpr variables n e × ArgsWellScoped variables n called (suc k) args
ArgsWellScoped variables n called k (Array parameter array from ∷ args) =
    IsOwnArray variables called k parameter × IsArray variables n array × IsWellScopedOption variables n from × ArgsWellScoped variables n called (suc k) args

-- a call passes each parameter of the function that it calls, of which there are at most 8
pub record CallWellScoped (variables : Variables) (n called : ℕ) (args : List Arg) : Type 0 where
  pub args_well_scoped : ArgsWellScoped variables n called 0 args
  pub all : length args ≡ parameters_of variables called
  pub few : length args ≤ 8

-- a call's result is declared in a variable of the function, or assigned to one of its own or the file's
abbrev pub ResultWellScoped : Variables → (function : ℕ) → ResultFor → Type 0
ResultWellScoped variables n Nothing = Unit {0}
ResultWellScoped variables n (Declares x) = (k : ℕ) × IsOwn variables n k x
ResultWellScoped variables n (Assigns x) = IsScalar variables n x
ResultWellScoped variables n Returns = Unit {0}

-- a dimension of a foreach form: a varying index variable of the function's own, and its bounds
abbrev pub DimensionWellScoped : Variables → (function : ℕ) → Dimension → Type 0
DimensionWellScoped variables n d = ((k : ℕ) × IsOwn variables n k d.index) × (d.index.rate ≡ Varying) × IsWellScopedExpr variables n d.low × IsWellScopedExpr variables n d.high

-- the head of a foreach form: `foreach` and `foreach_tiled` have one to three dimensions, the other two one uniform index variable
abbrev pub FormWellScoped : Variables → (function : ℕ) → RoundsOf → Type 0
FormWellScoped variables n (Rows ds) = HasDimensions (Rows ds) × All (DimensionWellScoped variables n) ds
FormWellScoped variables n (Tiles ds) = HasDimensions (Tiles ds) × All (DimensionWellScoped variables n) ds
FormWellScoped variables n (EachLane x) = ((k : ℕ) × IsOwn variables n k x) × (x.rate ≡ Uniform)
FormWellScoped variables n (EachValue x e) = ((k : ℕ) × IsOwn variables n k x) × (x.rate ≡ Uniform) × IsWellScopedExpr variables n e

-- a statement of a function
abbrev pub IsWellScoped : Variables → (function : ℕ) → Stmt → Type 0
IsWellScoped variables n Empty = Unit {0}
IsWellScoped variables n (Then first rest) = IsWellScoped variables n first × IsWellScoped variables n rest
IsWellScoped variables n (Declare number x e) = ((k : ℕ) × IsOwn variables n k x) × IsWellScopedOption variables n e
IsWellScoped variables n (Assign number (Scalar x) e) = IsScalar variables n x × IsWellScopedExpr variables n e
IsWellScoped variables n (Assign number (ElementOf array rate index) e) = IsArray variables n array × IsWellScopedExpr variables n index × IsWellScopedExpr variables n e
IsWellScoped variables n (Change number (Scalar x) type op in_type e) = IsScalar variables n x × IsWellScopedExpr variables n e
IsWellScoped variables n (Change number (ElementOf array rate index) type op in_type e) = IsArray variables n array × IsWellScopedExpr variables n index × IsWellScopedExpr variables n e
IsWellScoped variables n (If number test first other) = IsWellScopedExpr variables n test × IsWellScoped variables n first × IsWellScoped variables n other
IsWellScoped variables n (Loop number test update body) = IsWellScopedExpr variables n test × IsWellScoped variables n update × IsWellScoped variables n body
IsWellScoped variables n (BodyFirst number test body) = IsWellScopedExpr variables n test × IsWellScoped variables n body
IsWellScoped variables n (Break number) = Unit {0}
IsWellScoped variables n (Continue number) = Unit {0}
IsWellScoped variables n (Return number e) = IsWellScopedOption variables n e
IsWellScoped variables n (Switch number e segments) = IsWellScopedExpr variables n e × IsWellScoped variables n segments
IsWellScoped variables n (Segment label body rest) = IsWellScoped variables n body × IsWellScoped variables n rest
IsWellScoped variables n (ForEach number form body) = FormWellScoped variables n form × IsWellScoped variables n body
IsWellScoped variables n (Call number called args result_for) = CallWellScoped variables n called args × ResultWellScoped variables n result_for
IsWellScoped variables n (Check number e) = IsWellScopedExpr variables n e
IsWellScoped variables n (PackedStore number array from e result_for) =
    IsArray variables n array × IsWellScopedOption variables n from × IsWellScopedExpr variables n e × ResultWellScoped variables n result_for
IsWellScoped variables n (PackedLoad number array from x result_for) =
    IsArray variables n array × IsWellScopedOption variables n from × IsScalar variables n x × ResultWellScoped variables n result_for

-- what a step of a function does; a statement that moves lanes is no step of its own
abbrev pub IsWellScopedPoint : Variables → (function : ℕ) → Point → Type 0
IsWellScopedPoint variables n (Put (Declare number x e) next) = ((k : ℕ) × IsOwn variables n k x) × IsWellScopedOption variables n e
IsWellScopedPoint variables n (Put (Assign number (Scalar x) e) next) = IsScalar variables n x × IsWellScopedExpr variables n e
IsWellScopedPoint variables n (Put (Assign number (ElementOf array rate index) e) next) = IsArray variables n array × IsWellScopedExpr variables n index × IsWellScopedExpr variables n e
IsWellScopedPoint variables n (Put (Change number (Scalar x) type op in_type e) next) = IsScalar variables n x × IsWellScopedExpr variables n e
IsWellScopedPoint variables n (Put (Change number (ElementOf array rate index) type op in_type e) next) =
    IsArray variables n array × IsWellScopedExpr variables n index × IsWellScopedExpr variables n e
IsWellScopedPoint variables n (Put (Check number e) next) = IsWellScopedExpr variables n e
IsWellScopedPoint variables n (Put (PackedStore number array from e result_for) next) =
    IsArray variables n array × IsWellScopedOption variables n from × IsWellScopedExpr variables n e × ResultWellScoped variables n result_for
IsWellScopedPoint variables n (Put (PackedLoad number array from x result_for) next) =
    IsArray variables n array × IsWellScopedOption variables n from × IsScalar variables n x × ResultWellScoped variables n result_for
IsWellScopedPoint variables n (Put (Return number e) next) = IsWellScopedOption variables n e
IsWellScopedPoint variables n (Put s next) = ⊥
IsWellScopedPoint variables n (Go next) = Unit {0}
IsWellScopedPoint variables n (Branch test yes' no') = IsWellScopedExpr variables n test
IsWellScopedPoint variables n (Choose e segments entries next) = IsWellScopedExpr variables n e
IsWellScopedPoint variables n (Begin form rounds next) = FormWellScoped variables n form
IsWellScopedPoint variables n (Turn body) = Unit {0}
IsWellScopedPoint variables n (Enter called args result_for next) = CallWellScoped variables n called args × ResultWellScoped variables n result_for

-- a name in scope stands for a variable of the function
abbrev pub IsWellScopedName : Variables → (function : ℕ) → Variable → Type 0
IsWellScopedName variables n v = (k : ℕ) × (slice_get (own_of variables n) k ≡ Some v)

-- a function: its statements, and the names that are in scope at its steps and at its closing brace
pub record IsWellScopedFunction (variables : Variables) (n : ℕ) (f : Function) : Type 0 where
  pub body : IsWellScoped variables n f.body
  pub scopes : (number : ℕ) (standing : Standing) → slice_get f.standings number ≡ Some standing → All (IsWellScopedName variables n) standing.scope

-- a program with these variables, of which each function has at most so many, and only its parameters may be arrays
pub record IsWellScopedProgram (variables : Variables) (most : ℕ) (p : Program) : Type 0 where
  pub file : (k : ℕ) (v : Variable) → slice_get variables.file k ≡ Some v → v.id ≡ File k
  pub own : (n k : ℕ) (v : Variable) → slice_get (own_of variables n) k ≡ Some v → v.id ≡ Local k
  pub arrays : (n k : ℕ) (v : Variable) → slice_get (own_of variables n) k ≡ Some v → v.is_array ≡ true → k < parameters_of variables n
  pub few : (n : ℕ) → length (own_of variables n) ≤ most
  pub functions : (n : ℕ) (f : Function) → slice_get p.functions n ≡ Some f → IsWellScopedFunction variables n f
