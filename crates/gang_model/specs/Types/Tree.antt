-- Programs whose names are resolved and whose conversions are written out.
use Rattle.std.specs.Prelude.{ℕ, Bool, List, Option}
use Rattle.gang_types.specs.declared.types.IntType.{IntType}
use Rattle.gang_types.specs.declared.types.Rate.{Rate}
use Rattle.gang_types.specs.declared.operators.UnaryOp.{UnaryOp}
use Rattle.gang_types.specs.declared.operators.BinaryOp.{BinaryOp}
use Rattle.gang_types.specs.declared.places.Place.{Place}
use Rattle.gang_types.specs.declared.places.VarId.{VarId}

-- a scalar variable
pub record Var : Type 0 where
  pub id : VarId
  pub type : IntType
  pub rate : Rate

-- a step of a function, by its number in the order in which steps run
abbrev pub StepNumber : Type 0
StepNumber = ℕ

-- the library's functions of one, two and three values; each has its arguments' type
pub data Reduction : Type 0 where
  AnyLane AllLanes NoLane ReduceAdd ReduceMin ReduceMax ReduceEqual PopCountLanes PackMask : Reduction

-- the scans over the lanes before each one
pub data ScanOf : Type 0 where
  ScanAdd ScanAnd ScanOr : ScanOf

-- the library's functions of one lane
pub data OneCall : Type 0 where
  Absolute PopCount : OneCall

pub data TwoCall : Type 0 where
  Lesser Larger : TwoCall

pub data Expr : Type 0 where
  Number : ℕ → Expr
  ProgramIndex : Expr
  ProgramCount : Expr
  LaneMask : Expr
  Read : Var → Expr
  Element : (array : VarId) → (index : Expr) → Expr
  Unary : UnaryOp → IntType → Expr → Expr
  Binary : BinaryOp → IntType → Expr → Expr → Expr
  Convert : (from to : IntType) → Expr → Expr
  And : Expr → Expr → Expr
  Or : Expr → Expr → Expr
  Choice : (test yes' no' : Expr) → Expr
  Reduce : Reduction → IntType → Expr → Expr
  Scan : ScanOf → IntType → Expr → Expr
  OfOne : OneCall → IntType → Expr → Expr
  OfTwo : TwoCall → IntType → Expr → Expr → Expr
  -- the value of the lane that an index names: `broadcast`, `extract`
  Extract : (value index : Expr) → Expr
  Insert : (value index new : Expr) → Expr
  Rotate : (value by : Expr) → Expr
  Shift : (value by : Expr) → Expr
  Shuffle : (value places : Expr) → Expr
  ShuffleTwo : (value second places : Expr) → Expr
  Select : (test yes' no' : Expr) → Expr

-- what is assigned
pub data Target : Type 0 where
  Scalar : Var → Target
  ElementOf : (array : VarId) → (rate : Rate) → (index : Expr) → Target

-- what a call passes
pub data Arg : Type 0 where
  Value : Var → Expr → Arg
  Array : (parameter array : VarId) → (from : Option Expr) → Arg

-- what a call's result is for
pub data ResultFor : Type 0 where
  Nothing : ResultFor
  Declares : Var → ResultFor
  Assigns : Var → ResultFor
  Returns : ResultFor

-- an index variable with its bounds
pub record Dimension : Type 0 where
  pub index : Var
  pub low : Expr
  pub high : Expr

pub data RoundsOf : Type 0 where
  Rows : List Dimension → RoundsOf
  Tiles : List Dimension → RoundsOf
  EachLane : Var → RoundsOf
  EachValue : Var → Expr → RoundsOf

pub data Stmt : Type 0 where
  Empty : Stmt
  Then : (first rest : Stmt) → Stmt
  Declare : StepNumber → Var → Option Expr → Stmt
  Assign : StepNumber → Target → Expr → Stmt
  -- `target op= value`: the target's type, the operation and its type
  Change : StepNumber → Target → IntType → BinaryOp → IntType → Expr → Stmt
  If : StepNumber → Expr → (first other : Stmt) → Stmt
  -- `while`, and `for` after its start: test, update, body
  Loop : StepNumber → Expr → (update body : Stmt) → Stmt
  -- `do`
  BodyFirst : StepNumber → Expr → (body : Stmt) → Stmt
  Break : StepNumber → Stmt
  Continue : StepNumber → Stmt
  Return : StepNumber → Option Expr → Stmt
  -- a switch: the selector and its type, and the segments
  Switch : StepNumber → Expr → (segments : Stmt) → Stmt
  -- in a switch alone: a label, none for `default`; what follows it up to the next label; the next segments
  Segment : (label : Option ℕ) → (body rest : Stmt) → Stmt
  ForEach : StepNumber → RoundsOf → (body : Stmt) → Stmt
  Call : StepNumber → (function : ℕ) → List Arg → ResultFor → Stmt
  -- `assert`
  Check : StepNumber → Expr → Stmt
  PackedStore : StepNumber → (array : VarId) → (from : Option Expr) → (value : Expr) → ResultFor → Stmt
  PackedLoad : StepNumber → (array : VarId) → (from : Option Expr) → (into : Var) → ResultFor → Stmt

-- a name in scope, and whether it is an array, a parameter or constant
pub record Variable : Type 0 where
  pub name : List ℕ
  pub id : VarId
  pub type : IntType
  pub rate : Rate
  pub is_array : Bool
  pub is_parameter : Bool
  pub is_constant : Bool

-- where a step stands, and what is in scope there, in the debugger's order
pub record Standing : Type 0 where
  pub place : Place
  pub scope : List Variable

-- a function: its result's rate and type (of a void function uniform int32, which nothing reads), its body,
-- and where its steps stand, by their numbers, the closing brace last
pub record Function : Type 0 where
  pub name : List ℕ
  pub result : Rate
  pub result_type : IntType
  pub body : Stmt
  pub standings : List Standing

-- a file-scope variable: its literal's word, or its length if it is an array
pub record Global : Type 0 where
  pub variable : Variable
  pub word : ℕ
  pub len : ℕ

pub record Program : Type 0 where
  pub functions : List Function
  pub globals : List Global
