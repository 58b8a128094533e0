-- The accesses of elements of arrays in a program whose lanes may touch different elements.
use Rattle.std.specs.Prelude.{ℕ, suc, Bool, true, false, ◌||◌, List, [], ◌∷◌, ◌++◌, Option, Some, None, if◌then◌else◌}
use Rattle.gang_types.specs.declared.types.Rate.{Rate}
use Rattle.gang_types.specs.declared.types.Rate.TheVariants.{Uniform, Varying}
use Rattle.gang_types.specs.declared.places.VarId.{VarId}
use Rattle.gang_types.specs.declared.places.Spot.{Spot}
use Rattle.gang_model.specs.Types.Tree.{Expr, Number, ProgramIndex, ProgramCount, LaneMask, Read, Element, Unary, Binary, Convert, And, Or, Choice, Reduce, Scan, OfOne, OfTwo, Extract, Insert, Rotate, Shift, Shuffle, ShuffleTwo, Select, Target, Scalar, ElementOf, Arg, Value, Array, Dimension, RoundsOf, Rows, Tiles, EachLane, EachValue, Stmt, Then, Declare, Assign, Change, If, Loop, BodyFirst, Return, Switch, Segment, ForEach, Call, Check, PackedStore, PackedLoad, Function, Program}
use Rattle.gang_model.specs.Debugger.Positions.{spot_in}
use Rattle.element_accesses.specs.declared.reading.Way.{Way}
use Rattle.element_accesses.specs.declared.reading.Way.TheVariants.{Reads, Writes, Changes}

-- an access: its step, the array, what it does, whether all lanes of the step do it, and its index
pub record Accessed : Type 0 where
  pub spot : Spot
  pub array : VarId
  pub way : Way
  pub is_sure : Bool
  pub index : Expr

-- whether a variable may have different values in different lanes
abbrev pub is_varying : Rate → Bool
is_varying Uniform = false
is_varying Varying = true

-- whether an expression may: it is no number, no value of all lanes, and reads more than uniform variables
abbrev pub varies : Expr → Bool
varies (Number n) = false
varies ProgramIndex = true
varies ProgramCount = false
varies LaneMask = false
varies (Read v) = is_varying v.rate
varies (Element array index) = varies index
varies (Unary op type a) = varies a
varies (Binary op type a b) = varies a || varies b
varies (Convert from to a) = varies a
varies (And a b) = varies a || varies b
varies (Or a b) = varies a || varies b
varies (Choice test a b) = varies test || (varies a || varies b)
varies (Select test a b) = varies test || (varies a || varies b)
varies (Reduce f type a) = false
varies (Scan f type a) = true
varies (OfOne f type a) = varies a
varies (OfTwo f type a b) = varies a || varies b
varies (Extract a index) = varies index
varies (Insert a index new) = true
varies (Rotate a by) = true
varies (Shift a by) = true
varies (Shuffle a places) = true
varies (ShuffleTwo a b places) = true

-- an access, if its lanes may touch different elements
abbrev pub one : Spot → VarId → Way → (is_sure : Bool) → Expr → List Accessed
one spot array way is_sure index =
    if varies index then record { spot = spot; array = array; way = way; is_sure = is_sure; index = index } ∷ [] else []

-- what an expression of a step reads, in the order of evaluation; what stands behind `&&`, `||` and `?` some of its lanes may not read
abbrev pub reads_in : Spot → (is_sure : Bool) → Expr → List Accessed
reads_in spot is_sure (Element array index) = reads_in spot is_sure index ++ one spot array Reads is_sure index
reads_in spot is_sure (Unary op type a) = reads_in spot is_sure a
reads_in spot is_sure (Binary op type a b) = reads_in spot is_sure a ++ reads_in spot is_sure b
reads_in spot is_sure (Convert from to a) = reads_in spot is_sure a
reads_in spot is_sure (And a b) = reads_in spot is_sure a ++ reads_in spot false b
reads_in spot is_sure (Or a b) = reads_in spot is_sure a ++ reads_in spot false b
reads_in spot is_sure (Choice test a b) = reads_in spot is_sure test ++ (reads_in spot false a ++ reads_in spot false b)
reads_in spot is_sure (Select test a b) = reads_in spot is_sure test ++ (reads_in spot is_sure a ++ reads_in spot is_sure b)
reads_in spot is_sure (Reduce f type a) = reads_in spot is_sure a
reads_in spot is_sure (Scan f type a) = reads_in spot is_sure a
reads_in spot is_sure (OfOne f type a) = reads_in spot is_sure a
reads_in spot is_sure (OfTwo f type a b) = reads_in spot is_sure a ++ reads_in spot is_sure b
reads_in spot is_sure (Extract a index) = reads_in spot is_sure a ++ reads_in spot is_sure index
reads_in spot is_sure (Insert a index new) = reads_in spot is_sure a ++ (reads_in spot is_sure index ++ reads_in spot is_sure new)
reads_in spot is_sure (Rotate a by) = reads_in spot is_sure a ++ reads_in spot is_sure by
reads_in spot is_sure (Shift a by) = reads_in spot is_sure a ++ reads_in spot is_sure by
reads_in spot is_sure (Shuffle a places) = reads_in spot is_sure a ++ reads_in spot is_sure places
reads_in spot is_sure (ShuffleTwo a b places) = reads_in spot is_sure a ++ (reads_in spot is_sure b ++ reads_in spot is_sure places)
reads_in spot is_sure _ = []

-- what an expression reads, if there is one
abbrev pub some_in : Spot → Option Expr → List Accessed
some_in spot None = []
some_in spot (Some e) = reads_in spot true e

-- what is assigned
abbrev pub target_in : Spot → Way → Target → List Accessed
target_in spot way (Scalar v) = []
target_in spot way (ElementOf array rate index) = reads_in spot true index ++ one spot array way true index

-- what bounds, the head of a foreach form, and arguments read
abbrev pub bounds_in : Spot → List Dimension → List Accessed
bounds_in spot [] = []
bounds_in spot (d ∷ ds) = (reads_in spot true d.low ++ reads_in spot true d.high) ++ bounds_in spot ds

abbrev pub rounds_in : Spot → RoundsOf → List Accessed
rounds_in spot (Rows ds) = bounds_in spot ds
rounds_in spot (Tiles ds) = bounds_in spot ds
rounds_in spot (EachLane v) = []
rounds_in spot (EachValue v e) = reads_in spot true e

abbrev pub arg_in : Spot → Arg → List Accessed
arg_in spot (Value parameter e) = reads_in spot true e
arg_in spot (Array parameter array from) = some_in spot from

abbrev pub args_in : Spot → List Arg → List Accessed
args_in spot [] = []
args_in spot (arg ∷ args) = arg_in spot arg ++ args_in spot args

-- the accesses of a statement's own step
abbrev pub own_in : (function : ℕ) → Stmt → List Accessed
own_in function (Declare number v e) = some_in (spot_in function number) e
own_in function (Assign number target e) = target_in (spot_in function number) Writes target ++ reads_in (spot_in function number) true e
own_in function (Change number target type op in_type e) = target_in (spot_in function number) Changes target ++ reads_in (spot_in function number) true e
own_in function (If number test first other) = reads_in (spot_in function number) true test
own_in function (Loop number test update body) = reads_in (spot_in function number) true test
own_in function (BodyFirst number test body) = reads_in (spot_in function number) true test
own_in function (Return number e) = some_in (spot_in function number) e
own_in function (Switch number e segments) = reads_in (spot_in function number) true e
own_in function (ForEach number rounds body) = rounds_in (spot_in function number) rounds
own_in function (Call number called args result_for) = args_in (spot_in function number) args
own_in function (Check number e) = reads_in (spot_in function number) true e
own_in function (PackedStore number array from e result_for) = some_in (spot_in function number) from ++ reads_in (spot_in function number) true e
own_in function (PackedLoad number array from v result_for) = some_in (spot_in function number) from
own_in function s = []

-- the accesses of a statement of a function: those of its own step, and then those of the statements in it
abbrev pub accesses_in : (function : ℕ) → Stmt → List Accessed
accesses_in function (Then first rest) = accesses_in function first ++ accesses_in function rest
accesses_in function (If number test first other) = own_in function (If number test first other) ++ (accesses_in function first ++ accesses_in function other)
accesses_in function (Loop number test update body) = own_in function (Loop number test update body) ++ (accesses_in function body ++ accesses_in function update)
accesses_in function (BodyFirst number test body) = own_in function (BodyFirst number test body) ++ accesses_in function body
accesses_in function (Switch number e segments) = own_in function (Switch number e segments) ++ accesses_in function segments
accesses_in function (Segment label body rest) = accesses_in function body ++ accesses_in function rest
accesses_in function (ForEach number rounds body) = own_in function (ForEach number rounds body) ++ accesses_in function body
accesses_in function s = own_in function s

-- those of functions, the first of which has this number
abbrev pub accesses_from : (first : ℕ) → List Function → List Accessed
accesses_from first [] = []
accesses_from first (f ∷ functions) = accesses_in first f.body ++ accesses_from (suc first) functions

-- those of a program
abbrev pub accesses_of : Program → List Accessed
accesses_of p = accesses_from 0 p.functions
