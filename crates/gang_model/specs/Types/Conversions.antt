-- Types and rates of values: joined types, what converts to what, and the type of each operation
-- (ISPC User's Guide, "Types" and "Expressions"; joined types and the types of literals are a choice of this project).
use Rattle.std.specs.Prelude.{ℕ, ◌^◌, Bool, true, false, not, ◌&&◌, ◌||◌, ◌==◌, nat_lt, if◌then◌else◌}
use Rattle.gang_types.specs.declared.types.IntType.{IntType}
use Rattle.gang_types.specs.declared.types.IntType.TheVariants as t
use Rattle.gang_types.specs.declared.types.Rate.{Rate}
use Rattle.gang_types.specs.declared.types.Rate.TheVariants.{Uniform, Varying}
use Rattle.gang_types.specs.declared.operators.UnaryOp.{UnaryOp}
use Rattle.gang_types.specs.declared.operators.UnaryOp.TheVariants.{Not}
use Rattle.gang_types.specs.declared.operators.BinaryOp.{BinaryOp}
use Rattle.gang_types.specs.declared.operators.BinaryOp.TheVariants as op
use Rattle.gang_types.specs.Values.{width, is_signed, is_bool}
use Rattle.gang_model.specs.declared.forms.Infix.{Infix}
use Rattle.gang_model.specs.declared.forms.Infix.TheVariants.{Op, AndAlso, OrElse}
use Rattle.gang_model.specs.Types.Tree.{Expr, Unary, Binary, Convert, And, Or, Choice}

-- an expression with its type and rate
pub record Typed : Type 0 where
  pub expr : Expr
  pub type : IntType
  pub rate : Rate

-- an expression with this type and rate
abbrev pub typed : Expr → IntType → Rate → Typed
typed e type rate = record { expr = e; type = type; rate = rate }

-- whether both are true or both are false
abbrev pub same_bool : Bool → Bool → Bool
same_bool true b = b
same_bool false b = not b

-- whether two types are one: width and sign name a type
abbrev pub same_type : IntType → IntType → Bool
same_type a b = (width a == width b) && same_bool (is_signed a) (is_signed b)

-- the joined type of two operands: the wider one, at equal width the unsigned one; of bool and another type the other
abbrev pub joined : IntType → IntType → IntType
joined a b = if nat_lt (width a) (width b) then b else (if nat_lt (width b) (width a) then a else (if is_signed a then b else a))

-- where an integer type is asked, bool counts as int32
abbrev pub promoted : IntType → IntType
promoted type = if is_bool type then t.Int32 else type

-- whether there is a value for each lane
abbrev pub is_varying : Rate → Bool
is_varying Uniform = false
is_varying Varying = true

-- whether two rates are one
abbrev pub same_rate : Rate → Rate → Bool
same_rate a b = same_bool (is_varying a) (is_varying b)

-- varying if one of the two is
abbrev pub joined_rate : Rate → Rate → Rate
joined_rate Uniform rate = rate
joined_rate Varying rate = Varying

-- whether a value of this rate may be given to what has that rate
abbrev pub may_become : Rate → Rate → Bool
may_become from to = not (is_varying from) || is_varying to

-- the expression, converted to a type
abbrev pub as_type : IntType → Typed → Expr
as_type type e = if same_type e.type type then e.expr else Convert e.type type e.expr

-- the expression, converted to bool
abbrev pub as_bool : Typed → Expr
as_bool e = as_type t.Bool e

-- the first of int32, int64, unsigned int64 that holds the number; with the suffix u the first unsigned one from
-- 32 bits on, with l the first from 64 bits on
abbrev pub literal_type : ℕ → (is_unsigned is_long : Bool) → IntType
literal_type n false false = if nat_lt n (2 ^ 31) then t.Int32 else (if nat_lt n (2 ^ 63) then t.Int64 else t.Uint64)
literal_type n true false = if nat_lt n (2 ^ 32) then t.Uint32 else t.Uint64
literal_type n false true = if nat_lt n (2 ^ 63) then t.Int64 else t.Uint64
literal_type n true true = t.Uint64

-- the type that an operation is made in: a shift in its left operand's, where bool counts as int32; `&`, `|`, `^`, `==`
-- and `!=` in the joined type; the others there too, where bool counts as int32
abbrev pub operation_type : BinaryOp → (left right : IntType) → IntType
operation_type op.Shl a b = promoted a
operation_type op.Shr a b = promoted a
operation_type op.And a b = joined a b
operation_type op.Or a b = joined a b
operation_type op.Xor a b = joined a b
operation_type op.Equal a b = joined a b
operation_type op.NotEqual a b = joined a b
operation_type operation a b = promoted (joined a b)

-- the right operand in an operation's type; a shift's amount keeps its own
abbrev pub right_operand : BinaryOp → IntType → Typed → Expr
right_operand op.Shl type e = e.expr
right_operand op.Shr type e = e.expr
right_operand operation type e = as_type type e

-- a comparison gives bool, another operation the type that it is made in
abbrev pub given_type : BinaryOp → IntType → IntType
given_type op.Equal type = t.Bool
given_type op.NotEqual type = t.Bool
given_type op.Less type = t.Bool
given_type op.LessEqual type = t.Bool
given_type op.Greater type = t.Bool
given_type op.GreaterEqual type = t.Bool
given_type operation type = type

-- an operation on two values
abbrev pub operated : BinaryOp → Typed → Typed → Typed
operated operation a b =
    let type = operation_type operation a.type b.type in
    typed (Binary operation type (as_type type a) (right_operand operation type b)) (given_type operation type) (joined_rate a.rate b.rate)

-- two operands with what stands between them; `&&` and `||` work in bool
abbrev pub infixed : Infix → Typed → Typed → Typed
infixed (Op operation) a b = operated operation a b
infixed AndAlso a b = typed (And (as_bool a) (as_bool b)) t.Bool (joined_rate a.rate b.rate)
infixed OrElse a b = typed (Or (as_bool a) (as_bool b)) t.Bool (joined_rate a.rate b.rate)

-- `!` is made on bool, the others on an integer type
abbrev pub prefixed : UnaryOp → Typed → Typed
prefixed Not a = typed (Unary Not t.Bool (as_bool a)) t.Bool a.rate
prefixed operation a = let type = promoted a.type in typed (Unary operation type (as_type type a)) type a.rate

-- `test ? first : second`, in the joined type of its arms
abbrev pub chosen_by : (test first second : Typed) → Typed
chosen_by c a b =
    let type = joined a.type b.type in
    typed (Choice (as_bool c) (as_type type a) (as_type type b)) type (joined_rate c.rate (joined_rate a.rate b.rate))
