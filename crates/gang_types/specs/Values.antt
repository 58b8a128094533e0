-- What a word stands for, and what an operation on words gives.
use Rattle.std.specs.Prelude.{ℕ, ◌%◌, ◌^◌, Bool, true, false, cond, not, ℤ, pos, neg_ℤ, ◌+ℤ◌, ◌-ℤ◌, ◌*ℤ◌, int_lt, int_div, int_rem, unsigned_abs, bit_and, bit_or, bit_xor, nat_eq, Result, Ok, Err}
use Rattle.std.specs.Int.{int_rem_euclid, int_div_euclid, cast_signed, w64}
use Rattle.gang_types.specs.declared.types.IntType.{IntType}
use Rattle.gang_types.specs.declared.types.IntType.TheVariants.{Bool as BoolType, Int8, Int16, Int32, Int64, Uint8, Uint16, Uint32, Uint64}
use Rattle.gang_types.specs.declared.operators.BinaryOp.{BinaryOp}
use Rattle.gang_types.specs.declared.operators.BinaryOp.TheVariants.{Add, Sub, Mul, Div, Rem, And, Or, Xor, Shl, Shr, Less, LessEqual, Greater, GreaterEqual, Equal, NotEqual}
use Rattle.gang_types.specs.declared.operators.UnaryOp.{UnaryOp}
use Rattle.gang_types.specs.declared.operators.UnaryOp.TheVariants.{Negate, Plus, Not, Complement}
use Rattle.gang_types.specs.declared.faults.FaultName.{FaultName}
use Rattle.gang_types.specs.declared.faults.FaultName.TheVariants.{DivideByZero}

abbrev pub is_bool : IntType → Bool
is_bool BoolType = true
is_bool _ = false

abbrev pub is_signed : IntType → Bool
is_signed Int8 = true
is_signed Int16 = true
is_signed Int32 = true
is_signed Int64 = true
is_signed _ = false

-- in bits
abbrev pub width : IntType → ℕ
width BoolType = 1
width Int8 = 8
width Int16 = 16
width Int32 = 32
width Int64 = 64
width Uint8 = 8
width Uint16 = 16
width Uint32 = 32
width Uint64 = 64

-- how many of a type's values are below 0
abbrev pub half : IntType → ℕ
half Int8 = 2 ^ 7
half Int16 = 2 ^ 15
half Int32 = 2 ^ 31
half Int64 = 2 ^ 63
half _ = 0

-- the whole number that a word stands for
unfoldable pub value_of : IntType → ℕ → ℤ
value_of ty word = cond (is_signed ty) (cast_signed w64 word) (pos word)

-- z modulo n, from 0 to n - 1
unfoldable pub residue : ℕ → ℤ → ℕ
residue n z = unsigned_abs (int_rem_euclid z (pos n))

-- the word of a whole number: its value modulo 2 ^ 64
unfoldable pub word_of : ℤ → ℕ
word_of z = residue (2 ^ 64) z

-- of an integer type, the one value congruent to z modulo 2 ^ width; of bool, whether z is not 0
unfoldable pub value_in : IntType → ℤ → ℤ
value_in ty z =
    cond (is_bool ty)
    (cond (nat_eq (unsigned_abs z) 0) (pos 0) (pos 1))
    (pos (residue (2 ^ width ty) (z +ℤ pos (half ty))) -ℤ pos (half ty))

unfoldable pub wrapped : IntType → ℤ → ℕ
wrapped ty z = word_of (value_in ty z)

abbrev pub truth : Bool → ℤ
truth b = cond b (pos 1) (pos 0)

-- a shift's amount, of the word b
abbrev pub amount : IntType → ℕ → ℕ
amount ty b = b % width ty

-- the operation's result before it is wrapped; a bit operation is made on the words
abbrev pub exact : BinaryOp → IntType → ℕ → ℕ → ℤ
exact Add ty a b = value_of ty a +ℤ value_of ty b
exact Sub ty a b = value_of ty a -ℤ value_of ty b
exact Mul ty a b = value_of ty a *ℤ value_of ty b
exact Div ty a b = int_div (value_of ty a) (value_of ty b)
exact Rem ty a b = int_rem (value_of ty a) (value_of ty b)
exact And ty a b = pos (bit_and a b)
exact Or ty a b = pos (bit_or a b)
exact Xor ty a b = pos (bit_xor a b)
exact Shl ty a b = value_of ty a *ℤ pos (2 ^ amount ty b)
exact Shr ty a b = int_div_euclid (value_of ty a) (pos (2 ^ amount ty b))
exact Less ty a b = truth (int_lt (value_of ty a) (value_of ty b))
exact LessEqual ty a b = truth (not (int_lt (value_of ty b) (value_of ty a)))
exact Greater ty a b = truth (int_lt (value_of ty b) (value_of ty a))
exact GreaterEqual ty a b = truth (not (int_lt (value_of ty a) (value_of ty b)))
exact Equal ty a b = truth (nat_eq a b)
exact NotEqual ty a b = truth (not (nat_eq a b))

abbrev pub result_type : BinaryOp → IntType → IntType
result_type Less ty = BoolType
result_type LessEqual ty = BoolType
result_type Greater ty = BoolType
result_type GreaterEqual ty = BoolType
result_type Equal ty = BoolType
result_type NotEqual ty = BoolType
result_type _ ty = ty

unfoldable pub binary_of : BinaryOp → IntType → ℕ → ℕ → ℕ
binary_of op ty a b = wrapped (result_type op ty) (exact op ty a b)

abbrev pub divides : BinaryOp → Bool
divides Div = true
divides Rem = true
divides _ = false

abbrev pub binary_result : BinaryOp → IntType → ℕ → ℕ → Result ℕ FaultName
binary_result op ty a b =
    cond (divides op)
    (cond (nat_eq b 0) (Err DivideByZero) (Ok (binary_of op ty a b)))
    (Ok (binary_of op ty a b))

abbrev pub unary_type : UnaryOp → IntType → IntType
unary_type Not ty = BoolType
unary_type _ ty = ty

abbrev pub unary_of : UnaryOp → IntType → ℕ → ℕ
unary_of Negate ty a = wrapped ty (neg_ℤ (value_of ty a))
unary_of Plus ty a = wrapped ty (value_of ty a)
unary_of Not ty a = wrapped BoolType (truth (nat_eq a 0))
unary_of Complement ty a = wrapped ty (neg_ℤ (value_of ty a) -ℤ pos 1)

abbrev pub converted : IntType → IntType → ℕ → ℕ
converted from to word = wrapped to (value_of from word)
