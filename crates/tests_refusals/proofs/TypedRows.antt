-- Rows of the types and rates of expressions.
use Rattle.std.specs.Prelude.{◌≡◌, refl, true, false, Some, None, codes}
use Rattle.gang_types.specs.declared.types.Rate.TheVariants.{Uniform, Varying}
use Rattle.gang_types.specs.declared.types.IntType.TheVariants as t
use Rattle.gang_types.specs.declared.operators.UnaryOp.TheVariants as unary
use Rattle.gang_types.specs.declared.operators.BinaryOp.TheVariants as op
use Rattle.gang_model.specs.declared.forms.Infix.TheVariants.{Op, AndAlso, OrElse}
use Rattle.gang_model.specs.Source.Parsed.{ParsedNumber, ParsedBool, ParsedName, ParsedCall, ParsedUnary, ParsedCast, ParsedBinary, ParsedChoice, ParsedEnd, ParsedValue}
use Rattle.tests_transcripts.proofs.Forms.{at}
use Rattle.tests_refusals.proofs.Wanted.{type_of, has_type}

-- 1
row_0 : type_of (ParsedNumber (at 1 1) 1 false false) ≡ has_type t.Int32 Uniform
row_0 = refl

-- 2147483647
row_1 : type_of (ParsedNumber (at 1 1) 2147483647 false false) ≡ has_type t.Int32 Uniform
row_1 = refl

-- 2147483648
row_2 : type_of (ParsedNumber (at 1 1) 2147483648 false false) ≡ has_type t.Int64 Uniform
row_2 = refl

-- 9223372036854775808
row_3 : type_of (ParsedNumber (at 1 1) 9223372036854775808 false false) ≡ has_type t.Uint64 Uniform
row_3 = refl

-- 1u
row_4 : type_of (ParsedNumber (at 1 1) 1 true false) ≡ has_type t.Uint32 Uniform
row_4 = refl

-- 4294967296u
row_5 : type_of (ParsedNumber (at 1 1) 4294967296 true false) ≡ has_type t.Uint64 Uniform
row_5 = refl

-- 1l
row_6 : type_of (ParsedNumber (at 1 1) 1 false true) ≡ has_type t.Int64 Uniform
row_6 = refl

-- 9223372036854775808L
row_7 : type_of (ParsedNumber (at 1 1) 9223372036854775808 false true) ≡ has_type t.Uint64 Uniform
row_7 = refl

-- 1ul
row_8 : type_of (ParsedNumber (at 1 1) 1 true true) ≡ has_type t.Uint64 Uniform
row_8 = refl

-- 0x80000000
row_9 : type_of (ParsedNumber (at 1 1) 2147483648 false false) ≡ has_type t.Int64 Uniform
row_9 = refl

-- true
row_10 : type_of (ParsedBool (at 1 1) true) ≡ has_type t.Bool Uniform
row_10 = refl

-- programIndex
row_11 : type_of (ParsedName (at 1 1) (codes "programIndex")) ≡ has_type t.Int32 Varying
row_11 = refl

-- programCount
row_12 : type_of (ParsedName (at 1 1) (codes "programCount")) ≡ has_type t.Int32 Uniform
row_12 = refl

-- -2147483648
row_13 : type_of (ParsedUnary (at 1 1) unary.Negate (ParsedNumber (at 1 2) 2147483648 false false)) ≡ has_type t.Int64 Uniform
row_13 = refl

-- true & false
row_14 : type_of (ParsedBinary (Op op.And) (ParsedBool (at 1 1) true) (ParsedBool (at 1 8) false)) ≡ has_type t.Bool Uniform
row_14 = refl

-- true ^ programIndex > 1
row_15 : type_of (ParsedBinary (Op op.Xor) (ParsedBool (at 1 1) true) (ParsedBinary (Op op.Greater) (ParsedName (at 1 8) (codes "programIndex")) (ParsedNumber (at 1 23) 1 false false))) ≡ has_type t.Bool Varying
row_15 = refl

-- true + true
row_16 : type_of (ParsedBinary (Op op.Add) (ParsedBool (at 1 1) true) (ParsedBool (at 1 8) true)) ≡ has_type t.Int32 Uniform
row_16 = refl

-- true - programIndex
row_17 : type_of (ParsedBinary (Op op.Sub) (ParsedBool (at 1 1) true) (ParsedName (at 1 8) (codes "programIndex"))) ≡ has_type t.Int32 Varying
row_17 = refl

-- true == false
row_18 : type_of (ParsedBinary (Op op.Equal) (ParsedBool (at 1 1) true) (ParsedBool (at 1 9) false)) ≡ has_type t.Bool Uniform
row_18 = refl

-- true | 1
row_19 : type_of (ParsedBinary (Op op.Or) (ParsedBool (at 1 1) true) (ParsedNumber (at 1 8) 1 false false)) ≡ has_type t.Int32 Uniform
row_19 = refl

-- true ? false : true
row_20 : type_of (ParsedChoice (ParsedBool (at 1 1) true) (ParsedBool (at 1 8) false) (ParsedBool (at 1 16) true)) ≡ has_type t.Bool Uniform
row_20 = refl

-- programIndex ? 1 : 2
row_21 : type_of (ParsedChoice (ParsedName (at 1 1) (codes "programIndex")) (ParsedNumber (at 1 16) 1 false false) (ParsedNumber (at 1 20) 2 false false)) ≡ has_type t.Int32 Varying
row_21 = refl

-- true ? (int8) 1 : true
row_22 : type_of (ParsedChoice (ParsedBool (at 1 1) true) (ParsedCast (at 1 8) None (Some t.Int8) (ParsedNumber (at 1 15) 1 false false)) (ParsedBool (at 1 19) true)) ≡ has_type t.Int8 Uniform
row_22 = refl

-- -true
row_23 : type_of (ParsedUnary (at 1 1) unary.Negate (ParsedBool (at 1 2) true)) ≡ has_type t.Int32 Uniform
row_23 = refl

-- +true
row_24 : type_of (ParsedUnary (at 1 1) unary.Plus (ParsedBool (at 1 2) true)) ≡ has_type t.Int32 Uniform
row_24 = refl

-- ~true
row_25 : type_of (ParsedUnary (at 1 1) unary.Complement (ParsedBool (at 1 2) true)) ≡ has_type t.Int32 Uniform
row_25 = refl

-- -(int8) 1
row_26 : type_of (ParsedUnary (at 1 1) unary.Negate (ParsedCast (at 1 2) None (Some t.Int8) (ParsedNumber (at 1 9) 1 false false))) ≡ has_type t.Int8 Uniform
row_26 = refl

-- !3
row_27 : type_of (ParsedUnary (at 1 1) unary.Not (ParsedNumber (at 1 2) 3 false false)) ≡ has_type t.Bool Uniform
row_27 = refl

-- !programIndex
row_28 : type_of (ParsedUnary (at 1 1) unary.Not (ParsedName (at 1 2) (codes "programIndex"))) ≡ has_type t.Bool Varying
row_28 = refl

-- (int8) 1 + (uint8) 2
row_29 : type_of (ParsedBinary (Op op.Add) (ParsedCast (at 1 1) None (Some t.Int8) (ParsedNumber (at 1 8) 1 false false)) (ParsedCast (at 1 12) None (Some t.Uint8) (ParsedNumber (at 1 20) 2 false false))) ≡ has_type t.Uint8 Uniform
row_29 = refl

-- (int8) 1 * (int16) 2
row_30 : type_of (ParsedBinary (Op op.Mul) (ParsedCast (at 1 1) None (Some t.Int8) (ParsedNumber (at 1 8) 1 false false)) (ParsedCast (at 1 12) None (Some t.Int16) (ParsedNumber (at 1 20) 2 false false))) ≡ has_type t.Int16 Uniform
row_30 = refl

-- (uint8) 1 * (int16) 2
row_31 : type_of (ParsedBinary (Op op.Mul) (ParsedCast (at 1 1) None (Some t.Uint8) (ParsedNumber (at 1 9) 1 false false)) (ParsedCast (at 1 13) None (Some t.Int16) (ParsedNumber (at 1 21) 2 false false))) ≡ has_type t.Int16 Uniform
row_31 = refl

-- (uint16) 1 / (int16) 2
row_32 : type_of (ParsedBinary (Op op.Div) (ParsedCast (at 1 1) None (Some t.Uint16) (ParsedNumber (at 1 10) 1 false false)) (ParsedCast (at 1 14) None (Some t.Int16) (ParsedNumber (at 1 22) 2 false false))) ≡ has_type t.Uint16 Uniform
row_32 = refl

-- true + (int8) 1
row_33 : type_of (ParsedBinary (Op op.Add) (ParsedBool (at 1 1) true) (ParsedCast (at 1 8) None (Some t.Int8) (ParsedNumber (at 1 15) 1 false false))) ≡ has_type t.Int8 Uniform
row_33 = refl

-- (int8) 1 << (int64) 2
row_34 : type_of (ParsedBinary (Op op.Shl) (ParsedCast (at 1 1) None (Some t.Int8) (ParsedNumber (at 1 8) 1 false false)) (ParsedCast (at 1 13) None (Some t.Int64) (ParsedNumber (at 1 21) 2 false false))) ≡ has_type t.Int8 Uniform
row_34 = refl

-- true << 1
row_35 : type_of (ParsedBinary (Op op.Shl) (ParsedBool (at 1 1) true) (ParsedNumber (at 1 9) 1 false false)) ≡ has_type t.Int32 Uniform
row_35 = refl

-- 1 >> programIndex
row_36 : type_of (ParsedBinary (Op op.Shr) (ParsedNumber (at 1 1) 1 false false) (ParsedName (at 1 6) (codes "programIndex"))) ≡ has_type t.Int32 Varying
row_36 = refl

-- (int8) 1 < programIndex
row_37 : type_of (ParsedBinary (Op op.Less) (ParsedCast (at 1 1) None (Some t.Int8) (ParsedNumber (at 1 8) 1 false false)) (ParsedName (at 1 12) (codes "programIndex"))) ≡ has_type t.Bool Varying
row_37 = refl

-- 1 && programIndex
row_38 : type_of (ParsedBinary AndAlso (ParsedNumber (at 1 1) 1 false false) (ParsedName (at 1 6) (codes "programIndex"))) ≡ has_type t.Bool Varying
row_38 = refl

-- 1 || 2
row_39 : type_of (ParsedBinary OrElse (ParsedNumber (at 1 1) 1 false false) (ParsedNumber (at 1 6) 2 false false)) ≡ has_type t.Bool Uniform
row_39 = refl

-- (uint8) programIndex
row_40 : type_of (ParsedCast (at 1 1) None (Some t.Uint8) (ParsedName (at 1 9) (codes "programIndex"))) ≡ has_type t.Uint8 Varying
row_40 = refl

-- (varying int8) 1
row_41 : type_of (ParsedCast (at 1 1) (Some Varying) (Some t.Int8) (ParsedNumber (at 1 16) 1 false false)) ≡ has_type t.Int8 Varying
row_41 = refl

-- (bool) 3
row_42 : type_of (ParsedCast (at 1 1) None (Some t.Bool) (ParsedNumber (at 1 8) 3 false false)) ≡ has_type t.Bool Uniform
row_42 = refl

-- reduce_add((int8) 1)
row_43 : type_of (ParsedCall (at 1 1) (codes "reduce_add") (ParsedValue (ParsedCast (at 1 12) None (Some t.Int8) (ParsedNumber (at 1 19) 1 false false)) ParsedEnd)) ≡ has_type t.Int16 Uniform
row_43 = refl

-- reduce_add((uint8) 1)
row_44 : type_of (ParsedCall (at 1 1) (codes "reduce_add") (ParsedValue (ParsedCast (at 1 12) None (Some t.Uint8) (ParsedNumber (at 1 20) 1 false false)) ParsedEnd)) ≡ has_type t.Uint16 Uniform
row_44 = refl

-- reduce_add((int16) 1)
row_45 : type_of (ParsedCall (at 1 1) (codes "reduce_add") (ParsedValue (ParsedCast (at 1 12) None (Some t.Int16) (ParsedNumber (at 1 20) 1 false false)) ParsedEnd)) ≡ has_type t.Int32 Uniform
row_45 = refl

-- reduce_add(programIndex)
row_46 : type_of (ParsedCall (at 1 1) (codes "reduce_add") (ParsedValue (ParsedName (at 1 12) (codes "programIndex")) ParsedEnd)) ≡ has_type t.Int64 Uniform
row_46 = refl

-- reduce_add(1u)
row_47 : type_of (ParsedCall (at 1 1) (codes "reduce_add") (ParsedValue (ParsedNumber (at 1 12) 1 true false) ParsedEnd)) ≡ has_type t.Uint64 Uniform
row_47 = refl

-- reduce_add(1l)
row_48 : type_of (ParsedCall (at 1 1) (codes "reduce_add") (ParsedValue (ParsedNumber (at 1 12) 1 false true) ParsedEnd)) ≡ has_type t.Int64 Uniform
row_48 = refl

-- reduce_add(true)
row_49 : type_of (ParsedCall (at 1 1) (codes "reduce_add") (ParsedValue (ParsedBool (at 1 12) true) ParsedEnd)) ≡ has_type t.Int64 Uniform
row_49 = refl

-- reduce_min(true)
row_50 : type_of (ParsedCall (at 1 1) (codes "reduce_min") (ParsedValue (ParsedBool (at 1 12) true) ParsedEnd)) ≡ has_type t.Int32 Uniform
row_50 = refl

-- reduce_max((uint8) 1)
row_51 : type_of (ParsedCall (at 1 1) (codes "reduce_max") (ParsedValue (ParsedCast (at 1 12) None (Some t.Uint8) (ParsedNumber (at 1 20) 1 false false)) ParsedEnd)) ≡ has_type t.Uint8 Uniform
row_51 = refl

-- reduce_equal(programIndex)
row_52 : type_of (ParsedCall (at 1 1) (codes "reduce_equal") (ParsedValue (ParsedName (at 1 14) (codes "programIndex")) ParsedEnd)) ≡ has_type t.Bool Uniform
row_52 = refl

-- any(programIndex)
row_53 : type_of (ParsedCall (at 1 1) (codes "any") (ParsedValue (ParsedName (at 1 5) (codes "programIndex")) ParsedEnd)) ≡ has_type t.Bool Uniform
row_53 = refl

-- packmask(programIndex)
row_54 : type_of (ParsedCall (at 1 1) (codes "packmask") (ParsedValue (ParsedName (at 1 10) (codes "programIndex")) ParsedEnd)) ≡ has_type t.Uint64 Uniform
row_54 = refl

-- lanemask()
row_55 : type_of (ParsedCall (at 1 1) (codes "lanemask") ParsedEnd) ≡ has_type t.Uint64 Uniform
row_55 = refl

-- popcnt(programIndex > 1)
row_56 : type_of (ParsedCall (at 1 1) (codes "popcnt") (ParsedValue (ParsedBinary (Op op.Greater) (ParsedName (at 1 8) (codes "programIndex")) (ParsedNumber (at 1 23) 1 false false)) ParsedEnd)) ≡ has_type t.Int32 Uniform
row_56 = refl

-- popcnt((int8) 3)
row_57 : type_of (ParsedCall (at 1 1) (codes "popcnt") (ParsedValue (ParsedCast (at 1 8) None (Some t.Int8) (ParsedNumber (at 1 15) 3 false false)) ParsedEnd)) ≡ has_type t.Int32 Uniform
row_57 = refl

-- popcnt(programIndex)
row_58 : type_of (ParsedCall (at 1 1) (codes "popcnt") (ParsedValue (ParsedName (at 1 8) (codes "programIndex")) ParsedEnd)) ≡ has_type t.Int32 Varying
row_58 = refl

-- broadcast((int8) 1, 0)
row_59 : type_of (ParsedCall (at 1 1) (codes "broadcast") (ParsedValue (ParsedCast (at 1 11) None (Some t.Int8) (ParsedNumber (at 1 18) 1 false false)) (ParsedValue (ParsedNumber (at 1 21) 0 false false) ParsedEnd))) ≡ has_type t.Int8 Varying
row_59 = refl

-- extract(programIndex > 1, 0)
row_60 : type_of (ParsedCall (at 1 1) (codes "extract") (ParsedValue (ParsedBinary (Op op.Greater) (ParsedName (at 1 9) (codes "programIndex")) (ParsedNumber (at 1 24) 1 false false)) (ParsedValue (ParsedNumber (at 1 27) 0 false false) ParsedEnd))) ≡ has_type t.Bool Uniform
row_60 = refl

-- insert((int8) 1, 0, 300)
row_61 : type_of (ParsedCall (at 1 1) (codes "insert") (ParsedValue (ParsedCast (at 1 8) None (Some t.Int8) (ParsedNumber (at 1 15) 1 false false)) (ParsedValue (ParsedNumber (at 1 18) 0 false false) (ParsedValue (ParsedNumber (at 1 21) 300 false false) ParsedEnd)))) ≡ has_type t.Int8 Varying
row_61 = refl

-- rotate(true, 1)
row_62 : type_of (ParsedCall (at 1 1) (codes "rotate") (ParsedValue (ParsedBool (at 1 8) true) (ParsedValue (ParsedNumber (at 1 14) 1 false false) ParsedEnd))) ≡ has_type t.Bool Varying
row_62 = refl

-- shift(1u, 1)
row_63 : type_of (ParsedCall (at 1 1) (codes "shift") (ParsedValue (ParsedNumber (at 1 7) 1 true false) (ParsedValue (ParsedNumber (at 1 11) 1 false false) ParsedEnd))) ≡ has_type t.Uint32 Varying
row_63 = refl

-- shuffle((int8) 1, 2)
row_64 : type_of (ParsedCall (at 1 1) (codes "shuffle") (ParsedValue (ParsedCast (at 1 9) None (Some t.Int8) (ParsedNumber (at 1 16) 1 false false)) (ParsedValue (ParsedNumber (at 1 19) 2 false false) ParsedEnd))) ≡ has_type t.Int8 Varying
row_64 = refl

-- shuffle(true, true, 2)
row_65 : type_of (ParsedCall (at 1 1) (codes "shuffle") (ParsedValue (ParsedBool (at 1 9) true) (ParsedValue (ParsedBool (at 1 15) true) (ParsedValue (ParsedNumber (at 1 21) 2 false false) ParsedEnd)))) ≡ has_type t.Int32 Varying
row_65 = refl

-- shuffle((int8) 1, 2u, 2)
row_66 : type_of (ParsedCall (at 1 1) (codes "shuffle") (ParsedValue (ParsedCast (at 1 9) None (Some t.Int8) (ParsedNumber (at 1 16) 1 false false)) (ParsedValue (ParsedNumber (at 1 19) 2 true false) (ParsedValue (ParsedNumber (at 1 23) 2 false false) ParsedEnd)))) ≡ has_type t.Uint32 Varying
row_66 = refl

-- exclusive_scan_add(true)
row_67 : type_of (ParsedCall (at 1 1) (codes "exclusive_scan_add") (ParsedValue (ParsedBool (at 1 20) true) ParsedEnd)) ≡ has_type t.Int32 Varying
row_67 = refl

-- exclusive_scan_and((uint8) 1)
row_68 : type_of (ParsedCall (at 1 1) (codes "exclusive_scan_and") (ParsedValue (ParsedCast (at 1 20) None (Some t.Uint8) (ParsedNumber (at 1 28) 1 false false)) ParsedEnd)) ≡ has_type t.Uint8 Varying
row_68 = refl

-- min(true, (int8) 1)
row_69 : type_of (ParsedCall (at 1 1) (codes "min") (ParsedValue (ParsedBool (at 1 5) true) (ParsedValue (ParsedCast (at 1 11) None (Some t.Int8) (ParsedNumber (at 1 18) 1 false false)) ParsedEnd))) ≡ has_type t.Int32 Uniform
row_69 = refl

-- max((int8) 1, (uint8) programIndex)
row_70 : type_of (ParsedCall (at 1 1) (codes "max") (ParsedValue (ParsedCast (at 1 5) None (Some t.Int8) (ParsedNumber (at 1 12) 1 false false)) (ParsedValue (ParsedCast (at 1 15) None (Some t.Uint8) (ParsedName (at 1 23) (codes "programIndex"))) ParsedEnd))) ≡ has_type t.Uint8 Varying
row_70 = refl

-- clamp((int8) 1, (uint16) 2, (int16) 3)
row_71 : type_of (ParsedCall (at 1 1) (codes "clamp") (ParsedValue (ParsedCast (at 1 7) None (Some t.Int8) (ParsedNumber (at 1 14) 1 false false)) (ParsedValue (ParsedCast (at 1 17) None (Some t.Uint16) (ParsedNumber (at 1 26) 2 false false)) (ParsedValue (ParsedCast (at 1 29) None (Some t.Int16) (ParsedNumber (at 1 37) 3 false false)) ParsedEnd)))) ≡ has_type t.Uint16 Uniform
row_71 = refl

-- clamp(programIndex, 0, 2)
row_72 : type_of (ParsedCall (at 1 1) (codes "clamp") (ParsedValue (ParsedName (at 1 7) (codes "programIndex")) (ParsedValue (ParsedNumber (at 1 21) 0 false false) (ParsedValue (ParsedNumber (at 1 24) 2 false false) ParsedEnd)))) ≡ has_type t.Int32 Varying
row_72 = refl

-- abs(true)
row_73 : type_of (ParsedCall (at 1 1) (codes "abs") (ParsedValue (ParsedBool (at 1 5) true) ParsedEnd)) ≡ has_type t.Int32 Uniform
row_73 = refl

-- abs((int8) programIndex)
row_74 : type_of (ParsedCall (at 1 1) (codes "abs") (ParsedValue (ParsedCast (at 1 5) None (Some t.Int8) (ParsedName (at 1 12) (codes "programIndex"))) ParsedEnd)) ≡ has_type t.Int8 Varying
row_74 = refl

-- select(programIndex > 1, true, false)
row_75 : type_of (ParsedCall (at 1 1) (codes "select") (ParsedValue (ParsedBinary (Op op.Greater) (ParsedName (at 1 8) (codes "programIndex")) (ParsedNumber (at 1 23) 1 false false)) (ParsedValue (ParsedBool (at 1 26) true) (ParsedValue (ParsedBool (at 1 32) false) ParsedEnd)))) ≡ has_type t.Bool Varying
row_75 = refl

-- select(true, (int8) 1, true)
row_76 : type_of (ParsedCall (at 1 1) (codes "select") (ParsedValue (ParsedBool (at 1 8) true) (ParsedValue (ParsedCast (at 1 14) None (Some t.Int8) (ParsedNumber (at 1 21) 1 false false)) (ParsedValue (ParsedBool (at 1 24) true) ParsedEnd)))) ≡ has_type t.Int8 Uniform
row_76 = refl
