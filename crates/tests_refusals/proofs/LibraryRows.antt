-- Rows of library calls.
use Rattle.std.specs.Prelude.{◌≡◌, refl, true, false, [], ◌∷◌, Some, None, codes}
use Rattle.gang_types.specs.Values.{value_of, residue, word_of, value_in, wrapped, binary_of}
use Rattle.gang_types.specs.declared.types.Rate.TheVariants.{Uniform}
use Rattle.gang_types.specs.declared.types.IntType.TheVariants as t
use Rattle.gang_types.specs.declared.operators.BinaryOp.TheVariants as op
use Rattle.gang_model.specs.declared.forms.Infix.TheVariants.{Op, AndAlso}
use Rattle.gang_model.specs.declared.forms.GlobalForm.TheVariants.{Plain, Array}
use Rattle.gang_model.specs.Source.Parsed.{ParsedNumber, ParsedBool, ParsedName, ParsedCall, ParsedParen, ParsedCast, ParsedBinary, ParsedEnd, ParsedValue, ParsedPart, ParsedPartFrom, ParsedDeclare, ParsedAssign, ParsedDoCall, ParsedReturn, ParsedLast, ParsedNext, ParsedSource}
use Rattle.tests_transcripts.proofs.Forms.{at, spec, target, function, file_variable}
use Rattle.gang_model.specs.declared.refusals.RefusalNumber.TheVariants.{S7, S8, S9}
use Rattle.gang_model.specs.Types.SourceRefusals.{refusal_of}
use Rattle.tests_refusals.proofs.Wanted.{refused, accepted}

-- export void go() { bool b = any(1) && all(programIndex) && none(true); }
abbrev tree_0 : ParsedSource
tree_0 =
    (function (at 1 13) (codes "go") (spec true false false false None None) ([])
    (ParsedNext (ParsedDeclare (at 1 20) (spec false false false false None (Some t.Bool)) (at 1 25) (codes "b") (Some (ParsedBinary AndAlso (ParsedBinary AndAlso (ParsedCall (at 1 29) (codes "any") (ParsedValue (ParsedNumber (at 1 33) 1 false false) ParsedEnd)) (ParsedCall (at 1 39) (codes "all") (ParsedValue (ParsedName (at 1 43) (codes "programIndex")) ParsedEnd))) (ParsedCall (at 1 60) (codes "none") (ParsedValue (ParsedBool (at 1 65) true) ParsedEnd)))))
    ParsedLast) (at 1 72)) ∷ []

row_0 : refusal_of tree_0 ≡ accepted
unfolding value_of residue word_of value_in wrapped binary_of
row_0 = refl

-- export void go() { uniform int x = min(programIndex, 1); }
abbrev tree_1 : ParsedSource
tree_1 =
    (function (at 1 13) (codes "go") (spec true false false false None None) ([])
    (ParsedNext (ParsedDeclare (at 1 20) (spec false false false false (Some Uniform) (Some t.Int32)) (at 1 32) (codes "x") (Some (ParsedCall (at 1 36) (codes "min") (ParsedValue (ParsedName (at 1 40) (codes "programIndex")) (ParsedValue (ParsedNumber (at 1 54) 1 false false) ParsedEnd)))))
    ParsedLast) (at 1 58)) ∷ []

row_1 : refusal_of tree_1 ≡ refused S7 1 36
unfolding value_of residue word_of value_in wrapped binary_of
row_1 = refl

-- export void go() { uniform int64 x = reduce_add(programIndex); uniform int8 y = reduce_min((int8) programIndex); }
abbrev tree_2 : ParsedSource
tree_2 =
    (function (at 1 13) (codes "go") (spec true false false false None None) ([])
    (ParsedNext (ParsedDeclare (at 1 20) (spec false false false false (Some Uniform) (Some t.Int64)) (at 1 34) (codes "x") (Some (ParsedCall (at 1 38) (codes "reduce_add") (ParsedValue (ParsedName (at 1 49) (codes "programIndex")) ParsedEnd))))
    (ParsedNext (ParsedDeclare (at 1 64) (spec false false false false (Some Uniform) (Some t.Int8)) (at 1 77) (codes "y") (Some (ParsedCall (at 1 81) (codes "reduce_min") (ParsedValue (ParsedCast (at 1 92) None (Some t.Int8) (ParsedName (at 1 99) (codes "programIndex"))) ParsedEnd))))
    ParsedLast)) (at 1 114)) ∷ []

row_2 : refusal_of tree_2 ≡ accepted
unfolding value_of residue word_of value_in wrapped binary_of
row_2 = refl

-- export void go() { uniform int x = broadcast(programIndex, 1); }
-- (varying, though each lane has one value)
abbrev tree_3 : ParsedSource
tree_3 =
    (function (at 1 13) (codes "go") (spec true false false false None None) ([])
    (ParsedNext (ParsedDeclare (at 1 20) (spec false false false false (Some Uniform) (Some t.Int32)) (at 1 32) (codes "x") (Some (ParsedCall (at 1 36) (codes "broadcast") (ParsedValue (ParsedName (at 1 46) (codes "programIndex")) (ParsedValue (ParsedNumber (at 1 60) 1 false false) ParsedEnd)))))
    ParsedLast) (at 1 64)) ∷ []

row_3 : refusal_of tree_3 ≡ refused S7 1 36
unfolding value_of residue word_of value_in wrapped binary_of
row_3 = refl

-- export void go() { uniform int x = extract(programIndex, 1); }
abbrev tree_4 : ParsedSource
tree_4 =
    (function (at 1 13) (codes "go") (spec true false false false None None) ([])
    (ParsedNext (ParsedDeclare (at 1 20) (spec false false false false (Some Uniform) (Some t.Int32)) (at 1 32) (codes "x") (Some (ParsedCall (at 1 36) (codes "extract") (ParsedValue (ParsedName (at 1 44) (codes "programIndex")) (ParsedValue (ParsedNumber (at 1 58) 1 false false) ParsedEnd)))))
    ParsedLast) (at 1 62)) ∷ []

row_4 : refusal_of tree_4 ≡ accepted
unfolding value_of residue word_of value_in wrapped binary_of
row_4 = refl

-- export void go() { int x = broadcast(1, programIndex); }
abbrev tree_5 : ParsedSource
tree_5 =
    (function (at 1 13) (codes "go") (spec true false false false None None) ([])
    (ParsedNext (ParsedDeclare (at 1 20) (spec false false false false None (Some t.Int32)) (at 1 24) (codes "x") (Some (ParsedCall (at 1 28) (codes "broadcast") (ParsedValue (ParsedNumber (at 1 38) 1 false false) (ParsedValue (ParsedName (at 1 41) (codes "programIndex")) ParsedEnd)))))
    ParsedLast) (at 1 56)) ∷ []

row_5 : refusal_of tree_5 ≡ refused S7 1 41
unfolding value_of residue word_of value_in wrapped binary_of
row_5 = refl

-- export void go() { int x = extract(1, programIndex); }
abbrev tree_6 : ParsedSource
tree_6 =
    (function (at 1 13) (codes "go") (spec true false false false None None) ([])
    (ParsedNext (ParsedDeclare (at 1 20) (spec false false false false None (Some t.Int32)) (at 1 24) (codes "x") (Some (ParsedCall (at 1 28) (codes "extract") (ParsedValue (ParsedNumber (at 1 36) 1 false false) (ParsedValue (ParsedName (at 1 39) (codes "programIndex")) ParsedEnd)))))
    ParsedLast) (at 1 54)) ∷ []

row_6 : refusal_of tree_6 ≡ refused S7 1 39
unfolding value_of residue word_of value_in wrapped binary_of
row_6 = refl

-- export void go() { int x = insert(1, programIndex, programIndex); }
abbrev tree_7 : ParsedSource
tree_7 =
    (function (at 1 13) (codes "go") (spec true false false false None None) ([])
    (ParsedNext (ParsedDeclare (at 1 20) (spec false false false false None (Some t.Int32)) (at 1 24) (codes "x") (Some (ParsedCall (at 1 28) (codes "insert") (ParsedValue (ParsedNumber (at 1 35) 1 false false) (ParsedValue (ParsedName (at 1 38) (codes "programIndex")) (ParsedValue (ParsedName (at 1 52) (codes "programIndex")) ParsedEnd))))))
    ParsedLast) (at 1 67)) ∷ []

row_7 : refusal_of tree_7 ≡ refused S7 1 38
unfolding value_of residue word_of value_in wrapped binary_of
row_7 = refl

-- export void go() { int x = insert(1, 1, programIndex); }
abbrev tree_8 : ParsedSource
tree_8 =
    (function (at 1 13) (codes "go") (spec true false false false None None) ([])
    (ParsedNext (ParsedDeclare (at 1 20) (spec false false false false None (Some t.Int32)) (at 1 24) (codes "x") (Some (ParsedCall (at 1 28) (codes "insert") (ParsedValue (ParsedNumber (at 1 35) 1 false false) (ParsedValue (ParsedNumber (at 1 38) 1 false false) (ParsedValue (ParsedName (at 1 41) (codes "programIndex")) ParsedEnd))))))
    ParsedLast) (at 1 56)) ∷ []

row_8 : refusal_of tree_8 ≡ refused S7 1 41
unfolding value_of residue word_of value_in wrapped binary_of
row_8 = refl

-- export void go() { int x = rotate(1, programIndex); }
abbrev tree_9 : ParsedSource
tree_9 =
    (function (at 1 13) (codes "go") (spec true false false false None None) ([])
    (ParsedNext (ParsedDeclare (at 1 20) (spec false false false false None (Some t.Int32)) (at 1 24) (codes "x") (Some (ParsedCall (at 1 28) (codes "rotate") (ParsedValue (ParsedNumber (at 1 35) 1 false false) (ParsedValue (ParsedName (at 1 38) (codes "programIndex")) ParsedEnd)))))
    ParsedLast) (at 1 53)) ∷ []

row_9 : refusal_of tree_9 ≡ refused S7 1 38
unfolding value_of residue word_of value_in wrapped binary_of
row_9 = refl

-- export void go() { int x = shift(1, programIndex); }
abbrev tree_10 : ParsedSource
tree_10 =
    (function (at 1 13) (codes "go") (spec true false false false None None) ([])
    (ParsedNext (ParsedDeclare (at 1 20) (spec false false false false None (Some t.Int32)) (at 1 24) (codes "x") (Some (ParsedCall (at 1 28) (codes "shift") (ParsedValue (ParsedNumber (at 1 34) 1 false false) (ParsedValue (ParsedName (at 1 37) (codes "programIndex")) ParsedEnd)))))
    ParsedLast) (at 1 52)) ∷ []

row_10 : refusal_of tree_10 ≡ refused S7 1 37
unfolding value_of residue word_of value_in wrapped binary_of
row_10 = refl

-- export void go() { int x = shuffle(1, programIndex); x = shuffle(1, 2, programIndex); }
abbrev tree_11 : ParsedSource
tree_11 =
    (function (at 1 13) (codes "go") (spec true false false false None None) ([])
    (ParsedNext (ParsedDeclare (at 1 20) (spec false false false false None (Some t.Int32)) (at 1 24) (codes "x") (Some (ParsedCall (at 1 28) (codes "shuffle") (ParsedValue (ParsedNumber (at 1 36) 1 false false) (ParsedValue (ParsedName (at 1 39) (codes "programIndex")) ParsedEnd)))))
    (ParsedNext (ParsedAssign (at 1 54) (target (at 1 54) (codes "x") None) (ParsedCall (at 1 58) (codes "shuffle") (ParsedValue (ParsedNumber (at 1 66) 1 false false) (ParsedValue (ParsedNumber (at 1 69) 2 false false) (ParsedValue (ParsedName (at 1 72) (codes "programIndex")) ParsedEnd)))))
    ParsedLast)) (at 1 87)) ∷ []

row_11 : refusal_of tree_11 ≡ accepted
unfolding value_of residue word_of value_in wrapped binary_of
row_11 = refl

-- export void go() { int x = shuffle(1); }
abbrev tree_12 : ParsedSource
tree_12 =
    (function (at 1 13) (codes "go") (spec true false false false None None) ([])
    (ParsedNext (ParsedDeclare (at 1 20) (spec false false false false None (Some t.Int32)) (at 1 24) (codes "x") (Some (ParsedCall (at 1 28) (codes "shuffle") (ParsedValue (ParsedNumber (at 1 36) 1 false false) ParsedEnd))))
    ParsedLast) (at 1 40)) ∷ []

row_12 : refusal_of tree_12 ≡ refused S9 1 28
unfolding value_of residue word_of value_in wrapped binary_of
row_12 = refl

-- export void go() { int x = lanemask(1); }
abbrev tree_13 : ParsedSource
tree_13 =
    (function (at 1 13) (codes "go") (spec true false false false None None) ([])
    (ParsedNext (ParsedDeclare (at 1 20) (spec false false false false None (Some t.Int32)) (at 1 24) (codes "x") (Some (ParsedCall (at 1 28) (codes "lanemask") (ParsedValue (ParsedNumber (at 1 37) 1 false false) ParsedEnd))))
    ParsedLast) (at 1 41)) ∷ []

row_13 : refusal_of tree_13 ≡ refused S9 1 28
unfolding value_of residue word_of value_in wrapped binary_of
row_13 = refl

-- export void go() { uniform uint64 x = lanemask(); x = packmask(programIndex); }
abbrev tree_14 : ParsedSource
tree_14 =
    (function (at 1 13) (codes "go") (spec true false false false None None) ([])
    (ParsedNext (ParsedDeclare (at 1 20) (spec false false false false (Some Uniform) (Some t.Uint64)) (at 1 35) (codes "x") (Some (ParsedCall (at 1 39) (codes "lanemask") ParsedEnd)))
    (ParsedNext (ParsedAssign (at 1 51) (target (at 1 51) (codes "x") None) (ParsedCall (at 1 55) (codes "packmask") (ParsedValue (ParsedName (at 1 64) (codes "programIndex")) ParsedEnd)))
    ParsedLast)) (at 1 79)) ∷ []

row_14 : refusal_of tree_14 ≡ accepted
unfolding value_of residue word_of value_in wrapped binary_of
row_14 = refl

-- export void go() { uniform int x = popcnt(programIndex > 1); x = popcnt(3); x = popcnt(programIndex); }
abbrev tree_15 : ParsedSource
tree_15 =
    (function (at 1 13) (codes "go") (spec true false false false None None) ([])
    (ParsedNext (ParsedDeclare (at 1 20) (spec false false false false (Some Uniform) (Some t.Int32)) (at 1 32) (codes "x") (Some (ParsedCall (at 1 36) (codes "popcnt") (ParsedValue (ParsedBinary (Op op.Greater) (ParsedName (at 1 43) (codes "programIndex")) (ParsedNumber (at 1 58) 1 false false)) ParsedEnd))))
    (ParsedNext (ParsedAssign (at 1 62) (target (at 1 62) (codes "x") None) (ParsedCall (at 1 66) (codes "popcnt") (ParsedValue (ParsedNumber (at 1 73) 3 false false) ParsedEnd)))
    (ParsedNext (ParsedAssign (at 1 77) (target (at 1 77) (codes "x") None) (ParsedCall (at 1 81) (codes "popcnt") (ParsedValue (ParsedName (at 1 88) (codes "programIndex")) ParsedEnd)))
    ParsedLast))) (at 1 103)) ∷ []

row_15 : refusal_of tree_15 ≡ refused S7 1 81
unfolding value_of residue word_of value_in wrapped binary_of
row_15 = refl

-- uniform int a[3];
-- export void go() { int x = abs(a); }
-- (an array can not convert)
abbrev tree_16 : ParsedSource
tree_16 =
    (file_variable (at 1 13) (codes "a") (spec false false false false (Some Uniform) (Some t.Int32)) (Array 3)) ∷
    (function (at 2 13) (codes "go") (spec true false false false None None) ([])
    (ParsedNext (ParsedDeclare (at 2 20) (spec false false false false None (Some t.Int32)) (at 2 24) (codes "x") (Some (ParsedCall (at 2 28) (codes "abs") (ParsedValue (ParsedName (at 2 32) (codes "a")) ParsedEnd))))
    ParsedLast) (at 2 36)) ∷ []

row_16 : refusal_of tree_16 ≡ refused S9 2 28
unfolding value_of residue word_of value_in wrapped binary_of
row_16 = refl

-- uniform int a[3];
-- export void go() { int x = broadcast(a, programIndex); }
-- (before S7 at the argument)
abbrev tree_17 : ParsedSource
tree_17 =
    (file_variable (at 1 13) (codes "a") (spec false false false false (Some Uniform) (Some t.Int32)) (Array 3)) ∷
    (function (at 2 13) (codes "go") (spec true false false false None None) ([])
    (ParsedNext (ParsedDeclare (at 2 20) (spec false false false false None (Some t.Int32)) (at 2 24) (codes "x") (Some (ParsedCall (at 2 28) (codes "broadcast") (ParsedValue (ParsedName (at 2 38) (codes "a")) (ParsedValue (ParsedName (at 2 41) (codes "programIndex")) ParsedEnd)))))
    ParsedLast) (at 2 56)) ∷ []

row_17 : refusal_of tree_17 ≡ refused S9 2 28
unfolding value_of residue word_of value_in wrapped binary_of
row_17 = refl

-- int x;
-- export void go() { int y = abs(&x); }
abbrev tree_18 : ParsedSource
tree_18 =
    (file_variable (at 1 5) (codes "x") (spec false false false false None (Some t.Int32)) Plain) ∷
    (function (at 2 13) (codes "go") (spec true false false false None None) ([])
    (ParsedNext (ParsedDeclare (at 2 20) (spec false false false false None (Some t.Int32)) (at 2 24) (codes "y") (Some (ParsedCall (at 2 28) (codes "abs") (ParsedPart (at 2 33) (codes "x") ParsedEnd))))
    ParsedLast) (at 2 37)) ∷ []

row_18 : refusal_of tree_18 ≡ refused S9 2 28
unfolding value_of residue word_of value_in wrapped binary_of
row_18 = refl

-- export void go() { int x = select(true, 1, programIndex); x = clamp(x, 0, 2); x = max(x, 1); x = exclusive_scan_add(x); }
abbrev tree_19 : ParsedSource
tree_19 =
    (function (at 1 13) (codes "go") (spec true false false false None None) ([])
    (ParsedNext (ParsedDeclare (at 1 20) (spec false false false false None (Some t.Int32)) (at 1 24) (codes "x") (Some (ParsedCall (at 1 28) (codes "select") (ParsedValue (ParsedBool (at 1 35) true) (ParsedValue (ParsedNumber (at 1 41) 1 false false) (ParsedValue (ParsedName (at 1 44) (codes "programIndex")) ParsedEnd))))))
    (ParsedNext (ParsedAssign (at 1 59) (target (at 1 59) (codes "x") None) (ParsedCall (at 1 63) (codes "clamp") (ParsedValue (ParsedName (at 1 69) (codes "x")) (ParsedValue (ParsedNumber (at 1 72) 0 false false) (ParsedValue (ParsedNumber (at 1 75) 2 false false) ParsedEnd)))))
    (ParsedNext (ParsedAssign (at 1 79) (target (at 1 79) (codes "x") None) (ParsedCall (at 1 83) (codes "max") (ParsedValue (ParsedName (at 1 87) (codes "x")) (ParsedValue (ParsedNumber (at 1 90) 1 false false) ParsedEnd))))
    (ParsedNext (ParsedAssign (at 1 94) (target (at 1 94) (codes "x") None) (ParsedCall (at 1 98) (codes "exclusive_scan_add") (ParsedValue (ParsedName (at 1 117) (codes "x")) ParsedEnd)))
    ParsedLast)))) (at 1 121)) ∷ []

row_19 : refusal_of tree_19 ≡ accepted
unfolding value_of residue word_of value_in wrapped binary_of
row_19 = refl

-- export void go() { assert(); }
abbrev tree_20 : ParsedSource
tree_20 =
    (function (at 1 13) (codes "go") (spec true false false false None None) ([])
    (ParsedNext (ParsedDoCall (at 1 20) (codes "assert") ParsedEnd)
    ParsedLast) (at 1 30)) ∷ []

row_20 : refusal_of tree_20 ≡ refused S9 1 20
unfolding value_of residue word_of value_in wrapped binary_of
row_20 = refl

-- uniform int a[3];
-- export void go() { assert(a); }
abbrev tree_21 : ParsedSource
tree_21 =
    (file_variable (at 1 13) (codes "a") (spec false false false false (Some Uniform) (Some t.Int32)) (Array 3)) ∷
    (function (at 2 13) (codes "go") (spec true false false false None None) ([])
    (ParsedNext (ParsedDoCall (at 2 20) (codes "assert") (ParsedValue (ParsedName (at 2 27) (codes "a")) ParsedEnd))
    ParsedLast) (at 2 31)) ∷ []

row_21 : refusal_of tree_21 ≡ refused S9 2 20
unfolding value_of residue word_of value_in wrapped binary_of
row_21 = refl

-- export void go() { assert(min(1)); }
abbrev tree_22 : ParsedSource
tree_22 =
    (function (at 1 13) (codes "go") (spec true false false false None None) ([])
    (ParsedNext (ParsedDoCall (at 1 20) (codes "assert") (ParsedValue (ParsedCall (at 1 27) (codes "min") (ParsedValue (ParsedNumber (at 1 31) 1 false false) ParsedEnd)) ParsedEnd))
    ParsedLast) (at 1 36)) ∷ []

row_22 : refusal_of tree_22 ≡ refused S9 1 27
unfolding value_of residue word_of value_in wrapped binary_of
row_22 = refl

-- uniform int a[3];
-- export void go() { int x; uniform int n = packed_load_active(a, &x); n = packed_load_active(&a[1], &x); }
abbrev tree_23 : ParsedSource
tree_23 =
    (file_variable (at 1 13) (codes "a") (spec false false false false (Some Uniform) (Some t.Int32)) (Array 3)) ∷
    (function (at 2 13) (codes "go") (spec true false false false None None) ([])
    (ParsedNext (ParsedDeclare (at 2 20) (spec false false false false None (Some t.Int32)) (at 2 24) (codes "x") None)
    (ParsedNext (ParsedDeclare (at 2 27) (spec false false false false (Some Uniform) (Some t.Int32)) (at 2 39) (codes "n") (Some (ParsedCall (at 2 43) (codes "packed_load_active") (ParsedValue (ParsedName (at 2 62) (codes "a")) (ParsedPart (at 2 66) (codes "x") ParsedEnd)))))
    (ParsedNext (ParsedAssign (at 2 70) (target (at 2 70) (codes "n") None) (ParsedCall (at 2 74) (codes "packed_load_active") (ParsedPartFrom (at 2 94) (codes "a") (ParsedNumber (at 2 96) 1 false false) (ParsedPart (at 2 101) (codes "x") ParsedEnd))))
    ParsedLast))) (at 2 105)) ∷ []

row_23 : refusal_of tree_23 ≡ accepted
unfolding value_of residue word_of value_in wrapped binary_of
row_23 = refl

-- uniform int a[3];
-- export void go() { int8 x; packed_load_active(a, &x); }
-- (x of another type)
abbrev tree_24 : ParsedSource
tree_24 =
    (file_variable (at 1 13) (codes "a") (spec false false false false (Some Uniform) (Some t.Int32)) (Array 3)) ∷
    (function (at 2 13) (codes "go") (spec true false false false None None) ([])
    (ParsedNext (ParsedDeclare (at 2 20) (spec false false false false None (Some t.Int8)) (at 2 25) (codes "x") None)
    (ParsedNext (ParsedDoCall (at 2 28) (codes "packed_load_active") (ParsedValue (ParsedName (at 2 47) (codes "a")) (ParsedPart (at 2 51) (codes "x") ParsedEnd)))
    ParsedLast)) (at 2 55)) ∷ []

row_24 : refusal_of tree_24 ≡ refused S9 2 28
unfolding value_of residue word_of value_in wrapped binary_of
row_24 = refl

-- uniform int a[3];
-- export void go() { uniform int x; packed_load_active(a, &x); }
-- (x of another rate)
abbrev tree_25 : ParsedSource
tree_25 =
    (file_variable (at 1 13) (codes "a") (spec false false false false (Some Uniform) (Some t.Int32)) (Array 3)) ∷
    (function (at 2 13) (codes "go") (spec true false false false None None) ([])
    (ParsedNext (ParsedDeclare (at 2 20) (spec false false false false (Some Uniform) (Some t.Int32)) (at 2 32) (codes "x") None)
    (ParsedNext (ParsedDoCall (at 2 35) (codes "packed_load_active") (ParsedValue (ParsedName (at 2 54) (codes "a")) (ParsedPart (at 2 58) (codes "x") ParsedEnd)))
    ParsedLast)) (at 2 62)) ∷ []

row_25 : refusal_of tree_25 ≡ refused S9 2 35
unfolding value_of residue word_of value_in wrapped binary_of
row_25 = refl

-- uniform int a[3];
-- export void go() { const int x = 1; packed_load_active(a, &x); }
-- (a constant x)
abbrev tree_26 : ParsedSource
tree_26 =
    (file_variable (at 1 13) (codes "a") (spec false false false false (Some Uniform) (Some t.Int32)) (Array 3)) ∷
    (function (at 2 13) (codes "go") (spec true false false false None None) ([])
    (ParsedNext (ParsedDeclare (at 2 20) (spec false false false true None (Some t.Int32)) (at 2 30) (codes "x") (Some (ParsedNumber (at 2 34) 1 false false)))
    (ParsedNext (ParsedDoCall (at 2 37) (codes "packed_load_active") (ParsedValue (ParsedName (at 2 56) (codes "a")) (ParsedPart (at 2 60) (codes "x") ParsedEnd)))
    ParsedLast)) (at 2 64)) ∷ []

row_26 : refusal_of tree_26 ≡ refused S8 2 60
unfolding value_of residue word_of value_in wrapped binary_of
row_26 = refl

-- uniform int a[3];
-- export void go() { packed_load_active(a, &programIndex); }
abbrev tree_27 : ParsedSource
tree_27 =
    (file_variable (at 1 13) (codes "a") (spec false false false false (Some Uniform) (Some t.Int32)) (Array 3)) ∷
    (function (at 2 13) (codes "go") (spec true false false false None None) ([])
    (ParsedNext (ParsedDoCall (at 2 20) (codes "packed_load_active") (ParsedValue (ParsedName (at 2 39) (codes "a")) (ParsedPart (at 2 43) (codes "programIndex") ParsedEnd)))
    ParsedLast) (at 2 58)) ∷ []

row_27 : refusal_of tree_27 ≡ refused S8 2 43
unfolding value_of residue word_of value_in wrapped binary_of
row_27 = refl

-- uniform int8 a[3];
-- export void go() { packed_load_active(a, &programIndex); }
abbrev tree_28 : ParsedSource
tree_28 =
    (file_variable (at 1 14) (codes "a") (spec false false false false (Some Uniform) (Some t.Int8)) (Array 3)) ∷
    (function (at 2 13) (codes "go") (spec true false false false None None) ([])
    (ParsedNext (ParsedDoCall (at 2 20) (codes "packed_load_active") (ParsedValue (ParsedName (at 2 39) (codes "a")) (ParsedPart (at 2 43) (codes "programIndex") ParsedEnd)))
    ParsedLast) (at 2 58)) ∷ []

row_28 : refusal_of tree_28 ≡ refused S9 2 20
unfolding value_of residue word_of value_in wrapped binary_of
row_28 = refl

-- uniform int a[3];
-- export void go() { packed_load_active(a, &programCount); }
abbrev tree_29 : ParsedSource
tree_29 =
    (file_variable (at 1 13) (codes "a") (spec false false false false (Some Uniform) (Some t.Int32)) (Array 3)) ∷
    (function (at 2 13) (codes "go") (spec true false false false None None) ([])
    (ParsedNext (ParsedDoCall (at 2 20) (codes "packed_load_active") (ParsedValue (ParsedName (at 2 39) (codes "a")) (ParsedPart (at 2 43) (codes "programCount") ParsedEnd)))
    ParsedLast) (at 2 58)) ∷ []

row_29 : refusal_of tree_29 ≡ refused S9 2 20
unfolding value_of residue word_of value_in wrapped binary_of
row_29 = refl

-- uniform int a[3];
-- export void go() { int x; packed_load_active(a, x); }
abbrev tree_30 : ParsedSource
tree_30 =
    (file_variable (at 1 13) (codes "a") (spec false false false false (Some Uniform) (Some t.Int32)) (Array 3)) ∷
    (function (at 2 13) (codes "go") (spec true false false false None None) ([])
    (ParsedNext (ParsedDeclare (at 2 20) (spec false false false false None (Some t.Int32)) (at 2 24) (codes "x") None)
    (ParsedNext (ParsedDoCall (at 2 27) (codes "packed_load_active") (ParsedValue (ParsedName (at 2 46) (codes "a")) (ParsedValue (ParsedName (at 2 49) (codes "x")) ParsedEnd)))
    ParsedLast)) (at 2 53)) ∷ []

row_30 : refusal_of tree_30 ≡ refused S9 2 27
unfolding value_of residue word_of value_in wrapped binary_of
row_30 = refl

-- uniform int a[3];
-- export void go() { packed_store_active(a, a); }
abbrev tree_31 : ParsedSource
tree_31 =
    (file_variable (at 1 13) (codes "a") (spec false false false false (Some Uniform) (Some t.Int32)) (Array 3)) ∷
    (function (at 2 13) (codes "go") (spec true false false false None None) ([])
    (ParsedNext (ParsedDoCall (at 2 20) (codes "packed_store_active") (ParsedValue (ParsedName (at 2 40) (codes "a")) (ParsedValue (ParsedName (at 2 43) (codes "a")) ParsedEnd)))
    ParsedLast) (at 2 47)) ∷ []

row_31 : refusal_of tree_31 ≡ refused S9 2 20
unfolding value_of residue word_of value_in wrapped binary_of
row_31 = refl

-- const uniform int a[3];
-- export void go() { packed_store_active(a, 1); }
abbrev tree_32 : ParsedSource
tree_32 =
    (file_variable (at 1 19) (codes "a") (spec false false false true (Some Uniform) (Some t.Int32)) (Array 3)) ∷
    (function (at 2 13) (codes "go") (spec true false false false None None) ([])
    (ParsedNext (ParsedDoCall (at 2 20) (codes "packed_store_active") (ParsedValue (ParsedName (at 2 40) (codes "a")) (ParsedValue (ParsedNumber (at 2 43) 1 false false) ParsedEnd)))
    ParsedLast) (at 2 47)) ∷ []

row_32 : refusal_of tree_32 ≡ refused S8 2 40
unfolding value_of residue word_of value_in wrapped binary_of
row_32 = refl

-- const uniform int a[3];
-- export void go() { packed_store_active((a), 1); }
abbrev tree_33 : ParsedSource
tree_33 =
    (file_variable (at 1 19) (codes "a") (spec false false false true (Some Uniform) (Some t.Int32)) (Array 3)) ∷
    (function (at 2 13) (codes "go") (spec true false false false None None) ([])
    (ParsedNext (ParsedDoCall (at 2 20) (codes "packed_store_active") (ParsedValue (ParsedParen (at 2 40) (ParsedName (at 2 41) (codes "a"))) (ParsedValue (ParsedNumber (at 2 45) 1 false false) ParsedEnd)))
    ParsedLast) (at 2 49)) ∷ []

row_33 : refusal_of tree_33 ≡ refused S8 2 41
unfolding value_of residue word_of value_in wrapped binary_of
row_33 = refl

-- const uniform int a[3];
-- export void go() { packed_store_active(&a[1], 1); }
abbrev tree_34 : ParsedSource
tree_34 =
    (file_variable (at 1 19) (codes "a") (spec false false false true (Some Uniform) (Some t.Int32)) (Array 3)) ∷
    (function (at 2 13) (codes "go") (spec true false false false None None) ([])
    (ParsedNext (ParsedDoCall (at 2 20) (codes "packed_store_active") (ParsedPartFrom (at 2 41) (codes "a") (ParsedNumber (at 2 43) 1 false false) (ParsedValue (ParsedNumber (at 2 47) 1 false false) ParsedEnd)))
    ParsedLast) (at 2 51)) ∷ []

row_34 : refusal_of tree_34 ≡ refused S8 2 41
unfolding value_of residue word_of value_in wrapped binary_of
row_34 = refl

-- const uniform int a[3];
-- export void go() { int x; packed_load_active(a, &x); }
abbrev tree_35 : ParsedSource
tree_35 =
    (file_variable (at 1 19) (codes "a") (spec false false false true (Some Uniform) (Some t.Int32)) (Array 3)) ∷
    (function (at 2 13) (codes "go") (spec true false false false None None) ([])
    (ParsedNext (ParsedDeclare (at 2 20) (spec false false false false None (Some t.Int32)) (at 2 24) (codes "x") None)
    (ParsedNext (ParsedDoCall (at 2 27) (codes "packed_load_active") (ParsedValue (ParsedName (at 2 46) (codes "a")) (ParsedPart (at 2 50) (codes "x") ParsedEnd)))
    ParsedLast)) (at 2 54)) ∷ []

row_35 : refusal_of tree_35 ≡ accepted
unfolding value_of residue word_of value_in wrapped binary_of
row_35 = refl

-- uniform int a[3];
-- export void go() { packed_store_active(a); }
abbrev tree_36 : ParsedSource
tree_36 =
    (file_variable (at 1 13) (codes "a") (spec false false false false (Some Uniform) (Some t.Int32)) (Array 3)) ∷
    (function (at 2 13) (codes "go") (spec true false false false None None) ([])
    (ParsedNext (ParsedDoCall (at 2 20) (codes "packed_store_active") (ParsedValue (ParsedName (at 2 40) (codes "a")) ParsedEnd))
    ParsedLast) (at 2 44)) ∷ []

row_36 : refusal_of tree_36 ≡ refused S9 2 20
unfolding value_of residue word_of value_in wrapped binary_of
row_36 = refl

-- export void go() { packed_store_active(1, 1); }
abbrev tree_37 : ParsedSource
tree_37 =
    (function (at 1 13) (codes "go") (spec true false false false None None) ([])
    (ParsedNext (ParsedDoCall (at 1 20) (codes "packed_store_active") (ParsedValue (ParsedNumber (at 1 40) 1 false false) (ParsedValue (ParsedNumber (at 1 43) 1 false false) ParsedEnd)))
    ParsedLast) (at 1 47)) ∷ []

row_37 : refusal_of tree_37 ≡ refused S9 1 20
unfolding value_of residue word_of value_in wrapped binary_of
row_37 = refl

-- uniform int a[3];
-- export void go() { uniform bool b = packed_store_active(a, true); }
abbrev tree_38 : ParsedSource
tree_38 =
    (file_variable (at 1 13) (codes "a") (spec false false false false (Some Uniform) (Some t.Int32)) (Array 3)) ∷
    (function (at 2 13) (codes "go") (spec true false false false None None) ([])
    (ParsedNext (ParsedDeclare (at 2 20) (spec false false false false (Some Uniform) (Some t.Bool)) (at 2 33) (codes "b") (Some (ParsedCall (at 2 37) (codes "packed_store_active") (ParsedValue (ParsedName (at 2 57) (codes "a")) (ParsedValue (ParsedBool (at 2 60) true) ParsedEnd)))))
    ParsedLast) (at 2 67)) ∷ []

row_38 : refusal_of tree_38 ≡ accepted
unfolding value_of residue word_of value_in wrapped binary_of
row_38 = refl

-- uniform int a[3];
-- void f() { return packed_store_active(a, true); }
abbrev tree_39 : ParsedSource
tree_39 =
    (file_variable (at 1 13) (codes "a") (spec false false false false (Some Uniform) (Some t.Int32)) (Array 3)) ∷
    (function (at 2 6) (codes "f") (spec false false false false None None) ([])
    (ParsedNext (ParsedReturn (at 2 12) (Some (ParsedCall (at 2 19) (codes "packed_store_active") (ParsedValue (ParsedName (at 2 39) (codes "a")) (ParsedValue (ParsedBool (at 2 42) true) ParsedEnd)))))
    ParsedLast) (at 2 49)) ∷ []

row_39 : refusal_of tree_39 ≡ refused S8 2 19
unfolding value_of residue word_of value_in wrapped binary_of
row_39 = refl
