-- Rows of varying values where uniform ones are asked (S7).
use Rattle.std.specs.Prelude.{◌≡◌, refl, true, false, [], ◌∷◌, Some, None, codes}
use Rattle.gang_types.specs.Values.{value_of, residue, word_of, value_in, wrapped, binary_of}
use Rattle.gang_types.specs.declared.types.Rate.TheVariants.{Uniform, Varying}
use Rattle.gang_types.specs.declared.types.IntType.TheVariants as t
use Rattle.gang_types.specs.declared.operators.BinaryOp.TheVariants as op
use Rattle.gang_model.specs.declared.forms.Infix.TheVariants.{Op}
use Rattle.gang_model.specs.declared.forms.GlobalForm.TheVariants.{Array}
use Rattle.gang_model.specs.Source.Parsed.{ParsedNumber, ParsedBool, ParsedName, ParsedIndex, ParsedCall, ParsedParen, ParsedCast, ParsedBinary, ParsedChoice, ParsedEnd, ParsedValue, ParsedPartFrom, ParsedEmpty, ParsedBlock, ParsedDeclare, ParsedAssign, ParsedChange, ParsedDoCall, ParsedReturn, ParsedForEach, ParsedForEachActive, ParsedForEachUnique, ParsedLast, ParsedNext, ParsedSource}
use Rattle.tests_transcripts.proofs.Forms.{at, spec, target, dimension, parameter, function, file_variable}
use Rattle.gang_model.specs.declared.refusals.RefusalNumber.TheVariants.{S7, S9}
use Rattle.gang_model.specs.Types.SourceRefusals.{refusal_of}
use Rattle.tests_refusals.proofs.Wanted.{refused, accepted}

-- export void go() { uniform int u = 1; u = programIndex; }
abbrev tree_0 : ParsedSource
tree_0 =
    (function (at 1 13) (codes "go") (spec true false false false None None) ([])
    (ParsedNext (ParsedDeclare (at 1 20) (spec false false false false (Some Uniform) (Some t.Int32)) (at 1 32) (codes "u") (Some (ParsedNumber (at 1 36) 1 false false)))
    (ParsedNext (ParsedAssign (at 1 39) (target (at 1 39) (codes "u") None) (ParsedName (at 1 43) (codes "programIndex")))
    ParsedLast)) (at 1 57)) ∷ []

row_0 : refusal_of tree_0 ≡ refused S7 1 43
unfolding value_of residue word_of value_in wrapped binary_of
row_0 = refl

-- export void go() { uniform int u = 1; u += 1 + programIndex; }
abbrev tree_1 : ParsedSource
tree_1 =
    (function (at 1 13) (codes "go") (spec true false false false None None) ([])
    (ParsedNext (ParsedDeclare (at 1 20) (spec false false false false (Some Uniform) (Some t.Int32)) (at 1 32) (codes "u") (Some (ParsedNumber (at 1 36) 1 false false)))
    (ParsedNext (ParsedChange (at 1 39) (target (at 1 39) (codes "u") None) op.Add (ParsedBinary (Op op.Add) (ParsedNumber (at 1 44) 1 false false) (ParsedName (at 1 48) (codes "programIndex"))))
    ParsedLast)) (at 1 62)) ∷ []

row_1 : refusal_of tree_1 ≡ refused S7 1 44
unfolding value_of residue word_of value_in wrapped binary_of
row_1 = refl

-- export void go() { uniform int u = (programIndex); }
-- (at the first token of the expression)
abbrev tree_2 : ParsedSource
tree_2 =
    (function (at 1 13) (codes "go") (spec true false false false None None) ([])
    (ParsedNext (ParsedDeclare (at 1 20) (spec false false false false (Some Uniform) (Some t.Int32)) (at 1 32) (codes "u") (Some (ParsedParen (at 1 36) (ParsedName (at 1 37) (codes "programIndex")))))
    ParsedLast) (at 1 52)) ∷ []

row_2 : refusal_of tree_2 ≡ refused S7 1 36
unfolding value_of residue word_of value_in wrapped binary_of
row_2 = refl

-- export void go() { uniform int u = true ? programIndex : 1; }
abbrev tree_3 : ParsedSource
tree_3 =
    (function (at 1 13) (codes "go") (spec true false false false None None) ([])
    (ParsedNext (ParsedDeclare (at 1 20) (spec false false false false (Some Uniform) (Some t.Int32)) (at 1 32) (codes "u") (Some (ParsedChoice (ParsedBool (at 1 36) true) (ParsedName (at 1 43) (codes "programIndex")) (ParsedNumber (at 1 58) 1 false false))))
    ParsedLast) (at 1 61)) ∷ []

row_3 : refusal_of tree_3 ≡ refused S7 1 36
unfolding value_of residue word_of value_in wrapped binary_of
row_3 = refl

-- export void go() { uniform int u = reduce_add(programIndex); int v = u; }
abbrev tree_4 : ParsedSource
tree_4 =
    (function (at 1 13) (codes "go") (spec true false false false None None) ([])
    (ParsedNext (ParsedDeclare (at 1 20) (spec false false false false (Some Uniform) (Some t.Int32)) (at 1 32) (codes "u") (Some (ParsedCall (at 1 36) (codes "reduce_add") (ParsedValue (ParsedName (at 1 47) (codes "programIndex")) ParsedEnd))))
    (ParsedNext (ParsedDeclare (at 1 62) (spec false false false false None (Some t.Int32)) (at 1 66) (codes "v") (Some (ParsedName (at 1 70) (codes "u"))))
    ParsedLast)) (at 1 73)) ∷ []

row_4 : refusal_of tree_4 ≡ accepted
unfolding value_of residue word_of value_in wrapped binary_of
row_4 = refl

-- uniform int a[3];
-- export void go() { a[0] = programIndex; }
-- (an element at a uniform index)
abbrev tree_5 : ParsedSource
tree_5 =
    (file_variable (at 1 13) (codes "a") (spec false false false false (Some Uniform) (Some t.Int32)) (Array 3)) ∷
    (function (at 2 13) (codes "go") (spec true false false false None None) ([])
    (ParsedNext (ParsedAssign (at 2 20) (target (at 2 20) (codes "a") (Some (ParsedNumber (at 2 22) 0 false false))) (ParsedName (at 2 27) (codes "programIndex")))
    ParsedLast) (at 2 41)) ∷ []

row_5 : refusal_of tree_5 ≡ refused S7 2 27
unfolding value_of residue word_of value_in wrapped binary_of
row_5 = refl

-- uniform int a[3];
-- export void go() { a[programIndex] = programIndex; int x = a[programIndex]; }
abbrev tree_6 : ParsedSource
tree_6 =
    (file_variable (at 1 13) (codes "a") (spec false false false false (Some Uniform) (Some t.Int32)) (Array 3)) ∷
    (function (at 2 13) (codes "go") (spec true false false false None None) ([])
    (ParsedNext (ParsedAssign (at 2 20) (target (at 2 20) (codes "a") (Some (ParsedName (at 2 22) (codes "programIndex")))) (ParsedName (at 2 38) (codes "programIndex")))
    (ParsedNext (ParsedDeclare (at 2 52) (spec false false false false None (Some t.Int32)) (at 2 56) (codes "x") (Some (ParsedIndex (at 2 60) (codes "a") (ParsedName (at 2 62) (codes "programIndex")))))
    ParsedLast)) (at 2 77)) ∷ []

row_6 : refusal_of tree_6 ≡ accepted
unfolding value_of residue word_of value_in wrapped binary_of
row_6 = refl

-- uniform int a[3];
-- export void go() { uniform int x = a[programIndex]; }
abbrev tree_7 : ParsedSource
tree_7 =
    (file_variable (at 1 13) (codes "a") (spec false false false false (Some Uniform) (Some t.Int32)) (Array 3)) ∷
    (function (at 2 13) (codes "go") (spec true false false false None None) ([])
    (ParsedNext (ParsedDeclare (at 2 20) (spec false false false false (Some Uniform) (Some t.Int32)) (at 2 32) (codes "x") (Some (ParsedIndex (at 2 36) (codes "a") (ParsedName (at 2 38) (codes "programIndex")))))
    ParsedLast) (at 2 53)) ∷ []

row_7 : refusal_of tree_7 ≡ refused S7 2 36
unfolding value_of residue word_of value_in wrapped binary_of
row_7 = refl

-- uniform int f() { return programIndex; }
abbrev tree_8 : ParsedSource
tree_8 =
    (function (at 1 13) (codes "f") (spec false false false false (Some Uniform) (Some t.Int32)) ([])
    (ParsedNext (ParsedReturn (at 1 19) (Some (ParsedName (at 1 26) (codes "programIndex"))))
    ParsedLast) (at 1 40)) ∷ []

row_8 : refusal_of tree_8 ≡ refused S7 1 26
unfolding value_of residue word_of value_in wrapped binary_of
row_8 = refl

-- int f() { return programIndex; }
abbrev tree_9 : ParsedSource
tree_9 =
    (function (at 1 5) (codes "f") (spec false false false false None (Some t.Int32)) ([])
    (ParsedNext (ParsedReturn (at 1 11) (Some (ParsedName (at 1 18) (codes "programIndex"))))
    ParsedLast) (at 1 32)) ∷ []

row_9 : refusal_of tree_9 ≡ accepted
unfolding value_of residue word_of value_in wrapped binary_of
row_9 = refl

-- int f() { return 1; }
-- export void go() { uniform int x = f(); }
abbrev tree_10 : ParsedSource
tree_10 =
    (function (at 1 5) (codes "f") (spec false false false false None (Some t.Int32)) ([])
    (ParsedNext (ParsedReturn (at 1 11) (Some (ParsedNumber (at 1 18) 1 false false)))
    ParsedLast) (at 1 21)) ∷
    (function (at 2 13) (codes "go") (spec true false false false None None) ([])
    (ParsedNext (ParsedDeclare (at 2 20) (spec false false false false (Some Uniform) (Some t.Int32)) (at 2 32) (codes "x") (Some (ParsedCall (at 2 36) (codes "f") ParsedEnd)))
    ParsedLast) (at 2 41)) ∷ []

row_10 : refusal_of tree_10 ≡ refused S7 2 36
unfolding value_of residue word_of value_in wrapped binary_of
row_10 = refl

-- int f() { return 1; }
-- export void go() { uniform int x = (f()); }
abbrev tree_11 : ParsedSource
tree_11 =
    (function (at 1 5) (codes "f") (spec false false false false None (Some t.Int32)) ([])
    (ParsedNext (ParsedReturn (at 1 11) (Some (ParsedNumber (at 1 18) 1 false false)))
    ParsedLast) (at 1 21)) ∷
    (function (at 2 13) (codes "go") (spec true false false false None None) ([])
    (ParsedNext (ParsedDeclare (at 2 20) (spec false false false false (Some Uniform) (Some t.Int32)) (at 2 32) (codes "x") (Some (ParsedParen (at 2 36) (ParsedCall (at 2 37) (codes "f") ParsedEnd))))
    ParsedLast) (at 2 43)) ∷ []

row_11 : refusal_of tree_11 ≡ refused S7 2 36
unfolding value_of residue word_of value_in wrapped binary_of
row_11 = refl

-- void f(uniform int a) { }
-- export void go() { f(programIndex); }
-- (varying to uniform has no cost)
abbrev tree_12 : ParsedSource
tree_12 =
    (function (at 1 6) (codes "f") (spec false false false false None None) (parameter (at 1 20) (codes "a") (spec false false false false (Some Uniform) (Some t.Int32)) false ∷ [])
    ParsedLast (at 1 25)) ∷
    (function (at 2 13) (codes "go") (spec true false false false None None) ([])
    (ParsedNext (ParsedDoCall (at 2 20) (codes "f") (ParsedValue (ParsedName (at 2 22) (codes "programIndex")) ParsedEnd))
    ParsedLast) (at 2 37)) ∷ []

row_12 : refusal_of tree_12 ≡ refused S9 2 20
unfolding value_of residue word_of value_in wrapped binary_of
row_12 = refl

-- export void go() { int x = (uniform int) programIndex; }
-- (at the cast's parenthesis)
abbrev tree_13 : ParsedSource
tree_13 =
    (function (at 1 13) (codes "go") (spec true false false false None None) ([])
    (ParsedNext (ParsedDeclare (at 1 20) (spec false false false false None (Some t.Int32)) (at 1 24) (codes "x") (Some (ParsedCast (at 1 28) (Some Uniform) (Some t.Int32) (ParsedName (at 1 42) (codes "programIndex")))))
    ParsedLast) (at 1 56)) ∷ []

row_13 : refusal_of tree_13 ≡ refused S7 1 28
unfolding value_of residue word_of value_in wrapped binary_of
row_13 = refl

-- export void go() { int x = (int8) programIndex; int y = (varying int8) 3; }
abbrev tree_14 : ParsedSource
tree_14 =
    (function (at 1 13) (codes "go") (spec true false false false None None) ([])
    (ParsedNext (ParsedDeclare (at 1 20) (spec false false false false None (Some t.Int32)) (at 1 24) (codes "x") (Some (ParsedCast (at 1 28) None (Some t.Int8) (ParsedName (at 1 35) (codes "programIndex")))))
    (ParsedNext (ParsedDeclare (at 1 49) (spec false false false false None (Some t.Int32)) (at 1 53) (codes "y") (Some (ParsedCast (at 1 57) (Some Varying) (Some t.Int8) (ParsedNumber (at 1 72) 3 false false))))
    ParsedLast)) (at 1 75)) ∷ []

row_14 : refusal_of tree_14 ≡ accepted
unfolding value_of residue word_of value_in wrapped binary_of
row_14 = refl

-- export void go() { uniform int y = (varying int8) 3; }
abbrev tree_15 : ParsedSource
tree_15 =
    (function (at 1 13) (codes "go") (spec true false false false None None) ([])
    (ParsedNext (ParsedDeclare (at 1 20) (spec false false false false (Some Uniform) (Some t.Int32)) (at 1 32) (codes "y") (Some (ParsedCast (at 1 36) (Some Varying) (Some t.Int8) (ParsedNumber (at 1 51) 3 false false))))
    ParsedLast) (at 1 54)) ∷ []

row_15 : refusal_of tree_15 ≡ refused S7 1 36
unfolding value_of residue word_of value_in wrapped binary_of
row_15 = refl

-- export void go() { foreach (i = programIndex ... 4) ; }
abbrev tree_16 : ParsedSource
tree_16 =
    (function (at 1 13) (codes "go") (spec true false false false None None) ([])
    (ParsedNext (ParsedForEach (at 1 20) false (dimension (at 1 29) (codes "i") (ParsedName (at 1 33) (codes "programIndex")) (ParsedNumber (at 1 50) 4 false false) ∷ []) ParsedEmpty)
    ParsedLast) (at 1 55)) ∷ []

row_16 : refusal_of tree_16 ≡ refused S7 1 33
unfolding value_of residue word_of value_in wrapped binary_of
row_16 = refl

-- export void go() { foreach (i = 0 ... (programIndex)) ; }
abbrev tree_17 : ParsedSource
tree_17 =
    (function (at 1 13) (codes "go") (spec true false false false None None) ([])
    (ParsedNext (ParsedForEach (at 1 20) false (dimension (at 1 29) (codes "i") (ParsedNumber (at 1 33) 0 false false) (ParsedParen (at 1 39) (ParsedName (at 1 40) (codes "programIndex"))) ∷ []) ParsedEmpty)
    ParsedLast) (at 1 57)) ∷ []

row_17 : refusal_of tree_17 ≡ refused S7 1 39
unfolding value_of residue word_of value_in wrapped binary_of
row_17 = refl

-- int a[3];
-- (arrays are uniform)
abbrev tree_18 : ParsedSource
tree_18 =
    (file_variable (at 1 5) (codes "a") (spec false false false false None (Some t.Int32)) (Array 3)) ∷ []

row_18 : refusal_of tree_18 ≡ refused S7 1 5
unfolding value_of residue word_of value_in wrapped binary_of
row_18 = refl

-- void f(int a[]) { }
abbrev tree_19 : ParsedSource
tree_19 =
    (function (at 1 6) (codes "f") (spec false false false false None None) (parameter (at 1 12) (codes "a") (spec false false false false None (Some t.Int32)) true ∷ [])
    ParsedLast (at 1 19)) ∷ []

row_19 : refusal_of tree_19 ≡ refused S7 1 12
unfolding value_of residue word_of value_in wrapped binary_of
row_19 = refl

-- export void f(int a) { }
abbrev tree_20 : ParsedSource
tree_20 =
    (function (at 1 13) (codes "f") (spec true false false false None None) (parameter (at 1 19) (codes "a") (spec false false false false None (Some t.Int32)) false ∷ [])
    ParsedLast (at 1 24)) ∷ []

row_20 : refusal_of tree_20 ≡ refused S7 1 19
unfolding value_of residue word_of value_in wrapped binary_of
row_20 = refl

-- export void f(uniform int a, uniform int b[]) { }
abbrev tree_21 : ParsedSource
tree_21 =
    (function (at 1 13) (codes "f") (spec true false false false None None) (parameter (at 1 27) (codes "a") (spec false false false false (Some Uniform) (Some t.Int32)) false ∷ parameter (at 1 42) (codes "b") (spec false false false false (Some Uniform) (Some t.Int32)) true ∷ [])
    ParsedLast (at 1 49)) ∷ []

row_21 : refusal_of tree_21 ≡ accepted
unfolding value_of residue word_of value_in wrapped binary_of
row_21 = refl

-- export int f() { return 1; }
abbrev tree_22 : ParsedSource
tree_22 =
    (function (at 1 12) (codes "f") (spec true false false false None (Some t.Int32)) ([])
    (ParsedNext (ParsedReturn (at 1 18) (Some (ParsedNumber (at 1 25) 1 false false)))
    ParsedLast) (at 1 28)) ∷ []

row_22 : refusal_of tree_22 ≡ refused S7 1 12
unfolding value_of residue word_of value_in wrapped binary_of
row_22 = refl

-- export uniform int f() { return 1; }
abbrev tree_23 : ParsedSource
tree_23 =
    (function (at 1 20) (codes "f") (spec true false false false (Some Uniform) (Some t.Int32)) ([])
    (ParsedNext (ParsedReturn (at 1 26) (Some (ParsedNumber (at 1 33) 1 false false)))
    ParsedLast) (at 1 36)) ∷ []

row_23 : refusal_of tree_23 ≡ accepted
unfolding value_of residue word_of value_in wrapped binary_of
row_23 = refl

-- export void f(void x) { }
-- (also S8 there)
abbrev tree_24 : ParsedSource
tree_24 =
    (function (at 1 13) (codes "f") (spec true false false false None None) (parameter (at 1 20) (codes "x") (spec false false false false None None) false ∷ [])
    ParsedLast (at 1 25)) ∷ []

row_24 : refusal_of tree_24 ≡ refused S7 1 20
unfolding value_of residue word_of value_in wrapped binary_of
row_24 = refl

-- void f(uniform int a[]) { }
-- uniform int m[3];
-- export void go() { f(&m[programIndex]); }
abbrev tree_25 : ParsedSource
tree_25 =
    (function (at 1 6) (codes "f") (spec false false false false None None) (parameter (at 1 20) (codes "a") (spec false false false false (Some Uniform) (Some t.Int32)) true ∷ [])
    ParsedLast (at 1 27)) ∷
    (file_variable (at 2 13) (codes "m") (spec false false false false (Some Uniform) (Some t.Int32)) (Array 3)) ∷
    (function (at 3 13) (codes "go") (spec true false false false None None) ([])
    (ParsedNext (ParsedDoCall (at 3 20) (codes "f") (ParsedPartFrom (at 3 23) (codes "m") (ParsedName (at 3 25) (codes "programIndex")) ParsedEnd))
    ParsedLast) (at 3 41)) ∷ []

row_25 : refusal_of tree_25 ≡ refused S7 3 25
unfolding value_of residue word_of value_in wrapped binary_of
row_25 = refl

-- void f(uniform int a[]) { }
-- uniform int m[3];
-- export void go() { f(&m[programIndex > 1]); }
-- (S7 and S8 at one place)
abbrev tree_26 : ParsedSource
tree_26 =
    (function (at 1 6) (codes "f") (spec false false false false None None) (parameter (at 1 20) (codes "a") (spec false false false false (Some Uniform) (Some t.Int32)) true ∷ [])
    ParsedLast (at 1 27)) ∷
    (file_variable (at 2 13) (codes "m") (spec false false false false (Some Uniform) (Some t.Int32)) (Array 3)) ∷
    (function (at 3 13) (codes "go") (spec true false false false None None) ([])
    (ParsedNext (ParsedDoCall (at 3 20) (codes "f") (ParsedPartFrom (at 3 23) (codes "m") (ParsedBinary (Op op.Greater) (ParsedName (at 3 25) (codes "programIndex")) (ParsedNumber (at 3 40) 1 false false)) ParsedEnd))
    ParsedLast) (at 3 45)) ∷ []

row_26 : refusal_of tree_26 ≡ refused S7 3 25
unfolding value_of residue word_of value_in wrapped binary_of
row_26 = refl

-- export void go() { foreach_active (i) { uniform int64 x = i; } }
abbrev tree_27 : ParsedSource
tree_27 =
    (function (at 1 13) (codes "go") (spec true false false false None None) ([])
    (ParsedNext (ParsedForEachActive (at 1 20) (at 1 36) (codes "i") (ParsedBlock (ParsedNext (ParsedDeclare (at 1 41) (spec false false false false (Some Uniform) (Some t.Int64)) (at 1 55) (codes "x") (Some (ParsedName (at 1 59) (codes "i"))))
    ParsedLast)))
    ParsedLast) (at 1 64)) ∷ []

row_27 : refusal_of tree_27 ≡ accepted
unfolding value_of residue word_of value_in wrapped binary_of
row_27 = refl

-- export void go() { foreach_unique (v in programIndex) { uniform int x = v; } }
abbrev tree_28 : ParsedSource
tree_28 =
    (function (at 1 13) (codes "go") (spec true false false false None None) ([])
    (ParsedNext (ParsedForEachUnique (at 1 20) (at 1 36) (codes "v") (ParsedName (at 1 41) (codes "programIndex")) (ParsedBlock (ParsedNext (ParsedDeclare (at 1 57) (spec false false false false (Some Uniform) (Some t.Int32)) (at 1 69) (codes "x") (Some (ParsedName (at 1 73) (codes "v"))))
    ParsedLast)))
    ParsedLast) (at 1 78)) ∷ []

row_28 : refusal_of tree_28 ≡ accepted
unfolding value_of residue word_of value_in wrapped binary_of
row_28 = refl

-- export void go() { foreach (i = 0 ... 4) { uniform int x = i; } }
abbrev tree_29 : ParsedSource
tree_29 =
    (function (at 1 13) (codes "go") (spec true false false false None None) ([])
    (ParsedNext (ParsedForEach (at 1 20) false (dimension (at 1 29) (codes "i") (ParsedNumber (at 1 33) 0 false false) (ParsedNumber (at 1 39) 4 false false) ∷ []) (ParsedBlock (ParsedNext (ParsedDeclare (at 1 44) (spec false false false false (Some Uniform) (Some t.Int32)) (at 1 56) (codes "x") (Some (ParsedName (at 1 60) (codes "i"))))
    ParsedLast)))
    ParsedLast) (at 1 65)) ∷ []

row_29 : refusal_of tree_29 ≡ refused S7 1 60
unfolding value_of residue word_of value_in wrapped binary_of
row_29 = refl
