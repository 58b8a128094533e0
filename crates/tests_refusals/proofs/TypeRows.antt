-- Rows of values and names of a wrong kind (S8).
use Rattle.std.specs.Prelude.{◌≡◌, refl, true, false, [], ◌∷◌, Some, None, codes}
use Rattle.gang_types.specs.Values.{value_of, residue, word_of, value_in, wrapped, binary_of}
use Rattle.gang_types.specs.declared.types.Rate.TheVariants.{Uniform}
use Rattle.gang_types.specs.declared.types.IntType.TheVariants as t
use Rattle.gang_types.specs.declared.operators.BinaryOp.TheVariants as op
use Rattle.gang_model.specs.declared.forms.Infix.TheVariants.{Op}
use Rattle.gang_model.specs.declared.forms.GlobalForm.TheVariants.{Plain, Array}
use Rattle.gang_model.specs.Source.Parsed.{ParsedNumber, ParsedBool, ParsedName, ParsedIndex, ParsedCall, ParsedParen, ParsedCast, ParsedBinary, ParsedEnd, ParsedValue, ParsedPartFrom, ParsedEmpty, ParsedDeclare, ParsedAssign, ParsedChange, ParsedIncrement, ParsedDoCall, ParsedReturn, ParsedSwitch, ParsedForEach, ParsedForEachActive, ParsedForEachUnique, ParsedLast, ParsedNext, ParsedNoMore, ParsedSegment, ParsedSource}
use Rattle.tests_transcripts.proofs.Forms.{at, spec, target, dimension, label, parameter, function, file_variable}
use Rattle.gang_model.specs.declared.refusals.RefusalNumber.TheVariants.{S7, S8, S9}
use Rattle.gang_model.specs.Types.SourceRefusals.{refusal_of}
use Rattle.tests_refusals.proofs.Wanted.{refused, accepted}

-- export void go() { programIndex = 1; }
abbrev tree_0 : ParsedSource
tree_0 =
    (function (at 1 13) (codes "go") (spec true false false false None None) ([])
    (ParsedNext (ParsedAssign (at 1 20) (target (at 1 20) (codes "programIndex") None) (ParsedNumber (at 1 35) 1 false false))
    ParsedLast) (at 1 38)) ∷ []

row_0 : refusal_of tree_0 ≡ refused S8 1 20
unfolding value_of residue word_of value_in wrapped binary_of
row_0 = refl

-- export void go() { programCount += 1; }
abbrev tree_1 : ParsedSource
tree_1 =
    (function (at 1 13) (codes "go") (spec true false false false None None) ([])
    (ParsedNext (ParsedChange (at 1 20) (target (at 1 20) (codes "programCount") None) op.Add (ParsedNumber (at 1 36) 1 false false))
    ParsedLast) (at 1 39)) ∷ []

row_1 : refusal_of tree_1 ≡ refused S8 1 20
unfolding value_of residue word_of value_in wrapped binary_of
row_1 = refl

-- export void go() { foreach (i = 0 ... 4) i = 1; }
abbrev tree_2 : ParsedSource
tree_2 =
    (function (at 1 13) (codes "go") (spec true false false false None None) ([])
    (ParsedNext (ParsedForEach (at 1 20) false (dimension (at 1 29) (codes "i") (ParsedNumber (at 1 33) 0 false false) (ParsedNumber (at 1 39) 4 false false) ∷ []) (ParsedAssign (at 1 42) (target (at 1 42) (codes "i") None) (ParsedNumber (at 1 46) 1 false false)))
    ParsedLast) (at 1 49)) ∷ []

row_2 : refusal_of tree_2 ≡ refused S8 1 42
unfolding value_of residue word_of value_in wrapped binary_of
row_2 = refl

-- export void go() { foreach_active (i) i++; }
abbrev tree_3 : ParsedSource
tree_3 =
    (function (at 1 13) (codes "go") (spec true false false false None None) ([])
    (ParsedNext (ParsedForEachActive (at 1 20) (at 1 36) (codes "i") (ParsedIncrement (at 1 39) (target (at 1 39) (codes "i") None) op.Add))
    ParsedLast) (at 1 44)) ∷ []

row_3 : refusal_of tree_3 ≡ refused S8 1 39
unfolding value_of residue word_of value_in wrapped binary_of
row_3 = refl

-- export void go() { foreach_unique (v in programIndex) --v; }
abbrev tree_4 : ParsedSource
tree_4 =
    (function (at 1 13) (codes "go") (spec true false false false None None) ([])
    (ParsedNext (ParsedForEachUnique (at 1 20) (at 1 36) (codes "v") (ParsedName (at 1 41) (codes "programIndex")) (ParsedIncrement (at 1 55) (target (at 1 57) (codes "v") None) op.Sub))
    ParsedLast) (at 1 60)) ∷ []

row_4 : refusal_of tree_4 ≡ refused S8 1 57
unfolding value_of residue word_of value_in wrapped binary_of
row_4 = refl

-- const uniform int a[3];
-- export void go() { a[0] = 1; }
-- (an element of a constant array)
abbrev tree_5 : ParsedSource
tree_5 =
    (file_variable (at 1 19) (codes "a") (spec false false false true (Some Uniform) (Some t.Int32)) (Array 3)) ∷
    (function (at 2 13) (codes "go") (spec true false false false None None) ([])
    (ParsedNext (ParsedAssign (at 2 20) (target (at 2 20) (codes "a") (Some (ParsedNumber (at 2 22) 0 false false))) (ParsedNumber (at 2 27) 1 false false))
    ParsedLast) (at 2 30)) ∷ []

row_5 : refusal_of tree_5 ≡ refused S8 2 20
unfolding value_of residue word_of value_in wrapped binary_of
row_5 = refl

-- uniform int a[3];
-- export void go() { int x = a; }
-- (an array used as a scalar)
abbrev tree_6 : ParsedSource
tree_6 =
    (file_variable (at 1 13) (codes "a") (spec false false false false (Some Uniform) (Some t.Int32)) (Array 3)) ∷
    (function (at 2 13) (codes "go") (spec true false false false None None) ([])
    (ParsedNext (ParsedDeclare (at 2 20) (spec false false false false None (Some t.Int32)) (at 2 24) (codes "x") (Some (ParsedName (at 2 28) (codes "a"))))
    ParsedLast) (at 2 31)) ∷ []

row_6 : refusal_of tree_6 ≡ refused S8 2 28
unfolding value_of residue word_of value_in wrapped binary_of
row_6 = refl

-- uniform int a[3];
-- export void go() { int x = (a) + 1; }
abbrev tree_7 : ParsedSource
tree_7 =
    (file_variable (at 1 13) (codes "a") (spec false false false false (Some Uniform) (Some t.Int32)) (Array 3)) ∷
    (function (at 2 13) (codes "go") (spec true false false false None None) ([])
    (ParsedNext (ParsedDeclare (at 2 20) (spec false false false false None (Some t.Int32)) (at 2 24) (codes "x") (Some (ParsedBinary (Op op.Add) (ParsedParen (at 2 28) (ParsedName (at 2 29) (codes "a"))) (ParsedNumber (at 2 34) 1 false false))))
    ParsedLast) (at 2 37)) ∷ []

row_7 : refusal_of tree_7 ≡ refused S8 2 28
unfolding value_of residue word_of value_in wrapped binary_of
row_7 = refl

-- uniform int a[3];
-- export void go() { a = 1; }
abbrev tree_8 : ParsedSource
tree_8 =
    (file_variable (at 1 13) (codes "a") (spec false false false false (Some Uniform) (Some t.Int32)) (Array 3)) ∷
    (function (at 2 13) (codes "go") (spec true false false false None None) ([])
    (ParsedNext (ParsedAssign (at 2 20) (target (at 2 20) (codes "a") None) (ParsedNumber (at 2 24) 1 false false))
    ParsedLast) (at 2 27)) ∷ []

row_8 : refusal_of tree_8 ≡ refused S8 2 20
unfolding value_of residue word_of value_in wrapped binary_of
row_8 = refl

-- uniform int a;
-- export void go() { a[0] = 1; }
abbrev tree_9 : ParsedSource
tree_9 =
    (file_variable (at 1 13) (codes "a") (spec false false false false (Some Uniform) (Some t.Int32)) Plain) ∷
    (function (at 2 13) (codes "go") (spec true false false false None None) ([])
    (ParsedNext (ParsedAssign (at 2 20) (target (at 2 20) (codes "a") (Some (ParsedNumber (at 2 22) 0 false false))) (ParsedNumber (at 2 27) 1 false false))
    ParsedLast) (at 2 30)) ∷ []

row_9 : refusal_of tree_9 ≡ refused S8 2 20
unfolding value_of residue word_of value_in wrapped binary_of
row_9 = refl

-- uniform int a;
-- export void go() { int x = a[0]; }
abbrev tree_10 : ParsedSource
tree_10 =
    (file_variable (at 1 13) (codes "a") (spec false false false false (Some Uniform) (Some t.Int32)) Plain) ∷
    (function (at 2 13) (codes "go") (spec true false false false None None) ([])
    (ParsedNext (ParsedDeclare (at 2 20) (spec false false false false None (Some t.Int32)) (at 2 24) (codes "x") (Some (ParsedIndex (at 2 28) (codes "a") (ParsedNumber (at 2 30) 0 false false))))
    ParsedLast) (at 2 34)) ∷ []

row_10 : refusal_of tree_10 ≡ refused S8 2 28
unfolding value_of residue word_of value_in wrapped binary_of
row_10 = refl

-- uniform int a[3];
-- export void go() { int x = a[true]; }
-- (a bool index)
abbrev tree_11 : ParsedSource
tree_11 =
    (file_variable (at 1 13) (codes "a") (spec false false false false (Some Uniform) (Some t.Int32)) (Array 3)) ∷
    (function (at 2 13) (codes "go") (spec true false false false None None) ([])
    (ParsedNext (ParsedDeclare (at 2 20) (spec false false false false None (Some t.Int32)) (at 2 24) (codes "x") (Some (ParsedIndex (at 2 28) (codes "a") (ParsedBool (at 2 30) true))))
    ParsedLast) (at 2 37)) ∷ []

row_11 : refusal_of tree_11 ≡ refused S8 2 30
unfolding value_of residue word_of value_in wrapped binary_of
row_11 = refl

-- uniform int a[3];
-- export void go() { a[1 == 1] = 1; }
abbrev tree_12 : ParsedSource
tree_12 =
    (file_variable (at 1 13) (codes "a") (spec false false false false (Some Uniform) (Some t.Int32)) (Array 3)) ∷
    (function (at 2 13) (codes "go") (spec true false false false None None) ([])
    (ParsedNext (ParsedAssign (at 2 20) (target (at 2 20) (codes "a") (Some (ParsedBinary (Op op.Equal) (ParsedNumber (at 2 22) 1 false false) (ParsedNumber (at 2 27) 1 false false)))) (ParsedNumber (at 2 32) 1 false false))
    ParsedLast) (at 2 35)) ∷ []

row_12 : refusal_of tree_12 ≡ refused S8 2 22
unfolding value_of residue word_of value_in wrapped binary_of
row_12 = refl

-- void f(uniform int a[]) { }
-- uniform int m[3];
-- export void go() { f(&m[true]); }
abbrev tree_13 : ParsedSource
tree_13 =
    (function (at 1 6) (codes "f") (spec false false false false None None) (parameter (at 1 20) (codes "a") (spec false false false false (Some Uniform) (Some t.Int32)) true ∷ [])
    ParsedLast (at 1 27)) ∷
    (file_variable (at 2 13) (codes "m") (spec false false false false (Some Uniform) (Some t.Int32)) (Array 3)) ∷
    (function (at 3 13) (codes "go") (spec true false false false None None) ([])
    (ParsedNext (ParsedDoCall (at 3 20) (codes "f") (ParsedPartFrom (at 3 23) (codes "m") (ParsedBool (at 3 25) true) ParsedEnd))
    ParsedLast) (at 3 33)) ∷ []

row_13 : refusal_of tree_13 ≡ refused S8 3 25
unfolding value_of residue word_of value_in wrapped binary_of
row_13 = refl

-- void f(uniform int a[]) { }
-- uniform int m;
-- export void go() { f(&m[0]); }
abbrev tree_14 : ParsedSource
tree_14 =
    (function (at 1 6) (codes "f") (spec false false false false None None) (parameter (at 1 20) (codes "a") (spec false false false false (Some Uniform) (Some t.Int32)) true ∷ [])
    ParsedLast (at 1 27)) ∷
    (file_variable (at 2 13) (codes "m") (spec false false false false (Some Uniform) (Some t.Int32)) Plain) ∷
    (function (at 3 13) (codes "go") (spec true false false false None None) ([])
    (ParsedNext (ParsedDoCall (at 3 20) (codes "f") (ParsedPartFrom (at 3 23) (codes "m") (ParsedNumber (at 3 25) 0 false false) ParsedEnd))
    ParsedLast) (at 3 30)) ∷ []

row_14 : refusal_of tree_14 ≡ refused S8 3 23
unfolding value_of residue word_of value_in wrapped binary_of
row_14 = refl

-- void f() { return 1; }
abbrev tree_15 : ParsedSource
tree_15 =
    (function (at 1 6) (codes "f") (spec false false false false None None) ([])
    (ParsedNext (ParsedReturn (at 1 12) (Some (ParsedNumber (at 1 19) 1 false false)))
    ParsedLast) (at 1 22)) ∷ []

row_15 : refusal_of tree_15 ≡ refused S8 1 19
unfolding value_of residue word_of value_in wrapped binary_of
row_15 = refl

-- void f() { return (1); }
abbrev tree_16 : ParsedSource
tree_16 =
    (function (at 1 6) (codes "f") (spec false false false false None None) ([])
    (ParsedNext (ParsedReturn (at 1 12) (Some (ParsedParen (at 1 19) (ParsedNumber (at 1 20) 1 false false))))
    ParsedLast) (at 1 24)) ∷ []

row_16 : refusal_of tree_16 ≡ refused S8 1 19
unfolding value_of residue word_of value_in wrapped binary_of
row_16 = refl

-- void f() { return min(1); }
-- (no second fault at the same expression)
abbrev tree_17 : ParsedSource
tree_17 =
    (function (at 1 6) (codes "f") (spec false false false false None None) ([])
    (ParsedNext (ParsedReturn (at 1 12) (Some (ParsedCall (at 1 19) (codes "min") (ParsedValue (ParsedNumber (at 1 23) 1 false false) ParsedEnd))))
    ParsedLast) (at 1 27)) ∷ []

row_17 : refusal_of tree_17 ≡ refused S9 1 19
unfolding value_of residue word_of value_in wrapped binary_of
row_17 = refl

-- int f() { return; }
abbrev tree_18 : ParsedSource
tree_18 =
    (function (at 1 5) (codes "f") (spec false false false false None (Some t.Int32)) ([])
    (ParsedNext (ParsedReturn (at 1 11) None)
    ParsedLast) (at 1 19)) ∷ []

row_18 : refusal_of tree_18 ≡ refused S8 1 11
unfolding value_of residue word_of value_in wrapped binary_of
row_18 = refl

-- void g() { }
-- void f() { return g(); }
abbrev tree_19 : ParsedSource
tree_19 =
    (function (at 1 6) (codes "g") (spec false false false false None None) ([])
    ParsedLast (at 1 12)) ∷
    (function (at 2 6) (codes "f") (spec false false false false None None) ([])
    (ParsedNext (ParsedReturn (at 2 12) (Some (ParsedCall (at 2 19) (codes "g") ParsedEnd)))
    ParsedLast) (at 2 24)) ∷ []

row_19 : refusal_of tree_19 ≡ refused S8 2 19
unfolding value_of residue word_of value_in wrapped binary_of
row_19 = refl

-- void g() { }
-- export void go() { int x = g(); }
abbrev tree_20 : ParsedSource
tree_20 =
    (function (at 1 6) (codes "g") (spec false false false false None None) ([])
    ParsedLast (at 1 12)) ∷
    (function (at 2 13) (codes "go") (spec true false false false None None) ([])
    (ParsedNext (ParsedDeclare (at 2 20) (spec false false false false None (Some t.Int32)) (at 2 24) (codes "x") (Some (ParsedCall (at 2 28) (codes "g") ParsedEnd)))
    ParsedLast) (at 2 33)) ∷ []

row_20 : refusal_of tree_20 ≡ refused S8 2 28
unfolding value_of residue word_of value_in wrapped binary_of
row_20 = refl

-- void g() { }
-- export void go() { int x; x = (g()); }
abbrev tree_21 : ParsedSource
tree_21 =
    (function (at 1 6) (codes "g") (spec false false false false None None) ([])
    ParsedLast (at 1 12)) ∷
    (function (at 2 13) (codes "go") (spec true false false false None None) ([])
    (ParsedNext (ParsedDeclare (at 2 20) (spec false false false false None (Some t.Int32)) (at 2 24) (codes "x") None)
    (ParsedNext (ParsedAssign (at 2 27) (target (at 2 27) (codes "x") None) (ParsedParen (at 2 31) (ParsedCall (at 2 32) (codes "g") ParsedEnd)))
    ParsedLast)) (at 2 38)) ∷ []

row_21 : refusal_of tree_21 ≡ refused S8 2 31
unfolding value_of residue word_of value_in wrapped binary_of
row_21 = refl

-- export void go() { void x; }
abbrev tree_22 : ParsedSource
tree_22 =
    (function (at 1 13) (codes "go") (spec true false false false None None) ([])
    (ParsedNext (ParsedDeclare (at 1 20) (spec false false false false None None) (at 1 25) (codes "x") None)
    ParsedLast) (at 1 28)) ∷ []

row_22 : refusal_of tree_22 ≡ refused S8 1 25
unfolding value_of residue word_of value_in wrapped binary_of
row_22 = refl

-- export void go() { void x; int y = x; }
abbrev tree_23 : ParsedSource
tree_23 =
    (function (at 1 13) (codes "go") (spec true false false false None None) ([])
    (ParsedNext (ParsedDeclare (at 1 20) (spec false false false false None None) (at 1 25) (codes "x") None)
    (ParsedNext (ParsedDeclare (at 1 28) (spec false false false false None (Some t.Int32)) (at 1 32) (codes "y") (Some (ParsedName (at 1 36) (codes "x"))))
    ParsedLast)) (at 1 39)) ∷ []

row_23 : refusal_of tree_23 ≡ refused S8 1 25
unfolding value_of residue word_of value_in wrapped binary_of
row_23 = refl

-- export void go() { int y = x; }
-- void x;
-- (used before its declaration in the source: the first place wins)
abbrev tree_24 : ParsedSource
tree_24 =
    (function (at 1 13) (codes "go") (spec true false false false None None) ([])
    (ParsedNext (ParsedDeclare (at 1 20) (spec false false false false None (Some t.Int32)) (at 1 24) (codes "y") (Some (ParsedName (at 1 28) (codes "x"))))
    ParsedLast) (at 1 31)) ∷
    (file_variable (at 2 6) (codes "x") (spec false false false false None None) Plain) ∷ []

row_24 : refusal_of tree_24 ≡ refused S8 1 28
unfolding value_of residue word_of value_in wrapped binary_of
row_24 = refl

-- void x;
abbrev tree_25 : ParsedSource
tree_25 =
    (file_variable (at 1 6) (codes "x") (spec false false false false None None) Plain) ∷ []

row_25 : refusal_of tree_25 ≡ refused S8 1 6
unfolding value_of residue word_of value_in wrapped binary_of
row_25 = refl

-- uniform void a[3];
abbrev tree_26 : ParsedSource
tree_26 =
    (file_variable (at 1 14) (codes "a") (spec false false false false (Some Uniform) None) (Array 3)) ∷ []

row_26 : refusal_of tree_26 ≡ refused S8 1 14
unfolding value_of residue word_of value_in wrapped binary_of
row_26 = refl

-- void f(void x) { }
abbrev tree_27 : ParsedSource
tree_27 =
    (function (at 1 6) (codes "f") (spec false false false false None None) (parameter (at 1 13) (codes "x") (spec false false false false None None) false ∷ [])
    ParsedLast (at 1 18)) ∷ []

row_27 : refusal_of tree_27 ≡ refused S8 1 13
unfolding value_of residue word_of value_in wrapped binary_of
row_27 = refl

-- export void go() { int x = (void) 1; }
abbrev tree_28 : ParsedSource
tree_28 =
    (function (at 1 13) (codes "go") (spec true false false false None None) ([])
    (ParsedNext (ParsedDeclare (at 1 20) (spec false false false false None (Some t.Int32)) (at 1 24) (codes "x") (Some (ParsedCast (at 1 28) None None (ParsedNumber (at 1 35) 1 false false))))
    ParsedLast) (at 1 38)) ∷ []

row_28 : refusal_of tree_28 ≡ refused S8 1 28
unfolding value_of residue word_of value_in wrapped binary_of
row_28 = refl

-- export void go() { int x = (uniform void) programIndex; }
-- (S7 and S8 at one place)
abbrev tree_29 : ParsedSource
tree_29 =
    (function (at 1 13) (codes "go") (spec true false false false None None) ([])
    (ParsedNext (ParsedDeclare (at 1 20) (spec false false false false None (Some t.Int32)) (at 1 24) (codes "x") (Some (ParsedCast (at 1 28) (Some Uniform) None (ParsedName (at 1 43) (codes "programIndex")))))
    ParsedLast) (at 1 57)) ∷ []

row_29 : refusal_of tree_29 ≡ refused S7 1 28
unfolding value_of residue word_of value_in wrapped binary_of
row_29 = refl

-- export void go() { int x = (void) min(1); }
-- (an expression with a fault inside gives no second one)
abbrev tree_30 : ParsedSource
tree_30 =
    (function (at 1 13) (codes "go") (spec true false false false None None) ([])
    (ParsedNext (ParsedDeclare (at 1 20) (spec false false false false None (Some t.Int32)) (at 1 24) (codes "x") (Some (ParsedCast (at 1 28) None None (ParsedCall (at 1 35) (codes "min") (ParsedValue (ParsedNumber (at 1 39) 1 false false) ParsedEnd)))))
    ParsedLast) (at 1 43)) ∷ []

row_30 : refusal_of tree_30 ≡ refused S9 1 35
unfolding value_of residue word_of value_in wrapped binary_of
row_30 = refl

-- export void go() { switch (true) { } }
abbrev tree_31 : ParsedSource
tree_31 =
    (function (at 1 13) (codes "go") (spec true false false false None None) ([])
    (ParsedNext (ParsedSwitch (at 1 20) (ParsedBool (at 1 28) true) ParsedNoMore)
    ParsedLast) (at 1 38)) ∷ []

row_31 : refusal_of tree_31 ≡ refused S8 1 28
unfolding value_of residue word_of value_in wrapped binary_of
row_31 = refl

-- export void go() { switch ((programIndex == 1)) { } }
abbrev tree_32 : ParsedSource
tree_32 =
    (function (at 1 13) (codes "go") (spec true false false false None None) ([])
    (ParsedNext (ParsedSwitch (at 1 20) (ParsedParen (at 1 28) (ParsedBinary (Op op.Equal) (ParsedName (at 1 29) (codes "programIndex")) (ParsedNumber (at 1 45) 1 false false))) ParsedNoMore)
    ParsedLast) (at 1 53)) ∷ []

row_32 : refusal_of tree_32 ≡ refused S8 1 28
unfolding value_of residue word_of value_in wrapped binary_of
row_32 = refl

-- export void go() { uint8 v; switch (v) { case 255: ; case 256: ; } }
abbrev tree_33 : ParsedSource
tree_33 =
    (function (at 1 13) (codes "go") (spec true false false false None None) ([])
    (ParsedNext (ParsedDeclare (at 1 20) (spec false false false false None (Some t.Uint8)) (at 1 26) (codes "v") None)
    (ParsedNext (ParsedSwitch (at 1 29) (ParsedName (at 1 37) (codes "v")) (ParsedSegment (at 1 42) (Some (label false 255)) (ParsedNext ParsedEmpty ParsedLast) (ParsedSegment (at 1 54) (Some (label false 256)) (ParsedNext ParsedEmpty ParsedLast) ParsedNoMore)))
    ParsedLast)) (at 1 68)) ∷ []

row_33 : refusal_of tree_33 ≡ refused S8 1 54
unfolding value_of residue word_of value_in wrapped binary_of
row_33 = refl

-- export void go() { uint8 v; switch (v) { case -1: ; } }
abbrev tree_34 : ParsedSource
tree_34 =
    (function (at 1 13) (codes "go") (spec true false false false None None) ([])
    (ParsedNext (ParsedDeclare (at 1 20) (spec false false false false None (Some t.Uint8)) (at 1 26) (codes "v") None)
    (ParsedNext (ParsedSwitch (at 1 29) (ParsedName (at 1 37) (codes "v")) (ParsedSegment (at 1 42) (Some (label true 1)) (ParsedNext ParsedEmpty ParsedLast) ParsedNoMore))
    ParsedLast)) (at 1 55)) ∷ []

row_34 : refusal_of tree_34 ≡ refused S8 1 42
unfolding value_of residue word_of value_in wrapped binary_of
row_34 = refl

-- export void go() { uint8 v; switch (v) { case -0: ; } }
abbrev tree_35 : ParsedSource
tree_35 =
    (function (at 1 13) (codes "go") (spec true false false false None None) ([])
    (ParsedNext (ParsedDeclare (at 1 20) (spec false false false false None (Some t.Uint8)) (at 1 26) (codes "v") None)
    (ParsedNext (ParsedSwitch (at 1 29) (ParsedName (at 1 37) (codes "v")) (ParsedSegment (at 1 42) (Some (label true 0)) (ParsedNext ParsedEmpty ParsedLast) ParsedNoMore))
    ParsedLast)) (at 1 55)) ∷ []

row_35 : refusal_of tree_35 ≡ accepted
unfolding value_of residue word_of value_in wrapped binary_of
row_35 = refl

-- export void go() { int8 v; switch (v) { case -128: ; case 127: ; case -129: ; } }
abbrev tree_36 : ParsedSource
tree_36 =
    (function (at 1 13) (codes "go") (spec true false false false None None) ([])
    (ParsedNext (ParsedDeclare (at 1 20) (spec false false false false None (Some t.Int8)) (at 1 25) (codes "v") None)
    (ParsedNext (ParsedSwitch (at 1 28) (ParsedName (at 1 36) (codes "v")) (ParsedSegment (at 1 41) (Some (label true 128)) (ParsedNext ParsedEmpty ParsedLast) (ParsedSegment (at 1 54) (Some (label false 127)) (ParsedNext ParsedEmpty ParsedLast) (ParsedSegment (at 1 66) (Some (label true 129)) (ParsedNext ParsedEmpty ParsedLast) ParsedNoMore))))
    ParsedLast)) (at 1 81)) ∷ []

row_36 : refusal_of tree_36 ≡ refused S8 1 66
unfolding value_of residue word_of value_in wrapped binary_of
row_36 = refl

-- export void go() { uint64 v; switch (v) { case 18446744073709551615: ; } }
abbrev tree_37 : ParsedSource
tree_37 =
    (function (at 1 13) (codes "go") (spec true false false false None None) ([])
    (ParsedNext (ParsedDeclare (at 1 20) (spec false false false false None (Some t.Uint64)) (at 1 27) (codes "v") None)
    (ParsedNext (ParsedSwitch (at 1 30) (ParsedName (at 1 38) (codes "v")) (ParsedSegment (at 1 43) (Some (label false 18446744073709551615)) (ParsedNext ParsedEmpty ParsedLast) ParsedNoMore))
    ParsedLast)) (at 1 74)) ∷ []

row_37 : refusal_of tree_37 ≡ accepted
unfolding value_of residue word_of value_in wrapped binary_of
row_37 = refl

-- export void go() { int64 v; switch (v) { case 9223372036854775808: ; } }
abbrev tree_38 : ParsedSource
tree_38 =
    (function (at 1 13) (codes "go") (spec true false false false None None) ([])
    (ParsedNext (ParsedDeclare (at 1 20) (spec false false false false None (Some t.Int64)) (at 1 26) (codes "v") None)
    (ParsedNext (ParsedSwitch (at 1 29) (ParsedName (at 1 37) (codes "v")) (ParsedSegment (at 1 42) (Some (label false 9223372036854775808)) (ParsedNext ParsedEmpty ParsedLast) ParsedNoMore))
    ParsedLast)) (at 1 72)) ∷ []

row_38 : refusal_of tree_38 ≡ refused S8 1 42
unfolding value_of residue word_of value_in wrapped binary_of
row_38 = refl
