-- Rows of unknown names (S5) and of names declared twice (S6).
use Rattle.std.specs.Prelude.{◌≡◌, refl, true, false, [], ◌∷◌, Some, None, codes}
use Rattle.gang_types.specs.Values.{value_of, residue, word_of, value_in, wrapped, binary_of}
use Rattle.gang_types.specs.declared.types.Rate.TheVariants.{Uniform}
use Rattle.gang_types.specs.declared.types.IntType.TheVariants as t
use Rattle.gang_types.specs.declared.operators.BinaryOp.TheVariants as op
use Rattle.gang_model.specs.declared.forms.Infix.TheVariants.{Op}
use Rattle.gang_model.specs.declared.forms.GlobalForm.TheVariants.{Plain, Array, Initial}
use Rattle.gang_model.specs.declared.forms.Literal.TheVariants.{Number}
use Rattle.gang_model.specs.Source.Parsed.{ParsedNumber, ParsedBool, ParsedName, ParsedIndex, ParsedCall, ParsedBinary, ParsedEnd, ParsedValue, ParsedPartFrom, ParsedEmpty, ParsedBlock, ParsedDeclare, ParsedAssign, ParsedIncrement, ParsedDoCall, ParsedReturn, ParsedIf, ParsedFor, ParsedForEach, ParsedForEachActive, ParsedForEachUnique, ParsedLast, ParsedNext, ParsedSource}
use Rattle.tests_transcripts.proofs.Forms.{at, spec, target, dimension, parameter, function, file_variable}
use Rattle.gang_model.specs.declared.refusals.RefusalNumber.TheVariants.{S5, S6}
use Rattle.gang_model.specs.Types.SourceRefusals.{refusal_of}
use Rattle.tests_refusals.proofs.Wanted.{refused, accepted}

-- export void go() { int x = y; }
abbrev tree_0 : ParsedSource
tree_0 =
    (function (at 1 13) (codes "go") (spec true false false false None None) ([])
    (ParsedNext (ParsedDeclare (at 1 20) (spec false false false false None (Some t.Int32)) (at 1 24) (codes "x") (Some (ParsedName (at 1 28) (codes "y"))))
    ParsedLast) (at 1 31)) ∷ []

row_0 : refusal_of tree_0 ≡ refused S5 1 28
unfolding value_of residue word_of value_in wrapped binary_of
row_0 = refl

-- export void go() { int x = x; }
-- (a local's scope begins at the end of its declaration)
abbrev tree_1 : ParsedSource
tree_1 =
    (function (at 1 13) (codes "go") (spec true false false false None None) ([])
    (ParsedNext (ParsedDeclare (at 1 20) (spec false false false false None (Some t.Int32)) (at 1 24) (codes "x") (Some (ParsedName (at 1 28) (codes "x"))))
    ParsedLast) (at 1 31)) ∷ []

row_1 : refusal_of tree_1 ≡ refused S5 1 28
unfolding value_of residue word_of value_in wrapped binary_of
row_1 = refl

-- export void go() { int x = x0[i]; }
-- (an expression with a fault inside gives no second one: not at x0)
abbrev tree_2 : ParsedSource
tree_2 =
    (function (at 1 13) (codes "go") (spec true false false false None None) ([])
    (ParsedNext (ParsedDeclare (at 1 20) (spec false false false false None (Some t.Int32)) (at 1 24) (codes "x") (Some (ParsedIndex (at 1 28) (codes "x0") (ParsedName (at 1 31) (codes "i")))))
    ParsedLast) (at 1 35)) ∷ []

row_2 : refusal_of tree_2 ≡ refused S5 1 31
unfolding value_of residue word_of value_in wrapped binary_of
row_2 = refl

-- export void go() { q[r] = 1; }
-- (a target is no expression, so that its name counts)
abbrev tree_3 : ParsedSource
tree_3 =
    (function (at 1 13) (codes "go") (spec true false false false None None) ([])
    (ParsedNext (ParsedAssign (at 1 20) (target (at 1 20) (codes "q") (Some (ParsedName (at 1 22) (codes "r")))) (ParsedNumber (at 1 27) 1 false false))
    ParsedLast) (at 1 30)) ∷ []

row_3 : refusal_of tree_3 ≡ refused S5 1 20
unfolding value_of residue word_of value_in wrapped binary_of
row_3 = refl

-- export void go() { int x = q[r]; }
abbrev tree_4 : ParsedSource
tree_4 =
    (function (at 1 13) (codes "go") (spec true false false false None None) ([])
    (ParsedNext (ParsedDeclare (at 1 20) (spec false false false false None (Some t.Int32)) (at 1 24) (codes "x") (Some (ParsedIndex (at 1 28) (codes "q") (ParsedName (at 1 30) (codes "r")))))
    ParsedLast) (at 1 34)) ∷ []

row_4 : refusal_of tree_4 ≡ refused S5 1 30
unfolding value_of residue word_of value_in wrapped binary_of
row_4 = refl

-- export void go() { int x = f(y); }
-- (not at f)
abbrev tree_5 : ParsedSource
tree_5 =
    (function (at 1 13) (codes "go") (spec true false false false None None) ([])
    (ParsedNext (ParsedDeclare (at 1 20) (spec false false false false None (Some t.Int32)) (at 1 24) (codes "x") (Some (ParsedCall (at 1 28) (codes "f") (ParsedValue (ParsedName (at 1 30) (codes "y")) ParsedEnd))))
    ParsedLast) (at 1 34)) ∷ []

row_5 : refusal_of tree_5 ≡ refused S5 1 30
unfolding value_of residue word_of value_in wrapped binary_of
row_5 = refl

-- export void go() { int x = 1 + q(y); }
abbrev tree_6 : ParsedSource
tree_6 =
    (function (at 1 13) (codes "go") (spec true false false false None None) ([])
    (ParsedNext (ParsedDeclare (at 1 20) (spec false false false false None (Some t.Int32)) (at 1 24) (codes "x") (Some (ParsedBinary (Op op.Add) (ParsedNumber (at 1 28) 1 false false) (ParsedCall (at 1 32) (codes "q") (ParsedValue (ParsedName (at 1 34) (codes "y")) ParsedEnd)))))
    ParsedLast) (at 1 38)) ∷ []

row_6 : refusal_of tree_6 ≡ refused S5 1 34
unfolding value_of residue word_of value_in wrapped binary_of
row_6 = refl

-- int f(int a) { return a; }
-- export void go() { int x = 1 + f(y); }
-- (not S12 at f)
abbrev tree_7 : ParsedSource
tree_7 =
    (function (at 1 5) (codes "f") (spec false false false false None (Some t.Int32)) (parameter (at 1 11) (codes "a") (spec false false false false None (Some t.Int32)) false ∷ [])
    (ParsedNext (ParsedReturn (at 1 16) (Some (ParsedName (at 1 23) (codes "a"))))
    ParsedLast) (at 1 26)) ∷
    (function (at 2 13) (codes "go") (spec true false false false None None) ([])
    (ParsedNext (ParsedDeclare (at 2 20) (spec false false false false None (Some t.Int32)) (at 2 24) (codes "x") (Some (ParsedBinary (Op op.Add) (ParsedNumber (at 2 28) 1 false false) (ParsedCall (at 2 32) (codes "f") (ParsedValue (ParsedName (at 2 34) (codes "y")) ParsedEnd)))))
    ParsedLast) (at 2 38)) ∷ []

row_7 : refusal_of tree_7 ≡ refused S5 2 34
unfolding value_of residue word_of value_in wrapped binary_of
row_7 = refl

-- export void go() { int x = f(1); }
abbrev tree_8 : ParsedSource
tree_8 =
    (function (at 1 13) (codes "go") (spec true false false false None None) ([])
    (ParsedNext (ParsedDeclare (at 1 20) (spec false false false false None (Some t.Int32)) (at 1 24) (codes "x") (Some (ParsedCall (at 1 28) (codes "f") (ParsedValue (ParsedNumber (at 1 30) 1 false false) ParsedEnd))))
    ParsedLast) (at 1 34)) ∷ []

row_8 : refusal_of tree_8 ≡ refused S5 1 28
unfolding value_of residue word_of value_in wrapped binary_of
row_8 = refl

-- export void go() { f(1); }
abbrev tree_9 : ParsedSource
tree_9 =
    (function (at 1 13) (codes "go") (spec true false false false None None) ([])
    (ParsedNext (ParsedDoCall (at 1 20) (codes "f") (ParsedValue (ParsedNumber (at 1 22) 1 false false) ParsedEnd))
    ParsedLast) (at 1 26)) ∷ []

row_9 : refusal_of tree_9 ≡ refused S5 1 20
unfolding value_of residue word_of value_in wrapped binary_of
row_9 = refl

-- export void go() { f(&q[r]); }
-- (`&q[r]` is no expression, so that its name counts)
abbrev tree_10 : ParsedSource
tree_10 =
    (function (at 1 13) (codes "go") (spec true false false false None None) ([])
    (ParsedNext (ParsedDoCall (at 1 20) (codes "f") (ParsedPartFrom (at 1 23) (codes "q") (ParsedName (at 1 25) (codes "r")) ParsedEnd))
    ParsedLast) (at 1 30)) ∷ []

row_10 : refusal_of tree_10 ≡ refused S5 1 23
unfolding value_of residue word_of value_in wrapped binary_of
row_10 = refl

-- export void go() { { int x; } x = 1; }
abbrev tree_11 : ParsedSource
tree_11 =
    (function (at 1 13) (codes "go") (spec true false false false None None) ([])
    (ParsedNext (ParsedBlock (ParsedNext (ParsedDeclare (at 1 22) (spec false false false false None (Some t.Int32)) (at 1 26) (codes "x") None)
    ParsedLast))
    (ParsedNext (ParsedAssign (at 1 31) (target (at 1 31) (codes "x") None) (ParsedNumber (at 1 35) 1 false false))
    ParsedLast)) (at 1 38)) ∷ []

row_11 : refusal_of tree_11 ≡ refused S5 1 31
unfolding value_of residue word_of value_in wrapped binary_of
row_11 = refl

-- export void go() { if (true) int x; x = 1; }
-- (a declaration that is a body is a block of its own)
abbrev tree_12 : ParsedSource
tree_12 =
    (function (at 1 13) (codes "go") (spec true false false false None None) ([])
    (ParsedNext (ParsedIf (at 1 20) (ParsedBool (at 1 24) true) (ParsedDeclare (at 1 30) (spec false false false false None (Some t.Int32)) (at 1 34) (codes "x") None))
    (ParsedNext (ParsedAssign (at 1 37) (target (at 1 37) (codes "x") None) (ParsedNumber (at 1 41) 1 false false))
    ParsedLast)) (at 1 44)) ∷ []

row_12 : refusal_of tree_12 ≡ refused S5 1 37
unfolding value_of residue word_of value_in wrapped binary_of
row_12 = refl

-- export void go() { for (int i = 0; i < 2; i++) ; i = 1; }
abbrev tree_13 : ParsedSource
tree_13 =
    (function (at 1 13) (codes "go") (spec true false false false None None) ([])
    (ParsedNext (ParsedFor (at 1 20) (ParsedDeclare (at 1 25) (spec false false false false None (Some t.Int32)) (at 1 29) (codes "i") (Some (ParsedNumber (at 1 33) 0 false false))) (Some (ParsedBinary (Op op.Less) (ParsedName (at 1 36) (codes "i")) (ParsedNumber (at 1 40) 2 false false))) (ParsedIncrement (at 1 43) (target (at 1 43) (codes "i") None) op.Add) ParsedEmpty)
    (ParsedNext (ParsedAssign (at 1 50) (target (at 1 50) (codes "i") None) (ParsedNumber (at 1 54) 1 false false))
    ParsedLast)) (at 1 57)) ∷ []

row_13 : refusal_of tree_13 ≡ refused S5 1 50
unfolding value_of residue word_of value_in wrapped binary_of
row_13 = refl

-- export void go() { foreach (i = 0 ... i) ; }
-- (an index variable is in scope in the body alone)
abbrev tree_14 : ParsedSource
tree_14 =
    (function (at 1 13) (codes "go") (spec true false false false None None) ([])
    (ParsedNext (ParsedForEach (at 1 20) false (dimension (at 1 29) (codes "i") (ParsedNumber (at 1 33) 0 false false) (ParsedName (at 1 39) (codes "i")) ∷ []) ParsedEmpty)
    ParsedLast) (at 1 44)) ∷ []

row_14 : refusal_of tree_14 ≡ refused S5 1 39
unfolding value_of residue word_of value_in wrapped binary_of
row_14 = refl

-- export void go() { foreach_unique (v in v) ; }
abbrev tree_15 : ParsedSource
tree_15 =
    (function (at 1 13) (codes "go") (spec true false false false None None) ([])
    (ParsedNext (ParsedForEachUnique (at 1 20) (at 1 36) (codes "v") (ParsedName (at 1 41) (codes "v")) ParsedEmpty)
    ParsedLast) (at 1 46)) ∷ []

row_15 : refusal_of tree_15 ≡ refused S5 1 41
unfolding value_of residue word_of value_in wrapped binary_of
row_15 = refl

-- export void go() { int x = t; f(); }
-- uniform int t = 3;
-- void f() { }
-- (functions and file-scope variables are visible in the whole source)
abbrev tree_16 : ParsedSource
tree_16 =
    (function (at 1 13) (codes "go") (spec true false false false None None) ([])
    (ParsedNext (ParsedDeclare (at 1 20) (spec false false false false None (Some t.Int32)) (at 1 24) (codes "x") (Some (ParsedName (at 1 28) (codes "t"))))
    (ParsedNext (ParsedDoCall (at 1 31) (codes "f") ParsedEnd)
    ParsedLast)) (at 1 36)) ∷
    (file_variable (at 2 13) (codes "t") (spec false false false false (Some Uniform) (Some t.Int32)) (Initial (Number false 3 false false))) ∷
    (function (at 3 6) (codes "f") (spec false false false false None None) ([])
    ParsedLast (at 3 12)) ∷ []

row_16 : refusal_of tree_16 ≡ accepted
unfolding value_of residue word_of value_in wrapped binary_of
row_16 = refl

-- export void go() { int x; { int x; x = 1; } x = 2; }
abbrev tree_17 : ParsedSource
tree_17 =
    (function (at 1 13) (codes "go") (spec true false false false None None) ([])
    (ParsedNext (ParsedDeclare (at 1 20) (spec false false false false None (Some t.Int32)) (at 1 24) (codes "x") None)
    (ParsedNext (ParsedBlock (ParsedNext (ParsedDeclare (at 1 29) (spec false false false false None (Some t.Int32)) (at 1 33) (codes "x") None)
    (ParsedNext (ParsedAssign (at 1 36) (target (at 1 36) (codes "x") None) (ParsedNumber (at 1 40) 1 false false))
    ParsedLast)))
    (ParsedNext (ParsedAssign (at 1 45) (target (at 1 45) (codes "x") None) (ParsedNumber (at 1 49) 2 false false))
    ParsedLast))) (at 1 52)) ∷ []

row_17 : refusal_of tree_17 ≡ accepted
unfolding value_of residue word_of value_in wrapped binary_of
row_17 = refl

-- export void go() { int x; int x; }
abbrev tree_18 : ParsedSource
tree_18 =
    (function (at 1 13) (codes "go") (spec true false false false None None) ([])
    (ParsedNext (ParsedDeclare (at 1 20) (spec false false false false None (Some t.Int32)) (at 1 24) (codes "x") None)
    (ParsedNext (ParsedDeclare (at 1 27) (spec false false false false None (Some t.Int32)) (at 1 31) (codes "x") None)
    ParsedLast)) (at 1 34)) ∷ []

row_18 : refusal_of tree_18 ≡ refused S6 1 31
unfolding value_of residue word_of value_in wrapped binary_of
row_18 = refl

-- void f(int a) { int a; }
-- (parameters and the outermost block are one scope)
abbrev tree_19 : ParsedSource
tree_19 =
    (function (at 1 6) (codes "f") (spec false false false false None None) (parameter (at 1 12) (codes "a") (spec false false false false None (Some t.Int32)) false ∷ [])
    (ParsedNext (ParsedDeclare (at 1 17) (spec false false false false None (Some t.Int32)) (at 1 21) (codes "a") None)
    ParsedLast) (at 1 24)) ∷ []

row_19 : refusal_of tree_19 ≡ refused S6 1 21
unfolding value_of residue word_of value_in wrapped binary_of
row_19 = refl

-- void f(int a) { { int a; } }
abbrev tree_20 : ParsedSource
tree_20 =
    (function (at 1 6) (codes "f") (spec false false false false None None) (parameter (at 1 12) (codes "a") (spec false false false false None (Some t.Int32)) false ∷ [])
    (ParsedNext (ParsedBlock (ParsedNext (ParsedDeclare (at 1 19) (spec false false false false None (Some t.Int32)) (at 1 23) (codes "a") None)
    ParsedLast))
    ParsedLast) (at 1 28)) ∷ []

row_20 : refusal_of tree_20 ≡ accepted
unfolding value_of residue word_of value_in wrapped binary_of
row_20 = refl

-- void f(int a, int a) { }
abbrev tree_21 : ParsedSource
tree_21 =
    (function (at 1 6) (codes "f") (spec false false false false None None) (parameter (at 1 12) (codes "a") (spec false false false false None (Some t.Int32)) false ∷ parameter (at 1 19) (codes "a") (spec false false false false None (Some t.Int32)) false ∷ [])
    ParsedLast (at 1 24)) ∷ []

row_21 : refusal_of tree_21 ≡ refused S6 1 19
unfolding value_of residue word_of value_in wrapped binary_of
row_21 = refl

-- export void go() { for (int i = 0; i < 2; i++) { int i; } }
abbrev tree_22 : ParsedSource
tree_22 =
    (function (at 1 13) (codes "go") (spec true false false false None None) ([])
    (ParsedNext (ParsedFor (at 1 20) (ParsedDeclare (at 1 25) (spec false false false false None (Some t.Int32)) (at 1 29) (codes "i") (Some (ParsedNumber (at 1 33) 0 false false))) (Some (ParsedBinary (Op op.Less) (ParsedName (at 1 36) (codes "i")) (ParsedNumber (at 1 40) 2 false false))) (ParsedIncrement (at 1 43) (target (at 1 43) (codes "i") None) op.Add) (ParsedBlock (ParsedNext (ParsedDeclare (at 1 50) (spec false false false false None (Some t.Int32)) (at 1 54) (codes "i") None)
    ParsedLast)))
    ParsedLast) (at 1 59)) ∷ []

row_22 : refusal_of tree_22 ≡ accepted
unfolding value_of residue word_of value_in wrapped binary_of
row_22 = refl

-- export void go() { foreach (i = 0 ... 2, i = 0 ... 2) ; }
abbrev tree_23 : ParsedSource
tree_23 =
    (function (at 1 13) (codes "go") (spec true false false false None None) ([])
    (ParsedNext (ParsedForEach (at 1 20) false (dimension (at 1 29) (codes "i") (ParsedNumber (at 1 33) 0 false false) (ParsedNumber (at 1 39) 2 false false) ∷ dimension (at 1 42) (codes "i") (ParsedNumber (at 1 46) 0 false false) (ParsedNumber (at 1 52) 2 false false) ∷ []) ParsedEmpty)
    ParsedLast) (at 1 57)) ∷ []

row_23 : refusal_of tree_23 ≡ refused S6 1 42
unfolding value_of residue word_of value_in wrapped binary_of
row_23 = refl

-- export void go() { foreach (i = 0 ... 2) { int i; } }
abbrev tree_24 : ParsedSource
tree_24 =
    (function (at 1 13) (codes "go") (spec true false false false None None) ([])
    (ParsedNext (ParsedForEach (at 1 20) false (dimension (at 1 29) (codes "i") (ParsedNumber (at 1 33) 0 false false) (ParsedNumber (at 1 39) 2 false false) ∷ []) (ParsedBlock (ParsedNext (ParsedDeclare (at 1 44) (spec false false false false None (Some t.Int32)) (at 1 48) (codes "i") None)
    ParsedLast)))
    ParsedLast) (at 1 53)) ∷ []

row_24 : refusal_of tree_24 ≡ accepted
unfolding value_of residue word_of value_in wrapped binary_of
row_24 = refl

-- export void go() { int programIndex; }
abbrev tree_25 : ParsedSource
tree_25 =
    (function (at 1 13) (codes "go") (spec true false false false None None) ([])
    (ParsedNext (ParsedDeclare (at 1 20) (spec false false false false None (Some t.Int32)) (at 1 24) (codes "programIndex") None)
    ParsedLast) (at 1 38)) ∷ []

row_25 : refusal_of tree_25 ≡ refused S6 1 24
unfolding value_of residue word_of value_in wrapped binary_of
row_25 = refl

-- export void go() { foreach_active (programCount) ; }
abbrev tree_26 : ParsedSource
tree_26 =
    (function (at 1 13) (codes "go") (spec true false false false None None) ([])
    (ParsedNext (ParsedForEachActive (at 1 20) (at 1 36) (codes "programCount") ParsedEmpty)
    ParsedLast) (at 1 52)) ∷ []

row_26 : refusal_of tree_26 ≡ refused S6 1 36
unfolding value_of residue word_of value_in wrapped binary_of
row_26 = refl

-- export void go() { foreach_unique (programIndex in 2) ; }
abbrev tree_27 : ParsedSource
tree_27 =
    (function (at 1 13) (codes "go") (spec true false false false None None) ([])
    (ParsedNext (ParsedForEachUnique (at 1 20) (at 1 36) (codes "programIndex") (ParsedNumber (at 1 52) 2 false false) ParsedEmpty)
    ParsedLast) (at 1 57)) ∷ []

row_27 : refusal_of tree_27 ≡ refused S6 1 36
unfolding value_of residue word_of value_in wrapped binary_of
row_27 = refl

-- void f(int programCount) { }
abbrev tree_28 : ParsedSource
tree_28 =
    (function (at 1 6) (codes "f") (spec false false false false None None) (parameter (at 1 12) (codes "programCount") (spec false false false false None (Some t.Int32)) false ∷ [])
    ParsedLast (at 1 28)) ∷ []

row_28 : refusal_of tree_28 ≡ refused S6 1 12
unfolding value_of residue word_of value_in wrapped binary_of
row_28 = refl

-- uniform int programIndex;
abbrev tree_29 : ParsedSource
tree_29 =
    (file_variable (at 1 13) (codes "programIndex") (spec false false false false (Some Uniform) (Some t.Int32)) Plain) ∷ []

row_29 : refusal_of tree_29 ≡ refused S6 1 13
unfolding value_of residue word_of value_in wrapped binary_of
row_29 = refl

-- uniform int a;
-- uniform int8 a[3];
abbrev tree_30 : ParsedSource
tree_30 =
    (file_variable (at 1 13) (codes "a") (spec false false false false (Some Uniform) (Some t.Int32)) Plain) ∷
    (file_variable (at 2 14) (codes "a") (spec false false false false (Some Uniform) (Some t.Int8)) (Array 3)) ∷ []

row_30 : refusal_of tree_30 ≡ refused S6 2 14
unfolding value_of residue word_of value_in wrapped binary_of
row_30 = refl

-- void min(int a) { }
abbrev tree_31 : ParsedSource
tree_31 =
    (function (at 1 6) (codes "min") (spec false false false false None None) (parameter (at 1 14) (codes "a") (spec false false false false None (Some t.Int32)) false ∷ [])
    ParsedLast (at 1 19)) ∷ []

row_31 : refusal_of tree_31 ≡ refused S6 1 6
unfolding value_of residue word_of value_in wrapped binary_of
row_31 = refl

-- void assert(bool a) { }
abbrev tree_32 : ParsedSource
tree_32 =
    (function (at 1 6) (codes "assert") (spec false false false false None None) (parameter (at 1 18) (codes "a") (spec false false false false None (Some t.Bool)) false ∷ [])
    ParsedLast (at 1 23)) ∷ []

row_32 : refusal_of tree_32 ≡ refused S6 1 6
unfolding value_of residue word_of value_in wrapped binary_of
row_32 = refl

-- void packmask() { }
abbrev tree_33 : ParsedSource
tree_33 =
    (function (at 1 6) (codes "packmask") (spec false false false false None None) ([])
    ParsedLast (at 1 19)) ∷ []

row_33 : refusal_of tree_33 ≡ refused S6 1 6
unfolding value_of residue word_of value_in wrapped binary_of
row_33 = refl

-- void f(int a) { }
-- int f(int b) { return b; }
-- (the result is no difference)
abbrev tree_34 : ParsedSource
tree_34 =
    (function (at 1 6) (codes "f") (spec false false false false None None) (parameter (at 1 12) (codes "a") (spec false false false false None (Some t.Int32)) false ∷ [])
    ParsedLast (at 1 17)) ∷
    (function (at 2 5) (codes "f") (spec false false false false None (Some t.Int32)) (parameter (at 2 11) (codes "b") (spec false false false false None (Some t.Int32)) false ∷ [])
    (ParsedNext (ParsedReturn (at 2 16) (Some (ParsedName (at 2 23) (codes "b"))))
    ParsedLast) (at 2 26)) ∷ []

row_34 : refusal_of tree_34 ≡ refused S6 2 5
unfolding value_of residue word_of value_in wrapped binary_of
row_34 = refl

-- void f(int a) { }
-- void f(uniform int a) { }
abbrev tree_35 : ParsedSource
tree_35 =
    (function (at 1 6) (codes "f") (spec false false false false None None) (parameter (at 1 12) (codes "a") (spec false false false false None (Some t.Int32)) false ∷ [])
    ParsedLast (at 1 17)) ∷
    (function (at 2 6) (codes "f") (spec false false false false None None) (parameter (at 2 20) (codes "a") (spec false false false false (Some Uniform) (Some t.Int32)) false ∷ [])
    ParsedLast (at 2 25)) ∷ []

row_35 : refusal_of tree_35 ≡ accepted
unfolding value_of residue word_of value_in wrapped binary_of
row_35 = refl

-- void f(uniform int a[]) { }
-- void f(const uniform int a[]) { }
-- (`const` is no difference)
abbrev tree_36 : ParsedSource
tree_36 =
    (function (at 1 6) (codes "f") (spec false false false false None None) (parameter (at 1 20) (codes "a") (spec false false false false (Some Uniform) (Some t.Int32)) true ∷ [])
    ParsedLast (at 1 27)) ∷
    (function (at 2 6) (codes "f") (spec false false false false None None) (parameter (at 2 26) (codes "a") (spec false false false true (Some Uniform) (Some t.Int32)) true ∷ [])
    ParsedLast (at 2 33)) ∷ []

row_36 : refusal_of tree_36 ≡ refused S6 2 6
unfolding value_of residue word_of value_in wrapped binary_of
row_36 = refl

-- void f(uniform int a[]) { }
-- void f(uniform int a) { }
abbrev tree_37 : ParsedSource
tree_37 =
    (function (at 1 6) (codes "f") (spec false false false false None None) (parameter (at 1 20) (codes "a") (spec false false false false (Some Uniform) (Some t.Int32)) true ∷ [])
    ParsedLast (at 1 27)) ∷
    (function (at 2 6) (codes "f") (spec false false false false None None) (parameter (at 2 20) (codes "a") (spec false false false false (Some Uniform) (Some t.Int32)) false ∷ [])
    ParsedLast (at 2 25)) ∷ []

row_37 : refusal_of tree_37 ≡ accepted
unfolding value_of residue word_of value_in wrapped binary_of
row_37 = refl

-- void programIndex() { }
-- uniform int f;
-- void f() { f = 1; f(); }
-- (variables and functions are separate)
abbrev tree_38 : ParsedSource
tree_38 =
    (function (at 1 6) (codes "programIndex") (spec false false false false None None) ([])
    ParsedLast (at 1 23)) ∷
    (file_variable (at 2 13) (codes "f") (spec false false false false (Some Uniform) (Some t.Int32)) Plain) ∷
    (function (at 3 6) (codes "f") (spec false false false false None None) ([])
    (ParsedNext (ParsedAssign (at 3 12) (target (at 3 12) (codes "f") None) (ParsedNumber (at 3 16) 1 false false))
    (ParsedNext (ParsedDoCall (at 3 19) (codes "f") ParsedEnd)
    ParsedLast)) (at 3 24)) ∷ []

row_38 : refusal_of tree_38 ≡ accepted
unfolding value_of residue word_of value_in wrapped binary_of
row_38 = refl
