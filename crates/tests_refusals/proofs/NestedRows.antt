-- Rows of calls that may not stand where they stand (S12).
use Rattle.std.specs.Prelude.{◌≡◌, refl, true, false, [], ◌∷◌, Some, None, codes}
use Rattle.gang_types.specs.Values.{value_of, residue, word_of, value_in, wrapped, binary_of}
use Rattle.gang_types.specs.declared.types.Rate.TheVariants.{Uniform}
use Rattle.gang_types.specs.declared.types.IntType.TheVariants as t
use Rattle.gang_types.specs.declared.operators.BinaryOp.TheVariants as op
use Rattle.gang_model.specs.declared.forms.Infix.TheVariants.{Op}
use Rattle.gang_model.specs.declared.forms.GlobalForm.TheVariants.{Array}
use Rattle.gang_model.specs.Source.Parsed.{ParsedNumber, ParsedBool, ParsedName, ParsedCall, ParsedParen, ParsedBinary, ParsedEnd, ParsedValue, ParsedPartFrom, ParsedEmpty, ParsedDeclare, ParsedAssign, ParsedChange, ParsedDoCall, ParsedReturn, ParsedIf, ParsedFor, ParsedSwitch, ParsedForEach, ParsedLast, ParsedNext, ParsedNoMore, ParsedSource}
use Rattle.tests_transcripts.proofs.Forms.{at, spec, target, dimension, parameter, function, file_variable}
use Rattle.gang_model.specs.declared.refusals.RefusalNumber.TheVariants.{S12}
use Rattle.gang_model.specs.Types.SourceRefusals.{refusal_of}
use Rattle.tests_refusals.proofs.Wanted.{refused, accepted}

-- int f() { return 1; }
-- export void go() { int x = f(); x = f(); x = ((f())); f(); }
abbrev tree_0 : ParsedSource
tree_0 =
    (function (at 1 5) (codes "f") (spec false false false false None (Some t.Int32)) ([])
    (ParsedNext (ParsedReturn (at 1 11) (Some (ParsedNumber (at 1 18) 1 false false)))
    ParsedLast) (at 1 21)) ∷
    (function (at 2 13) (codes "go") (spec true false false false None None) ([])
    (ParsedNext (ParsedDeclare (at 2 20) (spec false false false false None (Some t.Int32)) (at 2 24) (codes "x") (Some (ParsedCall (at 2 28) (codes "f") ParsedEnd)))
    (ParsedNext (ParsedAssign (at 2 33) (target (at 2 33) (codes "x") None) (ParsedCall (at 2 37) (codes "f") ParsedEnd))
    (ParsedNext (ParsedAssign (at 2 42) (target (at 2 42) (codes "x") None) (ParsedParen (at 2 46) (ParsedParen (at 2 47) (ParsedCall (at 2 48) (codes "f") ParsedEnd))))
    (ParsedNext (ParsedDoCall (at 2 55) (codes "f") ParsedEnd)
    ParsedLast)))) (at 2 60)) ∷ []

row_0 : refusal_of tree_0 ≡ accepted
unfolding value_of residue word_of value_in wrapped binary_of
row_0 = refl

-- int f() { return 1; }
-- int g() { return f(); }
abbrev tree_1 : ParsedSource
tree_1 =
    (function (at 1 5) (codes "f") (spec false false false false None (Some t.Int32)) ([])
    (ParsedNext (ParsedReturn (at 1 11) (Some (ParsedNumber (at 1 18) 1 false false)))
    ParsedLast) (at 1 21)) ∷
    (function (at 2 5) (codes "g") (spec false false false false None (Some t.Int32)) ([])
    (ParsedNext (ParsedReturn (at 2 11) (Some (ParsedCall (at 2 18) (codes "f") ParsedEnd)))
    ParsedLast) (at 2 23)) ∷ []

row_1 : refusal_of tree_1 ≡ accepted
unfolding value_of residue word_of value_in wrapped binary_of
row_1 = refl

-- int f() { return 1; }
-- export void go() { if (f() == 1) ; }
abbrev tree_2 : ParsedSource
tree_2 =
    (function (at 1 5) (codes "f") (spec false false false false None (Some t.Int32)) ([])
    (ParsedNext (ParsedReturn (at 1 11) (Some (ParsedNumber (at 1 18) 1 false false)))
    ParsedLast) (at 1 21)) ∷
    (function (at 2 13) (codes "go") (spec true false false false None None) ([])
    (ParsedNext (ParsedIf (at 2 20) (ParsedBinary (Op op.Equal) (ParsedCall (at 2 24) (codes "f") ParsedEnd) (ParsedNumber (at 2 31) 1 false false)) ParsedEmpty)
    ParsedLast) (at 2 36)) ∷ []

row_2 : refusal_of tree_2 ≡ refused S12 2 24
unfolding value_of residue word_of value_in wrapped binary_of
row_2 = refl

-- int f(int a) { return a; }
-- export void go() { int x = f(f(1)); }
-- (at the innermost)
abbrev tree_3 : ParsedSource
tree_3 =
    (function (at 1 5) (codes "f") (spec false false false false None (Some t.Int32)) (parameter (at 1 11) (codes "a") (spec false false false false None (Some t.Int32)) false ∷ [])
    (ParsedNext (ParsedReturn (at 1 16) (Some (ParsedName (at 1 23) (codes "a"))))
    ParsedLast) (at 1 26)) ∷
    (function (at 2 13) (codes "go") (spec true false false false None None) ([])
    (ParsedNext (ParsedDeclare (at 2 20) (spec false false false false None (Some t.Int32)) (at 2 24) (codes "x") (Some (ParsedCall (at 2 28) (codes "f") (ParsedValue (ParsedCall (at 2 30) (codes "f") (ParsedValue (ParsedNumber (at 2 32) 1 false false) ParsedEnd)) ParsedEnd))))
    ParsedLast) (at 2 37)) ∷ []

row_3 : refusal_of tree_3 ≡ refused S12 2 30
unfolding value_of residue word_of value_in wrapped binary_of
row_3 = refl

-- int f(int a) { return a; }
-- export void go() { f(f(f(1))); }
abbrev tree_4 : ParsedSource
tree_4 =
    (function (at 1 5) (codes "f") (spec false false false false None (Some t.Int32)) (parameter (at 1 11) (codes "a") (spec false false false false None (Some t.Int32)) false ∷ [])
    (ParsedNext (ParsedReturn (at 1 16) (Some (ParsedName (at 1 23) (codes "a"))))
    ParsedLast) (at 1 26)) ∷
    (function (at 2 13) (codes "go") (spec true false false false None None) ([])
    (ParsedNext (ParsedDoCall (at 2 20) (codes "f") (ParsedValue (ParsedCall (at 2 22) (codes "f") (ParsedValue (ParsedCall (at 2 24) (codes "f") (ParsedValue (ParsedNumber (at 2 26) 1 false false) ParsedEnd)) ParsedEnd)) ParsedEnd))
    ParsedLast) (at 2 32)) ∷ []

row_4 : refusal_of tree_4 ≡ refused S12 2 24
unfolding value_of residue word_of value_in wrapped binary_of
row_4 = refl

-- uniform int q[3];
-- int f(int a) { return a; }
-- export void go() { q[0] = f(1); }
-- (an element is no variable)
abbrev tree_5 : ParsedSource
tree_5 =
    (file_variable (at 1 13) (codes "q") (spec false false false false (Some Uniform) (Some t.Int32)) (Array 3)) ∷
    (function (at 2 5) (codes "f") (spec false false false false None (Some t.Int32)) (parameter (at 2 11) (codes "a") (spec false false false false None (Some t.Int32)) false ∷ [])
    (ParsedNext (ParsedReturn (at 2 16) (Some (ParsedName (at 2 23) (codes "a"))))
    ParsedLast) (at 2 26)) ∷
    (function (at 3 13) (codes "go") (spec true false false false None None) ([])
    (ParsedNext (ParsedAssign (at 3 20) (target (at 3 20) (codes "q") (Some (ParsedNumber (at 3 22) 0 false false))) (ParsedCall (at 3 27) (codes "f") (ParsedValue (ParsedNumber (at 3 29) 1 false false) ParsedEnd)))
    ParsedLast) (at 3 33)) ∷ []

row_5 : refusal_of tree_5 ≡ refused S12 3 27
unfolding value_of residue word_of value_in wrapped binary_of
row_5 = refl

-- uniform int q[3];
-- int f(int a) { return a; }
-- export void go() { q[f(1)] = 1; }
abbrev tree_6 : ParsedSource
tree_6 =
    (file_variable (at 1 13) (codes "q") (spec false false false false (Some Uniform) (Some t.Int32)) (Array 3)) ∷
    (function (at 2 5) (codes "f") (spec false false false false None (Some t.Int32)) (parameter (at 2 11) (codes "a") (spec false false false false None (Some t.Int32)) false ∷ [])
    (ParsedNext (ParsedReturn (at 2 16) (Some (ParsedName (at 2 23) (codes "a"))))
    ParsedLast) (at 2 26)) ∷
    (function (at 3 13) (codes "go") (spec true false false false None None) ([])
    (ParsedNext (ParsedAssign (at 3 20) (target (at 3 20) (codes "q") (Some (ParsedCall (at 3 22) (codes "f") (ParsedValue (ParsedNumber (at 3 24) 1 false false) ParsedEnd)))) (ParsedNumber (at 3 30) 1 false false))
    ParsedLast) (at 3 33)) ∷ []

row_6 : refusal_of tree_6 ≡ refused S12 3 22
unfolding value_of residue word_of value_in wrapped binary_of
row_6 = refl

-- int f(int a) { return a; }
-- export void go() { for (; f(1); ) ; }
abbrev tree_7 : ParsedSource
tree_7 =
    (function (at 1 5) (codes "f") (spec false false false false None (Some t.Int32)) (parameter (at 1 11) (codes "a") (spec false false false false None (Some t.Int32)) false ∷ [])
    (ParsedNext (ParsedReturn (at 1 16) (Some (ParsedName (at 1 23) (codes "a"))))
    ParsedLast) (at 1 26)) ∷
    (function (at 2 13) (codes "go") (spec true false false false None None) ([])
    (ParsedNext (ParsedFor (at 2 20) ParsedEmpty (Some (ParsedCall (at 2 27) (codes "f") (ParsedValue (ParsedNumber (at 2 29) 1 false false) ParsedEnd))) ParsedEmpty ParsedEmpty)
    ParsedLast) (at 2 37)) ∷ []

row_7 : refusal_of tree_7 ≡ refused S12 2 27
unfolding value_of residue word_of value_in wrapped binary_of
row_7 = refl

-- int f(int a) { return a; }
-- export void go() { int x; x += f(1); }
abbrev tree_8 : ParsedSource
tree_8 =
    (function (at 1 5) (codes "f") (spec false false false false None (Some t.Int32)) (parameter (at 1 11) (codes "a") (spec false false false false None (Some t.Int32)) false ∷ [])
    (ParsedNext (ParsedReturn (at 1 16) (Some (ParsedName (at 1 23) (codes "a"))))
    ParsedLast) (at 1 26)) ∷
    (function (at 2 13) (codes "go") (spec true false false false None None) ([])
    (ParsedNext (ParsedDeclare (at 2 20) (spec false false false false None (Some t.Int32)) (at 2 24) (codes "x") None)
    (ParsedNext (ParsedChange (at 2 27) (target (at 2 27) (codes "x") None) op.Add (ParsedCall (at 2 32) (codes "f") (ParsedValue (ParsedNumber (at 2 34) 1 false false) ParsedEnd)))
    ParsedLast)) (at 2 38)) ∷ []

row_8 : refusal_of tree_8 ≡ refused S12 2 32
unfolding value_of residue word_of value_in wrapped binary_of
row_8 = refl

-- int f(int a) { return a; }
-- export void go() { foreach (i = 0 ... f(1)) ; }
abbrev tree_9 : ParsedSource
tree_9 =
    (function (at 1 5) (codes "f") (spec false false false false None (Some t.Int32)) (parameter (at 1 11) (codes "a") (spec false false false false None (Some t.Int32)) false ∷ [])
    (ParsedNext (ParsedReturn (at 1 16) (Some (ParsedName (at 1 23) (codes "a"))))
    ParsedLast) (at 1 26)) ∷
    (function (at 2 13) (codes "go") (spec true false false false None None) ([])
    (ParsedNext (ParsedForEach (at 2 20) false (dimension (at 2 29) (codes "i") (ParsedNumber (at 2 33) 0 false false) (ParsedCall (at 2 39) (codes "f") (ParsedValue (ParsedNumber (at 2 41) 1 false false) ParsedEnd)) ∷ []) ParsedEmpty)
    ParsedLast) (at 2 47)) ∷ []

row_9 : refusal_of tree_9 ≡ refused S12 2 39
unfolding value_of residue word_of value_in wrapped binary_of
row_9 = refl

-- int f(int a) { return a; }
-- export void go() { switch (f(1)) { } }
abbrev tree_10 : ParsedSource
tree_10 =
    (function (at 1 5) (codes "f") (spec false false false false None (Some t.Int32)) (parameter (at 1 11) (codes "a") (spec false false false false None (Some t.Int32)) false ∷ [])
    (ParsedNext (ParsedReturn (at 1 16) (Some (ParsedName (at 1 23) (codes "a"))))
    ParsedLast) (at 1 26)) ∷
    (function (at 2 13) (codes "go") (spec true false false false None None) ([])
    (ParsedNext (ParsedSwitch (at 2 20) (ParsedCall (at 2 28) (codes "f") (ParsedValue (ParsedNumber (at 2 30) 1 false false) ParsedEnd)) ParsedNoMore)
    ParsedLast) (at 2 38)) ∷ []

row_10 : refusal_of tree_10 ≡ refused S12 2 28
unfolding value_of residue word_of value_in wrapped binary_of
row_10 = refl

-- uniform int q[3];
-- export void go() { q[0] = packed_store_active(q, 1); }
abbrev tree_11 : ParsedSource
tree_11 =
    (file_variable (at 1 13) (codes "q") (spec false false false false (Some Uniform) (Some t.Int32)) (Array 3)) ∷
    (function (at 2 13) (codes "go") (spec true false false false None None) ([])
    (ParsedNext (ParsedAssign (at 2 20) (target (at 2 20) (codes "q") (Some (ParsedNumber (at 2 22) 0 false false))) (ParsedCall (at 2 27) (codes "packed_store_active") (ParsedValue (ParsedName (at 2 47) (codes "q")) (ParsedValue (ParsedNumber (at 2 50) 1 false false) ParsedEnd))))
    ParsedLast) (at 2 54)) ∷ []

row_11 : refusal_of tree_11 ≡ refused S12 2 27
unfolding value_of residue word_of value_in wrapped binary_of
row_11 = refl

-- uniform int q[3];
-- export void go() { uniform int n = packed_store_active(q, 1); n = (packed_store_active(&q[1], 2)); packed_store_active(q, 3); }
abbrev tree_12 : ParsedSource
tree_12 =
    (file_variable (at 1 13) (codes "q") (spec false false false false (Some Uniform) (Some t.Int32)) (Array 3)) ∷
    (function (at 2 13) (codes "go") (spec true false false false None None) ([])
    (ParsedNext (ParsedDeclare (at 2 20) (spec false false false false (Some Uniform) (Some t.Int32)) (at 2 32) (codes "n") (Some (ParsedCall (at 2 36) (codes "packed_store_active") (ParsedValue (ParsedName (at 2 56) (codes "q")) (ParsedValue (ParsedNumber (at 2 59) 1 false false) ParsedEnd)))))
    (ParsedNext (ParsedAssign (at 2 63) (target (at 2 63) (codes "n") None) (ParsedParen (at 2 67) (ParsedCall (at 2 68) (codes "packed_store_active") (ParsedPartFrom (at 2 89) (codes "q") (ParsedNumber (at 2 91) 1 false false) (ParsedValue (ParsedNumber (at 2 95) 2 false false) ParsedEnd)))))
    (ParsedNext (ParsedDoCall (at 2 100) (codes "packed_store_active") (ParsedValue (ParsedName (at 2 120) (codes "q")) (ParsedValue (ParsedNumber (at 2 123) 3 false false) ParsedEnd)))
    ParsedLast))) (at 2 127)) ∷ []

row_12 : refusal_of tree_12 ≡ accepted
unfolding value_of residue word_of value_in wrapped binary_of
row_12 = refl

-- uniform int q[3];
-- export void go() { int n = 1 + packed_store_active(q, 1); }
abbrev tree_13 : ParsedSource
tree_13 =
    (file_variable (at 1 13) (codes "q") (spec false false false false (Some Uniform) (Some t.Int32)) (Array 3)) ∷
    (function (at 2 13) (codes "go") (spec true false false false None None) ([])
    (ParsedNext (ParsedDeclare (at 2 20) (spec false false false false None (Some t.Int32)) (at 2 24) (codes "n") (Some (ParsedBinary (Op op.Add) (ParsedNumber (at 2 28) 1 false false) (ParsedCall (at 2 32) (codes "packed_store_active") (ParsedValue (ParsedName (at 2 52) (codes "q")) (ParsedValue (ParsedNumber (at 2 55) 1 false false) ParsedEnd))))))
    ParsedLast) (at 2 59)) ∷ []

row_13 : refusal_of tree_13 ≡ refused S12 2 32
unfolding value_of residue word_of value_in wrapped binary_of
row_13 = refl

-- export void go() { bool b = assert(true); }
abbrev tree_14 : ParsedSource
tree_14 =
    (function (at 1 13) (codes "go") (spec true false false false None None) ([])
    (ParsedNext (ParsedDeclare (at 1 20) (spec false false false false None (Some t.Bool)) (at 1 25) (codes "b") (Some (ParsedCall (at 1 29) (codes "assert") (ParsedValue (ParsedBool (at 1 36) true) ParsedEnd))))
    ParsedLast) (at 1 43)) ∷ []

row_14 : refusal_of tree_14 ≡ refused S12 1 29
unfolding value_of residue word_of value_in wrapped binary_of
row_14 = refl

-- export void go() { bool b; b = (assert(true)); }
abbrev tree_15 : ParsedSource
tree_15 =
    (function (at 1 13) (codes "go") (spec true false false false None None) ([])
    (ParsedNext (ParsedDeclare (at 1 20) (spec false false false false None (Some t.Bool)) (at 1 25) (codes "b") None)
    (ParsedNext (ParsedAssign (at 1 28) (target (at 1 28) (codes "b") None) (ParsedParen (at 1 32) (ParsedCall (at 1 33) (codes "assert") (ParsedValue (ParsedBool (at 1 40) true) ParsedEnd))))
    ParsedLast)) (at 1 48)) ∷ []

row_15 : refusal_of tree_15 ≡ refused S12 1 33
unfolding value_of residue word_of value_in wrapped binary_of
row_15 = refl

-- bool f() { return assert(true); }
abbrev tree_16 : ParsedSource
tree_16 =
    (function (at 1 6) (codes "f") (spec false false false false None (Some t.Bool)) ([])
    (ParsedNext (ParsedReturn (at 1 12) (Some (ParsedCall (at 1 19) (codes "assert") (ParsedValue (ParsedBool (at 1 26) true) ParsedEnd))))
    ParsedLast) (at 1 33)) ∷ []

row_16 : refusal_of tree_16 ≡ refused S12 1 19
unfolding value_of residue word_of value_in wrapped binary_of
row_16 = refl

-- export void go() { assert(true); }
abbrev tree_17 : ParsedSource
tree_17 =
    (function (at 1 13) (codes "go") (spec true false false false None None) ([])
    (ParsedNext (ParsedDoCall (at 1 20) (codes "assert") (ParsedValue (ParsedBool (at 1 27) true) ParsedEnd))
    ParsedLast) (at 1 34)) ∷ []

row_17 : refusal_of tree_17 ≡ accepted
unfolding value_of residue word_of value_in wrapped binary_of
row_17 = refl

-- export void go() { min(1, 2); }
abbrev tree_18 : ParsedSource
tree_18 =
    (function (at 1 13) (codes "go") (spec true false false false None None) ([])
    (ParsedNext (ParsedDoCall (at 1 20) (codes "min") (ParsedValue (ParsedNumber (at 1 24) 1 false false) (ParsedValue (ParsedNumber (at 1 27) 2 false false) ParsedEnd)))
    ParsedLast) (at 1 31)) ∷ []

row_18 : refusal_of tree_18 ≡ refused S12 1 20
unfolding value_of residue word_of value_in wrapped binary_of
row_18 = refl

-- export void go() { lanemask(); }
abbrev tree_19 : ParsedSource
tree_19 =
    (function (at 1 13) (codes "go") (spec true false false false None None) ([])
    (ParsedNext (ParsedDoCall (at 1 20) (codes "lanemask") ParsedEnd)
    ParsedLast) (at 1 32)) ∷ []

row_19 : refusal_of tree_19 ≡ refused S12 1 20
unfolding value_of residue word_of value_in wrapped binary_of
row_19 = refl

-- export void go() { int x = min(1, assert(true)); }
abbrev tree_20 : ParsedSource
tree_20 =
    (function (at 1 13) (codes "go") (spec true false false false None None) ([])
    (ParsedNext (ParsedDeclare (at 1 20) (spec false false false false None (Some t.Int32)) (at 1 24) (codes "x") (Some (ParsedCall (at 1 28) (codes "min") (ParsedValue (ParsedNumber (at 1 32) 1 false false) (ParsedValue (ParsedCall (at 1 35) (codes "assert") (ParsedValue (ParsedBool (at 1 42) true) ParsedEnd)) ParsedEnd)))))
    ParsedLast) (at 1 50)) ∷ []

row_20 : refusal_of tree_20 ≡ refused S12 1 35
unfolding value_of residue word_of value_in wrapped binary_of
row_20 = refl
