-- Rows of calls of user functions (S9, S10).
use Rattle.std.specs.Prelude.{◌≡◌, refl, true, false, [], ◌∷◌, Some, None, codes}
use Rattle.gang_types.specs.Values.{value_of, residue, word_of, value_in, wrapped, binary_of}
use Rattle.gang_types.specs.declared.types.Rate.TheVariants.{Uniform}
use Rattle.gang_types.specs.declared.types.IntType.TheVariants as t
use Rattle.gang_model.specs.declared.forms.GlobalForm.TheVariants.{Plain, Array}
use Rattle.gang_model.specs.Source.Parsed.{ParsedNumber, ParsedBool, ParsedName, ParsedCall, ParsedParen, ParsedEnd, ParsedValue, ParsedPart, ParsedPartFrom, ParsedDoCall, ParsedLast, ParsedNext, ParsedSource}
use Rattle.tests_transcripts.proofs.Forms.{at, spec, parameter, function, file_variable}
use Rattle.gang_model.specs.declared.refusals.RefusalNumber.TheVariants.{S9, S10}
use Rattle.gang_model.specs.Types.SourceRefusals.{refusal_of}
use Rattle.tests_refusals.proofs.Wanted.{refused, accepted}

-- void f(int a) { }
-- export void go() { f(); }
abbrev tree_0 : ParsedSource
tree_0 =
    (function (at 1 6) (codes "f") (spec false false false false None None) (parameter (at 1 12) (codes "a") (spec false false false false None (Some t.Int32)) false ∷ [])
    ParsedLast (at 1 17)) ∷
    (function (at 2 13) (codes "go") (spec true false false false None None) ([])
    (ParsedNext (ParsedDoCall (at 2 20) (codes "f") ParsedEnd)
    ParsedLast) (at 2 25)) ∷ []

row_0 : refusal_of tree_0 ≡ refused S9 2 20
unfolding value_of residue word_of value_in wrapped binary_of
row_0 = refl

-- void f(int a) { }
-- export void go() { f(1, 2); }
abbrev tree_1 : ParsedSource
tree_1 =
    (function (at 1 6) (codes "f") (spec false false false false None None) (parameter (at 1 12) (codes "a") (spec false false false false None (Some t.Int32)) false ∷ [])
    ParsedLast (at 1 17)) ∷
    (function (at 2 13) (codes "go") (spec true false false false None None) ([])
    (ParsedNext (ParsedDoCall (at 2 20) (codes "f") (ParsedValue (ParsedNumber (at 2 22) 1 false false) (ParsedValue (ParsedNumber (at 2 25) 2 false false) ParsedEnd)))
    ParsedLast) (at 2 29)) ∷ []

row_1 : refusal_of tree_1 ≡ refused S9 2 20
unfolding value_of residue word_of value_in wrapped binary_of
row_1 = refl

-- void f(int a) { }
-- void f(int8 a) { }
-- export void go() { f(1); }
-- (costs 2 and 5)
abbrev tree_2 : ParsedSource
tree_2 =
    (function (at 1 6) (codes "f") (spec false false false false None None) (parameter (at 1 12) (codes "a") (spec false false false false None (Some t.Int32)) false ∷ [])
    ParsedLast (at 1 17)) ∷
    (function (at 2 6) (codes "f") (spec false false false false None None) (parameter (at 2 13) (codes "a") (spec false false false false None (Some t.Int8)) false ∷ [])
    ParsedLast (at 2 18)) ∷
    (function (at 3 13) (codes "go") (spec true false false false None None) ([])
    (ParsedNext (ParsedDoCall (at 3 20) (codes "f") (ParsedValue (ParsedNumber (at 3 22) 1 false false) ParsedEnd))
    ParsedLast) (at 3 26)) ∷ []

row_2 : refusal_of tree_2 ≡ accepted
unfolding value_of residue word_of value_in wrapped binary_of
row_2 = refl

-- void f(int64 a) { }
-- void f(int8 a) { }
-- export void go() { f(1); }
-- (costs 4 and 5: widening is less than another conversion)
abbrev tree_3 : ParsedSource
tree_3 =
    (function (at 1 6) (codes "f") (spec false false false false None None) (parameter (at 1 14) (codes "a") (spec false false false false None (Some t.Int64)) false ∷ [])
    ParsedLast (at 1 19)) ∷
    (function (at 2 6) (codes "f") (spec false false false false None None) (parameter (at 2 13) (codes "a") (spec false false false false None (Some t.Int8)) false ∷ [])
    ParsedLast (at 2 18)) ∷
    (function (at 3 13) (codes "go") (spec true false false false None None) ([])
    (ParsedNext (ParsedDoCall (at 3 20) (codes "f") (ParsedValue (ParsedNumber (at 3 22) 1 false false) ParsedEnd))
    ParsedLast) (at 3 26)) ∷ []

row_3 : refusal_of tree_3 ≡ accepted
unfolding value_of residue word_of value_in wrapped binary_of
row_3 = refl

-- void f(uint a) { }
-- void f(uint64 a) { }
-- export void go() { f(1); }
-- (costs 5 and 5: widening keeps the sign)
abbrev tree_4 : ParsedSource
tree_4 =
    (function (at 1 6) (codes "f") (spec false false false false None None) (parameter (at 1 13) (codes "a") (spec false false false false None (Some t.Uint32)) false ∷ [])
    ParsedLast (at 1 18)) ∷
    (function (at 2 6) (codes "f") (spec false false false false None None) (parameter (at 2 15) (codes "a") (spec false false false false None (Some t.Uint64)) false ∷ [])
    ParsedLast (at 2 20)) ∷
    (function (at 3 13) (codes "go") (spec true false false false None None) ([])
    (ParsedNext (ParsedDoCall (at 3 20) (codes "f") (ParsedValue (ParsedNumber (at 3 22) 1 false false) ParsedEnd))
    ParsedLast) (at 3 26)) ∷ []

row_4 : refusal_of tree_4 ≡ refused S10 3 20
unfolding value_of residue word_of value_in wrapped binary_of
row_4 = refl

-- void f(int a) { }
-- void f(uniform int8 a) { }
-- export void go() { f(1); }
-- (costs 2 and 3)
abbrev tree_5 : ParsedSource
tree_5 =
    (function (at 1 6) (codes "f") (spec false false false false None None) (parameter (at 1 12) (codes "a") (spec false false false false None (Some t.Int32)) false ∷ [])
    ParsedLast (at 1 17)) ∷
    (function (at 2 6) (codes "f") (spec false false false false None None) (parameter (at 2 21) (codes "a") (spec false false false false (Some Uniform) (Some t.Int8)) false ∷ [])
    ParsedLast (at 2 26)) ∷
    (function (at 3 13) (codes "go") (spec true false false false None None) ([])
    (ParsedNext (ParsedDoCall (at 3 20) (codes "f") (ParsedValue (ParsedNumber (at 3 22) 1 false false) ParsedEnd))
    ParsedLast) (at 3 26)) ∷ []

row_5 : refusal_of tree_5 ≡ accepted
unfolding value_of residue word_of value_in wrapped binary_of
row_5 = refl

-- void f(int a) { }
-- void f(uniform int64 a) { }
-- export void go() { f(1); }
-- (costs 2 and 1)
abbrev tree_6 : ParsedSource
tree_6 =
    (function (at 1 6) (codes "f") (spec false false false false None None) (parameter (at 1 12) (codes "a") (spec false false false false None (Some t.Int32)) false ∷ [])
    ParsedLast (at 1 17)) ∷
    (function (at 2 6) (codes "f") (spec false false false false None None) (parameter (at 2 22) (codes "a") (spec false false false false (Some Uniform) (Some t.Int64)) false ∷ [])
    ParsedLast (at 2 27)) ∷
    (function (at 3 13) (codes "go") (spec true false false false None None) ([])
    (ParsedNext (ParsedDoCall (at 3 20) (codes "f") (ParsedValue (ParsedNumber (at 3 22) 1 false false) ParsedEnd))
    ParsedLast) (at 3 26)) ∷ []

row_6 : refusal_of tree_6 ≡ accepted
unfolding value_of residue word_of value_in wrapped binary_of
row_6 = refl

-- void f(int64 a) { }
-- void f(uniform uint8 a) { }
-- export void go() { f(1); }
-- (costs 4 and 3)
abbrev tree_7 : ParsedSource
tree_7 =
    (function (at 1 6) (codes "f") (spec false false false false None None) (parameter (at 1 14) (codes "a") (spec false false false false None (Some t.Int64)) false ∷ [])
    ParsedLast (at 1 19)) ∷
    (function (at 2 6) (codes "f") (spec false false false false None None) (parameter (at 2 22) (codes "a") (spec false false false false (Some Uniform) (Some t.Uint8)) false ∷ [])
    ParsedLast (at 2 27)) ∷
    (function (at 3 13) (codes "go") (spec true false false false None None) ([])
    (ParsedNext (ParsedDoCall (at 3 20) (codes "f") (ParsedValue (ParsedNumber (at 3 22) 1 false false) ParsedEnd))
    ParsedLast) (at 3 26)) ∷ []

row_7 : refusal_of tree_7 ≡ accepted
unfolding value_of residue word_of value_in wrapped binary_of
row_7 = refl

-- void f(int a) { }
-- void f(uint a) { }
-- export void go() { f(true); }
-- (costs 5 and 5: bool has no sign)
abbrev tree_8 : ParsedSource
tree_8 =
    (function (at 1 6) (codes "f") (spec false false false false None None) (parameter (at 1 12) (codes "a") (spec false false false false None (Some t.Int32)) false ∷ [])
    ParsedLast (at 1 17)) ∷
    (function (at 2 6) (codes "f") (spec false false false false None None) (parameter (at 2 13) (codes "a") (spec false false false false None (Some t.Uint32)) false ∷ [])
    ParsedLast (at 2 18)) ∷
    (function (at 3 13) (codes "go") (spec true false false false None None) ([])
    (ParsedNext (ParsedDoCall (at 3 20) (codes "f") (ParsedValue (ParsedBool (at 3 22) true) ParsedEnd))
    ParsedLast) (at 3 29)) ∷ []

row_8 : refusal_of tree_8 ≡ refused S10 3 20
unfolding value_of residue word_of value_in wrapped binary_of
row_8 = refl

-- void f(int a, int b) { }
-- void f(int64 a, int64 b) { }
-- export void go() { f(1, 1); }
abbrev tree_9 : ParsedSource
tree_9 =
    (function (at 1 6) (codes "f") (spec false false false false None None) (parameter (at 1 12) (codes "a") (spec false false false false None (Some t.Int32)) false ∷ parameter (at 1 19) (codes "b") (spec false false false false None (Some t.Int32)) false ∷ [])
    ParsedLast (at 1 24)) ∷
    (function (at 2 6) (codes "f") (spec false false false false None None) (parameter (at 2 14) (codes "a") (spec false false false false None (Some t.Int64)) false ∷ parameter (at 2 23) (codes "b") (spec false false false false None (Some t.Int64)) false ∷ [])
    ParsedLast (at 2 28)) ∷
    (function (at 3 13) (codes "go") (spec true false false false None None) ([])
    (ParsedNext (ParsedDoCall (at 3 20) (codes "f") (ParsedValue (ParsedNumber (at 3 22) 1 false false) (ParsedValue (ParsedNumber (at 3 25) 1 false false) ParsedEnd)))
    ParsedLast) (at 3 29)) ∷ []

row_9 : refusal_of tree_9 ≡ accepted
unfolding value_of residue word_of value_in wrapped binary_of
row_9 = refl

-- void f(int a, int64 b) { }
-- void f(int64 a, int b) { }
-- export void go() { f(1, 1); }
abbrev tree_10 : ParsedSource
tree_10 =
    (function (at 1 6) (codes "f") (spec false false false false None None) (parameter (at 1 12) (codes "a") (spec false false false false None (Some t.Int32)) false ∷ parameter (at 1 21) (codes "b") (spec false false false false None (Some t.Int64)) false ∷ [])
    ParsedLast (at 1 26)) ∷
    (function (at 2 6) (codes "f") (spec false false false false None None) (parameter (at 2 14) (codes "a") (spec false false false false None (Some t.Int64)) false ∷ parameter (at 2 21) (codes "b") (spec false false false false None (Some t.Int32)) false ∷ [])
    ParsedLast (at 2 26)) ∷
    (function (at 3 13) (codes "go") (spec true false false false None None) ([])
    (ParsedNext (ParsedDoCall (at 3 20) (codes "f") (ParsedValue (ParsedNumber (at 3 22) 1 false false) (ParsedValue (ParsedNumber (at 3 25) 1 false false) ParsedEnd)))
    ParsedLast) (at 3 29)) ∷ []

row_10 : refusal_of tree_10 ≡ refused S10 3 20
unfolding value_of residue word_of value_in wrapped binary_of
row_10 = refl

-- void f(uniform int a[]) { }
-- void f(uniform int8 a[]) { }
-- uniform int8 m[3];
-- export void go() { f(m); f((m)); f(&m[1]); }
abbrev tree_11 : ParsedSource
tree_11 =
    (function (at 1 6) (codes "f") (spec false false false false None None) (parameter (at 1 20) (codes "a") (spec false false false false (Some Uniform) (Some t.Int32)) true ∷ [])
    ParsedLast (at 1 27)) ∷
    (function (at 2 6) (codes "f") (spec false false false false None None) (parameter (at 2 21) (codes "a") (spec false false false false (Some Uniform) (Some t.Int8)) true ∷ [])
    ParsedLast (at 2 28)) ∷
    (file_variable (at 3 14) (codes "m") (spec false false false false (Some Uniform) (Some t.Int8)) (Array 3)) ∷
    (function (at 4 13) (codes "go") (spec true false false false None None) ([])
    (ParsedNext (ParsedDoCall (at 4 20) (codes "f") (ParsedValue (ParsedName (at 4 22) (codes "m")) ParsedEnd))
    (ParsedNext (ParsedDoCall (at 4 26) (codes "f") (ParsedValue (ParsedParen (at 4 28) (ParsedName (at 4 29) (codes "m"))) ParsedEnd))
    (ParsedNext (ParsedDoCall (at 4 34) (codes "f") (ParsedPartFrom (at 4 37) (codes "m") (ParsedNumber (at 4 39) 1 false false) ParsedEnd))
    ParsedLast))) (at 4 44)) ∷ []

row_11 : refusal_of tree_11 ≡ accepted
unfolding value_of residue word_of value_in wrapped binary_of
row_11 = refl

-- void f(uniform int a[]) { }
-- uniform int8 m[3];
-- export void go() { f(m); }
-- (the same element type)
abbrev tree_12 : ParsedSource
tree_12 =
    (function (at 1 6) (codes "f") (spec false false false false None None) (parameter (at 1 20) (codes "a") (spec false false false false (Some Uniform) (Some t.Int32)) true ∷ [])
    ParsedLast (at 1 27)) ∷
    (file_variable (at 2 14) (codes "m") (spec false false false false (Some Uniform) (Some t.Int8)) (Array 3)) ∷
    (function (at 3 13) (codes "go") (spec true false false false None None) ([])
    (ParsedNext (ParsedDoCall (at 3 20) (codes "f") (ParsedValue (ParsedName (at 3 22) (codes "m")) ParsedEnd))
    ParsedLast) (at 3 26)) ∷ []

row_12 : refusal_of tree_12 ≡ refused S9 3 20
unfolding value_of residue word_of value_in wrapped binary_of
row_12 = refl

-- void f(uniform int a[]) { }
-- const uniform int m[3];
-- export void go() { f(m); }
-- (a constant array goes only to a constant parameter)
abbrev tree_13 : ParsedSource
tree_13 =
    (function (at 1 6) (codes "f") (spec false false false false None None) (parameter (at 1 20) (codes "a") (spec false false false false (Some Uniform) (Some t.Int32)) true ∷ [])
    ParsedLast (at 1 27)) ∷
    (file_variable (at 2 19) (codes "m") (spec false false false true (Some Uniform) (Some t.Int32)) (Array 3)) ∷
    (function (at 3 13) (codes "go") (spec true false false false None None) ([])
    (ParsedNext (ParsedDoCall (at 3 20) (codes "f") (ParsedValue (ParsedName (at 3 22) (codes "m")) ParsedEnd))
    ParsedLast) (at 3 26)) ∷ []

row_13 : refusal_of tree_13 ≡ refused S9 3 20
unfolding value_of residue word_of value_in wrapped binary_of
row_13 = refl

-- void f(const uniform int a[]) { }
-- const uniform int m[3];
-- export void go() { f(m); }
abbrev tree_14 : ParsedSource
tree_14 =
    (function (at 1 6) (codes "f") (spec false false false false None None) (parameter (at 1 26) (codes "a") (spec false false false true (Some Uniform) (Some t.Int32)) true ∷ [])
    ParsedLast (at 1 33)) ∷
    (file_variable (at 2 19) (codes "m") (spec false false false true (Some Uniform) (Some t.Int32)) (Array 3)) ∷
    (function (at 3 13) (codes "go") (spec true false false false None None) ([])
    (ParsedNext (ParsedDoCall (at 3 20) (codes "f") (ParsedValue (ParsedName (at 3 22) (codes "m")) ParsedEnd))
    ParsedLast) (at 3 26)) ∷ []

row_14 : refusal_of tree_14 ≡ accepted
unfolding value_of residue word_of value_in wrapped binary_of
row_14 = refl

-- void f(const uniform int a[]) { }
-- uniform int m[3];
-- export void go() { f(m); }
abbrev tree_15 : ParsedSource
tree_15 =
    (function (at 1 6) (codes "f") (spec false false false false None None) (parameter (at 1 26) (codes "a") (spec false false false true (Some Uniform) (Some t.Int32)) true ∷ [])
    ParsedLast (at 1 33)) ∷
    (file_variable (at 2 13) (codes "m") (spec false false false false (Some Uniform) (Some t.Int32)) (Array 3)) ∷
    (function (at 3 13) (codes "go") (spec true false false false None None) ([])
    (ParsedNext (ParsedDoCall (at 3 20) (codes "f") (ParsedValue (ParsedName (at 3 22) (codes "m")) ParsedEnd))
    ParsedLast) (at 3 26)) ∷ []

row_15 : refusal_of tree_15 ≡ accepted
unfolding value_of residue word_of value_in wrapped binary_of
row_15 = refl

-- void f(uniform int a[]) { }
-- export void go() { f(1); }
abbrev tree_16 : ParsedSource
tree_16 =
    (function (at 1 6) (codes "f") (spec false false false false None None) (parameter (at 1 20) (codes "a") (spec false false false false (Some Uniform) (Some t.Int32)) true ∷ [])
    ParsedLast (at 1 27)) ∷
    (function (at 2 13) (codes "go") (spec true false false false None None) ([])
    (ParsedNext (ParsedDoCall (at 2 20) (codes "f") (ParsedValue (ParsedNumber (at 2 22) 1 false false) ParsedEnd))
    ParsedLast) (at 2 26)) ∷ []

row_16 : refusal_of tree_16 ≡ refused S9 2 20
unfolding value_of residue word_of value_in wrapped binary_of
row_16 = refl

-- void f(uniform int a) { }
-- uniform int m[3];
-- export void go() { f(m); }
-- (an array where a scalar is asked is no S8)
abbrev tree_17 : ParsedSource
tree_17 =
    (function (at 1 6) (codes "f") (spec false false false false None None) (parameter (at 1 20) (codes "a") (spec false false false false (Some Uniform) (Some t.Int32)) false ∷ [])
    ParsedLast (at 1 25)) ∷
    (file_variable (at 2 13) (codes "m") (spec false false false false (Some Uniform) (Some t.Int32)) (Array 3)) ∷
    (function (at 3 13) (codes "go") (spec true false false false None None) ([])
    (ParsedNext (ParsedDoCall (at 3 20) (codes "f") (ParsedValue (ParsedName (at 3 22) (codes "m")) ParsedEnd))
    ParsedLast) (at 3 26)) ∷ []

row_17 : refusal_of tree_17 ≡ refused S9 3 20
unfolding value_of residue word_of value_in wrapped binary_of
row_17 = refl

-- void f(uniform int a[]) { }
-- uniform int m[3];
-- export void go() { f(&m); }
abbrev tree_18 : ParsedSource
tree_18 =
    (function (at 1 6) (codes "f") (spec false false false false None None) (parameter (at 1 20) (codes "a") (spec false false false false (Some Uniform) (Some t.Int32)) true ∷ [])
    ParsedLast (at 1 27)) ∷
    (file_variable (at 2 13) (codes "m") (spec false false false false (Some Uniform) (Some t.Int32)) (Array 3)) ∷
    (function (at 3 13) (codes "go") (spec true false false false None None) ([])
    (ParsedNext (ParsedDoCall (at 3 20) (codes "f") (ParsedPart (at 3 23) (codes "m") ParsedEnd))
    ParsedLast) (at 3 27)) ∷ []

row_18 : refusal_of tree_18 ≡ refused S9 3 20
unfolding value_of residue word_of value_in wrapped binary_of
row_18 = refl

-- void f(int a) { }
-- int x;
-- export void go() { f(&x); }
abbrev tree_19 : ParsedSource
tree_19 =
    (function (at 1 6) (codes "f") (spec false false false false None None) (parameter (at 1 12) (codes "a") (spec false false false false None (Some t.Int32)) false ∷ [])
    ParsedLast (at 1 17)) ∷
    (file_variable (at 2 5) (codes "x") (spec false false false false None (Some t.Int32)) Plain) ∷
    (function (at 3 13) (codes "go") (spec true false false false None None) ([])
    (ParsedNext (ParsedDoCall (at 3 20) (codes "f") (ParsedPart (at 3 23) (codes "x") ParsedEnd))
    ParsedLast) (at 3 27)) ∷ []

row_19 : refusal_of tree_19 ≡ refused S9 3 20
unfolding value_of residue word_of value_in wrapped binary_of
row_19 = refl

-- void f(int a) { }
-- export void go() { f(&programIndex); }
abbrev tree_20 : ParsedSource
tree_20 =
    (function (at 1 6) (codes "f") (spec false false false false None None) (parameter (at 1 12) (codes "a") (spec false false false false None (Some t.Int32)) false ∷ [])
    ParsedLast (at 1 17)) ∷
    (function (at 2 13) (codes "go") (spec true false false false None None) ([])
    (ParsedNext (ParsedDoCall (at 2 20) (codes "f") (ParsedPart (at 2 23) (codes "programIndex") ParsedEnd))
    ParsedLast) (at 2 38)) ∷ []

row_20 : refusal_of tree_20 ≡ refused S9 2 20
unfolding value_of residue word_of value_in wrapped binary_of
row_20 = refl

-- void f(int a) { }
-- void f(int a, int b) { }
-- export void go() { f(1); f(1, 2); }
abbrev tree_21 : ParsedSource
tree_21 =
    (function (at 1 6) (codes "f") (spec false false false false None None) (parameter (at 1 12) (codes "a") (spec false false false false None (Some t.Int32)) false ∷ [])
    ParsedLast (at 1 17)) ∷
    (function (at 2 6) (codes "f") (spec false false false false None None) (parameter (at 2 12) (codes "a") (spec false false false false None (Some t.Int32)) false ∷ parameter (at 2 19) (codes "b") (spec false false false false None (Some t.Int32)) false ∷ [])
    ParsedLast (at 2 24)) ∷
    (function (at 3 13) (codes "go") (spec true false false false None None) ([])
    (ParsedNext (ParsedDoCall (at 3 20) (codes "f") (ParsedValue (ParsedNumber (at 3 22) 1 false false) ParsedEnd))
    (ParsedNext (ParsedDoCall (at 3 26) (codes "f") (ParsedValue (ParsedNumber (at 3 28) 1 false false) (ParsedValue (ParsedNumber (at 3 31) 2 false false) ParsedEnd)))
    ParsedLast)) (at 3 35)) ∷ []

row_21 : refusal_of tree_21 ≡ accepted
unfolding value_of residue word_of value_in wrapped binary_of
row_21 = refl

-- void f(int a) { }
-- export void go() { f(abs()); }
-- (not at f)
abbrev tree_22 : ParsedSource
tree_22 =
    (function (at 1 6) (codes "f") (spec false false false false None None) (parameter (at 1 12) (codes "a") (spec false false false false None (Some t.Int32)) false ∷ [])
    ParsedLast (at 1 17)) ∷
    (function (at 2 13) (codes "go") (spec true false false false None None) ([])
    (ParsedNext (ParsedDoCall (at 2 20) (codes "f") (ParsedValue (ParsedCall (at 2 22) (codes "abs") ParsedEnd) ParsedEnd))
    ParsedLast) (at 2 30)) ∷ []

row_22 : refusal_of tree_22 ≡ refused S9 2 22
unfolding value_of residue word_of value_in wrapped binary_of
row_22 = refl
