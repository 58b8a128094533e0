-- Refusals of rates, types and overloads, each at its place. Refuses the overload with the least sum, whatever its single costs.
use Rattle.std.specs.Prelude.{◌≡◌, refl, true, false, [], ◌∷◌, Some, None, codes}
use Rattle.std.specs.Fmt.{digits}
use Rattle.gang_types.specs.Values.{value_of, residue, word_of, value_in, wrapped, binary_of}
use Rattle.gang_types.specs.declared.types.Rate.TheVariants.{Uniform}
use Rattle.gang_types.specs.declared.types.IntType.TheVariants as t
use Rattle.gang_types.specs.declared.operators.BinaryOp.TheVariants as op
use Rattle.gang_model.specs.declared.forms.Infix.TheVariants.{Op}
use Rattle.gang_model.specs.declared.forms.GlobalForm.TheVariants.{Array}
use Rattle.gang_model.specs.Source.Parsed.{ParsedNumber, ParsedBool, ParsedName, ParsedCall, ParsedParen, ParsedBinary, ParsedEnd, ParsedValue, ParsedPartFrom, ParsedEmpty, ParsedDeclare, ParsedAssign, ParsedDoCall, ParsedSwitch, ParsedLast, ParsedNext, ParsedNoMore, ParsedSegment, ParsedSource}
use Rattle.tests_transcripts.proofs.Forms.{at, spec, target, label, parameter, function, file_variable, options, run}

-- export void go() { uniform int u = programIndex; }
abbrev pub source_1 : ParsedSource
source_1 =
    (function (at 1 13) (codes "go") (spec true false false false None None) ([])
    (ParsedNext (ParsedDeclare (at 1 20) (spec false false false false (Some Uniform) (Some t.Int32)) (at 1 32) (codes "u") (Some (ParsedName (at 1 36) (codes "programIndex"))))
    ParsedLast) (at 1 50)) ∷ []

row_1 : run source_1 (codes "") (options 4 64 1000000)
    (codes "")
    ≡ codes "1:36: S7 Rate\n"
unfolding digits value_of residue word_of value_in wrapped binary_of
row_1 = refl

-- export void go() { uniform int u = (programIndex); }
abbrev pub source_2 : ParsedSource
source_2 =
    (function (at 1 13) (codes "go") (spec true false false false None None) ([])
    (ParsedNext (ParsedDeclare (at 1 20) (spec false false false false (Some Uniform) (Some t.Int32)) (at 1 32) (codes "u") (Some (ParsedParen (at 1 36) (ParsedName (at 1 37) (codes "programIndex")))))
    ParsedLast) (at 1 52)) ∷ []

row_2 : run source_2 (codes "") (options 4 64 1000000)
    (codes "")
    ≡ codes "1:36: S7 Rate\n"
unfolding digits value_of residue word_of value_in wrapped binary_of
row_2 = refl

-- export void go() { int x = broadcast(1, programIndex); }
abbrev pub source_3 : ParsedSource
source_3 =
    (function (at 1 13) (codes "go") (spec true false false false None None) ([])
    (ParsedNext (ParsedDeclare (at 1 20) (spec false false false false None (Some t.Int32)) (at 1 24) (codes "x") (Some (ParsedCall (at 1 28) (codes "broadcast") (ParsedValue (ParsedNumber (at 1 38) 1 false false) (ParsedValue (ParsedName (at 1 41) (codes "programIndex")) ParsedEnd)))))
    ParsedLast) (at 1 56)) ∷ []

row_3 : run source_3 (codes "") (options 4 64 1000000)
    (codes "")
    ≡ codes "1:41: S7 Rate\n"
unfolding digits value_of residue word_of value_in wrapped binary_of
row_3 = refl

-- int a[3];
-- export void go() { }
abbrev pub source_4 : ParsedSource
source_4 =
    (file_variable (at 1 5) (codes "a") (spec false false false false None (Some t.Int32)) (Array 3)) ∷
    (function (at 2 13) (codes "go") (spec true false false false None None) ([])
    ParsedLast (at 2 20)) ∷ []

row_4 : run source_4 (codes "") (options 4 64 1000000)
    (codes "")
    ≡ codes "1:5: S7 Rate\n"
unfolding digits value_of residue word_of value_in wrapped binary_of
row_4 = refl

-- export void go(int n) { }
abbrev pub source_5 : ParsedSource
source_5 =
    (function (at 1 13) (codes "go") (spec true false false false None None) (parameter (at 1 20) (codes "n") (spec false false false false None (Some t.Int32)) false ∷ [])
    ParsedLast (at 1 25)) ∷ []

row_5 : run source_5 (codes "") (options 4 64 1000000)
    (codes "")
    ≡ codes "1:20: S7 Rate\n"
unfolding digits value_of residue word_of value_in wrapped binary_of
row_5 = refl

-- export int go() { }
abbrev pub source_6 : ParsedSource
source_6 =
    (function (at 1 12) (codes "go") (spec true false false false None (Some t.Int32)) ([])
    ParsedLast (at 1 19)) ∷ []

row_6 : run source_6 (codes "") (options 4 64 1000000)
    (codes "")
    ≡ codes "1:12: S7 Rate\n"
unfolding digits value_of residue word_of value_in wrapped binary_of
row_6 = refl

-- export void go() { const int x = 1; x = 2; }
abbrev pub source_7 : ParsedSource
source_7 =
    (function (at 1 13) (codes "go") (spec true false false false None None) ([])
    (ParsedNext (ParsedDeclare (at 1 20) (spec false false false true None (Some t.Int32)) (at 1 30) (codes "x") (Some (ParsedNumber (at 1 34) 1 false false)))
    (ParsedNext (ParsedAssign (at 1 37) (target (at 1 37) (codes "x") None) (ParsedNumber (at 1 41) 2 false false))
    ParsedLast)) (at 1 44)) ∷ []

row_7 : run source_7 (codes "") (options 4 64 1000000)
    (codes "")
    ≡ codes "1:37: S8 Type\n"
unfolding digits value_of residue word_of value_in wrapped binary_of
row_7 = refl

-- export void go() { int8 v = 1; switch (v) { case 300: ; } }
abbrev pub source_8 : ParsedSource
source_8 =
    (function (at 1 13) (codes "go") (spec true false false false None None) ([])
    (ParsedNext (ParsedDeclare (at 1 20) (spec false false false false None (Some t.Int8)) (at 1 25) (codes "v") (Some (ParsedNumber (at 1 29) 1 false false)))
    (ParsedNext (ParsedSwitch (at 1 32) (ParsedName (at 1 40) (codes "v")) (ParsedSegment (at 1 45) (Some (label false 300)) (ParsedNext ParsedEmpty ParsedLast) ParsedNoMore))
    ParsedLast)) (at 1 59)) ∷ []

row_8 : run source_8 (codes "") (options 4 64 1000000)
    (codes "")
    ≡ codes "1:45: S8 Type\n"
unfolding digits value_of residue word_of value_in wrapped binary_of
row_8 = refl

-- uniform int a[2];
-- void f(uniform int b[]) { }
-- export void go() { f(&a[true]); }
abbrev pub source_9 : ParsedSource
source_9 =
    (file_variable (at 1 13) (codes "a") (spec false false false false (Some Uniform) (Some t.Int32)) (Array 2)) ∷
    (function (at 2 6) (codes "f") (spec false false false false None None) (parameter (at 2 20) (codes "b") (spec false false false false (Some Uniform) (Some t.Int32)) true ∷ [])
    ParsedLast (at 2 27)) ∷
    (function (at 3 13) (codes "go") (spec true false false false None None) ([])
    (ParsedNext (ParsedDoCall (at 3 20) (codes "f") (ParsedPartFrom (at 3 23) (codes "a") (ParsedBool (at 3 25) true) ParsedEnd))
    ParsedLast) (at 3 33)) ∷ []

row_9 : run source_9 (codes "") (options 4 64 1000000)
    (codes "")
    ≡ codes "3:25: S8 Type\n"
unfolding digits value_of residue word_of value_in wrapped binary_of
row_9 = refl

-- uniform int a[2];
-- void f(uniform int b[]) { }
-- export void go() { f(&a[programIndex > 1]); }
abbrev pub source_10 : ParsedSource
source_10 =
    (file_variable (at 1 13) (codes "a") (spec false false false false (Some Uniform) (Some t.Int32)) (Array 2)) ∷
    (function (at 2 6) (codes "f") (spec false false false false None None) (parameter (at 2 20) (codes "b") (spec false false false false (Some Uniform) (Some t.Int32)) true ∷ [])
    ParsedLast (at 2 27)) ∷
    (function (at 3 13) (codes "go") (spec true false false false None None) ([])
    (ParsedNext (ParsedDoCall (at 3 20) (codes "f") (ParsedPartFrom (at 3 23) (codes "a") (ParsedBinary (Op op.Greater) (ParsedName (at 3 25) (codes "programIndex")) (ParsedNumber (at 3 40) 1 false false)) ParsedEnd))
    ParsedLast) (at 3 45)) ∷ []

row_10 : run source_10 (codes "") (options 4 64 1000000)
    (codes "")
    ≡ codes "3:25: S7 Rate\n"
unfolding digits value_of residue word_of value_in wrapped binary_of
row_10 = refl

-- export void go() { int x = min(1); }
abbrev pub source_11 : ParsedSource
source_11 =
    (function (at 1 13) (codes "go") (spec true false false false None None) ([])
    (ParsedNext (ParsedDeclare (at 1 20) (spec false false false false None (Some t.Int32)) (at 1 24) (codes "x") (Some (ParsedCall (at 1 28) (codes "min") (ParsedValue (ParsedNumber (at 1 32) 1 false false) ParsedEnd))))
    ParsedLast) (at 1 36)) ∷ []

row_11 : run source_11 (codes "") (options 4 64 1000000)
    (codes "")
    ≡ codes "1:28: S9 NoOverload\n"
unfolding digits value_of residue word_of value_in wrapped binary_of
row_11 = refl

-- void f(int8 a, int16 b) { }
-- void f(int16 a, int8 b) { }
-- export void go() { f(1, 1); }
abbrev pub source_12 : ParsedSource
source_12 =
    (function (at 1 6) (codes "f") (spec false false false false None None) (parameter (at 1 13) (codes "a") (spec false false false false None (Some t.Int8)) false ∷ parameter (at 1 22) (codes "b") (spec false false false false None (Some t.Int16)) false ∷ [])
    ParsedLast (at 1 27)) ∷
    (function (at 2 6) (codes "f") (spec false false false false None None) (parameter (at 2 14) (codes "a") (spec false false false false None (Some t.Int16)) false ∷ parameter (at 2 22) (codes "b") (spec false false false false None (Some t.Int8)) false ∷ [])
    ParsedLast (at 2 27)) ∷
    (function (at 3 13) (codes "go") (spec true false false false None None) ([])
    (ParsedNext (ParsedDoCall (at 3 20) (codes "f") (ParsedValue (ParsedNumber (at 3 22) 1 false false) (ParsedValue (ParsedNumber (at 3 25) 1 false false) ParsedEnd)))
    ParsedLast) (at 3 29)) ∷ []

row_12 : run source_12 (codes "") (options 4 64 1000000)
    (codes "")
    ≡ codes "3:20: S10 Ambiguous\n"
unfolding digits value_of residue word_of value_in wrapped binary_of
row_12 = refl

-- void f(int64 a, int8 b) { }
-- void f(int8 a, int b) { }
-- export void go() { f(1, 1); }
abbrev pub source_13 : ParsedSource
source_13 =
    (function (at 1 6) (codes "f") (spec false false false false None None) (parameter (at 1 14) (codes "a") (spec false false false false None (Some t.Int64)) false ∷ parameter (at 1 22) (codes "b") (spec false false false false None (Some t.Int8)) false ∷ [])
    ParsedLast (at 1 27)) ∷
    (function (at 2 6) (codes "f") (spec false false false false None None) (parameter (at 2 13) (codes "a") (spec false false false false None (Some t.Int8)) false ∷ parameter (at 2 20) (codes "b") (spec false false false false None (Some t.Int32)) false ∷ [])
    ParsedLast (at 2 25)) ∷
    (function (at 3 13) (codes "go") (spec true false false false None None) ([])
    (ParsedNext (ParsedDoCall (at 3 20) (codes "f") (ParsedValue (ParsedNumber (at 3 22) 1 false false) (ParsedValue (ParsedNumber (at 3 25) 1 false false) ParsedEnd)))
    ParsedLast) (at 3 29)) ∷ []

row_13 : run source_13 (codes "") (options 4 64 1000000)
    (codes "")
    ≡ codes "3:20: S10 Ambiguous\n"
unfolding digits value_of residue word_of value_in wrapped binary_of
row_13 = refl
