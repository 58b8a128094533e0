-- Refusals of names and of control, each at its place.
use Rattle.std.specs.Prelude.{◌≡◌, refl, true, false, [], ◌∷◌, Some, None, codes}
use Rattle.std.specs.Fmt.{digits}
use Rattle.gang_types.specs.Values.{value_of, residue, word_of, value_in, wrapped, binary_of}
use Rattle.gang_types.specs.declared.types.Rate.TheVariants.{Uniform}
use Rattle.gang_types.specs.declared.types.IntType.TheVariants as t
use Rattle.gang_types.specs.declared.operators.BinaryOp.TheVariants as op
use Rattle.gang_model.specs.declared.forms.Infix.TheVariants.{Op}
use Rattle.gang_model.specs.declared.forms.GlobalForm.TheVariants.{Plain, Array}
use Rattle.gang_model.specs.Source.Parsed.{ParsedNumber, ParsedName, ParsedIndex, ParsedCall, ParsedBinary, ParsedEnd, ParsedValue, ParsedEmpty, ParsedDeclare, ParsedAssign, ParsedBreak, ParsedContinue, ParsedReturn, ParsedFor, ParsedSwitch, ParsedForEach, ParsedForEachActive, ParsedForEachUnique, ParsedLast, ParsedNext, ParsedNoMore, ParsedSegment, ParsedSource}
use Rattle.tests_transcripts.proofs.Forms.{at, spec, target, dimension, label, function, file_variable, options, run}

-- export void go() { x = 1; }
abbrev pub source_1 : ParsedSource
source_1 =
    (function (at 1 13) (codes "go") (spec true false false false None None) ([])
    (ParsedNext (ParsedAssign (at 1 20) (target (at 1 20) (codes "x") None) (ParsedNumber (at 1 24) 1 false false))
    ParsedLast) (at 1 27)) ∷ []

row_1 : run source_1 (codes "") (options 4 64 1000000)
    (codes "")
    ≡ codes "1:20: S5 UnknownName\n"
unfolding digits value_of residue word_of value_in wrapped binary_of
row_1 = refl

-- export void go() { int x = 1 + q(y); }
abbrev pub source_2 : ParsedSource
source_2 =
    (function (at 1 13) (codes "go") (spec true false false false None None) ([])
    (ParsedNext (ParsedDeclare (at 1 20) (spec false false false false None (Some t.Int32)) (at 1 24) (codes "x") (Some (ParsedBinary (Op op.Add) (ParsedNumber (at 1 28) 1 false false) (ParsedCall (at 1 32) (codes "q") (ParsedValue (ParsedName (at 1 34) (codes "y")) ParsedEnd)))))
    ParsedLast) (at 1 38)) ∷ []

row_2 : run source_2 (codes "") (options 4 64 1000000)
    (codes "")
    ≡ codes "1:34: S5 UnknownName\n"
unfolding digits value_of residue word_of value_in wrapped binary_of
row_2 = refl

-- export void go() { int x = q[r]; }
abbrev pub source_3 : ParsedSource
source_3 =
    (function (at 1 13) (codes "go") (spec true false false false None None) ([])
    (ParsedNext (ParsedDeclare (at 1 20) (spec false false false false None (Some t.Int32)) (at 1 24) (codes "x") (Some (ParsedIndex (at 1 28) (codes "q") (ParsedName (at 1 30) (codes "r")))))
    ParsedLast) (at 1 34)) ∷ []

row_3 : run source_3 (codes "") (options 4 64 1000000)
    (codes "")
    ≡ codes "1:30: S5 UnknownName\n"
unfolding digits value_of residue word_of value_in wrapped binary_of
row_3 = refl

-- export void go() { int x; int x; }
abbrev pub source_4 : ParsedSource
source_4 =
    (function (at 1 13) (codes "go") (spec true false false false None None) ([])
    (ParsedNext (ParsedDeclare (at 1 20) (spec false false false false None (Some t.Int32)) (at 1 24) (codes "x") None)
    (ParsedNext (ParsedDeclare (at 1 27) (spec false false false false None (Some t.Int32)) (at 1 31) (codes "x") None)
    ParsedLast)) (at 1 34)) ∷ []

row_4 : run source_4 (codes "") (options 4 64 1000000)
    (codes "")
    ≡ codes "1:31: S6 Duplicate\n"
unfolding digits value_of residue word_of value_in wrapped binary_of
row_4 = refl

-- int a;
-- uniform int a[2];
-- export void go() { }
abbrev pub source_5 : ParsedSource
source_5 =
    (file_variable (at 1 5) (codes "a") (spec false false false false None (Some t.Int32)) Plain) ∷
    (file_variable (at 2 13) (codes "a") (spec false false false false (Some Uniform) (Some t.Int32)) (Array 2)) ∷
    (function (at 3 13) (codes "go") (spec true false false false None None) ([])
    ParsedLast (at 3 20)) ∷ []

row_5 : run source_5 (codes "") (options 4 64 1000000)
    (codes "")
    ≡ codes "2:13: S6 Duplicate\n"
unfolding digits value_of residue word_of value_in wrapped binary_of
row_5 = refl

-- void f() { }
-- void f() { }
-- export void go() { }
abbrev pub source_6 : ParsedSource
source_6 =
    (function (at 1 6) (codes "f") (spec false false false false None None) ([])
    ParsedLast (at 1 12)) ∷
    (function (at 2 6) (codes "f") (spec false false false false None None) ([])
    ParsedLast (at 2 12)) ∷
    (function (at 3 13) (codes "go") (spec true false false false None None) ([])
    ParsedLast (at 3 20)) ∷ []

row_6 : run source_6 (codes "") (options 4 64 1000000)
    (codes "")
    ≡ codes "2:6: S6 Duplicate\n"
unfolding digits value_of residue word_of value_in wrapped binary_of
row_6 = refl

-- export void go() { foreach_active (programCount) ; }
abbrev pub source_7 : ParsedSource
source_7 =
    (function (at 1 13) (codes "go") (spec true false false false None None) ([])
    (ParsedNext (ParsedForEachActive (at 1 20) (at 1 36) (codes "programCount") ParsedEmpty)
    ParsedLast) (at 1 52)) ∷ []

row_7 : run source_7 (codes "") (options 4 64 1000000)
    (codes "")
    ≡ codes "1:36: S6 Duplicate\n"
unfolding digits value_of residue word_of value_in wrapped binary_of
row_7 = refl

-- export void go() { foreach_unique (programIndex in 2) ; }
abbrev pub source_8 : ParsedSource
source_8 =
    (function (at 1 13) (codes "go") (spec true false false false None None) ([])
    (ParsedNext (ParsedForEachUnique (at 1 20) (at 1 36) (codes "programIndex") (ParsedNumber (at 1 52) 2 false false) ParsedEmpty)
    ParsedLast) (at 1 57)) ∷ []

row_8 : run source_8 (codes "") (options 4 64 1000000)
    (codes "")
    ≡ codes "1:36: S6 Duplicate\n"
unfolding digits value_of residue word_of value_in wrapped binary_of
row_8 = refl

-- export void go() { switch (1) { case 1: case 1: ; } }
abbrev pub source_9 : ParsedSource
source_9 =
    (function (at 1 13) (codes "go") (spec true false false false None None) ([])
    (ParsedNext (ParsedSwitch (at 1 20) (ParsedNumber (at 1 28) 1 false false) (ParsedSegment (at 1 33) (Some (label false 1)) ParsedLast (ParsedSegment (at 1 41) (Some (label false 1)) (ParsedNext ParsedEmpty ParsedLast) ParsedNoMore)))
    ParsedLast) (at 1 53)) ∷ []

row_9 : run source_9 (codes "") (options 4 64 1000000)
    (codes "")
    ≡ codes "1:41: S6 Duplicate\n"
unfolding digits value_of residue word_of value_in wrapped binary_of
row_9 = refl

-- export void go() { foreach (i = 0 ... 4) return; }
abbrev pub source_10 : ParsedSource
source_10 =
    (function (at 1 13) (codes "go") (spec true false false false None None) ([])
    (ParsedNext (ParsedForEach (at 1 20) false (dimension (at 1 29) (codes "i") (ParsedNumber (at 1 33) 0 false false) (ParsedNumber (at 1 39) 4 false false) ∷ []) (ParsedReturn (at 1 42) None))
    ParsedLast) (at 1 50)) ∷ []

row_10 : run source_10 (codes "") (options 4 64 1000000)
    (codes "")
    ≡ codes "1:42: S11 BadControl\n"
unfolding digits value_of residue word_of value_in wrapped binary_of
row_10 = refl

-- export void go() { foreach (i = 0 ... 4) foreach_active (j) foreach (k = 0 ... 4) ; }
abbrev pub source_11 : ParsedSource
source_11 =
    (function (at 1 13) (codes "go") (spec true false false false None None) ([])
    (ParsedNext (ParsedForEach (at 1 20) false (dimension (at 1 29) (codes "i") (ParsedNumber (at 1 33) 0 false false) (ParsedNumber (at 1 39) 4 false false) ∷ []) (ParsedForEachActive (at 1 42) (at 1 58) (codes "j") (ParsedForEach (at 1 61) false (dimension (at 1 70) (codes "k") (ParsedNumber (at 1 74) 0 false false) (ParsedNumber (at 1 80) 4 false false) ∷ []) ParsedEmpty)))
    ParsedLast) (at 1 85)) ∷ []

row_11 : run source_11 (codes "") (options 4 64 1000000)
    (codes "")
    ≡ codes "1:61: S11 BadControl\n"
unfolding digits value_of residue word_of value_in wrapped binary_of
row_11 = refl

-- export void go() { break; }
abbrev pub source_12 : ParsedSource
source_12 =
    (function (at 1 13) (codes "go") (spec true false false false None None) ([])
    (ParsedNext (ParsedBreak (at 1 20))
    ParsedLast) (at 1 27)) ∷ []

row_12 : run source_12 (codes "") (options 4 64 1000000)
    (codes "")
    ≡ codes "1:20: S11 BadControl\n"
unfolding digits value_of residue word_of value_in wrapped binary_of
row_12 = refl

-- export void go() { switch (1) { case 1: continue; } }
abbrev pub source_13 : ParsedSource
source_13 =
    (function (at 1 13) (codes "go") (spec true false false false None None) ([])
    (ParsedNext (ParsedSwitch (at 1 20) (ParsedNumber (at 1 28) 1 false false) (ParsedSegment (at 1 33) (Some (label false 1)) (ParsedNext (ParsedContinue (at 1 41)) ParsedLast) ParsedNoMore))
    ParsedLast) (at 1 53)) ∷ []

row_13 : run source_13 (codes "") (options 4 64 1000000)
    (codes "")
    ≡ codes "1:41: S11 BadControl\n"
unfolding digits value_of residue word_of value_in wrapped binary_of
row_13 = refl

-- int f() { return 1; }
-- export void go() { int x = f() + 1; }
abbrev pub source_14 : ParsedSource
source_14 =
    (function (at 1 5) (codes "f") (spec false false false false None (Some t.Int32)) ([])
    (ParsedNext (ParsedReturn (at 1 11) (Some (ParsedNumber (at 1 18) 1 false false)))
    ParsedLast) (at 1 21)) ∷
    (function (at 2 13) (codes "go") (spec true false false false None None) ([])
    (ParsedNext (ParsedDeclare (at 2 20) (spec false false false false None (Some t.Int32)) (at 2 24) (codes "x") (Some (ParsedBinary (Op op.Add) (ParsedCall (at 2 28) (codes "f") ParsedEnd) (ParsedNumber (at 2 34) 1 false false))))
    ParsedLast) (at 2 37)) ∷ []

row_14 : run source_14 (codes "") (options 4 64 1000000)
    (codes "")
    ≡ codes "2:28: S12 NestedCall\n"
unfolding digits value_of residue word_of value_in wrapped binary_of
row_14 = refl

-- uniform int q[2];
-- int f() { return 1; }
-- export void go() { q[0] = f(); }
abbrev pub source_15 : ParsedSource
source_15 =
    (file_variable (at 1 13) (codes "q") (spec false false false false (Some Uniform) (Some t.Int32)) (Array 2)) ∷
    (function (at 2 5) (codes "f") (spec false false false false None (Some t.Int32)) ([])
    (ParsedNext (ParsedReturn (at 2 11) (Some (ParsedNumber (at 2 18) 1 false false)))
    ParsedLast) (at 2 21)) ∷
    (function (at 3 13) (codes "go") (spec true false false false None None) ([])
    (ParsedNext (ParsedAssign (at 3 20) (target (at 3 20) (codes "q") (Some (ParsedNumber (at 3 22) 0 false false))) (ParsedCall (at 3 27) (codes "f") ParsedEnd))
    ParsedLast) (at 3 32)) ∷ []

row_15 : run source_15 (codes "") (options 4 64 1000000)
    (codes "")
    ≡ codes "3:27: S12 NestedCall\n"
unfolding digits value_of residue word_of value_in wrapped binary_of
row_15 = refl

-- int f() { return 1; }
-- export void go() { for (; f(); ) ; }
abbrev pub source_16 : ParsedSource
source_16 =
    (function (at 1 5) (codes "f") (spec false false false false None (Some t.Int32)) ([])
    (ParsedNext (ParsedReturn (at 1 11) (Some (ParsedNumber (at 1 18) 1 false false)))
    ParsedLast) (at 1 21)) ∷
    (function (at 2 13) (codes "go") (spec true false false false None None) ([])
    (ParsedNext (ParsedFor (at 2 20) ParsedEmpty (Some (ParsedCall (at 2 27) (codes "f") ParsedEnd)) ParsedEmpty ParsedEmpty)
    ParsedLast) (at 2 36)) ∷ []

row_16 : run source_16 (codes "") (options 4 64 1000000)
    (codes "")
    ≡ codes "2:27: S12 NestedCall\n"
unfolding digits value_of residue word_of value_in wrapped binary_of
row_16 = refl
