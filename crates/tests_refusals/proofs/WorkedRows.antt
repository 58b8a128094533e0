-- The worked refusals of names and types.
use Rattle.std.specs.Prelude.{◌≡◌, refl, true, false, [], ◌∷◌, Some, None, codes}
use Rattle.gang_types.specs.Values.{value_of, residue, word_of, value_in, wrapped, binary_of}
use Rattle.gang_types.specs.declared.types.Rate.TheVariants.{Uniform}
use Rattle.gang_types.specs.declared.types.IntType.TheVariants as t
use Rattle.gang_types.specs.declared.operators.BinaryOp.TheVariants as op
use Rattle.gang_model.specs.declared.forms.Infix.TheVariants.{Op}
use Rattle.gang_model.specs.Source.Parsed.{ParsedNumber, ParsedName, ParsedCall, ParsedBinary, ParsedEnd, ParsedValue, ParsedEmpty, ParsedDeclare, ParsedAssign, ParsedDoCall, ParsedReturn, ParsedSwitch, ParsedForEach, ParsedLast, ParsedNext, ParsedNoMore, ParsedSegment, ParsedSource}
use Rattle.tests_transcripts.proofs.Forms.{at, spec, target, dimension, label, parameter, function}
use Rattle.gang_model.specs.declared.refusals.RefusalNumber.TheVariants.{S5, S6, S7, S8, S9, S10, S11, S12}
use Rattle.gang_model.specs.Types.SourceRefusals.{refusal_of}
use Rattle.tests_refusals.proofs.Wanted.{refused, accepted}

-- export void go() { uniform int u = programIndex; }
abbrev tree_0 : ParsedSource
tree_0 =
    (function (at 1 13) (codes "go") (spec true false false false None None) ([])
    (ParsedNext (ParsedDeclare (at 1 20) (spec false false false false (Some Uniform) (Some t.Int32)) (at 1 32) (codes "u") (Some (ParsedName (at 1 36) (codes "programIndex"))))
    ParsedLast) (at 1 50)) ∷ []

row_0 : refusal_of tree_0 ≡ refused S7 1 36
unfolding value_of residue word_of value_in wrapped binary_of
row_0 = refl

-- void f(int8 a, int16 b) { }
-- void f(int16 a, int8 b) { }
-- export void go() { f(1, 1); }
-- (equal sums: a tie)
abbrev tree_1 : ParsedSource
tree_1 =
    (function (at 1 6) (codes "f") (spec false false false false None None) (parameter (at 1 13) (codes "a") (spec false false false false None (Some t.Int8)) false ∷ parameter (at 1 22) (codes "b") (spec false false false false None (Some t.Int16)) false ∷ [])
    ParsedLast (at 1 27)) ∷
    (function (at 2 6) (codes "f") (spec false false false false None None) (parameter (at 2 14) (codes "a") (spec false false false false None (Some t.Int16)) false ∷ parameter (at 2 22) (codes "b") (spec false false false false None (Some t.Int8)) false ∷ [])
    ParsedLast (at 2 27)) ∷
    (function (at 3 13) (codes "go") (spec true false false false None None) ([])
    (ParsedNext (ParsedDoCall (at 3 20) (codes "f") (ParsedValue (ParsedNumber (at 3 22) 1 false false) (ParsedValue (ParsedNumber (at 3 25) 1 false false) ParsedEnd)))
    ParsedLast) (at 3 29)) ∷ []

row_1 : refusal_of tree_1 ≡ refused S10 3 20
unfolding value_of residue word_of value_in wrapped binary_of
row_1 = refl

-- void f(int64 a, int8 b) { }
-- void f(int8 a, int b) { }
-- export void go() { f(1, 1); }
-- (sums 9 and 7, and the first argument costs 4 and 5: this row refuses the wrong definition by which the least sum wins whatever its single costs)
abbrev tree_2 : ParsedSource
tree_2 =
    (function (at 1 6) (codes "f") (spec false false false false None None) (parameter (at 1 14) (codes "a") (spec false false false false None (Some t.Int64)) false ∷ parameter (at 1 22) (codes "b") (spec false false false false None (Some t.Int8)) false ∷ [])
    ParsedLast (at 1 27)) ∷
    (function (at 2 6) (codes "f") (spec false false false false None None) (parameter (at 2 13) (codes "a") (spec false false false false None (Some t.Int8)) false ∷ parameter (at 2 20) (codes "b") (spec false false false false None (Some t.Int32)) false ∷ [])
    ParsedLast (at 2 25)) ∷
    (function (at 3 13) (codes "go") (spec true false false false None None) ([])
    (ParsedNext (ParsedDoCall (at 3 20) (codes "f") (ParsedValue (ParsedNumber (at 3 22) 1 false false) (ParsedValue (ParsedNumber (at 3 25) 1 false false) ParsedEnd)))
    ParsedLast) (at 3 29)) ∷ []

row_2 : refusal_of tree_2 ≡ refused S10 3 20
unfolding value_of residue word_of value_in wrapped binary_of
row_2 = refl

-- export void go() { foreach (i = 0 ... 4) return; }
abbrev tree_3 : ParsedSource
tree_3 =
    (function (at 1 13) (codes "go") (spec true false false false None None) ([])
    (ParsedNext (ParsedForEach (at 1 20) false (dimension (at 1 29) (codes "i") (ParsedNumber (at 1 33) 0 false false) (ParsedNumber (at 1 39) 4 false false) ∷ []) (ParsedReturn (at 1 42) None))
    ParsedLast) (at 1 50)) ∷ []

row_3 : refusal_of tree_3 ≡ refused S11 1 42
unfolding value_of residue word_of value_in wrapped binary_of
row_3 = refl

-- export void go() { x = 1; }
abbrev tree_4 : ParsedSource
tree_4 =
    (function (at 1 13) (codes "go") (spec true false false false None None) ([])
    (ParsedNext (ParsedAssign (at 1 20) (target (at 1 20) (codes "x") None) (ParsedNumber (at 1 24) 1 false false))
    ParsedLast) (at 1 27)) ∷ []

row_4 : refusal_of tree_4 ≡ refused S5 1 20
unfolding value_of residue word_of value_in wrapped binary_of
row_4 = refl

-- export void go() { int x; int x; }
abbrev tree_5 : ParsedSource
tree_5 =
    (function (at 1 13) (codes "go") (spec true false false false None None) ([])
    (ParsedNext (ParsedDeclare (at 1 20) (spec false false false false None (Some t.Int32)) (at 1 24) (codes "x") None)
    (ParsedNext (ParsedDeclare (at 1 27) (spec false false false false None (Some t.Int32)) (at 1 31) (codes "x") None)
    ParsedLast)) (at 1 34)) ∷ []

row_5 : refusal_of tree_5 ≡ refused S6 1 31
unfolding value_of residue word_of value_in wrapped binary_of
row_5 = refl

-- export void go() { const int x = 1; x = 2; }
abbrev tree_6 : ParsedSource
tree_6 =
    (function (at 1 13) (codes "go") (spec true false false false None None) ([])
    (ParsedNext (ParsedDeclare (at 1 20) (spec false false false true None (Some t.Int32)) (at 1 30) (codes "x") (Some (ParsedNumber (at 1 34) 1 false false)))
    (ParsedNext (ParsedAssign (at 1 37) (target (at 1 37) (codes "x") None) (ParsedNumber (at 1 41) 2 false false))
    ParsedLast)) (at 1 44)) ∷ []

row_6 : refusal_of tree_6 ≡ refused S8 1 37
unfolding value_of residue word_of value_in wrapped binary_of
row_6 = refl

-- export void go() { int x = min(1); }
abbrev tree_7 : ParsedSource
tree_7 =
    (function (at 1 13) (codes "go") (spec true false false false None None) ([])
    (ParsedNext (ParsedDeclare (at 1 20) (spec false false false false None (Some t.Int32)) (at 1 24) (codes "x") (Some (ParsedCall (at 1 28) (codes "min") (ParsedValue (ParsedNumber (at 1 32) 1 false false) ParsedEnd))))
    ParsedLast) (at 1 36)) ∷ []

row_7 : refusal_of tree_7 ≡ refused S9 1 28
unfolding value_of residue word_of value_in wrapped binary_of
row_7 = refl

-- int f() { return 1; }
-- export void go() { int x = f() + 1; }
abbrev tree_8 : ParsedSource
tree_8 =
    (function (at 1 5) (codes "f") (spec false false false false None (Some t.Int32)) ([])
    (ParsedNext (ParsedReturn (at 1 11) (Some (ParsedNumber (at 1 18) 1 false false)))
    ParsedLast) (at 1 21)) ∷
    (function (at 2 13) (codes "go") (spec true false false false None None) ([])
    (ParsedNext (ParsedDeclare (at 2 20) (spec false false false false None (Some t.Int32)) (at 2 24) (codes "x") (Some (ParsedBinary (Op op.Add) (ParsedCall (at 2 28) (codes "f") ParsedEnd) (ParsedNumber (at 2 34) 1 false false))))
    ParsedLast) (at 2 37)) ∷ []

row_8 : refusal_of tree_8 ≡ refused S12 2 28
unfolding value_of residue word_of value_in wrapped binary_of
row_8 = refl

-- export void go() { switch (1) { case 1: case 1: ; } }
abbrev tree_9 : ParsedSource
tree_9 =
    (function (at 1 13) (codes "go") (spec true false false false None None) ([])
    (ParsedNext (ParsedSwitch (at 1 20) (ParsedNumber (at 1 28) 1 false false) (ParsedSegment (at 1 33) (Some (label false 1)) ParsedLast (ParsedSegment (at 1 41) (Some (label false 1)) (ParsedNext ParsedEmpty ParsedLast) ParsedNoMore)))
    ParsedLast) (at 1 53)) ∷ []

row_9 : refusal_of tree_9 ≡ refused S6 1 41
unfolding value_of residue word_of value_in wrapped binary_of
row_9 = refl

-- export void go() { int8 v = 1; switch (v) { case 300: ; } }
abbrev tree_10 : ParsedSource
tree_10 =
    (function (at 1 13) (codes "go") (spec true false false false None None) ([])
    (ParsedNext (ParsedDeclare (at 1 20) (spec false false false false None (Some t.Int8)) (at 1 25) (codes "v") (Some (ParsedNumber (at 1 29) 1 false false)))
    (ParsedNext (ParsedSwitch (at 1 32) (ParsedName (at 1 40) (codes "v")) (ParsedSegment (at 1 45) (Some (label false 300)) (ParsedNext ParsedEmpty ParsedLast) ParsedNoMore))
    ParsedLast)) (at 1 59)) ∷ []

row_10 : refusal_of tree_10 ≡ refused S8 1 45
unfolding value_of residue word_of value_in wrapped binary_of
row_10 = refl

-- void f() { }
-- (no exported function is no fault of names or types)
abbrev tree_11 : ParsedSource
tree_11 =
    (function (at 1 6) (codes "f") (spec false false false false None None) ([])
    ParsedLast (at 1 12)) ∷ []

row_11 : refusal_of tree_11 ≡ accepted
unfolding value_of residue word_of value_in wrapped binary_of
row_11 = refl
