-- Rows of several faults, of which the least is named.
use Rattle.std.specs.Prelude.{◌≡◌, refl, true, false, [], ◌∷◌, Some, None, codes}
use Rattle.gang_types.specs.Values.{value_of, residue, word_of, value_in, wrapped, binary_of}
use Rattle.gang_types.specs.declared.types.Rate.TheVariants.{Uniform}
use Rattle.gang_types.specs.declared.types.IntType.TheVariants as t
use Rattle.gang_types.specs.declared.operators.BinaryOp.TheVariants as op
use Rattle.gang_model.specs.declared.forms.Infix.TheVariants.{Op}
use Rattle.gang_model.specs.declared.forms.GlobalForm.TheVariants.{Plain, Array}
use Rattle.gang_model.specs.Source.Parsed.{ParsedNumber, ParsedBool, ParsedName, ParsedIndex, ParsedCall, ParsedBinary, ParsedEnd, ParsedValue, ParsedPartFrom, ParsedBlock, ParsedDeclare, ParsedAssign, ParsedDoCall, ParsedReturn, ParsedSwitch, ParsedForEachUnique, ParsedLast, ParsedNext, ParsedNoMore, ParsedSegment, ParsedSource}
use Rattle.tests_transcripts.proofs.Forms.{at, spec, target, label, parameter, function, file_variable}
use Rattle.gang_model.specs.declared.refusals.RefusalNumber.TheVariants.{S5, S6, S7, S8, S9}
use Rattle.gang_model.specs.Types.SourceRefusals.{refusal_of}
use Rattle.tests_refusals.proofs.Wanted.{refused}

-- export void go() { uniform int u = programIndex; x = 1; }
-- (all faults of names come before those of types)
abbrev tree_0 : ParsedSource
tree_0 =
    (function (at 1 13) (codes "go") (spec true false false false None None) ([])
    (ParsedNext (ParsedDeclare (at 1 20) (spec false false false false (Some Uniform) (Some t.Int32)) (at 1 32) (codes "u") (Some (ParsedName (at 1 36) (codes "programIndex"))))
    (ParsedNext (ParsedAssign (at 1 50) (target (at 1 50) (codes "x") None) (ParsedNumber (at 1 54) 1 false false))
    ParsedLast)) (at 1 57)) ∷ []

row_0 : refusal_of tree_0 ≡ refused S5 1 50
unfolding value_of residue word_of value_in wrapped binary_of
row_0 = refl

-- int a[3];
-- void f() { return 1; }
-- (the first place)
abbrev tree_1 : ParsedSource
tree_1 =
    (file_variable (at 1 5) (codes "a") (spec false false false false None (Some t.Int32)) (Array 3)) ∷
    (function (at 2 6) (codes "f") (spec false false false false None None) ([])
    (ParsedNext (ParsedReturn (at 2 12) (Some (ParsedNumber (at 2 19) 1 false false)))
    ParsedLast) (at 2 22)) ∷ []

row_1 : refusal_of tree_1 ≡ refused S7 1 5
unfolding value_of residue word_of value_in wrapped binary_of
row_1 = refl

-- export void go() { int x = a + b; }
abbrev tree_2 : ParsedSource
tree_2 =
    (function (at 1 13) (codes "go") (spec true false false false None None) ([])
    (ParsedNext (ParsedDeclare (at 1 20) (spec false false false false None (Some t.Int32)) (at 1 24) (codes "x") (Some (ParsedBinary (Op op.Add) (ParsedName (at 1 28) (codes "a")) (ParsedName (at 1 32) (codes "b")))))
    ParsedLast) (at 1 35)) ∷ []

row_2 : refusal_of tree_2 ≡ refused S5 1 28
unfolding value_of residue word_of value_in wrapped binary_of
row_2 = refl

-- export void go() { int x; int x = y; }
-- (the name is before the value)
abbrev tree_3 : ParsedSource
tree_3 =
    (function (at 1 13) (codes "go") (spec true false false false None None) ([])
    (ParsedNext (ParsedDeclare (at 1 20) (spec false false false false None (Some t.Int32)) (at 1 24) (codes "x") None)
    (ParsedNext (ParsedDeclare (at 1 27) (spec false false false false None (Some t.Int32)) (at 1 31) (codes "x") (Some (ParsedName (at 1 35) (codes "y"))))
    ParsedLast)) (at 1 38)) ∷ []

row_3 : refusal_of tree_3 ≡ refused S6 1 31
unfolding value_of residue word_of value_in wrapped binary_of
row_3 = refl

-- uniform int a[3];
-- export void go() { int x = a + a[true]; }
abbrev tree_4 : ParsedSource
tree_4 =
    (file_variable (at 1 13) (codes "a") (spec false false false false (Some Uniform) (Some t.Int32)) (Array 3)) ∷
    (function (at 2 13) (codes "go") (spec true false false false None None) ([])
    (ParsedNext (ParsedDeclare (at 2 20) (spec false false false false None (Some t.Int32)) (at 2 24) (codes "x") (Some (ParsedBinary (Op op.Add) (ParsedName (at 2 28) (codes "a")) (ParsedIndex (at 2 32) (codes "a") (ParsedBool (at 2 34) true)))))
    ParsedLast) (at 2 41)) ∷ []

row_4 : refusal_of tree_4 ≡ refused S8 2 28
unfolding value_of residue word_of value_in wrapped binary_of
row_4 = refl

-- uniform int a;
-- export void go() { a[min(1)] = min(2); }
-- (a target is no expression)
abbrev tree_5 : ParsedSource
tree_5 =
    (file_variable (at 1 13) (codes "a") (spec false false false false (Some Uniform) (Some t.Int32)) Plain) ∷
    (function (at 2 13) (codes "go") (spec true false false false None None) ([])
    (ParsedNext (ParsedAssign (at 2 20) (target (at 2 20) (codes "a") (Some (ParsedCall (at 2 22) (codes "min") (ParsedValue (ParsedNumber (at 2 26) 1 false false) ParsedEnd)))) (ParsedCall (at 2 32) (codes "min") (ParsedValue (ParsedNumber (at 2 36) 2 false false) ParsedEnd)))
    ParsedLast) (at 2 40)) ∷ []

row_5 : refusal_of tree_5 ≡ refused S8 2 20
unfolding value_of residue word_of value_in wrapped binary_of
row_5 = refl

-- void f(uniform int a[]) { }
-- uniform int m;
-- export void go() { f(&m[min(1)]); }
-- (`&m[e]` is no expression)
abbrev tree_6 : ParsedSource
tree_6 =
    (function (at 1 6) (codes "f") (spec false false false false None None) (parameter (at 1 20) (codes "a") (spec false false false false (Some Uniform) (Some t.Int32)) true ∷ [])
    ParsedLast (at 1 27)) ∷
    (file_variable (at 2 13) (codes "m") (spec false false false false (Some Uniform) (Some t.Int32)) Plain) ∷
    (function (at 3 13) (codes "go") (spec true false false false None None) ([])
    (ParsedNext (ParsedDoCall (at 3 20) (codes "f") (ParsedPartFrom (at 3 23) (codes "m") (ParsedCall (at 3 25) (codes "min") (ParsedValue (ParsedNumber (at 3 29) 1 false false) ParsedEnd)) ParsedEnd))
    ParsedLast) (at 3 35)) ∷ []

row_6 : refusal_of tree_6 ≡ refused S8 3 23
unfolding value_of residue word_of value_in wrapped binary_of
row_6 = refl

-- export void go() { foreach_unique (v in min(1)) { uniform int x = programIndex; } }
abbrev tree_7 : ParsedSource
tree_7 =
    (function (at 1 13) (codes "go") (spec true false false false None None) ([])
    (ParsedNext (ParsedForEachUnique (at 1 20) (at 1 36) (codes "v") (ParsedCall (at 1 41) (codes "min") (ParsedValue (ParsedNumber (at 1 45) 1 false false) ParsedEnd)) (ParsedBlock (ParsedNext (ParsedDeclare (at 1 51) (spec false false false false (Some Uniform) (Some t.Int32)) (at 1 63) (codes "x") (Some (ParsedName (at 1 67) (codes "programIndex"))))
    ParsedLast)))
    ParsedLast) (at 1 83)) ∷ []

row_7 : refusal_of tree_7 ≡ refused S9 1 41
unfolding value_of residue word_of value_in wrapped binary_of
row_7 = refl

-- export void go() { switch (min(1)) { case 1: assert(); } }
abbrev tree_8 : ParsedSource
tree_8 =
    (function (at 1 13) (codes "go") (spec true false false false None None) ([])
    (ParsedNext (ParsedSwitch (at 1 20) (ParsedCall (at 1 28) (codes "min") (ParsedValue (ParsedNumber (at 1 32) 1 false false) ParsedEnd)) (ParsedSegment (at 1 38) (Some (label false 1)) (ParsedNext (ParsedDoCall (at 1 46) (codes "assert") ParsedEnd) ParsedLast) ParsedNoMore))
    ParsedLast) (at 1 58)) ∷ []

row_8 : refusal_of tree_8 ≡ refused S9 1 28
unfolding value_of residue word_of value_in wrapped binary_of
row_8 = refl
