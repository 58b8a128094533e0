-- Rows of the names that the debugger lists at each step of a function, the closing brace last.
use Rattle.std.specs.Prelude.{◌≡◌, refl, true, false, [], ◌∷◌, Some, None, codes}
use Rattle.gang_types.specs.declared.types.Rate.TheVariants.{Uniform}
use Rattle.gang_types.specs.declared.types.IntType.TheVariants as t
use Rattle.gang_types.specs.declared.operators.BinaryOp.TheVariants as op
use Rattle.gang_model.specs.declared.forms.Infix.TheVariants.{Op}
use Rattle.gang_model.specs.declared.forms.GlobalForm.TheVariants.{Plain}
use Rattle.gang_model.specs.Source.Parsed.{ParsedNumber, ParsedBool, ParsedName, ParsedCall, ParsedBinary, ParsedEnd, ParsedValue, ParsedEmpty, ParsedBlock, ParsedDeclare, ParsedAssign, ParsedIncrement, ParsedBreak, ParsedReturn, ParsedIf, ParsedWhile, ParsedDo, ParsedFor, ParsedSwitch, ParsedForEach, ParsedForEachActive, ParsedForEachUnique, ParsedLast, ParsedNext, ParsedNoMore, ParsedSegment, ParsedSource}
use Rattle.tests_transcripts.proofs.Forms.{at, spec, target, dimension, label, parameter, function, file_variable}
use Rattle.tests_refusals.proofs.Wanted.{listed_at}

-- int f(int k) {
-- int r = k + 1;
-- if (k > 1) return r;
-- return f(r);
-- }
-- (the declaration, `if`, its `return`, `return f(r)`, the closing brace)
abbrev tree_0 : ParsedSource
tree_0 =
    (function (at 1 5) (codes "f") (spec false false false false None (Some t.Int32)) (parameter (at 1 11) (codes "k") (spec false false false false None (Some t.Int32)) false ∷ [])
    (ParsedNext (ParsedDeclare (at 2 1) (spec false false false false None (Some t.Int32)) (at 2 5) (codes "r") (Some (ParsedBinary (Op op.Add) (ParsedName (at 2 9) (codes "k")) (ParsedNumber (at 2 13) 1 false false))))
    (ParsedNext (ParsedIf (at 3 1) (ParsedBinary (Op op.Greater) (ParsedName (at 3 5) (codes "k")) (ParsedNumber (at 3 9) 1 false false)) (ParsedReturn (at 3 12) (Some (ParsedName (at 3 19) (codes "r")))))
    (ParsedNext (ParsedReturn (at 4 1) (Some (ParsedCall (at 4 8) (codes "f") (ParsedValue (ParsedName (at 4 10) (codes "r")) ParsedEnd))))
    ParsedLast))) (at 5 1)) ∷ []

row_0 : listed_at tree_0 0 ≡ (((codes "k") ∷ []) ∷ ((codes "k") ∷ (codes "r") ∷ []) ∷ ((codes "k") ∷ (codes "r") ∷ []) ∷ ((codes "k") ∷ (codes "r") ∷ []) ∷ ((codes "k") ∷ (codes "r") ∷ []) ∷ [])
row_0 = refl

-- void f() { int a; if (true) { int b; return; } int c; }
-- (at the closing brace what the outermost block declares before the first `return`)
abbrev tree_1 : ParsedSource
tree_1 =
    (function (at 1 6) (codes "f") (spec false false false false None None) ([])
    (ParsedNext (ParsedDeclare (at 1 12) (spec false false false false None (Some t.Int32)) (at 1 16) (codes "a") None)
    (ParsedNext (ParsedIf (at 1 19) (ParsedBool (at 1 23) true) (ParsedBlock (ParsedNext (ParsedDeclare (at 1 31) (spec false false false false None (Some t.Int32)) (at 1 35) (codes "b") None)
    (ParsedNext (ParsedReturn (at 1 38) None)
    ParsedLast))))
    (ParsedNext (ParsedDeclare (at 1 48) (spec false false false false None (Some t.Int32)) (at 1 52) (codes "c") None)
    ParsedLast))) (at 1 55)) ∷ []

row_1 : listed_at tree_1 0 ≡ (([]) ∷ ((codes "a") ∷ []) ∷ ((codes "a") ∷ []) ∷ ((codes "a") ∷ (codes "b") ∷ []) ∷ ((codes "a") ∷ []) ∷ ((codes "a") ∷ []) ∷ [])
row_1 = refl

-- void f() { int a; int b; { int a; int c; } b = 1; }
-- (an inner declaration hides an outer one of its name)
abbrev tree_2 : ParsedSource
tree_2 =
    (function (at 1 6) (codes "f") (spec false false false false None None) ([])
    (ParsedNext (ParsedDeclare (at 1 12) (spec false false false false None (Some t.Int32)) (at 1 16) (codes "a") None)
    (ParsedNext (ParsedDeclare (at 1 19) (spec false false false false None (Some t.Int32)) (at 1 23) (codes "b") None)
    (ParsedNext (ParsedBlock (ParsedNext (ParsedDeclare (at 1 28) (spec false false false false None (Some t.Int32)) (at 1 32) (codes "a") None)
    (ParsedNext (ParsedDeclare (at 1 35) (spec false false false false None (Some t.Int32)) (at 1 39) (codes "c") None)
    ParsedLast)))
    (ParsedNext (ParsedAssign (at 1 44) (target (at 1 44) (codes "b") None) (ParsedNumber (at 1 48) 1 false false))
    ParsedLast)))) (at 1 51)) ∷ []

row_2 : listed_at tree_2 0 ≡ (([]) ∷ ((codes "a") ∷ []) ∷ ((codes "a") ∷ (codes "b") ∷ []) ∷ ((codes "b") ∷ (codes "a") ∷ []) ∷ ((codes "a") ∷ (codes "b") ∷ []) ∷ ((codes "a") ∷ (codes "b") ∷ []) ∷ [])
row_2 = refl

-- uniform int g;
-- void f() { for (int i = 0; i < 2; i++) int j; g = 1; }
-- (the start, the body, the update, the test)
abbrev tree_3 : ParsedSource
tree_3 =
    (file_variable (at 1 13) (codes "g") (spec false false false false (Some Uniform) (Some t.Int32)) Plain) ∷
    (function (at 2 6) (codes "f") (spec false false false false None None) ([])
    (ParsedNext (ParsedFor (at 2 12) (ParsedDeclare (at 2 17) (spec false false false false None (Some t.Int32)) (at 2 21) (codes "i") (Some (ParsedNumber (at 2 25) 0 false false))) (Some (ParsedBinary (Op op.Less) (ParsedName (at 2 28) (codes "i")) (ParsedNumber (at 2 32) 2 false false))) (ParsedIncrement (at 2 35) (target (at 2 35) (codes "i") None) op.Add) (ParsedDeclare (at 2 40) (spec false false false false None (Some t.Int32)) (at 2 44) (codes "j") None))
    (ParsedNext (ParsedAssign (at 2 47) (target (at 2 47) (codes "g") None) (ParsedNumber (at 2 51) 1 false false))
    ParsedLast)) (at 2 54)) ∷ []

row_3 : listed_at tree_3 0 ≡ (([]) ∷ ((codes "i") ∷ []) ∷ ((codes "i") ∷ []) ∷ ((codes "i") ∷ []) ∷ ([]) ∷ ([]) ∷ [])
row_3 = refl

-- void f(int i) { foreach (i = 0 ... 2, j = 0 ... 2) int x = i; }
-- (the head, the body, the rounds)
abbrev tree_4 : ParsedSource
tree_4 =
    (function (at 1 6) (codes "f") (spec false false false false None None) (parameter (at 1 12) (codes "i") (spec false false false false None (Some t.Int32)) false ∷ [])
    (ParsedNext (ParsedForEach (at 1 17) false (dimension (at 1 26) (codes "i") (ParsedNumber (at 1 30) 0 false false) (ParsedNumber (at 1 36) 2 false false) ∷ dimension (at 1 39) (codes "j") (ParsedNumber (at 1 43) 0 false false) (ParsedNumber (at 1 49) 2 false false) ∷ []) (ParsedDeclare (at 1 52) (spec false false false false None (Some t.Int32)) (at 1 56) (codes "x") (Some (ParsedName (at 1 60) (codes "i")))))
    ParsedLast) (at 1 63)) ∷ []

row_4 : listed_at tree_4 0 ≡ (((codes "i") ∷ []) ∷ ((codes "i") ∷ (codes "j") ∷ []) ∷ ((codes "i") ∷ []) ∷ ((codes "i") ∷ []) ∷ [])
row_4 = refl

-- void f() { foreach_active (a) ; foreach_unique (b in 1) { int c; c = 1; } }
abbrev tree_5 : ParsedSource
tree_5 =
    (function (at 1 6) (codes "f") (spec false false false false None None) ([])
    (ParsedNext (ParsedForEachActive (at 1 12) (at 1 28) (codes "a") ParsedEmpty)
    (ParsedNext (ParsedForEachUnique (at 1 33) (at 1 49) (codes "b") (ParsedNumber (at 1 54) 1 false false) (ParsedBlock (ParsedNext (ParsedDeclare (at 1 59) (spec false false false false None (Some t.Int32)) (at 1 63) (codes "c") None)
    (ParsedNext (ParsedAssign (at 1 66) (target (at 1 66) (codes "c") None) (ParsedNumber (at 1 70) 1 false false))
    ParsedLast))))
    ParsedLast)) (at 1 75)) ∷ []

row_5 : listed_at tree_5 0 ≡ (([]) ∷ ([]) ∷ ([]) ∷ ((codes "b") ∷ []) ∷ ((codes "b") ∷ (codes "c") ∷ []) ∷ ([]) ∷ ([]) ∷ [])
row_5 = refl

-- void f() { do int a; while (true); while (true) { int b; break; } }
-- (the body's steps come before the test)
abbrev tree_6 : ParsedSource
tree_6 =
    (function (at 1 6) (codes "f") (spec false false false false None None) ([])
    (ParsedNext (ParsedDo (ParsedDeclare (at 1 15) (spec false false false false None (Some t.Int32)) (at 1 19) (codes "a") None) (at 1 22) (ParsedBool (at 1 29) true))
    (ParsedNext (ParsedWhile (at 1 36) (ParsedBool (at 1 43) true) (ParsedBlock (ParsedNext (ParsedDeclare (at 1 51) (spec false false false false None (Some t.Int32)) (at 1 55) (codes "b") None)
    (ParsedNext (ParsedBreak (at 1 58))
    ParsedLast))))
    ParsedLast)) (at 1 67)) ∷ []

row_6 : listed_at tree_6 0 ≡ (([]) ∷ ([]) ∷ ([]) ∷ ((codes "b") ∷ []) ∷ ([]) ∷ ([]) ∷ [])
row_6 = refl

-- void f() { int a; switch (a) { case 1: { int b; b = 1; } case 2: a = 2; } }
abbrev tree_7 : ParsedSource
tree_7 =
    (function (at 1 6) (codes "f") (spec false false false false None None) ([])
    (ParsedNext (ParsedDeclare (at 1 12) (spec false false false false None (Some t.Int32)) (at 1 16) (codes "a") None)
    (ParsedNext (ParsedSwitch (at 1 19) (ParsedName (at 1 27) (codes "a")) (ParsedSegment (at 1 32) (Some (label false 1)) (ParsedNext (ParsedBlock (ParsedNext (ParsedDeclare (at 1 42) (spec false false false false None (Some t.Int32)) (at 1 46) (codes "b") None)
    (ParsedNext (ParsedAssign (at 1 49) (target (at 1 49) (codes "b") None) (ParsedNumber (at 1 53) 1 false false))
    ParsedLast))) ParsedLast) (ParsedSegment (at 1 58) (Some (label false 2)) (ParsedNext (ParsedAssign (at 1 66) (target (at 1 66) (codes "a") None) (ParsedNumber (at 1 70) 2 false false)) ParsedLast) ParsedNoMore)))
    ParsedLast)) (at 1 75)) ∷ []

row_7 : listed_at tree_7 0 ≡ (([]) ∷ ((codes "a") ∷ []) ∷ ((codes "a") ∷ []) ∷ ((codes "a") ∷ (codes "b") ∷ []) ∷ ((codes "a") ∷ []) ∷ ((codes "a") ∷ []) ∷ [])
row_7 = refl

-- void f() { }
-- void g(int a, uniform int b[]) { }
abbrev tree_8 : ParsedSource
tree_8 =
    (function (at 1 6) (codes "f") (spec false false false false None None) ([])
    ParsedLast (at 1 12)) ∷
    (function (at 2 6) (codes "g") (spec false false false false None None) (parameter (at 2 12) (codes "a") (spec false false false false None (Some t.Int32)) false ∷ parameter (at 2 27) (codes "b") (spec false false false false (Some Uniform) (Some t.Int32)) true ∷ [])
    ParsedLast (at 2 34)) ∷ []

row_8 : listed_at tree_8 1 ≡ (((codes "a") ∷ (codes "b") ∷ []) ∷ [])
row_8 = refl
