-- Rows of sources without a fault of names or types.
use Rattle.std.specs.Prelude.{◌≡◌, refl, true, false, [], ◌∷◌, Some, None, codes}
use Rattle.gang_types.specs.Values.{value_of, residue, word_of, value_in, wrapped, binary_of}
use Rattle.gang_types.specs.declared.types.Rate.TheVariants.{Uniform, Varying}
use Rattle.gang_types.specs.declared.types.IntType.TheVariants as t
use Rattle.gang_types.specs.declared.operators.UnaryOp.TheVariants as unary
use Rattle.gang_types.specs.declared.operators.BinaryOp.TheVariants as op
use Rattle.gang_model.specs.declared.forms.Infix.TheVariants.{Op, AndAlso, OrElse}
use Rattle.gang_model.specs.declared.forms.GlobalForm.TheVariants.{Array, Initial}
use Rattle.gang_model.specs.declared.forms.Literal.TheVariants.{Number}
use Rattle.gang_model.specs.Source.Parsed.{ParsedNumber, ParsedBool, ParsedName, ParsedIndex, ParsedCall, ParsedParen, ParsedUnary, ParsedCast, ParsedBinary, ParsedChoice, ParsedEnd, ParsedValue, ParsedPart, ParsedPartFrom, ParsedEmpty, ParsedBlock, ParsedDeclare, ParsedAssign, ParsedChange, ParsedIncrement, ParsedDoCall, ParsedBreak, ParsedContinue, ParsedReturn, ParsedIf, ParsedIfElse, ParsedWhile, ParsedDo, ParsedFor, ParsedSwitch, ParsedForEach, ParsedForEachActive, ParsedForEachUnique, ParsedLast, ParsedNext, ParsedNoMore, ParsedSegment, ParsedSource}
use Rattle.tests_transcripts.proofs.Forms.{at, spec, target, dimension, label, parameter, function, file_variable}
use Rattle.gang_model.specs.Types.SourceRefusals.{refusal_of}
use Rattle.tests_refusals.proofs.Wanted.{accepted}

-- export void go() {
--     int x = programIndex * 3;
--     x += 1;
-- }
abbrev tree_0 : ParsedSource
tree_0 =
    (function (at 1 13) (codes "go") (spec true false false false None None) ([])
    (ParsedNext (ParsedDeclare (at 2 5) (spec false false false false None (Some t.Int32)) (at 2 9) (codes "x") (Some (ParsedBinary (Op op.Mul) (ParsedName (at 2 13) (codes "programIndex")) (ParsedNumber (at 2 28) 3 false false))))
    (ParsedNext (ParsedChange (at 3 5) (target (at 3 5) (codes "x") None) op.Add (ParsedNumber (at 3 10) 1 false false))
    ParsedLast)) (at 4 1)) ∷ []

row_0 : refusal_of tree_0 ≡ accepted
unfolding value_of residue word_of value_in wrapped binary_of
row_0 = refl

-- export void go() { }
abbrev tree_1 : ParsedSource
tree_1 =
    (function (at 1 13) (codes "go") (spec true false false false None None) ([])
    ParsedLast (at 1 20)) ∷ []

row_1 : refusal_of tree_1 ≡ accepted
unfolding value_of residue word_of value_in wrapped binary_of
row_1 = refl

-- export void go() {
-- uniform int u = 0;
-- if (programIndex & 1)
-- u = 1;
-- else
-- u = 2;
-- }
abbrev tree_2 : ParsedSource
tree_2 =
    (function (at 1 13) (codes "go") (spec true false false false None None) ([])
    (ParsedNext (ParsedDeclare (at 2 1) (spec false false false false (Some Uniform) (Some t.Int32)) (at 2 13) (codes "u") (Some (ParsedNumber (at 2 17) 0 false false)))
    (ParsedNext (ParsedIfElse (at 3 1) (ParsedBinary (Op op.And) (ParsedName (at 3 5) (codes "programIndex")) (ParsedNumber (at 3 20) 1 false false)) (ParsedAssign (at 4 1) (target (at 4 1) (codes "u") None) (ParsedNumber (at 4 5) 1 false false)) (ParsedAssign (at 6 1) (target (at 6 1) (codes "u") None) (ParsedNumber (at 6 5) 2 false false)))
    ParsedLast)) (at 7 1)) ∷ []

row_2 : refusal_of tree_2 ≡ accepted
unfolding value_of residue word_of value_in wrapped binary_of
row_2 = refl

-- export void go() {
-- uniform int u = 5;
-- if (programIndex > 9)
-- u = 1;
-- }
abbrev tree_3 : ParsedSource
tree_3 =
    (function (at 1 13) (codes "go") (spec true false false false None None) ([])
    (ParsedNext (ParsedDeclare (at 2 1) (spec false false false false (Some Uniform) (Some t.Int32)) (at 2 13) (codes "u") (Some (ParsedNumber (at 2 17) 5 false false)))
    (ParsedNext (ParsedIf (at 3 1) (ParsedBinary (Op op.Greater) (ParsedName (at 3 5) (codes "programIndex")) (ParsedNumber (at 3 20) 9 false false)) (ParsedAssign (at 4 1) (target (at 4 1) (codes "u") None) (ParsedNumber (at 4 5) 1 false false)))
    ParsedLast)) (at 5 1)) ∷ []

row_3 : refusal_of tree_3 ≡ accepted
unfolding value_of residue word_of value_in wrapped binary_of
row_3 = refl

-- export void go() {
-- int x = 0;
-- while (x < 2) {
-- x += 1;
-- if (programIndex == 1) break;
-- if (programIndex == 2) continue;
-- x += programIndex;
-- }
-- }
abbrev tree_4 : ParsedSource
tree_4 =
    (function (at 1 13) (codes "go") (spec true false false false None None) ([])
    (ParsedNext (ParsedDeclare (at 2 1) (spec false false false false None (Some t.Int32)) (at 2 5) (codes "x") (Some (ParsedNumber (at 2 9) 0 false false)))
    (ParsedNext (ParsedWhile (at 3 1) (ParsedBinary (Op op.Less) (ParsedName (at 3 8) (codes "x")) (ParsedNumber (at 3 12) 2 false false)) (ParsedBlock (ParsedNext (ParsedChange (at 4 1) (target (at 4 1) (codes "x") None) op.Add (ParsedNumber (at 4 6) 1 false false))
    (ParsedNext (ParsedIf (at 5 1) (ParsedBinary (Op op.Equal) (ParsedName (at 5 5) (codes "programIndex")) (ParsedNumber (at 5 21) 1 false false)) (ParsedBreak (at 5 24)))
    (ParsedNext (ParsedIf (at 6 1) (ParsedBinary (Op op.Equal) (ParsedName (at 6 5) (codes "programIndex")) (ParsedNumber (at 6 21) 2 false false)) (ParsedContinue (at 6 24)))
    (ParsedNext (ParsedChange (at 7 1) (target (at 7 1) (codes "x") None) op.Add (ParsedName (at 7 6) (codes "programIndex")))
    ParsedLast))))))
    ParsedLast)) (at 9 1)) ∷ []

row_4 : refusal_of tree_4 ≡ accepted
unfolding value_of residue word_of value_in wrapped binary_of
row_4 = refl

-- uniform int a[6];
-- export void go() {
-- int n = 0;
-- if (programIndex == 0) return;
-- foreach (i = 0 ... 6) {
-- if (i > 0) a[i] = i * 10;
-- n += 1;
-- }
-- n += 100;
-- }
abbrev tree_5 : ParsedSource
tree_5 =
    (file_variable (at 1 13) (codes "a") (spec false false false false (Some Uniform) (Some t.Int32)) (Array 6)) ∷
    (function (at 2 13) (codes "go") (spec true false false false None None) ([])
    (ParsedNext (ParsedDeclare (at 3 1) (spec false false false false None (Some t.Int32)) (at 3 5) (codes "n") (Some (ParsedNumber (at 3 9) 0 false false)))
    (ParsedNext (ParsedIf (at 4 1) (ParsedBinary (Op op.Equal) (ParsedName (at 4 5) (codes "programIndex")) (ParsedNumber (at 4 21) 0 false false)) (ParsedReturn (at 4 24) None))
    (ParsedNext (ParsedForEach (at 5 1) false (dimension (at 5 10) (codes "i") (ParsedNumber (at 5 14) 0 false false) (ParsedNumber (at 5 20) 6 false false) ∷ []) (ParsedBlock (ParsedNext (ParsedIf (at 6 1) (ParsedBinary (Op op.Greater) (ParsedName (at 6 5) (codes "i")) (ParsedNumber (at 6 9) 0 false false)) (ParsedAssign (at 6 12) (target (at 6 12) (codes "a") (Some (ParsedName (at 6 14) (codes "i")))) (ParsedBinary (Op op.Mul) (ParsedName (at 6 19) (codes "i")) (ParsedNumber (at 6 23) 10 false false))))
    (ParsedNext (ParsedChange (at 7 1) (target (at 7 1) (codes "n") None) op.Add (ParsedNumber (at 7 6) 1 false false))
    ParsedLast))))
    (ParsedNext (ParsedChange (at 9 1) (target (at 9 1) (codes "n") None) op.Add (ParsedNumber (at 9 6) 100 false false))
    ParsedLast)))) (at 10 1)) ∷ []

row_5 : refusal_of tree_5 ≡ accepted
unfolding value_of residue word_of value_in wrapped binary_of
row_5 = refl

-- uniform int s = 0;
-- export void go() {
-- foreach (i = 3 ... 3) s += 1;
-- foreach (i = 0 ... 5) s += 1;
-- }
abbrev tree_6 : ParsedSource
tree_6 =
    (file_variable (at 1 13) (codes "s") (spec false false false false (Some Uniform) (Some t.Int32)) (Initial (Number false 0 false false))) ∷
    (function (at 2 13) (codes "go") (spec true false false false None None) ([])
    (ParsedNext (ParsedForEach (at 3 1) false (dimension (at 3 10) (codes "i") (ParsedNumber (at 3 14) 3 false false) (ParsedNumber (at 3 20) 3 false false) ∷ []) (ParsedChange (at 3 23) (target (at 3 23) (codes "s") None) op.Add (ParsedNumber (at 3 28) 1 false false)))
    (ParsedNext (ParsedForEach (at 4 1) false (dimension (at 4 10) (codes "i") (ParsedNumber (at 4 14) 0 false false) (ParsedNumber (at 4 20) 5 false false) ∷ []) (ParsedChange (at 4 23) (target (at 4 23) (codes "s") None) op.Add (ParsedNumber (at 4 28) 1 false false)))
    ParsedLast)) (at 5 1)) ∷ []

row_6 : refusal_of tree_6 ≡ accepted
unfolding value_of residue word_of value_in wrapped binary_of
row_6 = refl

-- uniform int a[9];
-- export void go() {
-- foreach_tiled (r = 0 ... 3, c = 0 ... 3)
-- a[r * 3 + c] = programIndex;
-- }
abbrev tree_7 : ParsedSource
tree_7 =
    (file_variable (at 1 13) (codes "a") (spec false false false false (Some Uniform) (Some t.Int32)) (Array 9)) ∷
    (function (at 2 13) (codes "go") (spec true false false false None None) ([])
    (ParsedNext (ParsedForEach (at 3 1) true (dimension (at 3 16) (codes "r") (ParsedNumber (at 3 20) 0 false false) (ParsedNumber (at 3 26) 3 false false) ∷ dimension (at 3 29) (codes "c") (ParsedNumber (at 3 33) 0 false false) (ParsedNumber (at 3 39) 3 false false) ∷ []) (ParsedAssign (at 4 1) (target (at 4 1) (codes "a") (Some (ParsedBinary (Op op.Add) (ParsedBinary (Op op.Mul) (ParsedName (at 4 3) (codes "r")) (ParsedNumber (at 4 7) 3 false false)) (ParsedName (at 4 11) (codes "c"))))) (ParsedName (at 4 16) (codes "programIndex"))))
    ParsedLast) (at 5 1)) ∷ []

row_7 : refusal_of tree_7 ≡ accepted
unfolding value_of residue word_of value_in wrapped binary_of
row_7 = refl

-- uniform int a[4];
-- export void go() {
-- a[programIndex / 2] = programIndex;
-- }
abbrev tree_8 : ParsedSource
tree_8 =
    (file_variable (at 1 13) (codes "a") (spec false false false false (Some Uniform) (Some t.Int32)) (Array 4)) ∷
    (function (at 2 13) (codes "go") (spec true false false false None None) ([])
    (ParsedNext (ParsedAssign (at 3 1) (target (at 3 1) (codes "a") (Some (ParsedBinary (Op op.Div) (ParsedName (at 3 3) (codes "programIndex")) (ParsedNumber (at 3 18) 2 false false)))) (ParsedName (at 3 23) (codes "programIndex")))
    ParsedLast) (at 4 1)) ∷ []

row_8 : refusal_of tree_8 ≡ accepted
unfolding value_of residue word_of value_in wrapped binary_of
row_8 = refl

-- export void go() {
-- int x = 12;
-- int y = 2 - programIndex;
-- if (y != 0) x = x / y;
-- x = x / y;
-- }
abbrev tree_9 : ParsedSource
tree_9 =
    (function (at 1 13) (codes "go") (spec true false false false None None) ([])
    (ParsedNext (ParsedDeclare (at 2 1) (spec false false false false None (Some t.Int32)) (at 2 5) (codes "x") (Some (ParsedNumber (at 2 9) 12 false false)))
    (ParsedNext (ParsedDeclare (at 3 1) (spec false false false false None (Some t.Int32)) (at 3 5) (codes "y") (Some (ParsedBinary (Op op.Sub) (ParsedNumber (at 3 9) 2 false false) (ParsedName (at 3 13) (codes "programIndex")))))
    (ParsedNext (ParsedIf (at 4 1) (ParsedBinary (Op op.NotEqual) (ParsedName (at 4 5) (codes "y")) (ParsedNumber (at 4 10) 0 false false)) (ParsedAssign (at 4 13) (target (at 4 13) (codes "x") None) (ParsedBinary (Op op.Div) (ParsedName (at 4 17) (codes "x")) (ParsedName (at 4 21) (codes "y")))))
    (ParsedNext (ParsedAssign (at 5 1) (target (at 5 1) (codes "x") None) (ParsedBinary (Op op.Div) (ParsedName (at 5 5) (codes "x")) (ParsedName (at 5 9) (codes "y"))))
    ParsedLast)))) (at 6 1)) ∷ []

row_9 : refusal_of tree_9 ≡ accepted
unfolding value_of residue word_of value_in wrapped binary_of
row_9 = refl

-- export void go() {
-- int8 a = 100;
-- int8 b = a + a;
-- int c = -2147483648;
-- int d = c / -1;
-- int e = 5 << 32;
-- unsigned int8 f = a << 1;
-- }
abbrev tree_10 : ParsedSource
tree_10 =
    (function (at 1 13) (codes "go") (spec true false false false None None) ([])
    (ParsedNext (ParsedDeclare (at 2 1) (spec false false false false None (Some t.Int8)) (at 2 6) (codes "a") (Some (ParsedNumber (at 2 10) 100 false false)))
    (ParsedNext (ParsedDeclare (at 3 1) (spec false false false false None (Some t.Int8)) (at 3 6) (codes "b") (Some (ParsedBinary (Op op.Add) (ParsedName (at 3 10) (codes "a")) (ParsedName (at 3 14) (codes "a")))))
    (ParsedNext (ParsedDeclare (at 4 1) (spec false false false false None (Some t.Int32)) (at 4 5) (codes "c") (Some (ParsedUnary (at 4 9) unary.Negate (ParsedNumber (at 4 10) 2147483648 false false))))
    (ParsedNext (ParsedDeclare (at 5 1) (spec false false false false None (Some t.Int32)) (at 5 5) (codes "d") (Some (ParsedBinary (Op op.Div) (ParsedName (at 5 9) (codes "c")) (ParsedUnary (at 5 13) unary.Negate (ParsedNumber (at 5 14) 1 false false)))))
    (ParsedNext (ParsedDeclare (at 6 1) (spec false false false false None (Some t.Int32)) (at 6 5) (codes "e") (Some (ParsedBinary (Op op.Shl) (ParsedNumber (at 6 9) 5 false false) (ParsedNumber (at 6 14) 32 false false))))
    (ParsedNext (ParsedDeclare (at 7 1) (spec false false false false None (Some t.Uint8)) (at 7 15) (codes "f") (Some (ParsedBinary (Op op.Shl) (ParsedName (at 7 19) (codes "a")) (ParsedNumber (at 7 24) 1 false false))))
    ParsedLast)))))) (at 8 1)) ∷ []

row_10 : refusal_of tree_10 ≡ accepted
unfolding value_of residue word_of value_in wrapped binary_of
row_10 = refl

-- uniform int t = 0;
-- export void go() {
-- t += 1;
-- t += 1;
-- t += 1;
-- t += 1;
-- t += 1;
-- t += 1;
-- }
abbrev tree_11 : ParsedSource
tree_11 =
    (file_variable (at 1 13) (codes "t") (spec false false false false (Some Uniform) (Some t.Int32)) (Initial (Number false 0 false false))) ∷
    (function (at 2 13) (codes "go") (spec true false false false None None) ([])
    (ParsedNext (ParsedChange (at 3 1) (target (at 3 1) (codes "t") None) op.Add (ParsedNumber (at 3 6) 1 false false))
    (ParsedNext (ParsedChange (at 4 1) (target (at 4 1) (codes "t") None) op.Add (ParsedNumber (at 4 6) 1 false false))
    (ParsedNext (ParsedChange (at 5 1) (target (at 5 1) (codes "t") None) op.Add (ParsedNumber (at 5 6) 1 false false))
    (ParsedNext (ParsedChange (at 6 1) (target (at 6 1) (codes "t") None) op.Add (ParsedNumber (at 6 6) 1 false false))
    (ParsedNext (ParsedChange (at 7 1) (target (at 7 1) (codes "t") None) op.Add (ParsedNumber (at 7 6) 1 false false))
    (ParsedNext (ParsedChange (at 8 1) (target (at 8 1) (codes "t") None) op.Add (ParsedNumber (at 8 6) 1 false false))
    ParsedLast)))))) (at 9 1)) ∷ []

row_11 : refusal_of tree_11 ≡ accepted
unfolding value_of residue word_of value_in wrapped binary_of
row_11 = refl

-- uniform int t = 0;
-- export void go() {
-- uniform int i = 0;
-- while (i < 3) {
--
-- t += i;
-- i += 1;
-- }
-- }
abbrev tree_12 : ParsedSource
tree_12 =
    (file_variable (at 1 13) (codes "t") (spec false false false false (Some Uniform) (Some t.Int32)) (Initial (Number false 0 false false))) ∷
    (function (at 2 13) (codes "go") (spec true false false false None None) ([])
    (ParsedNext (ParsedDeclare (at 3 1) (spec false false false false (Some Uniform) (Some t.Int32)) (at 3 13) (codes "i") (Some (ParsedNumber (at 3 17) 0 false false)))
    (ParsedNext (ParsedWhile (at 4 1) (ParsedBinary (Op op.Less) (ParsedName (at 4 8) (codes "i")) (ParsedNumber (at 4 12) 3 false false)) (ParsedBlock (ParsedNext (ParsedChange (at 6 1) (target (at 6 1) (codes "t") None) op.Add (ParsedName (at 6 6) (codes "i")))
    (ParsedNext (ParsedChange (at 7 1) (target (at 7 1) (codes "i") None) op.Add (ParsedNumber (at 7 6) 1 false false))
    ParsedLast))))
    ParsedLast)) (at 9 1)) ∷ []

row_12 : refusal_of tree_12 ≡ accepted
unfolding value_of residue word_of value_in wrapped binary_of
row_12 = refl

-- int f(int k) {
-- int r = k + 1;
-- if (k > 1) return r;
-- return f(r);
-- }
-- export void go() {
-- int x = f(programIndex);
-- int y = f(2);
-- }
abbrev tree_13 : ParsedSource
tree_13 =
    (function (at 1 5) (codes "f") (spec false false false false None (Some t.Int32)) (parameter (at 1 11) (codes "k") (spec false false false false None (Some t.Int32)) false ∷ [])
    (ParsedNext (ParsedDeclare (at 2 1) (spec false false false false None (Some t.Int32)) (at 2 5) (codes "r") (Some (ParsedBinary (Op op.Add) (ParsedName (at 2 9) (codes "k")) (ParsedNumber (at 2 13) 1 false false))))
    (ParsedNext (ParsedIf (at 3 1) (ParsedBinary (Op op.Greater) (ParsedName (at 3 5) (codes "k")) (ParsedNumber (at 3 9) 1 false false)) (ParsedReturn (at 3 12) (Some (ParsedName (at 3 19) (codes "r")))))
    (ParsedNext (ParsedReturn (at 4 1) (Some (ParsedCall (at 4 8) (codes "f") (ParsedValue (ParsedName (at 4 10) (codes "r")) ParsedEnd))))
    ParsedLast))) (at 5 1)) ∷
    (function (at 6 13) (codes "go") (spec true false false false None None) ([])
    (ParsedNext (ParsedDeclare (at 7 1) (spec false false false false None (Some t.Int32)) (at 7 5) (codes "x") (Some (ParsedCall (at 7 9) (codes "f") (ParsedValue (ParsedName (at 7 11) (codes "programIndex")) ParsedEnd))))
    (ParsedNext (ParsedDeclare (at 8 1) (spec false false false false None (Some t.Int32)) (at 8 5) (codes "y") (Some (ParsedCall (at 8 9) (codes "f") (ParsedValue (ParsedNumber (at 8 11) 2 false false) ParsedEnd))))
    ParsedLast)) (at 9 1)) ∷ []

row_13 : refusal_of tree_13 ≡ accepted
unfolding value_of residue word_of value_in wrapped binary_of
row_13 = refl

-- uniform int k = 0;
-- export void go() {
-- foreach_unique (v in programIndex & 1) {
-- k = k * 10 + v + 1;
-- }
-- foreach_active (j)
-- k += 1;
-- }
abbrev tree_14 : ParsedSource
tree_14 =
    (file_variable (at 1 13) (codes "k") (spec false false false false (Some Uniform) (Some t.Int32)) (Initial (Number false 0 false false))) ∷
    (function (at 2 13) (codes "go") (spec true false false false None None) ([])
    (ParsedNext (ParsedForEachUnique (at 3 1) (at 3 17) (codes "v") (ParsedBinary (Op op.And) (ParsedName (at 3 22) (codes "programIndex")) (ParsedNumber (at 3 37) 1 false false)) (ParsedBlock (ParsedNext (ParsedAssign (at 4 1) (target (at 4 1) (codes "k") None) (ParsedBinary (Op op.Add) (ParsedBinary (Op op.Add) (ParsedBinary (Op op.Mul) (ParsedName (at 4 5) (codes "k")) (ParsedNumber (at 4 9) 10 false false)) (ParsedName (at 4 14) (codes "v"))) (ParsedNumber (at 4 18) 1 false false)))
    ParsedLast)))
    (ParsedNext (ParsedForEachActive (at 6 1) (at 6 17) (codes "j") (ParsedChange (at 7 1) (target (at 7 1) (codes "k") None) op.Add (ParsedNumber (at 7 6) 1 false false)))
    ParsedLast)) (at 8 1)) ∷ []

row_14 : refusal_of tree_14 ≡ accepted
unfolding value_of residue word_of value_in wrapped binary_of
row_14 = refl

-- export void go() { for (;;) ; }
abbrev tree_15 : ParsedSource
tree_15 =
    (function (at 1 13) (codes "go") (spec true false false false None None) ([])
    (ParsedNext (ParsedFor (at 1 20) ParsedEmpty None ParsedEmpty ParsedEmpty)
    ParsedLast) (at 1 31)) ∷ []

row_15 : refusal_of tree_15 ≡ accepted
unfolding value_of residue word_of value_in wrapped binary_of
row_15 = refl

-- uniform int a[4];
-- export void go() {
-- int v = programIndex + 1;
-- int w = rotate(v, -1);
-- int s = -1;
-- int t = -1;
-- uniform int n = 0;
-- if (programIndex == 1 || programIndex == 3) {
-- s = exclusive_scan_add(v);
-- t = rotate(v, 2);
-- n = packed_store_active(&a[1], v);
-- }
-- }
abbrev tree_16 : ParsedSource
tree_16 =
    (file_variable (at 1 13) (codes "a") (spec false false false false (Some Uniform) (Some t.Int32)) (Array 4)) ∷
    (function (at 2 13) (codes "go") (spec true false false false None None) ([])
    (ParsedNext (ParsedDeclare (at 3 1) (spec false false false false None (Some t.Int32)) (at 3 5) (codes "v") (Some (ParsedBinary (Op op.Add) (ParsedName (at 3 9) (codes "programIndex")) (ParsedNumber (at 3 24) 1 false false))))
    (ParsedNext (ParsedDeclare (at 4 1) (spec false false false false None (Some t.Int32)) (at 4 5) (codes "w") (Some (ParsedCall (at 4 9) (codes "rotate") (ParsedValue (ParsedName (at 4 16) (codes "v")) (ParsedValue (ParsedUnary (at 4 19) unary.Negate (ParsedNumber (at 4 20) 1 false false)) ParsedEnd)))))
    (ParsedNext (ParsedDeclare (at 5 1) (spec false false false false None (Some t.Int32)) (at 5 5) (codes "s") (Some (ParsedUnary (at 5 9) unary.Negate (ParsedNumber (at 5 10) 1 false false))))
    (ParsedNext (ParsedDeclare (at 6 1) (spec false false false false None (Some t.Int32)) (at 6 5) (codes "t") (Some (ParsedUnary (at 6 9) unary.Negate (ParsedNumber (at 6 10) 1 false false))))
    (ParsedNext (ParsedDeclare (at 7 1) (spec false false false false (Some Uniform) (Some t.Int32)) (at 7 13) (codes "n") (Some (ParsedNumber (at 7 17) 0 false false)))
    (ParsedNext (ParsedIf (at 8 1) (ParsedBinary OrElse (ParsedBinary (Op op.Equal) (ParsedName (at 8 5) (codes "programIndex")) (ParsedNumber (at 8 21) 1 false false)) (ParsedBinary (Op op.Equal) (ParsedName (at 8 26) (codes "programIndex")) (ParsedNumber (at 8 42) 3 false false))) (ParsedBlock (ParsedNext (ParsedAssign (at 9 1) (target (at 9 1) (codes "s") None) (ParsedCall (at 9 5) (codes "exclusive_scan_add") (ParsedValue (ParsedName (at 9 24) (codes "v")) ParsedEnd)))
    (ParsedNext (ParsedAssign (at 10 1) (target (at 10 1) (codes "t") None) (ParsedCall (at 10 5) (codes "rotate") (ParsedValue (ParsedName (at 10 12) (codes "v")) (ParsedValue (ParsedNumber (at 10 15) 2 false false) ParsedEnd))))
    (ParsedNext (ParsedAssign (at 11 1) (target (at 11 1) (codes "n") None) (ParsedCall (at 11 5) (codes "packed_store_active") (ParsedPartFrom (at 11 26) (codes "a") (ParsedNumber (at 11 28) 1 false false) (ParsedValue (ParsedName (at 11 32) (codes "v")) ParsedEnd))))
    ParsedLast)))))
    ParsedLast)))))) (at 13 1)) ∷ []

row_16 : refusal_of tree_16 ≡ accepted
unfolding value_of residue word_of value_in wrapped binary_of
row_16 = refl

-- uniform int8 q = 1;
-- export void go() {
-- foreach (i = 0 ... 4)
-- q += 1;
-- }
abbrev tree_17 : ParsedSource
tree_17 =
    (file_variable (at 1 14) (codes "q") (spec false false false false (Some Uniform) (Some t.Int8)) (Initial (Number false 1 false false))) ∷
    (function (at 2 13) (codes "go") (spec true false false false None None) ([])
    (ParsedNext (ParsedForEach (at 3 1) false (dimension (at 3 10) (codes "i") (ParsedNumber (at 3 14) 0 false false) (ParsedNumber (at 3 20) 4 false false) ∷ []) (ParsedChange (at 4 1) (target (at 4 1) (codes "q") None) op.Add (ParsedNumber (at 4 6) 1 false false)))
    ParsedLast) (at 5 1)) ∷ []

row_17 : refusal_of tree_17 ≡ accepted
unfolding value_of residue word_of value_in wrapped binary_of
row_17 = refl

-- export void go(uniform int n, uniform int a[]) {
-- foreach (i = 0 ... n) a[i] += n;
-- }
abbrev tree_18 : ParsedSource
tree_18 =
    (function (at 1 13) (codes "go") (spec true false false false None None) (parameter (at 1 28) (codes "n") (spec false false false false (Some Uniform) (Some t.Int32)) false ∷ parameter (at 1 43) (codes "a") (spec false false false false (Some Uniform) (Some t.Int32)) true ∷ [])
    (ParsedNext (ParsedForEach (at 2 1) false (dimension (at 2 10) (codes "i") (ParsedNumber (at 2 14) 0 false false) (ParsedName (at 2 20) (codes "n")) ∷ []) (ParsedChange (at 2 23) (target (at 2 23) (codes "a") (Some (ParsedName (at 2 25) (codes "i")))) op.Add (ParsedName (at 2 31) (codes "n"))))
    ParsedLast) (at 3 1)) ∷ []

row_18 : refusal_of tree_18 ≡ accepted
unfolding value_of residue word_of value_in wrapped binary_of
row_18 = refl

-- export void go() { assert(programIndex < 3); }
abbrev tree_19 : ParsedSource
tree_19 =
    (function (at 1 13) (codes "go") (spec true false false false None None) ([])
    (ParsedNext (ParsedDoCall (at 1 20) (codes "assert") (ParsedValue (ParsedBinary (Op op.Less) (ParsedName (at 1 27) (codes "programIndex")) (ParsedNumber (at 1 42) 3 false false)) ParsedEnd))
    ParsedLast) (at 1 46)) ∷ []

row_19 : refusal_of tree_19 ≡ accepted
unfolding value_of residue word_of value_in wrapped binary_of
row_19 = refl

-- export void go() { int x = extract(programIndex, 4); }
abbrev tree_20 : ParsedSource
tree_20 =
    (function (at 1 13) (codes "go") (spec true false false false None None) ([])
    (ParsedNext (ParsedDeclare (at 1 20) (spec false false false false None (Some t.Int32)) (at 1 24) (codes "x") (Some (ParsedCall (at 1 28) (codes "extract") (ParsedValue (ParsedName (at 1 36) (codes "programIndex")) (ParsedValue (ParsedNumber (at 1 50) 4 false false) ParsedEnd)))))
    ParsedLast) (at 1 54)) ∷ []

row_20 : refusal_of tree_20 ≡ accepted
unfolding value_of residue word_of value_in wrapped binary_of
row_20 = refl

-- void r() { r(); }
-- export void go() { r(); }
abbrev tree_21 : ParsedSource
tree_21 =
    (function (at 1 6) (codes "r") (spec false false false false None None) ([])
    (ParsedNext (ParsedDoCall (at 1 12) (codes "r") ParsedEnd)
    ParsedLast) (at 1 17)) ∷
    (function (at 2 13) (codes "go") (spec true false false false None None) ([])
    (ParsedNext (ParsedDoCall (at 2 20) (codes "r") ParsedEnd)
    ParsedLast) (at 2 25)) ∷ []

row_21 : refusal_of tree_21 ≡ accepted
unfolding value_of residue word_of value_in wrapped binary_of
row_21 = refl

-- export void go() {
-- int y = programIndex - 1;
-- bool b = y != 0 && 6 / y > 2;
-- int z = y == 0 ? 0 : 7 % y;
-- uniform uint8 u = 300;
-- int w = 7 / y;
-- }
abbrev tree_22 : ParsedSource
tree_22 =
    (function (at 1 13) (codes "go") (spec true false false false None None) ([])
    (ParsedNext (ParsedDeclare (at 2 1) (spec false false false false None (Some t.Int32)) (at 2 5) (codes "y") (Some (ParsedBinary (Op op.Sub) (ParsedName (at 2 9) (codes "programIndex")) (ParsedNumber (at 2 24) 1 false false))))
    (ParsedNext (ParsedDeclare (at 3 1) (spec false false false false None (Some t.Bool)) (at 3 6) (codes "b") (Some (ParsedBinary AndAlso (ParsedBinary (Op op.NotEqual) (ParsedName (at 3 10) (codes "y")) (ParsedNumber (at 3 15) 0 false false)) (ParsedBinary (Op op.Greater) (ParsedBinary (Op op.Div) (ParsedNumber (at 3 20) 6 false false) (ParsedName (at 3 24) (codes "y"))) (ParsedNumber (at 3 28) 2 false false)))))
    (ParsedNext (ParsedDeclare (at 4 1) (spec false false false false None (Some t.Int32)) (at 4 5) (codes "z") (Some (ParsedChoice (ParsedBinary (Op op.Equal) (ParsedName (at 4 9) (codes "y")) (ParsedNumber (at 4 14) 0 false false)) (ParsedNumber (at 4 18) 0 false false) (ParsedBinary (Op op.Rem) (ParsedNumber (at 4 22) 7 false false) (ParsedName (at 4 26) (codes "y"))))))
    (ParsedNext (ParsedDeclare (at 5 1) (spec false false false false (Some Uniform) (Some t.Uint8)) (at 5 15) (codes "u") (Some (ParsedNumber (at 5 19) 300 false false)))
    (ParsedNext (ParsedDeclare (at 6 1) (spec false false false false None (Some t.Int32)) (at 6 5) (codes "w") (Some (ParsedBinary (Op op.Div) (ParsedNumber (at 6 9) 7 false false) (ParsedName (at 6 13) (codes "y")))))
    ParsedLast))))) (at 7 1)) ∷ []

row_22 : refusal_of tree_22 ≡ accepted
unfolding value_of residue word_of value_in wrapped binary_of
row_22 = refl

-- export void go() { int q = 1 / (programIndex - 3) + 1 / programIndex; }
abbrev tree_23 : ParsedSource
tree_23 =
    (function (at 1 13) (codes "go") (spec true false false false None None) ([])
    (ParsedNext (ParsedDeclare (at 1 20) (spec false false false false None (Some t.Int32)) (at 1 24) (codes "q") (Some (ParsedBinary (Op op.Add) (ParsedBinary (Op op.Div) (ParsedNumber (at 1 28) 1 false false) (ParsedParen (at 1 32) (ParsedBinary (Op op.Sub) (ParsedName (at 1 33) (codes "programIndex")) (ParsedNumber (at 1 48) 3 false false)))) (ParsedBinary (Op op.Div) (ParsedNumber (at 1 53) 1 false false) (ParsedName (at 1 57) (codes "programIndex"))))))
    ParsedLast) (at 1 71)) ∷ []

row_23 : refusal_of tree_23 ≡ accepted
unfolding value_of residue word_of value_in wrapped binary_of
row_23 = refl

-- export void go() {
-- int x = 0;
-- for (int i = 0; i < 2; i++) {
-- if (programIndex == 0) continue;
-- x += 1;
-- }
-- }
abbrev tree_24 : ParsedSource
tree_24 =
    (function (at 1 13) (codes "go") (spec true false false false None None) ([])
    (ParsedNext (ParsedDeclare (at 2 1) (spec false false false false None (Some t.Int32)) (at 2 5) (codes "x") (Some (ParsedNumber (at 2 9) 0 false false)))
    (ParsedNext (ParsedFor (at 3 1) (ParsedDeclare (at 3 6) (spec false false false false None (Some t.Int32)) (at 3 10) (codes "i") (Some (ParsedNumber (at 3 14) 0 false false))) (Some (ParsedBinary (Op op.Less) (ParsedName (at 3 17) (codes "i")) (ParsedNumber (at 3 21) 2 false false))) (ParsedIncrement (at 3 24) (target (at 3 24) (codes "i") None) op.Add) (ParsedBlock (ParsedNext (ParsedIf (at 4 1) (ParsedBinary (Op op.Equal) (ParsedName (at 4 5) (codes "programIndex")) (ParsedNumber (at 4 21) 0 false false)) (ParsedContinue (at 4 24)))
    (ParsedNext (ParsedChange (at 5 1) (target (at 5 1) (codes "x") None) op.Add (ParsedNumber (at 5 6) 1 false false))
    ParsedLast))))
    ParsedLast)) (at 7 1)) ∷ []

row_24 : refusal_of tree_24 ≡ accepted
unfolding value_of residue word_of value_in wrapped binary_of
row_24 = refl

-- uniform int8 t[3];
-- export void go(uniform int n, uniform int a[]) {
-- a[programIndex] += n;
-- t[n] = n;
-- int g = a[n];
-- }
abbrev tree_25 : ParsedSource
tree_25 =
    (file_variable (at 1 14) (codes "t") (spec false false false false (Some Uniform) (Some t.Int8)) (Array 3)) ∷
    (function (at 2 13) (codes "go") (spec true false false false None None) (parameter (at 2 28) (codes "n") (spec false false false false (Some Uniform) (Some t.Int32)) false ∷ parameter (at 2 43) (codes "a") (spec false false false false (Some Uniform) (Some t.Int32)) true ∷ [])
    (ParsedNext (ParsedChange (at 3 1) (target (at 3 1) (codes "a") (Some (ParsedName (at 3 3) (codes "programIndex")))) op.Add (ParsedName (at 3 20) (codes "n")))
    (ParsedNext (ParsedAssign (at 4 1) (target (at 4 1) (codes "t") (Some (ParsedName (at 4 3) (codes "n")))) (ParsedName (at 4 8) (codes "n")))
    (ParsedNext (ParsedDeclare (at 5 1) (spec false false false false None (Some t.Int32)) (at 5 5) (codes "g") (Some (ParsedIndex (at 5 9) (codes "a") (ParsedName (at 5 11) (codes "n")))))
    ParsedLast))) (at 6 1)) ∷ []

row_25 : refusal_of tree_25 ≡ accepted
unfolding value_of residue word_of value_in wrapped binary_of
row_25 = refl

-- uniform int m[3];
-- void put(uniform int v[], uniform int k) {
-- v[k] = 7;
-- }
-- export void go() {
-- put(&m[1], 1);
-- put(&m[3], 0);
-- }
abbrev tree_26 : ParsedSource
tree_26 =
    (file_variable (at 1 13) (codes "m") (spec false false false false (Some Uniform) (Some t.Int32)) (Array 3)) ∷
    (function (at 2 6) (codes "put") (spec false false false false None None) (parameter (at 2 22) (codes "v") (spec false false false false (Some Uniform) (Some t.Int32)) true ∷ parameter (at 2 39) (codes "k") (spec false false false false (Some Uniform) (Some t.Int32)) false ∷ [])
    (ParsedNext (ParsedAssign (at 3 1) (target (at 3 1) (codes "v") (Some (ParsedName (at 3 3) (codes "k")))) (ParsedNumber (at 3 8) 7 false false))
    ParsedLast) (at 4 1)) ∷
    (function (at 5 13) (codes "go") (spec true false false false None None) ([])
    (ParsedNext (ParsedDoCall (at 6 1) (codes "put") (ParsedPartFrom (at 6 6) (codes "m") (ParsedNumber (at 6 8) 1 false false) (ParsedValue (ParsedNumber (at 6 12) 1 false false) ParsedEnd)))
    (ParsedNext (ParsedDoCall (at 7 1) (codes "put") (ParsedPartFrom (at 7 6) (codes "m") (ParsedNumber (at 7 8) 3 false false) (ParsedValue (ParsedNumber (at 7 12) 0 false false) ParsedEnd)))
    ParsedLast)) (at 8 1)) ∷ []

row_26 : refusal_of tree_26 ≡ accepted
unfolding value_of residue word_of value_in wrapped binary_of
row_26 = refl

-- export void go() {
-- int n = 0;
-- foreach (i = 2147483646 ... 2147483647)
-- n = i;
-- }
abbrev tree_27 : ParsedSource
tree_27 =
    (function (at 1 13) (codes "go") (spec true false false false None None) ([])
    (ParsedNext (ParsedDeclare (at 2 1) (spec false false false false None (Some t.Int32)) (at 2 5) (codes "n") (Some (ParsedNumber (at 2 9) 0 false false)))
    (ParsedNext (ParsedForEach (at 3 1) false (dimension (at 3 10) (codes "i") (ParsedNumber (at 3 14) 2147483646 false false) (ParsedNumber (at 3 29) 2147483647 false false) ∷ []) (ParsedAssign (at 4 1) (target (at 4 1) (codes "n") None) (ParsedName (at 4 5) (codes "i"))))
    ParsedLast)) (at 5 1)) ∷ []

row_27 : refusal_of tree_27 ≡ accepted
unfolding value_of residue word_of value_in wrapped binary_of
row_27 = refl

-- uniform int m[4];
-- export void go() {
-- int v = programIndex == 0 ? 5 : programIndex == 1 ? -2 : programIndex == 2 ? 7 : 3;
-- int w = programIndex + 1;
-- int p = programIndex == 1 ? 3 : 0;
-- int q = programIndex == 1 ? 7 : 1;
-- if (programIndex & 1) {
-- int64 r0 = reduce_add(v);
-- int64 r1 = reduce_min(v);
-- int64 r2 = reduce_max(v);
-- int64 r3 = reduce_equal(v);
-- ;
-- w = 0;
-- }
-- }
abbrev tree_28 : ParsedSource
tree_28 =
    (file_variable (at 1 13) (codes "m") (spec false false false false (Some Uniform) (Some t.Int32)) (Array 4)) ∷
    (function (at 2 13) (codes "go") (spec true false false false None None) ([])
    (ParsedNext (ParsedDeclare (at 3 1) (spec false false false false None (Some t.Int32)) (at 3 5) (codes "v") (Some (ParsedChoice (ParsedBinary (Op op.Equal) (ParsedName (at 3 9) (codes "programIndex")) (ParsedNumber (at 3 25) 0 false false)) (ParsedNumber (at 3 29) 5 false false) (ParsedChoice (ParsedBinary (Op op.Equal) (ParsedName (at 3 33) (codes "programIndex")) (ParsedNumber (at 3 49) 1 false false)) (ParsedUnary (at 3 53) unary.Negate (ParsedNumber (at 3 54) 2 false false)) (ParsedChoice (ParsedBinary (Op op.Equal) (ParsedName (at 3 58) (codes "programIndex")) (ParsedNumber (at 3 74) 2 false false)) (ParsedNumber (at 3 78) 7 false false) (ParsedNumber (at 3 82) 3 false false))))))
    (ParsedNext (ParsedDeclare (at 4 1) (spec false false false false None (Some t.Int32)) (at 4 5) (codes "w") (Some (ParsedBinary (Op op.Add) (ParsedName (at 4 9) (codes "programIndex")) (ParsedNumber (at 4 24) 1 false false))))
    (ParsedNext (ParsedDeclare (at 5 1) (spec false false false false None (Some t.Int32)) (at 5 5) (codes "p") (Some (ParsedChoice (ParsedBinary (Op op.Equal) (ParsedName (at 5 9) (codes "programIndex")) (ParsedNumber (at 5 25) 1 false false)) (ParsedNumber (at 5 29) 3 false false) (ParsedNumber (at 5 33) 0 false false))))
    (ParsedNext (ParsedDeclare (at 6 1) (spec false false false false None (Some t.Int32)) (at 6 5) (codes "q") (Some (ParsedChoice (ParsedBinary (Op op.Equal) (ParsedName (at 6 9) (codes "programIndex")) (ParsedNumber (at 6 25) 1 false false)) (ParsedNumber (at 6 29) 7 false false) (ParsedNumber (at 6 33) 1 false false))))
    (ParsedNext (ParsedIf (at 7 1) (ParsedBinary (Op op.And) (ParsedName (at 7 5) (codes "programIndex")) (ParsedNumber (at 7 20) 1 false false)) (ParsedBlock (ParsedNext (ParsedDeclare (at 8 1) (spec false false false false None (Some t.Int64)) (at 8 7) (codes "r0") (Some (ParsedCall (at 8 12) (codes "reduce_add") (ParsedValue (ParsedName (at 8 23) (codes "v")) ParsedEnd))))
    (ParsedNext (ParsedDeclare (at 9 1) (spec false false false false None (Some t.Int64)) (at 9 7) (codes "r1") (Some (ParsedCall (at 9 12) (codes "reduce_min") (ParsedValue (ParsedName (at 9 23) (codes "v")) ParsedEnd))))
    (ParsedNext (ParsedDeclare (at 10 1) (spec false false false false None (Some t.Int64)) (at 10 7) (codes "r2") (Some (ParsedCall (at 10 12) (codes "reduce_max") (ParsedValue (ParsedName (at 10 23) (codes "v")) ParsedEnd))))
    (ParsedNext (ParsedDeclare (at 11 1) (spec false false false false None (Some t.Int64)) (at 11 7) (codes "r3") (Some (ParsedCall (at 11 12) (codes "reduce_equal") (ParsedValue (ParsedName (at 11 25) (codes "v")) ParsedEnd))))
    (ParsedNext ParsedEmpty
    (ParsedNext (ParsedAssign (at 13 1) (target (at 13 1) (codes "w") None) (ParsedNumber (at 13 5) 0 false false))
    ParsedLast))))))))
    ParsedLast))))) (at 15 1)) ∷ []

row_28 : refusal_of tree_28 ≡ accepted
unfolding value_of residue word_of value_in wrapped binary_of
row_28 = refl

-- uniform int m[4];
-- export void go() {
-- int v = programIndex == 0 ? 5 : programIndex == 1 ? -2 : programIndex == 2 ? 7 : 3;
-- int w = programIndex + 1;
-- int p = programIndex == 1 ? 3 : 0;
-- int q = programIndex == 1 ? 7 : 1;
-- if (programIndex & 1) {
-- int64 r4 = any(v > 3);
-- int64 r5 = none(v > 3);
-- int64 r6 = all(v < 5);
-- int64 r7 = broadcast(v, 0);
-- ;
-- w = 0;
-- }
-- }
abbrev tree_29 : ParsedSource
tree_29 =
    (file_variable (at 1 13) (codes "m") (spec false false false false (Some Uniform) (Some t.Int32)) (Array 4)) ∷
    (function (at 2 13) (codes "go") (spec true false false false None None) ([])
    (ParsedNext (ParsedDeclare (at 3 1) (spec false false false false None (Some t.Int32)) (at 3 5) (codes "v") (Some (ParsedChoice (ParsedBinary (Op op.Equal) (ParsedName (at 3 9) (codes "programIndex")) (ParsedNumber (at 3 25) 0 false false)) (ParsedNumber (at 3 29) 5 false false) (ParsedChoice (ParsedBinary (Op op.Equal) (ParsedName (at 3 33) (codes "programIndex")) (ParsedNumber (at 3 49) 1 false false)) (ParsedUnary (at 3 53) unary.Negate (ParsedNumber (at 3 54) 2 false false)) (ParsedChoice (ParsedBinary (Op op.Equal) (ParsedName (at 3 58) (codes "programIndex")) (ParsedNumber (at 3 74) 2 false false)) (ParsedNumber (at 3 78) 7 false false) (ParsedNumber (at 3 82) 3 false false))))))
    (ParsedNext (ParsedDeclare (at 4 1) (spec false false false false None (Some t.Int32)) (at 4 5) (codes "w") (Some (ParsedBinary (Op op.Add) (ParsedName (at 4 9) (codes "programIndex")) (ParsedNumber (at 4 24) 1 false false))))
    (ParsedNext (ParsedDeclare (at 5 1) (spec false false false false None (Some t.Int32)) (at 5 5) (codes "p") (Some (ParsedChoice (ParsedBinary (Op op.Equal) (ParsedName (at 5 9) (codes "programIndex")) (ParsedNumber (at 5 25) 1 false false)) (ParsedNumber (at 5 29) 3 false false) (ParsedNumber (at 5 33) 0 false false))))
    (ParsedNext (ParsedDeclare (at 6 1) (spec false false false false None (Some t.Int32)) (at 6 5) (codes "q") (Some (ParsedChoice (ParsedBinary (Op op.Equal) (ParsedName (at 6 9) (codes "programIndex")) (ParsedNumber (at 6 25) 1 false false)) (ParsedNumber (at 6 29) 7 false false) (ParsedNumber (at 6 33) 1 false false))))
    (ParsedNext (ParsedIf (at 7 1) (ParsedBinary (Op op.And) (ParsedName (at 7 5) (codes "programIndex")) (ParsedNumber (at 7 20) 1 false false)) (ParsedBlock (ParsedNext (ParsedDeclare (at 8 1) (spec false false false false None (Some t.Int64)) (at 8 7) (codes "r4") (Some (ParsedCall (at 8 12) (codes "any") (ParsedValue (ParsedBinary (Op op.Greater) (ParsedName (at 8 16) (codes "v")) (ParsedNumber (at 8 20) 3 false false)) ParsedEnd))))
    (ParsedNext (ParsedDeclare (at 9 1) (spec false false false false None (Some t.Int64)) (at 9 7) (codes "r5") (Some (ParsedCall (at 9 12) (codes "none") (ParsedValue (ParsedBinary (Op op.Greater) (ParsedName (at 9 17) (codes "v")) (ParsedNumber (at 9 21) 3 false false)) ParsedEnd))))
    (ParsedNext (ParsedDeclare (at 10 1) (spec false false false false None (Some t.Int64)) (at 10 7) (codes "r6") (Some (ParsedCall (at 10 12) (codes "all") (ParsedValue (ParsedBinary (Op op.Less) (ParsedName (at 10 16) (codes "v")) (ParsedNumber (at 10 20) 5 false false)) ParsedEnd))))
    (ParsedNext (ParsedDeclare (at 11 1) (spec false false false false None (Some t.Int64)) (at 11 7) (codes "r7") (Some (ParsedCall (at 11 12) (codes "broadcast") (ParsedValue (ParsedName (at 11 22) (codes "v")) (ParsedValue (ParsedNumber (at 11 25) 0 false false) ParsedEnd)))))
    (ParsedNext ParsedEmpty
    (ParsedNext (ParsedAssign (at 13 1) (target (at 13 1) (codes "w") None) (ParsedNumber (at 13 5) 0 false false))
    ParsedLast))))))))
    ParsedLast))))) (at 15 1)) ∷ []

row_29 : refusal_of tree_29 ≡ accepted
unfolding value_of residue word_of value_in wrapped binary_of
row_29 = refl

-- uniform int m[4];
-- export void go() {
-- int v = programIndex == 0 ? 5 : programIndex == 1 ? -2 : programIndex == 2 ? 7 : 3;
-- int w = programIndex + 1;
-- int p = programIndex == 1 ? 3 : 0;
-- int q = programIndex == 1 ? 7 : 1;
-- if (programIndex & 1) {
-- int64 r8 = extract(v, 2);
-- int64 r9 = insert(v, 3, 9);
-- int64 r10 = lanemask();
-- int64 r11 = packmask(v > 0);
-- ;
-- w = 0;
-- }
-- }
abbrev tree_30 : ParsedSource
tree_30 =
    (file_variable (at 1 13) (codes "m") (spec false false false false (Some Uniform) (Some t.Int32)) (Array 4)) ∷
    (function (at 2 13) (codes "go") (spec true false false false None None) ([])
    (ParsedNext (ParsedDeclare (at 3 1) (spec false false false false None (Some t.Int32)) (at 3 5) (codes "v") (Some (ParsedChoice (ParsedBinary (Op op.Equal) (ParsedName (at 3 9) (codes "programIndex")) (ParsedNumber (at 3 25) 0 false false)) (ParsedNumber (at 3 29) 5 false false) (ParsedChoice (ParsedBinary (Op op.Equal) (ParsedName (at 3 33) (codes "programIndex")) (ParsedNumber (at 3 49) 1 false false)) (ParsedUnary (at 3 53) unary.Negate (ParsedNumber (at 3 54) 2 false false)) (ParsedChoice (ParsedBinary (Op op.Equal) (ParsedName (at 3 58) (codes "programIndex")) (ParsedNumber (at 3 74) 2 false false)) (ParsedNumber (at 3 78) 7 false false) (ParsedNumber (at 3 82) 3 false false))))))
    (ParsedNext (ParsedDeclare (at 4 1) (spec false false false false None (Some t.Int32)) (at 4 5) (codes "w") (Some (ParsedBinary (Op op.Add) (ParsedName (at 4 9) (codes "programIndex")) (ParsedNumber (at 4 24) 1 false false))))
    (ParsedNext (ParsedDeclare (at 5 1) (spec false false false false None (Some t.Int32)) (at 5 5) (codes "p") (Some (ParsedChoice (ParsedBinary (Op op.Equal) (ParsedName (at 5 9) (codes "programIndex")) (ParsedNumber (at 5 25) 1 false false)) (ParsedNumber (at 5 29) 3 false false) (ParsedNumber (at 5 33) 0 false false))))
    (ParsedNext (ParsedDeclare (at 6 1) (spec false false false false None (Some t.Int32)) (at 6 5) (codes "q") (Some (ParsedChoice (ParsedBinary (Op op.Equal) (ParsedName (at 6 9) (codes "programIndex")) (ParsedNumber (at 6 25) 1 false false)) (ParsedNumber (at 6 29) 7 false false) (ParsedNumber (at 6 33) 1 false false))))
    (ParsedNext (ParsedIf (at 7 1) (ParsedBinary (Op op.And) (ParsedName (at 7 5) (codes "programIndex")) (ParsedNumber (at 7 20) 1 false false)) (ParsedBlock (ParsedNext (ParsedDeclare (at 8 1) (spec false false false false None (Some t.Int64)) (at 8 7) (codes "r8") (Some (ParsedCall (at 8 12) (codes "extract") (ParsedValue (ParsedName (at 8 20) (codes "v")) (ParsedValue (ParsedNumber (at 8 23) 2 false false) ParsedEnd)))))
    (ParsedNext (ParsedDeclare (at 9 1) (spec false false false false None (Some t.Int64)) (at 9 7) (codes "r9") (Some (ParsedCall (at 9 12) (codes "insert") (ParsedValue (ParsedName (at 9 19) (codes "v")) (ParsedValue (ParsedNumber (at 9 22) 3 false false) (ParsedValue (ParsedNumber (at 9 25) 9 false false) ParsedEnd))))))
    (ParsedNext (ParsedDeclare (at 10 1) (spec false false false false None (Some t.Int64)) (at 10 7) (codes "r10") (Some (ParsedCall (at 10 13) (codes "lanemask") ParsedEnd)))
    (ParsedNext (ParsedDeclare (at 11 1) (spec false false false false None (Some t.Int64)) (at 11 7) (codes "r11") (Some (ParsedCall (at 11 13) (codes "packmask") (ParsedValue (ParsedBinary (Op op.Greater) (ParsedName (at 11 22) (codes "v")) (ParsedNumber (at 11 26) 0 false false)) ParsedEnd))))
    (ParsedNext ParsedEmpty
    (ParsedNext (ParsedAssign (at 13 1) (target (at 13 1) (codes "w") None) (ParsedNumber (at 13 5) 0 false false))
    ParsedLast))))))))
    ParsedLast))))) (at 15 1)) ∷ []

row_30 : refusal_of tree_30 ≡ accepted
unfolding value_of residue word_of value_in wrapped binary_of
row_30 = refl

-- uniform int m[4];
-- export void go() {
-- int v = programIndex == 0 ? 5 : programIndex == 1 ? -2 : programIndex == 2 ? 7 : 3;
-- int w = programIndex + 1;
-- int p = programIndex == 1 ? 3 : 0;
-- int q = programIndex == 1 ? 7 : 1;
-- if (programIndex & 1) {
-- int64 r12 = popcnt(v > 0);
-- int64 r13 = reduce_add((int16)32767) << 16;
-- int64 r14 = rotate(v, 2);
-- int64 r15 = shift(v, -2);
-- ;
-- w = 0;
-- }
-- }
abbrev tree_31 : ParsedSource
tree_31 =
    (file_variable (at 1 13) (codes "m") (spec false false false false (Some Uniform) (Some t.Int32)) (Array 4)) ∷
    (function (at 2 13) (codes "go") (spec true false false false None None) ([])
    (ParsedNext (ParsedDeclare (at 3 1) (spec false false false false None (Some t.Int32)) (at 3 5) (codes "v") (Some (ParsedChoice (ParsedBinary (Op op.Equal) (ParsedName (at 3 9) (codes "programIndex")) (ParsedNumber (at 3 25) 0 false false)) (ParsedNumber (at 3 29) 5 false false) (ParsedChoice (ParsedBinary (Op op.Equal) (ParsedName (at 3 33) (codes "programIndex")) (ParsedNumber (at 3 49) 1 false false)) (ParsedUnary (at 3 53) unary.Negate (ParsedNumber (at 3 54) 2 false false)) (ParsedChoice (ParsedBinary (Op op.Equal) (ParsedName (at 3 58) (codes "programIndex")) (ParsedNumber (at 3 74) 2 false false)) (ParsedNumber (at 3 78) 7 false false) (ParsedNumber (at 3 82) 3 false false))))))
    (ParsedNext (ParsedDeclare (at 4 1) (spec false false false false None (Some t.Int32)) (at 4 5) (codes "w") (Some (ParsedBinary (Op op.Add) (ParsedName (at 4 9) (codes "programIndex")) (ParsedNumber (at 4 24) 1 false false))))
    (ParsedNext (ParsedDeclare (at 5 1) (spec false false false false None (Some t.Int32)) (at 5 5) (codes "p") (Some (ParsedChoice (ParsedBinary (Op op.Equal) (ParsedName (at 5 9) (codes "programIndex")) (ParsedNumber (at 5 25) 1 false false)) (ParsedNumber (at 5 29) 3 false false) (ParsedNumber (at 5 33) 0 false false))))
    (ParsedNext (ParsedDeclare (at 6 1) (spec false false false false None (Some t.Int32)) (at 6 5) (codes "q") (Some (ParsedChoice (ParsedBinary (Op op.Equal) (ParsedName (at 6 9) (codes "programIndex")) (ParsedNumber (at 6 25) 1 false false)) (ParsedNumber (at 6 29) 7 false false) (ParsedNumber (at 6 33) 1 false false))))
    (ParsedNext (ParsedIf (at 7 1) (ParsedBinary (Op op.And) (ParsedName (at 7 5) (codes "programIndex")) (ParsedNumber (at 7 20) 1 false false)) (ParsedBlock (ParsedNext (ParsedDeclare (at 8 1) (spec false false false false None (Some t.Int64)) (at 8 7) (codes "r12") (Some (ParsedCall (at 8 13) (codes "popcnt") (ParsedValue (ParsedBinary (Op op.Greater) (ParsedName (at 8 20) (codes "v")) (ParsedNumber (at 8 24) 0 false false)) ParsedEnd))))
    (ParsedNext (ParsedDeclare (at 9 1) (spec false false false false None (Some t.Int64)) (at 9 7) (codes "r13") (Some (ParsedBinary (Op op.Shl) (ParsedCall (at 9 13) (codes "reduce_add") (ParsedValue (ParsedCast (at 9 24) None (Some t.Int16) (ParsedNumber (at 9 31) 32767 false false)) ParsedEnd)) (ParsedNumber (at 9 41) 16 false false))))
    (ParsedNext (ParsedDeclare (at 10 1) (spec false false false false None (Some t.Int64)) (at 10 7) (codes "r14") (Some (ParsedCall (at 10 13) (codes "rotate") (ParsedValue (ParsedName (at 10 20) (codes "v")) (ParsedValue (ParsedNumber (at 10 23) 2 false false) ParsedEnd)))))
    (ParsedNext (ParsedDeclare (at 11 1) (spec false false false false None (Some t.Int64)) (at 11 7) (codes "r15") (Some (ParsedCall (at 11 13) (codes "shift") (ParsedValue (ParsedName (at 11 19) (codes "v")) (ParsedValue (ParsedUnary (at 11 22) unary.Negate (ParsedNumber (at 11 23) 2 false false)) ParsedEnd)))))
    (ParsedNext ParsedEmpty
    (ParsedNext (ParsedAssign (at 13 1) (target (at 13 1) (codes "w") None) (ParsedNumber (at 13 5) 0 false false))
    ParsedLast))))))))
    ParsedLast))))) (at 15 1)) ∷ []

row_31 : refusal_of tree_31 ≡ accepted
unfolding value_of residue word_of value_in wrapped binary_of
row_31 = refl

-- uniform int m[4];
-- export void go() {
-- int v = programIndex == 0 ? 5 : programIndex == 1 ? -2 : programIndex == 2 ? 7 : 3;
-- int w = programIndex + 1;
-- int p = programIndex == 1 ? 3 : 0;
-- int q = programIndex == 1 ? 7 : 1;
-- if (programIndex & 1) {
-- int64 r16 = shuffle(v, p);
-- int64 r17 = shuffle(v, w, q);
-- int64 r18 = exclusive_scan_add(v);
-- int64 r19 = exclusive_scan_and(v);
-- ;
-- w = 0;
-- }
-- }
abbrev tree_32 : ParsedSource
tree_32 =
    (file_variable (at 1 13) (codes "m") (spec false false false false (Some Uniform) (Some t.Int32)) (Array 4)) ∷
    (function (at 2 13) (codes "go") (spec true false false false None None) ([])
    (ParsedNext (ParsedDeclare (at 3 1) (spec false false false false None (Some t.Int32)) (at 3 5) (codes "v") (Some (ParsedChoice (ParsedBinary (Op op.Equal) (ParsedName (at 3 9) (codes "programIndex")) (ParsedNumber (at 3 25) 0 false false)) (ParsedNumber (at 3 29) 5 false false) (ParsedChoice (ParsedBinary (Op op.Equal) (ParsedName (at 3 33) (codes "programIndex")) (ParsedNumber (at 3 49) 1 false false)) (ParsedUnary (at 3 53) unary.Negate (ParsedNumber (at 3 54) 2 false false)) (ParsedChoice (ParsedBinary (Op op.Equal) (ParsedName (at 3 58) (codes "programIndex")) (ParsedNumber (at 3 74) 2 false false)) (ParsedNumber (at 3 78) 7 false false) (ParsedNumber (at 3 82) 3 false false))))))
    (ParsedNext (ParsedDeclare (at 4 1) (spec false false false false None (Some t.Int32)) (at 4 5) (codes "w") (Some (ParsedBinary (Op op.Add) (ParsedName (at 4 9) (codes "programIndex")) (ParsedNumber (at 4 24) 1 false false))))
    (ParsedNext (ParsedDeclare (at 5 1) (spec false false false false None (Some t.Int32)) (at 5 5) (codes "p") (Some (ParsedChoice (ParsedBinary (Op op.Equal) (ParsedName (at 5 9) (codes "programIndex")) (ParsedNumber (at 5 25) 1 false false)) (ParsedNumber (at 5 29) 3 false false) (ParsedNumber (at 5 33) 0 false false))))
    (ParsedNext (ParsedDeclare (at 6 1) (spec false false false false None (Some t.Int32)) (at 6 5) (codes "q") (Some (ParsedChoice (ParsedBinary (Op op.Equal) (ParsedName (at 6 9) (codes "programIndex")) (ParsedNumber (at 6 25) 1 false false)) (ParsedNumber (at 6 29) 7 false false) (ParsedNumber (at 6 33) 1 false false))))
    (ParsedNext (ParsedIf (at 7 1) (ParsedBinary (Op op.And) (ParsedName (at 7 5) (codes "programIndex")) (ParsedNumber (at 7 20) 1 false false)) (ParsedBlock (ParsedNext (ParsedDeclare (at 8 1) (spec false false false false None (Some t.Int64)) (at 8 7) (codes "r16") (Some (ParsedCall (at 8 13) (codes "shuffle") (ParsedValue (ParsedName (at 8 21) (codes "v")) (ParsedValue (ParsedName (at 8 24) (codes "p")) ParsedEnd)))))
    (ParsedNext (ParsedDeclare (at 9 1) (spec false false false false None (Some t.Int64)) (at 9 7) (codes "r17") (Some (ParsedCall (at 9 13) (codes "shuffle") (ParsedValue (ParsedName (at 9 21) (codes "v")) (ParsedValue (ParsedName (at 9 24) (codes "w")) (ParsedValue (ParsedName (at 9 27) (codes "q")) ParsedEnd))))))
    (ParsedNext (ParsedDeclare (at 10 1) (spec false false false false None (Some t.Int64)) (at 10 7) (codes "r18") (Some (ParsedCall (at 10 13) (codes "exclusive_scan_add") (ParsedValue (ParsedName (at 10 32) (codes "v")) ParsedEnd))))
    (ParsedNext (ParsedDeclare (at 11 1) (spec false false false false None (Some t.Int64)) (at 11 7) (codes "r19") (Some (ParsedCall (at 11 13) (codes "exclusive_scan_and") (ParsedValue (ParsedName (at 11 32) (codes "v")) ParsedEnd))))
    (ParsedNext ParsedEmpty
    (ParsedNext (ParsedAssign (at 13 1) (target (at 13 1) (codes "w") None) (ParsedNumber (at 13 5) 0 false false))
    ParsedLast))))))))
    ParsedLast))))) (at 15 1)) ∷ []

row_32 : refusal_of tree_32 ≡ accepted
unfolding value_of residue word_of value_in wrapped binary_of
row_32 = refl

-- uniform int m[4];
-- export void go() {
-- int v = programIndex == 0 ? 5 : programIndex == 1 ? -2 : programIndex == 2 ? 7 : 3;
-- int w = programIndex + 1;
-- int p = programIndex == 1 ? 3 : 0;
-- int q = programIndex == 1 ? 7 : 1;
-- if (programIndex & 1) {
-- int64 r20 = exclusive_scan_or(v);
-- int64 r21 = popcnt(v);
-- int64 r22 = clamp(v, 0, 2);
-- int64 r23 = abs(v);
-- ;
-- w = 0;
-- }
-- }
abbrev tree_33 : ParsedSource
tree_33 =
    (file_variable (at 1 13) (codes "m") (spec false false false false (Some Uniform) (Some t.Int32)) (Array 4)) ∷
    (function (at 2 13) (codes "go") (spec true false false false None None) ([])
    (ParsedNext (ParsedDeclare (at 3 1) (spec false false false false None (Some t.Int32)) (at 3 5) (codes "v") (Some (ParsedChoice (ParsedBinary (Op op.Equal) (ParsedName (at 3 9) (codes "programIndex")) (ParsedNumber (at 3 25) 0 false false)) (ParsedNumber (at 3 29) 5 false false) (ParsedChoice (ParsedBinary (Op op.Equal) (ParsedName (at 3 33) (codes "programIndex")) (ParsedNumber (at 3 49) 1 false false)) (ParsedUnary (at 3 53) unary.Negate (ParsedNumber (at 3 54) 2 false false)) (ParsedChoice (ParsedBinary (Op op.Equal) (ParsedName (at 3 58) (codes "programIndex")) (ParsedNumber (at 3 74) 2 false false)) (ParsedNumber (at 3 78) 7 false false) (ParsedNumber (at 3 82) 3 false false))))))
    (ParsedNext (ParsedDeclare (at 4 1) (spec false false false false None (Some t.Int32)) (at 4 5) (codes "w") (Some (ParsedBinary (Op op.Add) (ParsedName (at 4 9) (codes "programIndex")) (ParsedNumber (at 4 24) 1 false false))))
    (ParsedNext (ParsedDeclare (at 5 1) (spec false false false false None (Some t.Int32)) (at 5 5) (codes "p") (Some (ParsedChoice (ParsedBinary (Op op.Equal) (ParsedName (at 5 9) (codes "programIndex")) (ParsedNumber (at 5 25) 1 false false)) (ParsedNumber (at 5 29) 3 false false) (ParsedNumber (at 5 33) 0 false false))))
    (ParsedNext (ParsedDeclare (at 6 1) (spec false false false false None (Some t.Int32)) (at 6 5) (codes "q") (Some (ParsedChoice (ParsedBinary (Op op.Equal) (ParsedName (at 6 9) (codes "programIndex")) (ParsedNumber (at 6 25) 1 false false)) (ParsedNumber (at 6 29) 7 false false) (ParsedNumber (at 6 33) 1 false false))))
    (ParsedNext (ParsedIf (at 7 1) (ParsedBinary (Op op.And) (ParsedName (at 7 5) (codes "programIndex")) (ParsedNumber (at 7 20) 1 false false)) (ParsedBlock (ParsedNext (ParsedDeclare (at 8 1) (spec false false false false None (Some t.Int64)) (at 8 7) (codes "r20") (Some (ParsedCall (at 8 13) (codes "exclusive_scan_or") (ParsedValue (ParsedName (at 8 31) (codes "v")) ParsedEnd))))
    (ParsedNext (ParsedDeclare (at 9 1) (spec false false false false None (Some t.Int64)) (at 9 7) (codes "r21") (Some (ParsedCall (at 9 13) (codes "popcnt") (ParsedValue (ParsedName (at 9 20) (codes "v")) ParsedEnd))))
    (ParsedNext (ParsedDeclare (at 10 1) (spec false false false false None (Some t.Int64)) (at 10 7) (codes "r22") (Some (ParsedCall (at 10 13) (codes "clamp") (ParsedValue (ParsedName (at 10 19) (codes "v")) (ParsedValue (ParsedNumber (at 10 22) 0 false false) (ParsedValue (ParsedNumber (at 10 25) 2 false false) ParsedEnd))))))
    (ParsedNext (ParsedDeclare (at 11 1) (spec false false false false None (Some t.Int64)) (at 11 7) (codes "r23") (Some (ParsedCall (at 11 13) (codes "abs") (ParsedValue (ParsedName (at 11 17) (codes "v")) ParsedEnd))))
    (ParsedNext ParsedEmpty
    (ParsedNext (ParsedAssign (at 13 1) (target (at 13 1) (codes "w") None) (ParsedNumber (at 13 5) 0 false false))
    ParsedLast))))))))
    ParsedLast))))) (at 15 1)) ∷ []

row_33 : refusal_of tree_33 ≡ accepted
unfolding value_of residue word_of value_in wrapped binary_of
row_33 = refl

-- uniform int m[4];
-- export void go() {
-- int v = programIndex == 0 ? 5 : programIndex == 1 ? -2 : programIndex == 2 ? 7 : 3;
-- int w = programIndex + 1;
-- int p = programIndex == 1 ? 3 : 0;
-- int q = programIndex == 1 ? 7 : 1;
-- if (programIndex & 1) {
-- int64 r24 = min(v, 0);
-- ;
-- w = 0;
-- }
-- }
abbrev tree_34 : ParsedSource
tree_34 =
    (file_variable (at 1 13) (codes "m") (spec false false false false (Some Uniform) (Some t.Int32)) (Array 4)) ∷
    (function (at 2 13) (codes "go") (spec true false false false None None) ([])
    (ParsedNext (ParsedDeclare (at 3 1) (spec false false false false None (Some t.Int32)) (at 3 5) (codes "v") (Some (ParsedChoice (ParsedBinary (Op op.Equal) (ParsedName (at 3 9) (codes "programIndex")) (ParsedNumber (at 3 25) 0 false false)) (ParsedNumber (at 3 29) 5 false false) (ParsedChoice (ParsedBinary (Op op.Equal) (ParsedName (at 3 33) (codes "programIndex")) (ParsedNumber (at 3 49) 1 false false)) (ParsedUnary (at 3 53) unary.Negate (ParsedNumber (at 3 54) 2 false false)) (ParsedChoice (ParsedBinary (Op op.Equal) (ParsedName (at 3 58) (codes "programIndex")) (ParsedNumber (at 3 74) 2 false false)) (ParsedNumber (at 3 78) 7 false false) (ParsedNumber (at 3 82) 3 false false))))))
    (ParsedNext (ParsedDeclare (at 4 1) (spec false false false false None (Some t.Int32)) (at 4 5) (codes "w") (Some (ParsedBinary (Op op.Add) (ParsedName (at 4 9) (codes "programIndex")) (ParsedNumber (at 4 24) 1 false false))))
    (ParsedNext (ParsedDeclare (at 5 1) (spec false false false false None (Some t.Int32)) (at 5 5) (codes "p") (Some (ParsedChoice (ParsedBinary (Op op.Equal) (ParsedName (at 5 9) (codes "programIndex")) (ParsedNumber (at 5 25) 1 false false)) (ParsedNumber (at 5 29) 3 false false) (ParsedNumber (at 5 33) 0 false false))))
    (ParsedNext (ParsedDeclare (at 6 1) (spec false false false false None (Some t.Int32)) (at 6 5) (codes "q") (Some (ParsedChoice (ParsedBinary (Op op.Equal) (ParsedName (at 6 9) (codes "programIndex")) (ParsedNumber (at 6 25) 1 false false)) (ParsedNumber (at 6 29) 7 false false) (ParsedNumber (at 6 33) 1 false false))))
    (ParsedNext (ParsedIf (at 7 1) (ParsedBinary (Op op.And) (ParsedName (at 7 5) (codes "programIndex")) (ParsedNumber (at 7 20) 1 false false)) (ParsedBlock (ParsedNext (ParsedDeclare (at 8 1) (spec false false false false None (Some t.Int64)) (at 8 7) (codes "r24") (Some (ParsedCall (at 8 13) (codes "min") (ParsedValue (ParsedName (at 8 17) (codes "v")) (ParsedValue (ParsedNumber (at 8 20) 0 false false) ParsedEnd)))))
    (ParsedNext ParsedEmpty
    (ParsedNext (ParsedAssign (at 10 1) (target (at 10 1) (codes "w") None) (ParsedNumber (at 10 5) 0 false false))
    ParsedLast)))))
    ParsedLast))))) (at 12 1)) ∷ []

row_34 : refusal_of tree_34 ≡ accepted
unfolding value_of residue word_of value_in wrapped binary_of
row_34 = refl

-- uniform int m[4];
-- export void go() {
-- m[programIndex] = programIndex * 10;
-- if (programIndex & 1) {
-- int x = 1;
-- uniform int n = packed_load_active(&m[1], &x);
-- n = packed_load_active(&m[3], &x);
-- }
-- }
abbrev tree_35 : ParsedSource
tree_35 =
    (file_variable (at 1 13) (codes "m") (spec false false false false (Some Uniform) (Some t.Int32)) (Array 4)) ∷
    (function (at 2 13) (codes "go") (spec true false false false None None) ([])
    (ParsedNext (ParsedAssign (at 3 1) (target (at 3 1) (codes "m") (Some (ParsedName (at 3 3) (codes "programIndex")))) (ParsedBinary (Op op.Mul) (ParsedName (at 3 19) (codes "programIndex")) (ParsedNumber (at 3 34) 10 false false)))
    (ParsedNext (ParsedIf (at 4 1) (ParsedBinary (Op op.And) (ParsedName (at 4 5) (codes "programIndex")) (ParsedNumber (at 4 20) 1 false false)) (ParsedBlock (ParsedNext (ParsedDeclare (at 5 1) (spec false false false false None (Some t.Int32)) (at 5 5) (codes "x") (Some (ParsedNumber (at 5 9) 1 false false)))
    (ParsedNext (ParsedDeclare (at 6 1) (spec false false false false (Some Uniform) (Some t.Int32)) (at 6 13) (codes "n") (Some (ParsedCall (at 6 17) (codes "packed_load_active") (ParsedPartFrom (at 6 37) (codes "m") (ParsedNumber (at 6 39) 1 false false) (ParsedPart (at 6 44) (codes "x") ParsedEnd)))))
    (ParsedNext (ParsedAssign (at 7 1) (target (at 7 1) (codes "n") None) (ParsedCall (at 7 5) (codes "packed_load_active") (ParsedPartFrom (at 7 25) (codes "m") (ParsedNumber (at 7 27) 3 false false) (ParsedPart (at 7 32) (codes "x") ParsedEnd))))
    ParsedLast)))))
    ParsedLast)) (at 9 1)) ∷ []

row_35 : refusal_of tree_35 ≡ accepted
unfolding value_of residue word_of value_in wrapped binary_of
row_35 = refl

-- export void go() {
-- int x = 0;
-- switch (programIndex) {
-- case 0: x += 1;
-- case 2: x += 10; break;
-- default: x += 100;
-- }
-- x += 1000;
-- }
abbrev tree_36 : ParsedSource
tree_36 =
    (function (at 1 13) (codes "go") (spec true false false false None None) ([])
    (ParsedNext (ParsedDeclare (at 2 1) (spec false false false false None (Some t.Int32)) (at 2 5) (codes "x") (Some (ParsedNumber (at 2 9) 0 false false)))
    (ParsedNext (ParsedSwitch (at 3 1) (ParsedName (at 3 9) (codes "programIndex")) (ParsedSegment (at 4 1) (Some (label false 0)) (ParsedNext (ParsedChange (at 4 9) (target (at 4 9) (codes "x") None) op.Add (ParsedNumber (at 4 14) 1 false false)) ParsedLast) (ParsedSegment (at 5 1) (Some (label false 2)) (ParsedNext (ParsedChange (at 5 9) (target (at 5 9) (codes "x") None) op.Add (ParsedNumber (at 5 14) 10 false false)) (ParsedNext (ParsedBreak (at 5 18)) ParsedLast)) (ParsedSegment (at 6 1) None (ParsedNext (ParsedChange (at 6 10) (target (at 6 10) (codes "x") None) op.Add (ParsedNumber (at 6 15) 100 false false)) ParsedLast) ParsedNoMore))))
    (ParsedNext (ParsedChange (at 8 1) (target (at 8 1) (codes "x") None) op.Add (ParsedNumber (at 8 6) 1000 false false))
    ParsedLast))) (at 9 1)) ∷ []

row_36 : refusal_of tree_36 ≡ accepted
unfolding value_of residue word_of value_in wrapped binary_of
row_36 = refl

-- export void go() { switch (programCount) { case 5: ; } }
abbrev tree_37 : ParsedSource
tree_37 =
    (function (at 1 13) (codes "go") (spec true false false false None None) ([])
    (ParsedNext (ParsedSwitch (at 1 20) (ParsedName (at 1 28) (codes "programCount")) (ParsedSegment (at 1 44) (Some (label false 5)) (ParsedNext ParsedEmpty ParsedLast) ParsedNoMore))
    ParsedLast) (at 1 56)) ∷ []

row_37 : refusal_of tree_37 ≡ accepted
unfolding value_of residue word_of value_in wrapped binary_of
row_37 = refl

-- export void go() {
-- int8 i = 1;
-- i <<= programIndex; i %= 3; i--; ++i; i ^= true;
-- bool b = i;
-- b |= 4;
-- cif (b) ; else { }
-- cdo { } while (!b); cfor (; b; ) b = false; cwhile (b) { }
-- }
abbrev tree_38 : ParsedSource
tree_38 =
    (function (at 1 13) (codes "go") (spec true false false false None None) ([])
    (ParsedNext (ParsedDeclare (at 2 1) (spec false false false false None (Some t.Int8)) (at 2 6) (codes "i") (Some (ParsedNumber (at 2 10) 1 false false)))
    (ParsedNext (ParsedChange (at 3 1) (target (at 3 1) (codes "i") None) op.Shl (ParsedName (at 3 7) (codes "programIndex")))
    (ParsedNext (ParsedChange (at 3 21) (target (at 3 21) (codes "i") None) op.Rem (ParsedNumber (at 3 26) 3 false false))
    (ParsedNext (ParsedIncrement (at 3 29) (target (at 3 29) (codes "i") None) op.Sub)
    (ParsedNext (ParsedIncrement (at 3 34) (target (at 3 36) (codes "i") None) op.Add)
    (ParsedNext (ParsedChange (at 3 39) (target (at 3 39) (codes "i") None) op.Xor (ParsedBool (at 3 44) true))
    (ParsedNext (ParsedDeclare (at 4 1) (spec false false false false None (Some t.Bool)) (at 4 6) (codes "b") (Some (ParsedName (at 4 10) (codes "i"))))
    (ParsedNext (ParsedChange (at 5 1) (target (at 5 1) (codes "b") None) op.Or (ParsedNumber (at 5 6) 4 false false))
    (ParsedNext (ParsedIfElse (at 6 1) (ParsedName (at 6 6) (codes "b")) ParsedEmpty (ParsedBlock ParsedLast))
    (ParsedNext (ParsedDo (ParsedBlock ParsedLast) (at 7 9) (ParsedUnary (at 7 16) unary.Not (ParsedName (at 7 17) (codes "b"))))
    (ParsedNext (ParsedFor (at 7 21) ParsedEmpty (Some (ParsedName (at 7 29) (codes "b"))) ParsedEmpty (ParsedAssign (at 7 34) (target (at 7 34) (codes "b") None) (ParsedBool (at 7 38) false)))
    (ParsedNext (ParsedWhile (at 7 45) (ParsedName (at 7 53) (codes "b")) (ParsedBlock ParsedLast))
    ParsedLast)))))))))))) (at 8 1)) ∷ []

row_38 : refusal_of tree_38 ≡ accepted
unfolding value_of residue word_of value_in wrapped binary_of
row_38 = refl

-- static inline int f(const uniform int8 a[], int b) { return a[b]; }
-- const uniform int8 t[4];
-- export uniform int go(uniform int n) {
-- int x = f(&t[n], n);
-- x = (f(t, 1));
-- f((t), 2);
-- return n;
-- }
abbrev tree_39 : ParsedSource
tree_39 =
    (function (at 1 19) (codes "f") (spec false true true false None (Some t.Int32)) (parameter (at 1 40) (codes "a") (spec false false false true (Some Uniform) (Some t.Int8)) true ∷ parameter (at 1 49) (codes "b") (spec false false false false None (Some t.Int32)) false ∷ [])
    (ParsedNext (ParsedReturn (at 1 54) (Some (ParsedIndex (at 1 61) (codes "a") (ParsedName (at 1 63) (codes "b")))))
    ParsedLast) (at 1 67)) ∷
    (file_variable (at 2 20) (codes "t") (spec false false false true (Some Uniform) (Some t.Int8)) (Array 4)) ∷
    (function (at 3 20) (codes "go") (spec true false false false (Some Uniform) (Some t.Int32)) (parameter (at 3 35) (codes "n") (spec false false false false (Some Uniform) (Some t.Int32)) false ∷ [])
    (ParsedNext (ParsedDeclare (at 4 1) (spec false false false false None (Some t.Int32)) (at 4 5) (codes "x") (Some (ParsedCall (at 4 9) (codes "f") (ParsedPartFrom (at 4 12) (codes "t") (ParsedName (at 4 14) (codes "n")) (ParsedValue (ParsedName (at 4 18) (codes "n")) ParsedEnd)))))
    (ParsedNext (ParsedAssign (at 5 1) (target (at 5 1) (codes "x") None) (ParsedParen (at 5 5) (ParsedCall (at 5 6) (codes "f") (ParsedValue (ParsedName (at 5 8) (codes "t")) (ParsedValue (ParsedNumber (at 5 11) 1 false false) ParsedEnd)))))
    (ParsedNext (ParsedDoCall (at 6 1) (codes "f") (ParsedValue (ParsedParen (at 6 3) (ParsedName (at 6 4) (codes "t"))) (ParsedValue (ParsedNumber (at 6 8) 2 false false) ParsedEnd)))
    (ParsedNext (ParsedReturn (at 7 1) (Some (ParsedName (at 7 8) (codes "n"))))
    ParsedLast)))) (at 8 1)) ∷ []

row_39 : refusal_of tree_39 ≡ accepted
unfolding value_of residue word_of value_in wrapped binary_of
row_39 = refl

-- varying int8 v = -1;
-- export void go() {
-- for (v = 0; v < 3; v += 1) { continue; }
-- for (step(); ; step()) break;
-- }
-- void step() { }
abbrev tree_40 : ParsedSource
tree_40 =
    (file_variable (at 1 14) (codes "v") (spec false false false false (Some Varying) (Some t.Int8)) (Initial (Number true 1 false false))) ∷
    (function (at 2 13) (codes "go") (spec true false false false None None) ([])
    (ParsedNext (ParsedFor (at 3 1) (ParsedAssign (at 3 6) (target (at 3 6) (codes "v") None) (ParsedNumber (at 3 10) 0 false false)) (Some (ParsedBinary (Op op.Less) (ParsedName (at 3 13) (codes "v")) (ParsedNumber (at 3 17) 3 false false))) (ParsedChange (at 3 20) (target (at 3 20) (codes "v") None) op.Add (ParsedNumber (at 3 25) 1 false false)) (ParsedBlock (ParsedNext (ParsedContinue (at 3 30))
    ParsedLast)))
    (ParsedNext (ParsedFor (at 4 1) (ParsedDoCall (at 4 6) (codes "step") ParsedEnd) None (ParsedDoCall (at 4 16) (codes "step") ParsedEnd) (ParsedBreak (at 4 24)))
    ParsedLast)) (at 5 1)) ∷
    (function (at 6 6) (codes "step") (spec false false false false None None) ([])
    ParsedLast (at 6 15)) ∷ []

row_40 : refusal_of tree_40 ≡ accepted
unfolding value_of residue word_of value_in wrapped binary_of
row_40 = refl
