-- `return` leaves all loops of its function, and no loop of another.
use Rattle.std.specs.Prelude.{◌≡◌, refl, true, false, [], ◌∷◌, Some, None, codes}
use Rattle.std.specs.Fmt.{digits}
use Rattle.gang_types.specs.Values.{value_of, residue, word_of, value_in, wrapped, binary_of}
use Rattle.gang_types.specs.declared.types.IntType.TheVariants as t
use Rattle.gang_types.specs.declared.operators.BinaryOp.TheVariants as op
use Rattle.gang_model.specs.declared.forms.Infix.TheVariants.{Op}
use Rattle.gang_model.specs.Source.Parsed.{ParsedNumber, ParsedBool, ParsedName, ParsedCall, ParsedBinary, ParsedEnd, ParsedValue, ParsedBlock, ParsedDeclare, ParsedIncrement, ParsedBreak, ParsedReturn, ParsedIf, ParsedWhile, ParsedFor, ParsedLast, ParsedNext, ParsedSource}
use Rattle.tests_transcripts.proofs.Forms.{at, spec, target, parameter, function, options, run}

-- int f(int k) {
-- for (int i = 0; ; i++) {
-- while (true) {
-- if (i >= k) return i * 10;
-- break;
-- }
-- }
-- }
-- export void go() {
-- int x = f(programIndex / 2);
-- }
abbrev pub source : ParsedSource
source =
    (function (at 1 5) (codes "f") (spec false false false false None (Some t.Int32)) (parameter (at 1 11) (codes "k") (spec false false false false None (Some t.Int32)) false ∷ [])
    (ParsedNext (ParsedFor (at 2 1) (ParsedDeclare (at 2 6) (spec false false false false None (Some t.Int32)) (at 2 10) (codes "i") (Some (ParsedNumber (at 2 14) 0 false false))) None (ParsedIncrement (at 2 19) (target (at 2 19) (codes "i") None) op.Add) (ParsedBlock (ParsedNext (ParsedWhile (at 3 1) (ParsedBool (at 3 8) true) (ParsedBlock (ParsedNext (ParsedIf (at 4 1) (ParsedBinary (Op op.GreaterEqual) (ParsedName (at 4 5) (codes "i")) (ParsedName (at 4 10) (codes "k"))) (ParsedReturn (at 4 13) (Some (ParsedBinary (Op op.Mul) (ParsedName (at 4 20) (codes "i")) (ParsedNumber (at 4 24) 10 false false)))))
    (ParsedNext (ParsedBreak (at 5 1))
    ParsedLast))))
    ParsedLast)))
    ParsedLast) (at 8 1)) ∷
    (function (at 9 13) (codes "go") (spec true false false false None None) ([])
    (ParsedNext (ParsedDeclare (at 10 1) (spec false false false false None (Some t.Int32)) (at 10 5) (codes "x") (Some (ParsedCall (at 10 9) (codes "f") (ParsedValue (ParsedBinary (Op op.Div) (ParsedName (at 10 11) (codes "programIndex")) (ParsedNumber (at 10 26) 2 false false)) ParsedEnd))))
    ParsedLast) (at 11 1)) ∷ []

row_1 : run source (codes "") (options 4 64 1000000)
    (codes "step 6\nstep\nstep 4\nstep\nstep\nprint x\n")
    ≡ codes "at 5:1 f depth 2 lanes 0011\nat 2:19 f depth 2 lanes 0011\nat 4:13 f depth 2 lanes 0011\nat 8:1 f depth 2 lanes 1111\nat 11:1 go depth 1 lanes 1111\nx = 0 0 10 10\n"
unfolding digits value_of residue word_of value_in wrapped binary_of
row_1 = refl
