-- A varying function gives 0 where a lane did not return, a uniform one what was returned last.
use Rattle.std.specs.Prelude.{◌≡◌, refl, true, false, [], ◌∷◌, Some, None, codes}
use Rattle.std.specs.Fmt.{digits}
use Rattle.gang_types.specs.Values.{value_of, residue, word_of, value_in, wrapped, binary_of}
use Rattle.gang_types.specs.declared.types.Rate.TheVariants.{Uniform}
use Rattle.gang_types.specs.declared.types.IntType.TheVariants as t
use Rattle.gang_types.specs.declared.operators.BinaryOp.TheVariants as op
use Rattle.gang_model.specs.declared.forms.Infix.TheVariants.{Op}
use Rattle.gang_model.specs.Source.Parsed.{ParsedNumber, ParsedName, ParsedCall, ParsedBinary, ParsedEnd, ParsedValue, ParsedBlock, ParsedDeclare, ParsedAssign, ParsedReturn, ParsedIf, ParsedLast, ParsedNext, ParsedSource}
use Rattle.tests_transcripts.proofs.Forms.{at, spec, target, parameter, function, options, run}

-- int f(int k) {
-- if (k == 1) return 10;
-- if (k == 2) return 20;
-- }
-- uniform int g(int k) {
-- if (k > 1) return 5;
-- if (k < 1) return 7;
-- }
-- export void go() {
-- int x = f(programIndex);
-- uniform int y = g(programIndex);
-- if (programIndex > 2) x = f(1);
-- if (programIndex == 1) { uniform int z = g(1); y = z; }
-- }
abbrev pub source : ParsedSource
source =
    (function (at 1 5) (codes "f") (spec false false false false None (Some t.Int32)) (parameter (at 1 11) (codes "k") (spec false false false false None (Some t.Int32)) false ∷ [])
    (ParsedNext (ParsedIf (at 2 1) (ParsedBinary (Op op.Equal) (ParsedName (at 2 5) (codes "k")) (ParsedNumber (at 2 10) 1 false false)) (ParsedReturn (at 2 13) (Some (ParsedNumber (at 2 20) 10 false false))))
    (ParsedNext (ParsedIf (at 3 1) (ParsedBinary (Op op.Equal) (ParsedName (at 3 5) (codes "k")) (ParsedNumber (at 3 10) 2 false false)) (ParsedReturn (at 3 13) (Some (ParsedNumber (at 3 20) 20 false false))))
    ParsedLast)) (at 4 1)) ∷
    (function (at 5 13) (codes "g") (spec false false false false (Some Uniform) (Some t.Int32)) (parameter (at 5 19) (codes "k") (spec false false false false None (Some t.Int32)) false ∷ [])
    (ParsedNext (ParsedIf (at 6 1) (ParsedBinary (Op op.Greater) (ParsedName (at 6 5) (codes "k")) (ParsedNumber (at 6 9) 1 false false)) (ParsedReturn (at 6 12) (Some (ParsedNumber (at 6 19) 5 false false))))
    (ParsedNext (ParsedIf (at 7 1) (ParsedBinary (Op op.Less) (ParsedName (at 7 5) (codes "k")) (ParsedNumber (at 7 9) 1 false false)) (ParsedReturn (at 7 12) (Some (ParsedNumber (at 7 19) 7 false false))))
    ParsedLast)) (at 8 1)) ∷
    (function (at 9 13) (codes "go") (spec true false false false None None) ([])
    (ParsedNext (ParsedDeclare (at 10 1) (spec false false false false None (Some t.Int32)) (at 10 5) (codes "x") (Some (ParsedCall (at 10 9) (codes "f") (ParsedValue (ParsedName (at 10 11) (codes "programIndex")) ParsedEnd))))
    (ParsedNext (ParsedDeclare (at 11 1) (spec false false false false (Some Uniform) (Some t.Int32)) (at 11 13) (codes "y") (Some (ParsedCall (at 11 17) (codes "g") (ParsedValue (ParsedName (at 11 19) (codes "programIndex")) ParsedEnd))))
    (ParsedNext (ParsedIf (at 12 1) (ParsedBinary (Op op.Greater) (ParsedName (at 12 5) (codes "programIndex")) (ParsedNumber (at 12 20) 2 false false)) (ParsedAssign (at 12 23) (target (at 12 23) (codes "x") None) (ParsedCall (at 12 27) (codes "f") (ParsedValue (ParsedNumber (at 12 29) 1 false false) ParsedEnd))))
    (ParsedNext (ParsedIf (at 13 1) (ParsedBinary (Op op.Equal) (ParsedName (at 13 5) (codes "programIndex")) (ParsedNumber (at 13 21) 1 false false)) (ParsedBlock (ParsedNext (ParsedDeclare (at 13 26) (spec false false false false (Some Uniform) (Some t.Int32)) (at 13 38) (codes "z") (Some (ParsedCall (at 13 42) (codes "g") (ParsedValue (ParsedNumber (at 13 44) 1 false false) ParsedEnd))))
    (ParsedNext (ParsedAssign (at 13 48) (target (at 13 48) (codes "y") None) (ParsedName (at 13 52) (codes "z")))
    ParsedLast))))
    ParsedLast)))) (at 14 1)) ∷ []

row_1 : run source (codes "") (options 4 64 1000000)
    (codes "next\nprint x\nnext\nprint y\nnext 2\nprint x\nnext 2\nprint z\nnext\nprint y\n")
    ≡ codes "at 11:1 go depth 1 lanes 1111\nx = 0 10 20 0\nat 12:1 go depth 1 lanes 1111\ny = 7\nat 13:1 go depth 1 lanes 1111\nx = 0 10 20 10\nat 13:48 go depth 1 lanes 0100\nz = 0\nat 14:1 go depth 1 lanes 1111\ny = 0\n"
unfolding digits value_of residue word_of value_in wrapped binary_of
row_1 = refl
