-- The frames with the places and lanes of their calls.
use Rattle.std.specs.Prelude.{◌≡◌, refl, true, false, [], ◌∷◌, Some, None, codes}
use Rattle.std.specs.Fmt.{digits}
use Rattle.gang_types.specs.Values.{value_of, residue, word_of, value_in, wrapped, binary_of}
use Rattle.gang_types.specs.declared.types.IntType.TheVariants as t
use Rattle.gang_types.specs.declared.operators.BinaryOp.TheVariants as op
use Rattle.gang_model.specs.declared.forms.Infix.TheVariants.{Op}
use Rattle.gang_model.specs.Source.Parsed.{ParsedNumber, ParsedName, ParsedCall, ParsedBinary, ParsedEnd, ParsedValue, ParsedDeclare, ParsedReturn, ParsedIf, ParsedLast, ParsedNext, ParsedSource}
use Rattle.tests_transcripts.proofs.Forms.{at, spec, parameter, function, options, run}

-- int f(int k) {
-- int r = k + 1;
-- if (k > 1) return r;
-- return f(r);
-- }
-- export void go() {
-- int x = f(programIndex);
-- int y = f(2);
-- }
abbrev pub source : ParsedSource
source =
    (function (at 1 5) (codes "f") (spec false false false false None (Some t.Int32)) (parameter (at 1 11) (codes "k") (spec false false false false None (Some t.Int32)) false ∷ [])
    (ParsedNext (ParsedDeclare (at 2 1) (spec false false false false None (Some t.Int32)) (at 2 5) (codes "r") (Some (ParsedBinary (Op op.Add) (ParsedName (at 2 9) (codes "k")) (ParsedNumber (at 2 13) 1 false false))))
    (ParsedNext (ParsedIf (at 3 1) (ParsedBinary (Op op.Greater) (ParsedName (at 3 5) (codes "k")) (ParsedNumber (at 3 9) 1 false false)) (ParsedReturn (at 3 12) (Some (ParsedName (at 3 19) (codes "r")))))
    (ParsedNext (ParsedReturn (at 4 1) (Some (ParsedCall (at 4 8) (codes "f") (ParsedValue (ParsedName (at 4 10) (codes "r")) ParsedEnd))))
    ParsedLast))) (at 5 1)) ∷
    (function (at 6 13) (codes "go") (spec true false false false None None) ([])
    (ParsedNext (ParsedDeclare (at 7 1) (spec false false false false None (Some t.Int32)) (at 7 5) (codes "x") (Some (ParsedCall (at 7 9) (codes "f") (ParsedValue (ParsedName (at 7 11) (codes "programIndex")) ParsedEnd))))
    (ParsedNext (ParsedDeclare (at 8 1) (spec false false false false None (Some t.Int32)) (at 8 5) (codes "y") (Some (ParsedCall (at 8 9) (codes "f") (ParsedValue (ParsedNumber (at 8 11) 2 false false) ParsedEnd))))
    ParsedLast)) (at 9 1)) ∷ []

row_1 : run source (codes "") (options 4 64 1000000)
    (codes "step 5\nbacktrace\ncontinue\nbt\n")
    ≡ codes "at 2:1 f depth 3 lanes 1100\nat 2:1 f depth 3 lanes 1100\nat 4:1 f depth 2 lanes 1100\nat 7:1 go depth 1 lanes 1111\nended\nended\n"
unfolding digits value_of residue word_of value_in wrapped binary_of
row_1 = refl
