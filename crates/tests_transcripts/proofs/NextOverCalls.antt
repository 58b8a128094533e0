-- `next N` takes the depth before each of its moves.
use Rattle.std.specs.Prelude.{◌≡◌, refl, true, false, [], ◌∷◌, Some, None, codes}
use Rattle.std.specs.Fmt.{digits}
use Rattle.gang_types.specs.Values.{value_of, residue, word_of, value_in, wrapped, binary_of}
use Rattle.gang_types.specs.declared.types.IntType.TheVariants as t
use Rattle.gang_types.specs.declared.operators.BinaryOp.TheVariants as op
use Rattle.gang_model.specs.declared.forms.Infix.TheVariants.{Op}
use Rattle.gang_model.specs.Source.Parsed.{ParsedNumber, ParsedName, ParsedCall, ParsedBinary, ParsedEnd, ParsedValue, ParsedDeclare, ParsedReturn, ParsedLast, ParsedNext, ParsedSource}
use Rattle.tests_transcripts.proofs.Forms.{at, spec, parameter, function, options, run}

-- int f(int k) {
-- return k + 1;
-- }
-- export void go() {
-- int x = f(1);
-- int y = f(2);
-- }
abbrev pub source : ParsedSource
source =
    (function (at 1 5) (codes "f") (spec false false false false None (Some t.Int32)) (parameter (at 1 11) (codes "k") (spec false false false false None (Some t.Int32)) false ∷ [])
    (ParsedNext (ParsedReturn (at 2 1) (Some (ParsedBinary (Op op.Add) (ParsedName (at 2 8) (codes "k")) (ParsedNumber (at 2 12) 1 false false))))
    ParsedLast) (at 3 1)) ∷
    (function (at 4 13) (codes "go") (spec true false false false None None) ([])
    (ParsedNext (ParsedDeclare (at 5 1) (spec false false false false None (Some t.Int32)) (at 5 5) (codes "x") (Some (ParsedCall (at 5 9) (codes "f") (ParsedValue (ParsedNumber (at 5 11) 1 false false) ParsedEnd))))
    (ParsedNext (ParsedDeclare (at 6 1) (spec false false false false None (Some t.Int32)) (at 6 5) (codes "y") (Some (ParsedCall (at 6 9) (codes "f") (ParsedValue (ParsedNumber (at 6 11) 2 false false) ParsedEnd))))
    ParsedLast)) (at 7 1)) ∷ []

row_1 : run source (codes "") (options 4 64 1000000)
    (codes "step 2\nnext 2\nreverse-next\nprint x\n")
    ≡ codes "at 3:1 f depth 2 lanes 1111\nat 7:1 go depth 1 lanes 1111\nat 6:1 go depth 1 lanes 1111\nx = 2 2 2 2\n"
unfolding digits value_of residue word_of value_in wrapped binary_of
row_1 = refl
