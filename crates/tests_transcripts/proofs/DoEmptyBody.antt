-- A `do` without a step in its body goes straight to its test.
use Rattle.std.specs.Prelude.{◌≡◌, refl, true, false, [], ◌∷◌, Some, None, codes}
use Rattle.std.specs.Fmt.{digits}
use Rattle.gang_types.specs.Values.{value_of, residue, word_of, value_in, wrapped, binary_of}
use Rattle.gang_types.specs.declared.types.IntType.TheVariants as t
use Rattle.gang_types.specs.declared.operators.BinaryOp.TheVariants as op
use Rattle.gang_model.specs.declared.forms.Infix.TheVariants.{Op}
use Rattle.gang_model.specs.Source.Parsed.{ParsedNumber, ParsedName, ParsedBinary, ParsedEmpty, ParsedBlock, ParsedDeclare, ParsedAssign, ParsedDo, ParsedLast, ParsedNext, ParsedSource}
use Rattle.tests_transcripts.proofs.Forms.{at, spec, target, function, options, run}

-- export void go() {
-- int x = 0;
-- do { ; } while (programIndex > 9);
-- x = 1;
-- do ; while (x < 1);
-- }
abbrev pub source : ParsedSource
source =
    (function (at 1 13) (codes "go") (spec true false false false None None) ([])
    (ParsedNext (ParsedDeclare (at 2 1) (spec false false false false None (Some t.Int32)) (at 2 5) (codes "x") (Some (ParsedNumber (at 2 9) 0 false false)))
    (ParsedNext (ParsedDo (ParsedBlock (ParsedNext ParsedEmpty
    ParsedLast)) (at 3 10) (ParsedBinary (Op op.Greater) (ParsedName (at 3 17) (codes "programIndex")) (ParsedNumber (at 3 32) 9 false false)))
    (ParsedNext (ParsedAssign (at 4 1) (target (at 4 1) (codes "x") None) (ParsedNumber (at 4 5) 1 false false))
    (ParsedNext (ParsedDo ParsedEmpty (at 5 6) (ParsedBinary (Op op.Less) (ParsedName (at 5 13) (codes "x")) (ParsedNumber (at 5 17) 1 false false)))
    ParsedLast)))) (at 6 1)) ∷ []

row_1 : run source (codes "") (options 4 64 1000000)
    (codes "step\nstep\nstep\nstep\nstep\n")
    ≡ codes "at 3:10 go depth 1 lanes 1111\nat 4:1 go depth 1 lanes 1111\nat 5:6 go depth 1 lanes 1111\nat 6:1 go depth 1 lanes 1111\nended\n"
unfolding digits value_of residue word_of value_in wrapped binary_of
row_1 = refl
