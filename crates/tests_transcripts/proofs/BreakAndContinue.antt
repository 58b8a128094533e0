-- Lanes that broke out wait behind the loop, lanes that continued at its test. Refuses a lane that broke out and rejoins at the next inner join.
use Rattle.std.specs.Prelude.{◌≡◌, refl, true, false, [], ◌∷◌, Some, None, codes}
use Rattle.std.specs.Fmt.{digits}
use Rattle.gang_types.specs.Values.{value_of, residue, word_of, value_in, wrapped, binary_of}
use Rattle.gang_types.specs.declared.types.IntType.TheVariants as t
use Rattle.gang_types.specs.declared.operators.BinaryOp.TheVariants as op
use Rattle.gang_model.specs.declared.forms.Infix.TheVariants.{Op}
use Rattle.gang_model.specs.Source.Parsed.{ParsedNumber, ParsedName, ParsedBinary, ParsedBlock, ParsedDeclare, ParsedChange, ParsedBreak, ParsedContinue, ParsedIf, ParsedWhile, ParsedLast, ParsedNext, ParsedSource}
use Rattle.tests_transcripts.proofs.Forms.{at, spec, target, function, options, run}

-- export void go() {
-- int x = 0;
-- while (x < 2) {
-- x += 1;
-- if (programIndex == 1) break;
-- if (programIndex == 2) continue;
-- x += programIndex;
-- }
-- }
abbrev pub source : ParsedSource
source =
    (function (at 1 13) (codes "go") (spec true false false false None None) ([])
    (ParsedNext (ParsedDeclare (at 2 1) (spec false false false false None (Some t.Int32)) (at 2 5) (codes "x") (Some (ParsedNumber (at 2 9) 0 false false)))
    (ParsedNext (ParsedWhile (at 3 1) (ParsedBinary (Op op.Less) (ParsedName (at 3 8) (codes "x")) (ParsedNumber (at 3 12) 2 false false)) (ParsedBlock (ParsedNext (ParsedChange (at 4 1) (target (at 4 1) (codes "x") None) op.Add (ParsedNumber (at 4 6) 1 false false))
    (ParsedNext (ParsedIf (at 5 1) (ParsedBinary (Op op.Equal) (ParsedName (at 5 5) (codes "programIndex")) (ParsedNumber (at 5 21) 1 false false)) (ParsedBreak (at 5 24)))
    (ParsedNext (ParsedIf (at 6 1) (ParsedBinary (Op op.Equal) (ParsedName (at 6 5) (codes "programIndex")) (ParsedNumber (at 6 21) 2 false false)) (ParsedContinue (at 6 24)))
    (ParsedNext (ParsedChange (at 7 1) (target (at 7 1) (codes "x") None) op.Add (ParsedName (at 7 6) (codes "programIndex")))
    ParsedLast))))))
    ParsedLast)) (at 9 1)) ∷ []

row_1 : run source (codes "") (options 4 64 1000000)
    (codes "step 4\nstep\nstep 2\nstep\nstep\nstep 6\nprint x\nreverse-step 15\nreverse-step\n")
    ≡ codes "at 5:24 go depth 1 lanes 0100\nat 6:1 go depth 1 lanes 1011\nat 7:1 go depth 1 lanes 1001\nat 3:1 go depth 1 lanes 1011\nat 4:1 go depth 1 lanes 1010\nat 9:1 go depth 1 lanes 1111\nx = 2 1 2 4\nat 2:1 go depth 1 lanes 1111\nC3 NoHistory\n"
unfolding digits value_of residue word_of value_in wrapped binary_of
row_1 = refl
