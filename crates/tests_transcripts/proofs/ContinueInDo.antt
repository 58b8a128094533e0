-- `continue` in a `do` goes to its test.
use Rattle.std.specs.Prelude.{◌≡◌, refl, true, false, [], ◌∷◌, Some, None, codes}
use Rattle.std.specs.Fmt.{digits}
use Rattle.gang_types.specs.Values.{value_of, residue, word_of, value_in, wrapped, binary_of}
use Rattle.gang_types.specs.declared.types.IntType.TheVariants as t
use Rattle.gang_types.specs.declared.operators.BinaryOp.TheVariants as op
use Rattle.gang_model.specs.declared.forms.Infix.TheVariants.{Op}
use Rattle.gang_model.specs.Source.Parsed.{ParsedNumber, ParsedName, ParsedBinary, ParsedBlock, ParsedDeclare, ParsedChange, ParsedContinue, ParsedIf, ParsedDo, ParsedLast, ParsedNext, ParsedSource}
use Rattle.tests_transcripts.proofs.Forms.{at, spec, target, function, options, run}

-- export void go() {
-- int n = 0;
-- do {
-- n += 1;
-- if (programIndex == 0) continue;
-- n += 10;
-- } while (n < 2);
-- }
abbrev pub source : ParsedSource
source =
    (function (at 1 13) (codes "go") (spec true false false false None None) ([])
    (ParsedNext (ParsedDeclare (at 2 1) (spec false false false false None (Some t.Int32)) (at 2 5) (codes "n") (Some (ParsedNumber (at 2 9) 0 false false)))
    (ParsedNext (ParsedDo (ParsedBlock (ParsedNext (ParsedChange (at 4 1) (target (at 4 1) (codes "n") None) op.Add (ParsedNumber (at 4 6) 1 false false))
    (ParsedNext (ParsedIf (at 5 1) (ParsedBinary (Op op.Equal) (ParsedName (at 5 5) (codes "programIndex")) (ParsedNumber (at 5 21) 0 false false)) (ParsedContinue (at 5 24)))
    (ParsedNext (ParsedChange (at 6 1) (target (at 6 1) (codes "n") None) op.Add (ParsedNumber (at 6 6) 10 false false))
    ParsedLast)))) (at 7 3) (ParsedBinary (Op op.Less) (ParsedName (at 7 10) (codes "n")) (ParsedNumber (at 7 14) 2 false false)))
    ParsedLast)) (at 8 1)) ∷ []

row_1 : run source (codes "") (options 4 64 1000000)
    (codes "step 3\nstep\nstep\nstep\nstep 3\nstep\nprint n\nreverse-step 10\n")
    ≡ codes "at 5:24 go depth 1 lanes 1000\nat 6:1 go depth 1 lanes 0111\nat 7:3 go depth 1 lanes 1111\nat 4:1 go depth 1 lanes 1000\nat 7:3 go depth 1 lanes 1000\nat 8:1 go depth 1 lanes 1111\nn = 2 11 11 11\nat 2:1 go depth 1 lanes 1111\n"
unfolding digits value_of residue word_of value_in wrapped binary_of
row_1 = refl
