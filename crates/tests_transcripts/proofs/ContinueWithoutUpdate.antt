-- `continue` in a `for` without update goes to its test.
use Rattle.std.specs.Prelude.{◌≡◌, refl, true, false, [], ◌∷◌, Some, None, codes}
use Rattle.std.specs.Fmt.{digits}
use Rattle.gang_types.specs.Values.{value_of, residue, word_of, value_in, wrapped, binary_of}
use Rattle.gang_types.specs.declared.types.IntType.TheVariants as t
use Rattle.gang_types.specs.declared.operators.BinaryOp.TheVariants as op
use Rattle.gang_model.specs.declared.forms.Infix.TheVariants.{Op}
use Rattle.gang_model.specs.Source.Parsed.{ParsedNumber, ParsedName, ParsedBinary, ParsedEmpty, ParsedBlock, ParsedDeclare, ParsedChange, ParsedContinue, ParsedIf, ParsedFor, ParsedLast, ParsedNext, ParsedSource}
use Rattle.tests_transcripts.proofs.Forms.{at, spec, target, function, options, run}

-- export void go() {
-- int x = 0;
-- for (int i = 0; i < 2; ) {
-- i += 1;
-- if (programIndex < i) continue;
-- x += 10;
-- }
-- x += programIndex;
-- }
abbrev pub source : ParsedSource
source =
    (function (at 1 13) (codes "go") (spec true false false false None None) ([])
    (ParsedNext (ParsedDeclare (at 2 1) (spec false false false false None (Some t.Int32)) (at 2 5) (codes "x") (Some (ParsedNumber (at 2 9) 0 false false)))
    (ParsedNext (ParsedFor (at 3 1) (ParsedDeclare (at 3 6) (spec false false false false None (Some t.Int32)) (at 3 10) (codes "i") (Some (ParsedNumber (at 3 14) 0 false false))) (Some (ParsedBinary (Op op.Less) (ParsedName (at 3 17) (codes "i")) (ParsedNumber (at 3 21) 2 false false))) ParsedEmpty (ParsedBlock (ParsedNext (ParsedChange (at 4 1) (target (at 4 1) (codes "i") None) op.Add (ParsedNumber (at 4 6) 1 false false))
    (ParsedNext (ParsedIf (at 5 1) (ParsedBinary (Op op.Less) (ParsedName (at 5 5) (codes "programIndex")) (ParsedName (at 5 20) (codes "i"))) (ParsedContinue (at 5 23)))
    (ParsedNext (ParsedChange (at 6 1) (target (at 6 1) (codes "x") None) op.Add (ParsedNumber (at 6 6) 10 false false))
    ParsedLast)))))
    (ParsedNext (ParsedChange (at 8 1) (target (at 8 1) (codes "x") None) op.Add (ParsedName (at 8 6) (codes "programIndex")))
    ParsedLast))) (at 9 1)) ∷ []

row_1 : run source (codes "") (options 4 64 1000000)
    (codes "step\nstep\nstep 3\nstep\nstep\nstep 3\nstep\nstep 2\nstep\nprint x\n")
    ≡ codes "at 3:6 go depth 1 lanes 1111\nat 3:1 go depth 1 lanes 1111\nat 5:23 go depth 1 lanes 1000\nat 6:1 go depth 1 lanes 0111\nat 3:1 go depth 1 lanes 1111\nat 5:23 go depth 1 lanes 1100\nat 6:1 go depth 1 lanes 0011\nat 8:1 go depth 1 lanes 1111\nat 9:1 go depth 1 lanes 1111\nx = 0 11 22 23\n"
unfolding digits value_of residue word_of value_in wrapped binary_of
row_1 = refl
