-- `continue` goes to the update. Refuses a `continue` that skips the update.
use Rattle.std.specs.Prelude.{◌≡◌, refl, true, false, [], ◌∷◌, Some, None, codes}
use Rattle.std.specs.Fmt.{digits}
use Rattle.gang_types.specs.Values.{value_of, residue, word_of, value_in, wrapped, binary_of}
use Rattle.gang_types.specs.declared.types.IntType.TheVariants as t
use Rattle.gang_types.specs.declared.operators.BinaryOp.TheVariants as op
use Rattle.gang_model.specs.declared.forms.Infix.TheVariants.{Op}
use Rattle.gang_model.specs.Source.Parsed.{ParsedNumber, ParsedName, ParsedBinary, ParsedBlock, ParsedDeclare, ParsedChange, ParsedIncrement, ParsedContinue, ParsedIf, ParsedFor, ParsedLast, ParsedNext, ParsedSource}
use Rattle.tests_transcripts.proofs.Forms.{at, spec, target, function, options, run}

-- export void go() {
-- int x = 0;
-- for (int i = 0; i < 2; i++) {
-- if (programIndex == 0) continue;
-- x += 1;
-- }
-- }
abbrev pub source : ParsedSource
source =
    (function (at 1 13) (codes "go") (spec true false false false None None) ([])
    (ParsedNext (ParsedDeclare (at 2 1) (spec false false false false None (Some t.Int32)) (at 2 5) (codes "x") (Some (ParsedNumber (at 2 9) 0 false false)))
    (ParsedNext (ParsedFor (at 3 1) (ParsedDeclare (at 3 6) (spec false false false false None (Some t.Int32)) (at 3 10) (codes "i") (Some (ParsedNumber (at 3 14) 0 false false))) (Some (ParsedBinary (Op op.Less) (ParsedName (at 3 17) (codes "i")) (ParsedNumber (at 3 21) 2 false false))) (ParsedIncrement (at 3 24) (target (at 3 24) (codes "i") None) op.Add) (ParsedBlock (ParsedNext (ParsedIf (at 4 1) (ParsedBinary (Op op.Equal) (ParsedName (at 4 5) (codes "programIndex")) (ParsedNumber (at 4 21) 0 false false)) (ParsedContinue (at 4 24)))
    (ParsedNext (ParsedChange (at 5 1) (target (at 5 1) (codes "x") None) op.Add (ParsedNumber (at 5 6) 1 false false))
    ParsedLast))))
    ParsedLast)) (at 7 1)) ∷ []

row_1 : run source (codes "") (options 4 64 1000000)
    (codes "step 4\nstep\nstep\nstep 7\nprint x\n")
    ≡ codes "at 4:24 go depth 1 lanes 1000\nat 5:1 go depth 1 lanes 0111\nat 3:24 go depth 1 lanes 1111\nat 7:1 go depth 1 lanes 1111\nx = 0 2 2 2\n"
unfolding digits value_of residue word_of value_in wrapped binary_of
row_1 = refl
