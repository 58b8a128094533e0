-- `break` leaves its own loop alone: not the loop around it, nor the one after it.
use Rattle.std.specs.Prelude.{◌≡◌, refl, true, false, [], ◌∷◌, Some, None, codes}
use Rattle.std.specs.Fmt.{digits}
use Rattle.gang_types.specs.Values.{value_of, residue, word_of, value_in, wrapped, binary_of}
use Rattle.gang_types.specs.declared.types.IntType.TheVariants as t
use Rattle.gang_types.specs.declared.operators.BinaryOp.TheVariants as op
use Rattle.gang_model.specs.declared.forms.Infix.TheVariants.{Op}
use Rattle.gang_model.specs.Source.Parsed.{ParsedNumber, ParsedName, ParsedBinary, ParsedBlock, ParsedDeclare, ParsedChange, ParsedIncrement, ParsedBreak, ParsedIf, ParsedWhile, ParsedFor, ParsedLast, ParsedNext, ParsedSource}
use Rattle.tests_transcripts.proofs.Forms.{at, spec, target, function, options, run}

-- export void go() {
-- int x = 0;
-- for (int i = 0; i < 2; i++) {
-- while (x < 9) {
-- x += 1;
-- if (programIndex > i) break;
-- x += 3;
-- }
-- while (x < 2) x += 5;
-- }
-- }
abbrev pub source : ParsedSource
source =
    (function (at 1 13) (codes "go") (spec true false false false None None) ([])
    (ParsedNext (ParsedDeclare (at 2 1) (spec false false false false None (Some t.Int32)) (at 2 5) (codes "x") (Some (ParsedNumber (at 2 9) 0 false false)))
    (ParsedNext (ParsedFor (at 3 1) (ParsedDeclare (at 3 6) (spec false false false false None (Some t.Int32)) (at 3 10) (codes "i") (Some (ParsedNumber (at 3 14) 0 false false))) (Some (ParsedBinary (Op op.Less) (ParsedName (at 3 17) (codes "i")) (ParsedNumber (at 3 21) 2 false false))) (ParsedIncrement (at 3 24) (target (at 3 24) (codes "i") None) op.Add) (ParsedBlock (ParsedNext (ParsedWhile (at 4 1) (ParsedBinary (Op op.Less) (ParsedName (at 4 8) (codes "x")) (ParsedNumber (at 4 12) 9 false false)) (ParsedBlock (ParsedNext (ParsedChange (at 5 1) (target (at 5 1) (codes "x") None) op.Add (ParsedNumber (at 5 6) 1 false false))
    (ParsedNext (ParsedIf (at 6 1) (ParsedBinary (Op op.Greater) (ParsedName (at 6 5) (codes "programIndex")) (ParsedName (at 6 20) (codes "i"))) (ParsedBreak (at 6 23)))
    (ParsedNext (ParsedChange (at 7 1) (target (at 7 1) (codes "x") None) op.Add (ParsedNumber (at 7 6) 3 false false))
    ParsedLast)))))
    (ParsedNext (ParsedWhile (at 9 1) (ParsedBinary (Op op.Less) (ParsedName (at 9 8) (codes "x")) (ParsedNumber (at 9 12) 2 false false)) (ParsedChange (at 9 15) (target (at 9 15) (codes "x") None) op.Add (ParsedNumber (at 9 20) 5 false false)))
    ParsedLast))))
    ParsedLast)) (at 11 1)) ∷ []

row_1 : run source (codes "") (options 4 64 1000000)
    (codes "step 6\nstep\nstep 10\nstep\nstep 2\nstep 5\nstep\nstep 2\nstep 3\nprint x\n")
    ≡ codes "at 6:23 go depth 1 lanes 0111\nat 7:1 go depth 1 lanes 1000\nat 9:1 go depth 1 lanes 1111\nat 9:15 go depth 1 lanes 0111\nat 3:24 go depth 1 lanes 1111\nat 6:23 go depth 1 lanes 0011\nat 7:1 go depth 1 lanes 0100\nat 9:1 go depth 1 lanes 1111\nat 11:1 go depth 1 lanes 1111\nx = 12 10 7 7\n"
unfolding digits value_of residue word_of value_in wrapped binary_of
row_1 = refl
