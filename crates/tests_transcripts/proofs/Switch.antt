-- Lanes run on through later labels, and `break` ends the switch.
use Rattle.std.specs.Prelude.{◌≡◌, refl, true, false, [], ◌∷◌, Some, None, codes}
use Rattle.std.specs.Fmt.{digits}
use Rattle.gang_types.specs.Values.{value_of, residue, word_of, value_in, wrapped, binary_of}
use Rattle.gang_types.specs.declared.types.IntType.TheVariants as t
use Rattle.gang_types.specs.declared.operators.BinaryOp.TheVariants as op
use Rattle.gang_model.specs.Source.Parsed.{ParsedNumber, ParsedName, ParsedDeclare, ParsedChange, ParsedBreak, ParsedSwitch, ParsedLast, ParsedNext, ParsedNoMore, ParsedSegment, ParsedSource}
use Rattle.tests_transcripts.proofs.Forms.{at, spec, target, label, function, options, run}

-- export void go() {
-- int x = 0;
-- switch (programIndex) {
-- case 0: x += 1;
-- case 2: x += 10; break;
-- default: x += 100;
-- }
-- x += 1000;
-- }
abbrev pub source : ParsedSource
source =
    (function (at 1 13) (codes "go") (spec true false false false None None) ([])
    (ParsedNext (ParsedDeclare (at 2 1) (spec false false false false None (Some t.Int32)) (at 2 5) (codes "x") (Some (ParsedNumber (at 2 9) 0 false false)))
    (ParsedNext (ParsedSwitch (at 3 1) (ParsedName (at 3 9) (codes "programIndex")) (ParsedSegment (at 4 1) (Some (label false 0)) (ParsedNext (ParsedChange (at 4 9) (target (at 4 9) (codes "x") None) op.Add (ParsedNumber (at 4 14) 1 false false)) ParsedLast) (ParsedSegment (at 5 1) (Some (label false 2)) (ParsedNext (ParsedChange (at 5 9) (target (at 5 9) (codes "x") None) op.Add (ParsedNumber (at 5 14) 10 false false)) (ParsedNext (ParsedBreak (at 5 18)) ParsedLast)) (ParsedSegment (at 6 1) None (ParsedNext (ParsedChange (at 6 10) (target (at 6 10) (codes "x") None) op.Add (ParsedNumber (at 6 15) 100 false false)) ParsedLast) ParsedNoMore))))
    (ParsedNext (ParsedChange (at 8 1) (target (at 8 1) (codes "x") None) op.Add (ParsedNumber (at 8 6) 1000 false false))
    ParsedLast))) (at 9 1)) ∷ []

row_1 : run source (codes "") (options 4 64 1000000)
    (codes "step 2\nstep\nstep\nstep\nstep\nstep\nprint x\nreverse-step 7\n")
    ≡ codes "at 4:9 go depth 1 lanes 1000\nat 5:9 go depth 1 lanes 1010\nat 5:18 go depth 1 lanes 1010\nat 6:10 go depth 1 lanes 0101\nat 8:1 go depth 1 lanes 1111\nat 9:1 go depth 1 lanes 1111\nx = 1011 1100 1010 1100\nat 2:1 go depth 1 lanes 1111\n"
unfolding digits value_of residue word_of value_in wrapped binary_of
row_1 = refl
