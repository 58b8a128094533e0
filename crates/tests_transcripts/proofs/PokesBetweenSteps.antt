-- A backward move takes back the pokes since the last step and that step.
use Rattle.std.specs.Prelude.{◌≡◌, refl, true, false, [], ◌∷◌, Some, None, codes}
use Rattle.std.specs.Fmt.{digits}
use Rattle.gang_types.specs.Values.{value_of, residue, word_of, value_in, wrapped, binary_of}
use Rattle.gang_types.specs.declared.types.IntType.TheVariants as t
use Rattle.gang_types.specs.declared.operators.BinaryOp.TheVariants as op
use Rattle.gang_model.specs.declared.forms.Infix.TheVariants.{Op}
use Rattle.gang_model.specs.Source.Parsed.{ParsedNumber, ParsedName, ParsedBinary, ParsedDeclare, ParsedChange, ParsedLast, ParsedNext, ParsedSource}
use Rattle.tests_transcripts.proofs.Forms.{at, spec, target, function, options, run}

-- export void go() {
--     int x = programIndex * 3;
--     x += 1;
-- }
abbrev pub source : ParsedSource
source =
    (function (at 1 13) (codes "go") (spec true false false false None None) ([])
    (ParsedNext (ParsedDeclare (at 2 5) (spec false false false false None (Some t.Int32)) (at 2 9) (codes "x") (Some (ParsedBinary (Op op.Mul) (ParsedName (at 2 13) (codes "programIndex")) (ParsedNumber (at 2 28) 3 false false))))
    (ParsedNext (ParsedChange (at 3 5) (target (at 3 5) (codes "x") None) op.Add (ParsedNumber (at 3 10) 1 false false))
    ParsedLast)) (at 4 1)) ∷ []

row_1 : run source (codes "") (options 4 64 1000000)
    (codes "step\nset var x[1] = 9\nstep\nset var x[0] = -1\nprint x\nreverse-step\nprint x\nundo\nprint x\nstep\nprint x\nreverse-continue\nundo\n")
    ≡ codes "at 3:5 go depth 1 lanes 1111\nx[1] = 9\nat 4:1 go depth 1 lanes 1111\nx[0] = -1\nx = -1 10 7 10\nat 3:5 go depth 1 lanes 1111\nx = 0 9 6 9\nundone poke: at 3:5 go depth 1 lanes 1111\nx = 0 3 6 9\nat 4:1 go depth 1 lanes 1111\nx = 1 4 7 10\nhistory end: at 2:5 go depth 1 lanes 1111\nC3 NoHistory\n"
unfolding digits value_of residue word_of value_in wrapped binary_of
row_1 = refl
