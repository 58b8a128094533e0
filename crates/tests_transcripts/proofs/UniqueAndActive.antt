-- Rounds by distinct values, and one lane at a time.
use Rattle.std.specs.Prelude.{◌≡◌, refl, true, false, [], ◌∷◌, Some, None, codes}
use Rattle.std.specs.Fmt.{digits}
use Rattle.gang_types.specs.Values.{value_of, residue, word_of, value_in, wrapped, binary_of}
use Rattle.gang_types.specs.declared.types.Rate.TheVariants.{Uniform}
use Rattle.gang_types.specs.declared.types.IntType.TheVariants as t
use Rattle.gang_types.specs.declared.operators.BinaryOp.TheVariants as op
use Rattle.gang_model.specs.declared.forms.Infix.TheVariants.{Op}
use Rattle.gang_model.specs.declared.forms.GlobalForm.TheVariants.{Initial}
use Rattle.gang_model.specs.declared.forms.Literal.TheVariants.{Number}
use Rattle.gang_model.specs.Source.Parsed.{ParsedNumber, ParsedName, ParsedBinary, ParsedBlock, ParsedAssign, ParsedChange, ParsedForEachActive, ParsedForEachUnique, ParsedLast, ParsedNext, ParsedSource}
use Rattle.tests_transcripts.proofs.Forms.{at, spec, target, function, file_variable, options, run}

-- uniform int k = 0;
-- export void go() {
-- foreach_unique (v in programIndex & 1) {
-- k = k * 10 + v + 1;
-- }
-- foreach_active (j)
-- k += 1;
-- }
abbrev pub source : ParsedSource
source =
    (file_variable (at 1 13) (codes "k") (spec false false false false (Some Uniform) (Some t.Int32)) (Initial (Number false 0 false false))) ∷
    (function (at 2 13) (codes "go") (spec true false false false None None) ([])
    (ParsedNext (ParsedForEachUnique (at 3 1) (at 3 17) (codes "v") (ParsedBinary (Op op.And) (ParsedName (at 3 22) (codes "programIndex")) (ParsedNumber (at 3 37) 1 false false)) (ParsedBlock (ParsedNext (ParsedAssign (at 4 1) (target (at 4 1) (codes "k") None) (ParsedBinary (Op op.Add) (ParsedBinary (Op op.Add) (ParsedBinary (Op op.Mul) (ParsedName (at 4 5) (codes "k")) (ParsedNumber (at 4 9) 10 false false)) (ParsedName (at 4 14) (codes "v"))) (ParsedNumber (at 4 18) 1 false false)))
    ParsedLast)))
    (ParsedNext (ParsedForEachActive (at 6 1) (at 6 17) (codes "j") (ParsedChange (at 7 1) (target (at 7 1) (codes "k") None) op.Add (ParsedNumber (at 7 6) 1 false false)))
    ParsedLast)) (at 8 1)) ∷ []

row_1 : run source (codes "") (options 4 64 1000000)
    (codes "step 2\nstep 2\nstep\nprint k\nstep 3\nprint k\n")
    ≡ codes "at 4:1 go depth 1 lanes 1010\nat 4:1 go depth 1 lanes 0101\nat 6:1 go depth 1 lanes 1111\nk = 12\nat 6:1 go depth 1 lanes 0100\nk = 13\n"
unfolding digits value_of residue word_of value_in wrapped binary_of
row_1 = refl
