-- One lane at a time within a round, without the lanes whose round has ended.
use Rattle.std.specs.Prelude.{◌≡◌, refl, true, false, [], ◌∷◌, Some, None, codes}
use Rattle.std.specs.Fmt.{digits}
use Rattle.gang_types.specs.Values.{value_of, residue, word_of, value_in, wrapped, binary_of}
use Rattle.gang_types.specs.declared.types.Rate.TheVariants.{Uniform}
use Rattle.gang_types.specs.declared.types.IntType.TheVariants as t
use Rattle.gang_types.specs.declared.operators.BinaryOp.TheVariants as op
use Rattle.gang_model.specs.declared.forms.Infix.TheVariants.{Op}
use Rattle.gang_model.specs.declared.forms.GlobalForm.TheVariants.{Initial}
use Rattle.gang_model.specs.declared.forms.Literal.TheVariants.{Number}
use Rattle.gang_model.specs.Source.Parsed.{ParsedNumber, ParsedName, ParsedBinary, ParsedBlock, ParsedAssign, ParsedContinue, ParsedIf, ParsedForEach, ParsedForEachActive, ParsedLast, ParsedNext, ParsedSource}
use Rattle.tests_transcripts.proofs.Forms.{at, spec, target, dimension, function, file_variable, options, run}

-- uniform int order = 0;
-- export void go() {
-- foreach (i = 1 ... 4) {
-- if (i == 2) continue;
-- foreach_active (k) {
-- order = order * 10 + k + 1;
-- }
-- }
-- }
abbrev pub source : ParsedSource
source =
    (file_variable (at 1 13) (codes "order") (spec false false false false (Some Uniform) (Some t.Int32)) (Initial (Number false 0 false false))) ∷
    (function (at 2 13) (codes "go") (spec true false false false None None) ([])
    (ParsedNext (ParsedForEach (at 3 1) false (dimension (at 3 10) (codes "i") (ParsedNumber (at 3 14) 1 false false) (ParsedNumber (at 3 20) 4 false false) ∷ []) (ParsedBlock (ParsedNext (ParsedIf (at 4 1) (ParsedBinary (Op op.Equal) (ParsedName (at 4 5) (codes "i")) (ParsedNumber (at 4 10) 2 false false)) (ParsedContinue (at 4 13)))
    (ParsedNext (ParsedForEachActive (at 5 1) (at 5 17) (codes "k") (ParsedBlock (ParsedNext (ParsedAssign (at 6 1) (target (at 6 1) (codes "order") None) (ParsedBinary (Op op.Add) (ParsedBinary (Op op.Add) (ParsedBinary (Op op.Mul) (ParsedName (at 6 9) (codes "order")) (ParsedNumber (at 6 17) 10 false false)) (ParsedName (at 6 22) (codes "k"))) (ParsedNumber (at 6 26) 1 false false)))
    ParsedLast)))
    ParsedLast))))
    ParsedLast) (at 9 1)) ∷ []

row_1 : run source (codes "") (options 4 64 1000000)
    (codes "step\nstep 2\nstep\nstep\nstep 2\nstep\nprint k\nstep\nprint order\n")
    ≡ codes "at 3:1 go depth 1 lanes 1110\nat 4:13 go depth 1 lanes 0100\nat 5:1 go depth 1 lanes 1010\nat 5:1 go depth 1 lanes 1000\nat 5:1 go depth 1 lanes 0010\nat 6:1 go depth 1 lanes 0010\nk = 2\nat 9:1 go depth 1 lanes 1111\norder = 13\n"
unfolding digits value_of residue word_of value_in wrapped binary_of
row_1 = refl
