-- An empty range has no round, and a last round has the lanes that are left.
use Rattle.std.specs.Prelude.{◌≡◌, refl, true, false, [], ◌∷◌, Some, None, codes}
use Rattle.std.specs.Fmt.{digits}
use Rattle.gang_types.specs.Values.{value_of, residue, word_of, value_in, wrapped, binary_of}
use Rattle.gang_types.specs.declared.types.Rate.TheVariants.{Uniform}
use Rattle.gang_types.specs.declared.types.IntType.TheVariants as t
use Rattle.gang_types.specs.declared.operators.BinaryOp.TheVariants as op
use Rattle.gang_model.specs.declared.forms.GlobalForm.TheVariants.{Initial}
use Rattle.gang_model.specs.declared.forms.Literal.TheVariants.{Number}
use Rattle.gang_model.specs.Source.Parsed.{ParsedNumber, ParsedChange, ParsedForEach, ParsedLast, ParsedNext, ParsedSource}
use Rattle.tests_transcripts.proofs.Forms.{at, spec, target, dimension, function, file_variable, options, run}

-- uniform int s = 0;
-- export void go() {
-- foreach (i = 3 ... 3) s += 1;
-- foreach (i = 0 ... 5) s += 1;
-- }
abbrev pub source : ParsedSource
source =
    (file_variable (at 1 13) (codes "s") (spec false false false false (Some Uniform) (Some t.Int32)) (Initial (Number false 0 false false))) ∷
    (function (at 2 13) (codes "go") (spec true false false false None None) ([])
    (ParsedNext (ParsedForEach (at 3 1) false (dimension (at 3 10) (codes "i") (ParsedNumber (at 3 14) 3 false false) (ParsedNumber (at 3 20) 3 false false) ∷ []) (ParsedChange (at 3 23) (target (at 3 23) (codes "s") None) op.Add (ParsedNumber (at 3 28) 1 false false)))
    (ParsedNext (ParsedForEach (at 4 1) false (dimension (at 4 10) (codes "i") (ParsedNumber (at 4 14) 0 false false) (ParsedNumber (at 4 20) 5 false false) ∷ []) (ParsedChange (at 4 23) (target (at 4 23) (codes "s") None) op.Add (ParsedNumber (at 4 28) 1 false false)))
    ParsedLast)) (at 5 1)) ∷ []

row_1 : run source (codes "") (options 4 64 1000000)
    (codes "step\nstep 3\nstep 2\nprint s\n")
    ≡ codes "at 4:1 go depth 1 lanes 1111\nat 4:1 go depth 1 lanes 1000\nat 5:1 go depth 1 lanes 1111\ns = 2\n"
unfolding digits value_of residue word_of value_in wrapped binary_of
row_1 = refl
