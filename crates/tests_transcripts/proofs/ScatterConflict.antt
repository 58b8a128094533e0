-- The highest lane that stores to an element stays. Refuses a scatter that keeps the lowest lane.
use Rattle.std.specs.Prelude.{◌≡◌, refl, true, false, [], ◌∷◌, Some, None, codes}
use Rattle.std.specs.Fmt.{digits}
use Rattle.gang_types.specs.Values.{value_of, residue, word_of, value_in, wrapped, binary_of}
use Rattle.gang_types.specs.declared.types.Rate.TheVariants.{Uniform}
use Rattle.gang_types.specs.declared.types.IntType.TheVariants as t
use Rattle.gang_types.specs.declared.operators.BinaryOp.TheVariants as op
use Rattle.gang_model.specs.declared.forms.Infix.TheVariants.{Op}
use Rattle.gang_model.specs.declared.forms.GlobalForm.TheVariants.{Array}
use Rattle.gang_model.specs.Source.Parsed.{ParsedNumber, ParsedName, ParsedBinary, ParsedAssign, ParsedLast, ParsedNext, ParsedSource}
use Rattle.tests_transcripts.proofs.Forms.{at, spec, target, function, file_variable, options, run}

-- uniform int a[4];
-- export void go() {
-- a[programIndex / 2] = programIndex;
-- }
abbrev pub source : ParsedSource
source =
    (file_variable (at 1 13) (codes "a") (spec false false false false (Some Uniform) (Some t.Int32)) (Array 4)) ∷
    (function (at 2 13) (codes "go") (spec true false false false None None) ([])
    (ParsedNext (ParsedAssign (at 3 1) (target (at 3 1) (codes "a") (Some (ParsedBinary (Op op.Div) (ParsedName (at 3 3) (codes "programIndex")) (ParsedNumber (at 3 18) 2 false false)))) (ParsedName (at 3 23) (codes "programIndex")))
    ParsedLast) (at 4 1)) ∷ []

row_1 : run source (codes "") (options 4 64 1000000)
    (codes "step\nprint a\nreverse-step\nprint a\n")
    ≡ codes "at 4:1 go depth 1 lanes 1111\na = 1 3 0 0\nat 3:1 go depth 1 lanes 1111\na = 0 0 0 0\n"
unfolding digits value_of residue word_of value_in wrapped binary_of
row_1 = refl
