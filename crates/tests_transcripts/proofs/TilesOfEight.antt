-- Two dimensions by tiles of 2 by 4 lanes.
use Rattle.std.specs.Prelude.{◌≡◌, refl, true, false, [], ◌∷◌, Some, None, codes}
use Rattle.std.specs.Fmt.{digits}
use Rattle.gang_types.specs.Values.{value_of, residue, word_of, value_in, wrapped, binary_of}
use Rattle.gang_types.specs.declared.types.Rate.TheVariants.{Uniform}
use Rattle.gang_types.specs.declared.types.IntType.TheVariants as t
use Rattle.gang_types.specs.declared.operators.BinaryOp.TheVariants as op
use Rattle.gang_model.specs.declared.forms.Infix.TheVariants.{Op}
use Rattle.gang_model.specs.declared.forms.GlobalForm.TheVariants.{Array}
use Rattle.gang_model.specs.Source.Parsed.{ParsedNumber, ParsedName, ParsedBinary, ParsedAssign, ParsedForEach, ParsedLast, ParsedNext, ParsedSource}
use Rattle.tests_transcripts.proofs.Forms.{at, spec, target, dimension, function, file_variable, options, run}

-- uniform int a[9];
-- export void go() {
-- foreach_tiled (r = 0 ... 3, c = 0 ... 3)
-- a[r * 3 + c] = programIndex;
-- }
abbrev pub source : ParsedSource
source =
    (file_variable (at 1 13) (codes "a") (spec false false false false (Some Uniform) (Some t.Int32)) (Array 9)) ∷
    (function (at 2 13) (codes "go") (spec true false false false None None) ([])
    (ParsedNext (ParsedForEach (at 3 1) true (dimension (at 3 16) (codes "r") (ParsedNumber (at 3 20) 0 false false) (ParsedNumber (at 3 26) 3 false false) ∷ dimension (at 3 29) (codes "c") (ParsedNumber (at 3 33) 0 false false) (ParsedNumber (at 3 39) 3 false false) ∷ []) (ParsedAssign (at 4 1) (target (at 4 1) (codes "a") (Some (ParsedBinary (Op op.Add) (ParsedBinary (Op op.Mul) (ParsedName (at 4 3) (codes "r")) (ParsedNumber (at 4 7) 3 false false)) (ParsedName (at 4 11) (codes "c"))))) (ParsedName (at 4 16) (codes "programIndex"))))
    ParsedLast) (at 5 1)) ∷ []

row_1 : run source (codes "") (options 8 64 1000000)
    (codes "step\nstep 2\nstep 2\nprint a\n")
    ≡ codes "at 3:1 go depth 1 lanes 11101110\nat 3:1 go depth 1 lanes 11100000\nat 5:1 go depth 1 lanes 11111111\na = 0 1 2 4 5 6 0 1 2\n"
unfolding digits value_of residue word_of value_in wrapped binary_of
row_1 = refl
