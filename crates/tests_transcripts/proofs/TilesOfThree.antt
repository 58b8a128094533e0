-- Three dimensions: the first one value at a time, the last two by tiles.
use Rattle.std.specs.Prelude.{◌≡◌, refl, true, false, [], ◌∷◌, Some, None, codes}
use Rattle.std.specs.Fmt.{digits}
use Rattle.gang_types.specs.Values.{value_of, residue, word_of, value_in, wrapped, binary_of}
use Rattle.gang_types.specs.declared.types.Rate.TheVariants.{Uniform}
use Rattle.gang_types.specs.declared.types.IntType.TheVariants as t
use Rattle.gang_types.specs.declared.operators.BinaryOp.TheVariants as op
use Rattle.gang_model.specs.declared.forms.Infix.TheVariants.{Op}
use Rattle.gang_model.specs.declared.forms.GlobalForm.TheVariants.{Array, Initial}
use Rattle.gang_model.specs.declared.forms.Literal.TheVariants.{Number}
use Rattle.gang_model.specs.Source.Parsed.{ParsedNumber, ParsedName, ParsedBinary, ParsedBlock, ParsedAssign, ParsedChange, ParsedForEach, ParsedLast, ParsedNext, ParsedSource}
use Rattle.tests_transcripts.proofs.Forms.{at, spec, target, dimension, function, file_variable, options, run}

-- uniform int a[6];
-- uniform int n = 0;
-- export void go() {
-- foreach_tiled (p = 0 ... 2, r = 0 ... 1, c = 0 ... 3) {
-- a[p * 3 + c] = n;
-- n += 1;
-- }
-- }
abbrev pub source : ParsedSource
source =
    (file_variable (at 1 13) (codes "a") (spec false false false false (Some Uniform) (Some t.Int32)) (Array 6)) ∷
    (file_variable (at 2 13) (codes "n") (spec false false false false (Some Uniform) (Some t.Int32)) (Initial (Number false 0 false false))) ∷
    (function (at 3 13) (codes "go") (spec true false false false None None) ([])
    (ParsedNext (ParsedForEach (at 4 1) true (dimension (at 4 16) (codes "p") (ParsedNumber (at 4 20) 0 false false) (ParsedNumber (at 4 26) 2 false false) ∷ dimension (at 4 29) (codes "r") (ParsedNumber (at 4 33) 0 false false) (ParsedNumber (at 4 39) 1 false false) ∷ dimension (at 4 42) (codes "c") (ParsedNumber (at 4 46) 0 false false) (ParsedNumber (at 4 52) 3 false false) ∷ []) (ParsedBlock (ParsedNext (ParsedAssign (at 5 1) (target (at 5 1) (codes "a") (Some (ParsedBinary (Op op.Add) (ParsedBinary (Op op.Mul) (ParsedName (at 5 3) (codes "p")) (ParsedNumber (at 5 7) 3 false false)) (ParsedName (at 5 11) (codes "c"))))) (ParsedName (at 5 16) (codes "n")))
    (ParsedNext (ParsedChange (at 6 1) (target (at 6 1) (codes "n") None) op.Add (ParsedNumber (at 6 6) 1 false false))
    ParsedLast))))
    ParsedLast) (at 8 1)) ∷ []

row_1 : run source (codes "") (options 4 64 1000000)
    (codes "step\nstep 3\nstep 3\nstep 3\nstep\nprint p\nstep 2\nprint a\n")
    ≡ codes "at 4:1 go depth 1 lanes 1100\nat 4:1 go depth 1 lanes 1000\nat 4:1 go depth 1 lanes 1100\nat 4:1 go depth 1 lanes 1000\nat 5:1 go depth 1 lanes 1000\np = 1 0 0 0\nat 8:1 go depth 1 lanes 1111\na = 0 0 1 2 2 3\n"
unfolding digits value_of residue word_of value_in wrapped binary_of
row_1 = refl
