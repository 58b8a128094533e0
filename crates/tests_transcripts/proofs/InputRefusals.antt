-- Each refusal of an input.
use Rattle.std.specs.Prelude.{◌≡◌, refl, true, false, [], ◌∷◌, Some, None, codes}
use Rattle.std.specs.Fmt.{digits}
use Rattle.gang_types.specs.Values.{value_of, residue, word_of, value_in, wrapped, binary_of}
use Rattle.gang_types.specs.declared.types.Rate.TheVariants.{Uniform}
use Rattle.gang_types.specs.declared.types.IntType.TheVariants as t
use Rattle.gang_types.specs.declared.operators.BinaryOp.TheVariants as op
use Rattle.gang_model.specs.declared.forms.GlobalForm.TheVariants.{Array, Initial}
use Rattle.gang_model.specs.declared.forms.Literal.TheVariants.{Number}
use Rattle.gang_model.specs.Source.Parsed.{ParsedNumber, ParsedName, ParsedChange, ParsedForEach, ParsedLast, ParsedNext, ParsedSource}
use Rattle.tests_transcripts.proofs.Forms.{at, spec, target, dimension, parameter, function, file_variable, options, run}

-- const uniform int c = 1;
-- int v = 1;
-- uniform int8 t[3];
-- export void go(uniform int n, uniform int a[]) {
-- foreach (i = 0 ... n) a[i] += n;
-- }
abbrev pub source : ParsedSource
source =
    (file_variable (at 1 19) (codes "c") (spec false false false true (Some Uniform) (Some t.Int32)) (Initial (Number false 1 false false))) ∷
    (file_variable (at 2 5) (codes "v") (spec false false false false None (Some t.Int32)) (Initial (Number false 1 false false))) ∷
    (file_variable (at 3 14) (codes "t") (spec false false false false (Some Uniform) (Some t.Int8)) (Array 3)) ∷
    (function (at 4 13) (codes "go") (spec true false false false None None) (parameter (at 4 28) (codes "n") (spec false false false false (Some Uniform) (Some t.Int32)) false ∷ parameter (at 4 43) (codes "a") (spec false false false false (Some Uniform) (Some t.Int32)) true ∷ [])
    (ParsedNext (ParsedForEach (at 5 1) false (dimension (at 5 10) (codes "i") (ParsedNumber (at 5 14) 0 false false) (ParsedName (at 5 20) (codes "n")) ∷ []) (ParsedChange (at 5 23) (target (at 5 23) (codes "a") (Some (ParsedName (at 5 25) (codes "i")))) op.Add (ParsedName (at 5 31) (codes "n"))))
    ParsedLast) (at 6 1)) ∷ []

row_1 : run source (codes "") (options 4 64 1000000)
    (codes "")
    ≡ codes "input: I2 Missing n\n"
unfolding digits value_of residue word_of value_in wrapped binary_of
row_1 = refl

row_2 : run source (codes "n = 1") (options 4 64 1000000)
    (codes "")
    ≡ codes "input: I2 Missing a\n"
unfolding digits value_of residue word_of value_in wrapped binary_of
row_2 = refl

row_3 : run source (codes "n = x") (options 4 64 1000000)
    (codes "")
    ≡ codes "input 1: I1 BadLine\n"
unfolding digits value_of residue word_of value_in wrapped binary_of
row_3 = refl

row_4 : run source (codes "n = 3000000000") (options 4 64 1000000)
    (codes "")
    ≡ codes "input 1: I3 Range\n"
unfolding digits value_of residue word_of value_in wrapped binary_of
row_4 = refl

row_5 : run source (codes "n = 1\nn = 1") (options 4 64 1000000)
    (codes "")
    ≡ codes "input 2: I1 BadLine\n"
unfolding digits value_of residue word_of value_in wrapped binary_of
row_5 = refl

row_6 : run source (codes "t = 1 2 3 200") (options 4 64 1000000)
    (codes "")
    ≡ codes "input 1: I4 TooLarge\n"
unfolding digits value_of residue word_of value_in wrapped binary_of
row_6 = refl

row_7 : run source (codes "t = 1 2 3\nn = -2147483649") (options 4 64 1000000)
    (codes "")
    ≡ codes "input 2: I3 Range\n"
unfolding digits value_of residue word_of value_in wrapped binary_of
row_7 = refl

row_8 : run source (codes "t = 128") (options 4 64 1000000)
    (codes "")
    ≡ codes "input 1: I3 Range\n"
unfolding digits value_of residue word_of value_in wrapped binary_of
row_8 = refl

row_9 : run source (codes "n =") (options 4 64 1000000)
    (codes "")
    ≡ codes "input 1: I1 BadLine\n"
unfolding digits value_of residue word_of value_in wrapped binary_of
row_9 = refl

row_10 : run source (codes "n = 1 2") (options 4 64 1000000)
    (codes "")
    ≡ codes "input 1: I1 BadLine\n"
unfolding digits value_of residue word_of value_in wrapped binary_of
row_10 = refl

row_11 : run source (codes "n 1") (options 4 64 1000000)
    (codes "")
    ≡ codes "input 1: I1 BadLine\n"
unfolding digits value_of residue word_of value_in wrapped binary_of
row_11 = refl

row_12 : run source (codes "n = -0x1") (options 4 64 1000000)
    (codes "")
    ≡ codes "input 1: I1 BadLine\n"
unfolding digits value_of residue word_of value_in wrapped binary_of
row_12 = refl

row_13 : run source (codes "n = 0X1") (options 4 64 1000000)
    (codes "")
    ≡ codes "input 1: I1 BadLine\n"
unfolding digits value_of residue word_of value_in wrapped binary_of
row_13 = refl

row_14 : run source (codes "z = 1") (options 4 64 1000000)
    (codes "")
    ≡ codes "input 1: I1 BadLine\n"
unfolding digits value_of residue word_of value_in wrapped binary_of
row_14 = refl

row_15 : run source (codes "c = 1") (options 4 64 1000000)
    (codes "")
    ≡ codes "input 1: I1 BadLine\n"
unfolding digits value_of residue word_of value_in wrapped binary_of
row_15 = refl

row_16 : run source (codes "v = 1") (options 4 64 1000000)
    (codes "")
    ≡ codes "input 1: I1 BadLine\n"
unfolding digits value_of residue word_of value_in wrapped binary_of
row_16 = refl

row_17 : run source (codes " # n = 1") (options 4 64 1000000)
    (codes "")
    ≡ codes "input 1: I1 BadLine\n"
unfolding digits value_of residue word_of value_in wrapped binary_of
row_17 = refl

row_18 : run source (codes "t = 1 2 3 4 x") (options 4 64 1000000)
    (codes "")
    ≡ codes "input 1: I1 BadLine\n"
unfolding digits value_of residue word_of value_in wrapped binary_of
row_18 = refl

row_19 : run source (codes "t = 128 x") (options 4 64 1000000)
    (codes "")
    ≡ codes "input 1: I1 BadLine\n"
unfolding digits value_of residue word_of value_in wrapped binary_of
row_19 = refl

row_20 : run source (codes "n = 3000000000 1") (options 4 64 1000000)
    (codes "")
    ≡ codes "input 1: I1 BadLine\n"
unfolding digits value_of residue word_of value_in wrapped binary_of
row_20 = refl

row_21 : run source (codes "t = 128\nz = 1") (options 4 64 1000000)
    (codes "")
    ≡ codes "input 1: I3 Range\n"
unfolding digits value_of residue word_of value_in wrapped binary_of
row_21 = refl

row_22 : run source (codes "z = 1\nt = 128") (options 4 64 1000000)
    (codes "")
    ≡ codes "input 1: I1 BadLine\n"
unfolding digits value_of residue word_of value_in wrapped binary_of
row_22 = refl

row_23 : run source (codes "t = 1 2 3 4\nz = 1") (options 4 64 1000000)
    (codes "")
    ≡ codes "input 1: I4 TooLarge\n"
unfolding digits value_of residue word_of value_in wrapped binary_of
row_23 = refl

row_24 : run source (codes "\n# a = 1\nn=true\n") (options 4 64 1000000)
    (codes "")
    ≡ codes "input: I2 Missing a\n"
unfolding digits value_of residue word_of value_in wrapped binary_of
row_24 = refl
