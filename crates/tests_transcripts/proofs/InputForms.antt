-- What an input row may look like.
use Rattle.std.specs.Prelude.{◌≡◌, refl, true, false, [], ◌∷◌, Some, None, codes}
use Rattle.std.specs.Fmt.{digits}
use Rattle.gang_types.specs.Values.{value_of, residue, word_of, value_in, wrapped, binary_of}
use Rattle.gang_types.specs.declared.types.Rate.TheVariants.{Uniform}
use Rattle.gang_types.specs.declared.types.IntType.TheVariants as t
use Rattle.gang_model.specs.declared.forms.GlobalForm.TheVariants.{Array, Initial}
use Rattle.gang_model.specs.declared.forms.Literal.TheVariants.{Truth}
use Rattle.gang_model.specs.Source.Parsed.{ParsedLast, ParsedSource}
use Rattle.tests_transcripts.proofs.Forms.{at, spec, parameter, function, file_variable, options, run}

-- uniform int t[2];
-- uniform bool w = true;
-- export void go(uniform int8 n, uniform bool b, uniform uint8 a[]) { }
abbrev pub source : ParsedSource
source =
    (file_variable (at 1 13) (codes "t") (spec false false false false (Some Uniform) (Some t.Int32)) (Array 2)) ∷
    (file_variable (at 2 14) (codes "w") (spec false false false false (Some Uniform) (Some t.Bool)) (Initial (Truth true))) ∷
    (function (at 3 13) (codes "go") (spec true false false false None None) (parameter (at 3 29) (codes "n") (spec false false false false (Some Uniform) (Some t.Int8)) false ∷ parameter (at 3 45) (codes "b") (spec false false false false (Some Uniform) (Some t.Bool)) false ∷ parameter (at 3 62) (codes "a") (spec false false false false (Some Uniform) (Some t.Uint8)) true ∷ [])
    ParsedLast (at 3 69)) ∷ []

row_1 : run source (codes "# a comment\n\n\tn=-128 \nb = true\n \na =\nt = 0xFf\nw = 0") (options 4 64 1000000)
    (codes "print n\nprint b\nprint a\nprint t\nprint w\nprint a[0]\nstep\nprint t[0]\n")
    ≡ codes "n = -128\nb = true\na =\nt = 255 0\nw = false\nC8 OutOfRange\nended\nt[0] = 255\n"
unfolding digits value_of residue word_of value_in wrapped binary_of
row_1 = refl
