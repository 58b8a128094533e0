-- Constants cannot be set; a value outside the type is refused first.
use Rattle.std.specs.Prelude.{◌≡◌, refl, true, false, [], ◌∷◌, Some, None, codes}
use Rattle.std.specs.Fmt.{digits}
use Rattle.gang_types.specs.Values.{value_of, residue, word_of, value_in, wrapped, binary_of}
use Rattle.gang_types.specs.declared.types.Rate.TheVariants.{Uniform}
use Rattle.gang_types.specs.declared.types.IntType.TheVariants as t
use Rattle.gang_model.specs.declared.forms.GlobalForm.TheVariants.{Array, Initial}
use Rattle.gang_model.specs.declared.forms.Literal.TheVariants.{Number}
use Rattle.gang_model.specs.Source.Parsed.{ParsedNumber, ParsedDeclare, ParsedLast, ParsedNext, ParsedSource}
use Rattle.tests_transcripts.proofs.Forms.{at, spec, parameter, function, file_variable, options, run}

-- const uniform int c = 3;
-- const uniform int k[2];
-- export void go(const uniform int p, const uniform int b[]) {
-- const int l = 4;
-- }
abbrev pub source : ParsedSource
source =
    (file_variable (at 1 19) (codes "c") (spec false false false true (Some Uniform) (Some t.Int32)) (Initial (Number false 3 false false))) ∷
    (file_variable (at 2 19) (codes "k") (spec false false false true (Some Uniform) (Some t.Int32)) (Array 2)) ∷
    (function (at 3 13) (codes "go") (spec true false false false None None) (parameter (at 3 34) (codes "p") (spec false false false true (Some Uniform) (Some t.Int32)) false ∷ parameter (at 3 55) (codes "b") (spec false false false true (Some Uniform) (Some t.Int32)) true ∷ [])
    (ParsedNext (ParsedDeclare (at 4 1) (spec false false false true None (Some t.Int32)) (at 4 11) (codes "l") (Some (ParsedNumber (at 4 15) 4 false false)))
    ParsedLast) (at 5 1)) ∷ []

row_1 : run source (codes "p = 1\nb = 1") (options 4 64 1000000)
    (codes "set var c = 1\nset var c[0] = 1\nset var k[1] = 1\nset var k[2] = 1\nset var k = 1\nset var p = 2\nset var b[0] = 1\nset var b = 1\nset var l = 1\nstep\nset var l[0] = 1\nset var l[4] = 1\nset var l = 3000000000\nundo\n")
    ≡ codes "C9 Constant\nC2 NoSuchName\nC9 Constant\nC8 OutOfRange\nC2 NoSuchName\nC9 Constant\nC9 Constant\nC2 NoSuchName\nC2 NoSuchName\nat 5:1 go depth 1 lanes 1111\nC9 Constant\nC8 OutOfRange\nC8 OutOfRange\nundone step: at 4:1 go depth 1 lanes 1111\n"
unfolding digits value_of residue word_of value_in wrapped binary_of
row_1 = refl
