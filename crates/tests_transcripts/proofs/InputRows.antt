-- Parameters and a file-scope array from the input.
use Rattle.std.specs.Prelude.{◌≡◌, refl, true, false, [], ◌∷◌, Some, None, codes}
use Rattle.std.specs.Fmt.{digits}
use Rattle.gang_types.specs.Values.{value_of, residue, word_of, value_in, wrapped, binary_of}
use Rattle.gang_types.specs.declared.types.Rate.TheVariants.{Uniform}
use Rattle.gang_types.specs.declared.types.IntType.TheVariants as t
use Rattle.gang_types.specs.declared.operators.BinaryOp.TheVariants as op
use Rattle.gang_model.specs.declared.forms.GlobalForm.TheVariants.{Array}
use Rattle.gang_model.specs.Source.Parsed.{ParsedName, ParsedIndex, ParsedDeclare, ParsedAssign, ParsedChange, ParsedLast, ParsedNext, ParsedSource}
use Rattle.tests_transcripts.proofs.Forms.{at, spec, target, parameter, function, file_variable, options, run}

-- uniform int8 t[3];
-- export void go(uniform int n, uniform int a[]) {
-- a[programIndex] += n;
-- t[n] = n;
-- int g = a[n];
-- }
abbrev pub source : ParsedSource
source =
    (file_variable (at 1 14) (codes "t") (spec false false false false (Some Uniform) (Some t.Int8)) (Array 3)) ∷
    (function (at 2 13) (codes "go") (spec true false false false None None) (parameter (at 2 28) (codes "n") (spec false false false false (Some Uniform) (Some t.Int32)) false ∷ parameter (at 2 43) (codes "a") (spec false false false false (Some Uniform) (Some t.Int32)) true ∷ [])
    (ParsedNext (ParsedChange (at 3 1) (target (at 3 1) (codes "a") (Some (ParsedName (at 3 3) (codes "programIndex")))) op.Add (ParsedName (at 3 20) (codes "n")))
    (ParsedNext (ParsedAssign (at 4 1) (target (at 4 1) (codes "t") (Some (ParsedName (at 4 3) (codes "n")))) (ParsedName (at 4 8) (codes "n")))
    (ParsedNext (ParsedDeclare (at 5 1) (spec false false false false None (Some t.Int32)) (at 5 5) (codes "g") (Some (ParsedIndex (at 5 9) (codes "a") (ParsedName (at 5 11) (codes "n")))))
    ParsedLast))) (at 6 1)) ∷ []

row_1 : run source (codes "n = 2\na = 5 6 7 8\nt = 1") (options 4 64 1000000)
    (codes "step 3\nprint a\nprint t\nprint g\n")
    ≡ codes "at 6:1 go depth 1 lanes 1111\na = 7 8 9 10\nt = 1 0 2\ng = 9 9 9 9\n"
unfolding digits value_of residue word_of value_in wrapped binary_of
row_1 = refl
