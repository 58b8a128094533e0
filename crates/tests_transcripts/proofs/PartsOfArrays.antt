-- Parts of an array as arguments, one empty.
use Rattle.std.specs.Prelude.{◌≡◌, refl, true, false, [], ◌∷◌, Some, None, codes}
use Rattle.std.specs.Fmt.{digits}
use Rattle.gang_types.specs.Values.{value_of, residue, word_of, value_in, wrapped, binary_of}
use Rattle.gang_types.specs.declared.types.Rate.TheVariants.{Uniform}
use Rattle.gang_types.specs.declared.types.IntType.TheVariants as t
use Rattle.gang_model.specs.declared.forms.GlobalForm.TheVariants.{Array}
use Rattle.gang_model.specs.Source.Parsed.{ParsedNumber, ParsedName, ParsedEnd, ParsedValue, ParsedPartFrom, ParsedAssign, ParsedDoCall, ParsedLast, ParsedNext, ParsedSource}
use Rattle.tests_transcripts.proofs.Forms.{at, spec, target, parameter, function, file_variable, options, run}

-- uniform int m[3];
-- void put(uniform int v[], uniform int k) {
-- v[k] = 7;
-- }
-- export void go() {
-- put(&m[1], 1);
-- put(&m[3], 0);
-- }
abbrev pub source : ParsedSource
source =
    (file_variable (at 1 13) (codes "m") (spec false false false false (Some Uniform) (Some t.Int32)) (Array 3)) ∷
    (function (at 2 6) (codes "put") (spec false false false false None None) (parameter (at 2 22) (codes "v") (spec false false false false (Some Uniform) (Some t.Int32)) true ∷ parameter (at 2 39) (codes "k") (spec false false false false (Some Uniform) (Some t.Int32)) false ∷ [])
    (ParsedNext (ParsedAssign (at 3 1) (target (at 3 1) (codes "v") (Some (ParsedName (at 3 3) (codes "k")))) (ParsedNumber (at 3 8) 7 false false))
    ParsedLast) (at 4 1)) ∷
    (function (at 5 13) (codes "go") (spec true false false false None None) ([])
    (ParsedNext (ParsedDoCall (at 6 1) (codes "put") (ParsedPartFrom (at 6 6) (codes "m") (ParsedNumber (at 6 8) 1 false false) (ParsedValue (ParsedNumber (at 6 12) 1 false false) ParsedEnd)))
    (ParsedNext (ParsedDoCall (at 7 1) (codes "put") (ParsedPartFrom (at 7 6) (codes "m") (ParsedNumber (at 7 8) 3 false false) (ParsedValue (ParsedNumber (at 7 12) 0 false false) ParsedEnd)))
    ParsedLast)) (at 8 1)) ∷ []

row_1 : run source (codes "") (options 4 64 1000000)
    (codes "step\nprint v\nstep 2\nprint m\nstep 2\n")
    ≡ codes "at 3:1 put depth 2 lanes 1111\nv = 0 0\nat 7:1 go depth 1 lanes 1111\nm = 0 0 7\nfault F2 Index lane 0: at 3:1 put depth 2 lanes 1111\n"
unfolding digits value_of residue word_of value_in wrapped binary_of
row_1 = refl
