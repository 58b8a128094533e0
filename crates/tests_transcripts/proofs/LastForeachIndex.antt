-- A range up to the largest int32.
use Rattle.std.specs.Prelude.{◌≡◌, refl, true, false, [], ◌∷◌, Some, None, codes}
use Rattle.std.specs.Fmt.{digits}
use Rattle.gang_types.specs.Values.{value_of, residue, word_of, value_in, wrapped, binary_of}
use Rattle.gang_types.specs.declared.types.IntType.TheVariants as t
use Rattle.gang_model.specs.Source.Parsed.{ParsedNumber, ParsedName, ParsedDeclare, ParsedAssign, ParsedForEach, ParsedLast, ParsedNext, ParsedSource}
use Rattle.tests_transcripts.proofs.Forms.{at, spec, target, dimension, function, options, run}

-- export void go() {
-- int n = 0;
-- foreach (i = 2147483646 ... 2147483647)
-- n = i;
-- }
abbrev pub source : ParsedSource
source =
    (function (at 1 13) (codes "go") (spec true false false false None None) ([])
    (ParsedNext (ParsedDeclare (at 2 1) (spec false false false false None (Some t.Int32)) (at 2 5) (codes "n") (Some (ParsedNumber (at 2 9) 0 false false)))
    (ParsedNext (ParsedForEach (at 3 1) false (dimension (at 3 10) (codes "i") (ParsedNumber (at 3 14) 2147483646 false false) (ParsedNumber (at 3 29) 2147483647 false false) ∷ []) (ParsedAssign (at 4 1) (target (at 4 1) (codes "n") None) (ParsedName (at 4 5) (codes "i"))))
    ParsedLast)) (at 5 1)) ∷ []

row_1 : run source (codes "") (options 4 64 1000000)
    (codes "step 3\nstep\nprint n\n")
    ≡ codes "at 4:1 go depth 1 lanes 1000\nat 5:1 go depth 1 lanes 1111\nn = 2147483646 0 0 0\n"
unfolding digits value_of residue word_of value_in wrapped binary_of
row_1 = refl
