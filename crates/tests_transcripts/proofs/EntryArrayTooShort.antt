-- A gather past the end of an entry array.
use Rattle.std.specs.Prelude.{◌≡◌, refl, true, false, [], ◌∷◌, Some, None, codes}
use Rattle.std.specs.Fmt.{digits}
use Rattle.gang_types.specs.Values.{value_of, residue, word_of, value_in, wrapped, binary_of}
use Rattle.gang_types.specs.declared.types.Rate.TheVariants.{Uniform}
use Rattle.gang_types.specs.declared.types.IntType.TheVariants as t
use Rattle.gang_types.specs.declared.operators.BinaryOp.TheVariants as op
use Rattle.gang_model.specs.Source.Parsed.{ParsedNumber, ParsedName, ParsedChange, ParsedForEach, ParsedLast, ParsedNext, ParsedSource}
use Rattle.tests_transcripts.proofs.Forms.{at, spec, target, dimension, parameter, function, options, run}

-- export void go(uniform int n, uniform int a[]) {
-- foreach (i = 0 ... n) a[i] += n;
-- }
abbrev pub source : ParsedSource
source =
    (function (at 1 13) (codes "go") (spec true false false false None None) (parameter (at 1 28) (codes "n") (spec false false false false (Some Uniform) (Some t.Int32)) false ∷ parameter (at 1 43) (codes "a") (spec false false false false (Some Uniform) (Some t.Int32)) true ∷ [])
    (ParsedNext (ParsedForEach (at 2 1) false (dimension (at 2 10) (codes "i") (ParsedNumber (at 2 14) 0 false false) (ParsedName (at 2 20) (codes "n")) ∷ []) (ParsedChange (at 2 23) (target (at 2 23) (codes "a") (Some (ParsedName (at 2 25) (codes "i")))) op.Add (ParsedName (at 2 31) (codes "n"))))
    ParsedLast) (at 3 1)) ∷ []

row_1 : run source (codes "n = 4\na = 1 2 3") (options 4 64 1000000)
    (codes "continue\nprint a\n")
    ≡ codes "fault F2 Index lane 3: at 2:23 go depth 1 lanes 1111\na = 1 2 3\n"
unfolding digits value_of residue word_of value_in wrapped binary_of
row_1 = refl
