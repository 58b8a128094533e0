-- Index variables are in scope in their body alone, and are listed among the locals.
use Rattle.std.specs.Prelude.{◌≡◌, refl, true, false, [], ◌∷◌, Some, None, codes}
use Rattle.std.specs.Fmt.{digits}
use Rattle.gang_types.specs.Values.{value_of, residue, word_of, value_in, wrapped, binary_of}
use Rattle.gang_types.specs.declared.types.IntType.TheVariants as t
use Rattle.gang_model.specs.Source.Parsed.{ParsedNumber, ParsedName, ParsedCast, ParsedEmpty, ParsedBlock, ParsedDeclare, ParsedAssign, ParsedForEach, ParsedForEachActive, ParsedForEachUnique, ParsedLast, ParsedNext, ParsedSource}
use Rattle.tests_transcripts.proofs.Forms.{at, spec, target, dimension, function, options, run}

-- export void go() {
-- int n = 5;
-- foreach (i = 0 ... 2) {
-- n = i;
-- }
-- foreach_active (k)
-- foreach_unique (v in (int8)n) ;
-- }
abbrev pub source : ParsedSource
source =
    (function (at 1 13) (codes "go") (spec true false false false None None) ([])
    (ParsedNext (ParsedDeclare (at 2 1) (spec false false false false None (Some t.Int32)) (at 2 5) (codes "n") (Some (ParsedNumber (at 2 9) 5 false false)))
    (ParsedNext (ParsedForEach (at 3 1) false (dimension (at 3 10) (codes "i") (ParsedNumber (at 3 14) 0 false false) (ParsedNumber (at 3 20) 2 false false) ∷ []) (ParsedBlock (ParsedNext (ParsedAssign (at 4 1) (target (at 4 1) (codes "n") None) (ParsedName (at 4 5) (codes "i")))
    ParsedLast)))
    (ParsedNext (ParsedForEachActive (at 6 1) (at 6 17) (codes "k") (ParsedForEachUnique (at 7 1) (at 7 17) (codes "v") (ParsedCast (at 7 22) None (Some t.Int8) (ParsedName (at 7 28) (codes "n"))) ParsedEmpty))
    ParsedLast))) (at 8 1)) ∷ []

row_1 : run source (codes "") (options 4 64 1000000)
    (codes "step 2\ninfo locals\nstep\ninfo locals\nstep\ninfo locals\nstep 3\ninfo locals\nstep\nstep 2\nprint k\nprint v\n")
    ≡ codes "at 3:1 go depth 1 lanes 1100\nn = 5 5 5 5\nat 4:1 go depth 1 lanes 1100\nn = 5 5 5 5\ni = 0 1 0 0\nat 6:1 go depth 1 lanes 1111\nn = 0 1 5 5\nat 7:1 go depth 1 lanes 1000\nn = 0 1 5 5\nk = 0\nat 6:1 go depth 1 lanes 0100\nat 7:1 go depth 1 lanes 0100\nk = 1\nC2 NoSuchName\n"
unfolding digits value_of residue word_of value_in wrapped binary_of
row_1 = refl
