-- A call while 64 frames exist.
use Rattle.std.specs.Prelude.{◌≡◌, refl, true, false, [], ◌∷◌, None, codes}
use Rattle.std.specs.Fmt.{digits}
use Rattle.gang_types.specs.Values.{value_of, residue, word_of, value_in, wrapped, binary_of}
use Rattle.gang_model.specs.Source.Parsed.{ParsedEnd, ParsedDoCall, ParsedLast, ParsedNext, ParsedSource}
use Rattle.tests_transcripts.proofs.Forms.{at, spec, function, options, run}

-- void r() { r(); }
-- export void go() { r(); }
abbrev pub source : ParsedSource
source =
    (function (at 1 6) (codes "r") (spec false false false false None None) ([])
    (ParsedNext (ParsedDoCall (at 1 12) (codes "r") ParsedEnd)
    ParsedLast) (at 1 17)) ∷
    (function (at 2 13) (codes "go") (spec true false false false None None) ([])
    (ParsedNext (ParsedDoCall (at 2 20) (codes "r") ParsedEnd)
    ParsedLast) (at 2 25)) ∷ []

row_1 : run source (codes "") (options 4 64 1000000)
    (codes "continue\n")
    ≡ codes "fault F5 CallDepth lane 0: at 1:12 r depth 64 lanes 1111\n"
unfolding digits value_of residue word_of value_in wrapped binary_of
row_1 = refl
