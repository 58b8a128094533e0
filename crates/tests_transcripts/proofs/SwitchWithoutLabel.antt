-- A value without a label goes past the switch.
use Rattle.std.specs.Prelude.{◌≡◌, refl, true, false, [], ◌∷◌, Some, None, codes}
use Rattle.std.specs.Fmt.{digits}
use Rattle.gang_types.specs.Values.{value_of, residue, word_of, value_in, wrapped, binary_of}
use Rattle.gang_model.specs.Source.Parsed.{ParsedName, ParsedEmpty, ParsedSwitch, ParsedLast, ParsedNext, ParsedNoMore, ParsedSegment, ParsedSource}
use Rattle.tests_transcripts.proofs.Forms.{at, spec, label, function, options, run}

-- export void go() { switch (programCount) { case 5: ; } }
abbrev pub source : ParsedSource
source =
    (function (at 1 13) (codes "go") (spec true false false false None None) ([])
    (ParsedNext (ParsedSwitch (at 1 20) (ParsedName (at 1 28) (codes "programCount")) (ParsedSegment (at 1 44) (Some (label false 5)) (ParsedNext ParsedEmpty ParsedLast) ParsedNoMore))
    ParsedLast) (at 1 56)) ∷ []

row_1 : run source (codes "") (options 4 64 1000000)
    (codes "step\n")
    ≡ codes "at 1:56 go depth 1 lanes 1111\n"
unfolding digits value_of residue word_of value_in wrapped binary_of
row_1 = refl
