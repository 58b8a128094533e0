-- A lane that does not exist.
use Rattle.std.specs.Prelude.{◌≡◌, refl, true, false, [], ◌∷◌, Some, None, codes}
use Rattle.std.specs.Fmt.{digits}
use Rattle.gang_types.specs.Values.{value_of, residue, word_of, value_in, wrapped, binary_of}
use Rattle.gang_types.specs.declared.types.IntType.TheVariants as t
use Rattle.gang_model.specs.Source.Parsed.{ParsedNumber, ParsedName, ParsedCall, ParsedEnd, ParsedValue, ParsedDeclare, ParsedLast, ParsedNext, ParsedSource}
use Rattle.tests_transcripts.proofs.Forms.{at, spec, function, options, run}

-- export void go() { int x = extract(programIndex, 4); }
abbrev pub source : ParsedSource
source =
    (function (at 1 13) (codes "go") (spec true false false false None None) ([])
    (ParsedNext (ParsedDeclare (at 1 20) (spec false false false false None (Some t.Int32)) (at 1 24) (codes "x") (Some (ParsedCall (at 1 28) (codes "extract") (ParsedValue (ParsedName (at 1 36) (codes "programIndex")) (ParsedValue (ParsedNumber (at 1 50) 4 false false) ParsedEnd)))))
    ParsedLast) (at 1 54)) ∷ []

row_1 : run source (codes "") (options 4 64 1000000)
    (codes "step\n")
    ≡ codes "fault F3 LaneIndex lane 0: at 1:20 go depth 1 lanes 1111\n"
unfolding digits value_of residue word_of value_in wrapped binary_of
row_1 = refl
