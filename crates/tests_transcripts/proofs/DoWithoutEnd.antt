-- A `do` without a step in its body repeats its test up to the step limit.
use Rattle.std.specs.Prelude.{◌≡◌, refl, true, false, [], ◌∷◌, None, codes}
use Rattle.std.specs.Fmt.{digits}
use Rattle.gang_types.specs.Values.{value_of, residue, word_of, value_in, wrapped, binary_of}
use Rattle.gang_model.specs.Source.Parsed.{ParsedBool, ParsedEmpty, ParsedDo, ParsedLast, ParsedNext, ParsedSource}
use Rattle.tests_transcripts.proofs.Forms.{at, spec, function, options, run}

-- export void go() { do ; while (true); }
abbrev pub source : ParsedSource
source =
    (function (at 1 13) (codes "go") (spec true false false false None None) ([])
    (ParsedNext (ParsedDo ParsedEmpty (at 1 25) (ParsedBool (at 1 32) true))
    ParsedLast) (at 1 39)) ∷ []

row_1 : run source (codes "") (options 4 64 3)
    (codes "continue\nreverse-continue\n")
    ≡ codes "step limit: at 1:25 go depth 1 lanes 1111\nhistory end: at 1:25 go depth 1 lanes 1111\n"
unfolding digits value_of residue word_of value_in wrapped binary_of
row_1 = refl
