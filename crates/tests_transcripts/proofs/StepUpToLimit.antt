-- A command with a goal ends at the step limit too.
use Rattle.std.specs.Prelude.{◌≡◌, refl, true, false, [], ◌∷◌, None, codes}
use Rattle.std.specs.Fmt.{digits}
use Rattle.gang_types.specs.Values.{value_of, residue, word_of, value_in, wrapped, binary_of}
use Rattle.gang_model.specs.Source.Parsed.{ParsedEmpty, ParsedFor, ParsedLast, ParsedNext, ParsedSource}
use Rattle.tests_transcripts.proofs.Forms.{at, spec, function, options, run}

-- export void go() { for (;;) ; }
abbrev pub source : ParsedSource
source =
    (function (at 1 13) (codes "go") (spec true false false false None None) ([])
    (ParsedNext (ParsedFor (at 1 20) ParsedEmpty None ParsedEmpty ParsedEmpty)
    ParsedLast) (at 1 31)) ∷ []

row_1 : run source (codes "") (options 4 64 3)
    (codes "step 5\n")
    ≡ codes "step limit: at 1:20 go depth 1 lanes 1111\n"
unfolding digits value_of residue word_of value_in wrapped binary_of
row_1 = refl
