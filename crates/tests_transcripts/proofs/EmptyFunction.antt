-- A function without statements, and the ends of the run.
use Rattle.std.specs.Prelude.{◌≡◌, refl, true, false, [], ◌∷◌, None, codes}
use Rattle.std.specs.Fmt.{digits}
use Rattle.gang_types.specs.Values.{value_of, residue, word_of, value_in, wrapped, binary_of}
use Rattle.gang_model.specs.Source.Parsed.{ParsedLast, ParsedSource}
use Rattle.tests_transcripts.proofs.Forms.{at, spec, function, options, run}

-- export void go() { }
abbrev pub source : ParsedSource
source =
    (function (at 1 13) (codes "go") (spec true false false false None None) ([])
    ParsedLast (at 1 20)) ∷ []

row_1 : run source (codes "") (options 4 64 1000000)
    (codes "step\nstep\nreverse-step\nreverse-step\n")
    ≡ codes "ended\nC4 Ended\nat 1:20 go depth 1 lanes 1111\nC3 NoHistory\n"
unfolding digits value_of residue word_of value_in wrapped binary_of
row_1 = refl
