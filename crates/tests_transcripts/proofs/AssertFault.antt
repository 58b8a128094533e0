-- An assertion that is false in one lane.
use Rattle.std.specs.Prelude.{◌≡◌, refl, true, false, [], ◌∷◌, None, codes}
use Rattle.std.specs.Fmt.{digits}
use Rattle.gang_types.specs.Values.{value_of, residue, word_of, value_in, wrapped, binary_of}
use Rattle.gang_types.specs.declared.operators.BinaryOp.TheVariants as op
use Rattle.gang_model.specs.declared.forms.Infix.TheVariants.{Op}
use Rattle.gang_model.specs.Source.Parsed.{ParsedNumber, ParsedName, ParsedBinary, ParsedEnd, ParsedValue, ParsedDoCall, ParsedLast, ParsedNext, ParsedSource}
use Rattle.tests_transcripts.proofs.Forms.{at, spec, function, options, run}

-- export void go() { assert(programIndex < 3); }
abbrev pub source : ParsedSource
source =
    (function (at 1 13) (codes "go") (spec true false false false None None) ([])
    (ParsedNext (ParsedDoCall (at 1 20) (codes "assert") (ParsedValue (ParsedBinary (Op op.Less) (ParsedName (at 1 27) (codes "programIndex")) (ParsedNumber (at 1 42) 3 false false)) ParsedEnd))
    ParsedLast) (at 1 46)) ∷ []

row_1 : run source (codes "") (options 4 64 1000000)
    (codes "step\n")
    ≡ codes "fault F4 Assert lane 3: at 1:20 go depth 1 lanes 1111\n"
unfolding digits value_of residue word_of value_in wrapped binary_of
row_1 = refl
