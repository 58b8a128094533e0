-- 64 frames may exist.
use Rattle.std.specs.Prelude.{◌≡◌, refl, true, false, [], ◌∷◌, Some, None, codes}
use Rattle.std.specs.Fmt.{digits}
use Rattle.gang_types.specs.Values.{value_of, residue, word_of, value_in, wrapped, binary_of}
use Rattle.gang_types.specs.declared.types.Rate.TheVariants.{Uniform}
use Rattle.gang_types.specs.declared.types.IntType.TheVariants as t
use Rattle.gang_types.specs.declared.operators.BinaryOp.TheVariants as op
use Rattle.gang_model.specs.declared.forms.Infix.TheVariants.{Op}
use Rattle.gang_model.specs.Source.Parsed.{ParsedNumber, ParsedName, ParsedBinary, ParsedEnd, ParsedValue, ParsedDoCall, ParsedIf, ParsedLast, ParsedNext, ParsedSource}
use Rattle.tests_transcripts.proofs.Forms.{at, spec, parameter, function, options, run}

-- void r(uniform int n) {
-- if (n > 1) r(n - 1);
-- }
-- export void go() {
-- r(63);
-- }
abbrev pub source : ParsedSource
source =
    (function (at 1 6) (codes "r") (spec false false false false None None) (parameter (at 1 20) (codes "n") (spec false false false false (Some Uniform) (Some t.Int32)) false ∷ [])
    (ParsedNext (ParsedIf (at 2 1) (ParsedBinary (Op op.Greater) (ParsedName (at 2 5) (codes "n")) (ParsedNumber (at 2 9) 1 false false)) (ParsedDoCall (at 2 12) (codes "r") (ParsedValue (ParsedBinary (Op op.Sub) (ParsedName (at 2 14) (codes "n")) (ParsedNumber (at 2 18) 1 false false)) ParsedEnd)))
    ParsedLast) (at 3 1)) ∷
    (function (at 4 13) (codes "go") (spec true false false false None None) ([])
    (ParsedNext (ParsedDoCall (at 5 1) (codes "r") (ParsedValue (ParsedNumber (at 5 3) 63 false false) ParsedEnd))
    ParsedLast) (at 6 1)) ∷ []

row_1 : run source (codes "") (options 4 64 1000000)
    (codes "break 3\ncontinue\nprint n\ndelete 1\nfinish\n")
    ≡ codes "breakpoint 1 at line 3\nbreakpoint 1: at 3:1 r depth 64 lanes 1111\nn = 1\ndeleted 1\nat 3:1 r depth 63 lanes 1111\n"
unfolding digits value_of residue word_of value_in wrapped binary_of
row_1 = refl
