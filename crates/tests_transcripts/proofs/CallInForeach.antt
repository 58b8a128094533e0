-- A call by the lanes of a round; its `return` ends nothing of the round.
use Rattle.std.specs.Prelude.{◌≡◌, refl, true, false, [], ◌∷◌, Some, None, codes}
use Rattle.std.specs.Fmt.{digits}
use Rattle.gang_types.specs.Values.{value_of, residue, word_of, value_in, wrapped, binary_of}
use Rattle.gang_types.specs.declared.types.Rate.TheVariants.{Uniform}
use Rattle.gang_types.specs.declared.types.IntType.TheVariants as t
use Rattle.gang_types.specs.declared.operators.BinaryOp.TheVariants as op
use Rattle.gang_model.specs.declared.forms.Infix.TheVariants.{Op}
use Rattle.gang_model.specs.declared.forms.GlobalForm.TheVariants.{Initial}
use Rattle.gang_model.specs.declared.forms.Literal.TheVariants.{Number}
use Rattle.gang_model.specs.Source.Parsed.{ParsedNumber, ParsedName, ParsedCall, ParsedBinary, ParsedEnd, ParsedValue, ParsedChange, ParsedDoCall, ParsedReturn, ParsedIf, ParsedForEach, ParsedLast, ParsedNext, ParsedSource}
use Rattle.tests_transcripts.proofs.Forms.{at, spec, target, dimension, parameter, function, file_variable, options, run}

-- uniform int s = 0;
-- void count(int v) {
-- if (v & 1) return;
-- s += reduce_add(v);
-- }
-- export void go() {
-- foreach (i = 0 ... 6)
-- count(i);
-- }
abbrev pub source : ParsedSource
source =
    (file_variable (at 1 13) (codes "s") (spec false false false false (Some Uniform) (Some t.Int32)) (Initial (Number false 0 false false))) ∷
    (function (at 2 6) (codes "count") (spec false false false false None None) (parameter (at 2 16) (codes "v") (spec false false false false None (Some t.Int32)) false ∷ [])
    (ParsedNext (ParsedIf (at 3 1) (ParsedBinary (Op op.And) (ParsedName (at 3 5) (codes "v")) (ParsedNumber (at 3 9) 1 false false)) (ParsedReturn (at 3 12) None))
    (ParsedNext (ParsedChange (at 4 1) (target (at 4 1) (codes "s") None) op.Add (ParsedCall (at 4 6) (codes "reduce_add") (ParsedValue (ParsedName (at 4 17) (codes "v")) ParsedEnd)))
    ParsedLast)) (at 5 1)) ∷
    (function (at 6 13) (codes "go") (spec true false false false None None) ([])
    (ParsedNext (ParsedForEach (at 7 1) false (dimension (at 7 10) (codes "i") (ParsedNumber (at 7 14) 0 false false) (ParsedNumber (at 7 20) 6 false false) ∷ []) (ParsedDoCall (at 8 1) (codes "count") (ParsedValue (ParsedName (at 8 7) (codes "i")) ParsedEnd)))
    ParsedLast) (at 9 1)) ∷ []

row_1 : run source (codes "") (options 4 64 1000000)
    (codes "step 3\nstep\nstep\nstep\nstep\nstep 4\nbacktrace\nstep\nstep\nprint s\n")
    ≡ codes "at 3:1 count depth 2 lanes 1111\nat 3:12 count depth 2 lanes 0101\nat 4:1 count depth 2 lanes 1010\nat 5:1 count depth 2 lanes 1111\nat 7:1 go depth 1 lanes 1100\nat 4:1 count depth 2 lanes 1000\nat 4:1 count depth 2 lanes 1000\nat 8:1 go depth 1 lanes 1100\nat 5:1 count depth 2 lanes 1100\nat 9:1 go depth 1 lanes 1111\ns = 6\n"
unfolding digits value_of residue word_of value_in wrapped binary_of
row_1 = refl
