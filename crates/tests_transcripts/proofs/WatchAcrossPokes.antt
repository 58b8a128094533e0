-- A watch over steps and pokes, forwards and back.
use Rattle.std.specs.Prelude.{◌≡◌, refl, true, false, [], ◌∷◌, Some, None, codes}
use Rattle.std.specs.Fmt.{digits}
use Rattle.gang_types.specs.Values.{value_of, residue, word_of, value_in, wrapped, binary_of}
use Rattle.gang_types.specs.declared.types.Rate.TheVariants.{Uniform}
use Rattle.gang_types.specs.declared.types.IntType.TheVariants as t
use Rattle.gang_types.specs.declared.operators.BinaryOp.TheVariants as op
use Rattle.gang_model.specs.declared.forms.GlobalForm.TheVariants.{Initial}
use Rattle.gang_model.specs.declared.forms.Literal.TheVariants.{Number}
use Rattle.gang_model.specs.Source.Parsed.{ParsedNumber, ParsedChange, ParsedForEach, ParsedLast, ParsedNext, ParsedSource}
use Rattle.tests_transcripts.proofs.Forms.{at, spec, target, dimension, function, file_variable, options, run}

-- uniform int8 q = 1;
-- export void go() {
-- foreach (i = 0 ... 4)
-- q += 1;
-- }
abbrev pub source : ParsedSource
source =
    (file_variable (at 1 14) (codes "q") (spec false false false false (Some Uniform) (Some t.Int8)) (Initial (Number false 1 false false))) ∷
    (function (at 2 13) (codes "go") (spec true false false false None None) ([])
    (ParsedNext (ParsedForEach (at 3 1) false (dimension (at 3 10) (codes "i") (ParsedNumber (at 3 14) 0 false false) (ParsedNumber (at 3 20) 4 false false) ∷ []) (ParsedChange (at 4 1) (target (at 4 1) (codes "q") None) op.Add (ParsedNumber (at 4 6) 1 false false)))
    ParsedLast) (at 5 1)) ∷ []

row_1 : run source (codes "") (options 4 64 1000000)
    (codes "step 2\nwatch q\nset var q = 9\nstep 5\nreverse-step 2\nprint q\nreverse-continue\nreverse-continue\nundo\n")
    ≡ codes "at 4:1 go depth 1 lanes 1111\nwatch 1: q\nq = 9\nwatch 1: at 5:1 go depth 1 lanes 1111\nwatch 1: at 4:1 go depth 1 lanes 1111\nq = 9\nwatch 1: at 3:1 go depth 1 lanes 1111\nhistory end: at 3:1 go depth 1 lanes 1111\nC3 NoHistory\n"
unfolding digits value_of residue word_of value_in wrapped binary_of
row_1 = refl
