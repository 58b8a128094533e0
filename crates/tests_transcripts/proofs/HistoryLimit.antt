-- Taking back stops at the history limit.
use Rattle.std.specs.Prelude.{◌≡◌, refl, true, false, [], ◌∷◌, Some, None, codes}
use Rattle.std.specs.Fmt.{digits}
use Rattle.gang_types.specs.Values.{value_of, residue, word_of, value_in, wrapped, binary_of}
use Rattle.gang_types.specs.declared.types.Rate.TheVariants.{Uniform}
use Rattle.gang_types.specs.declared.types.IntType.TheVariants as t
use Rattle.gang_types.specs.declared.operators.BinaryOp.TheVariants as op
use Rattle.gang_model.specs.declared.forms.GlobalForm.TheVariants.{Initial}
use Rattle.gang_model.specs.declared.forms.Literal.TheVariants.{Number}
use Rattle.gang_model.specs.Source.Parsed.{ParsedNumber, ParsedChange, ParsedLast, ParsedNext, ParsedSource}
use Rattle.tests_transcripts.proofs.Forms.{at, spec, target, function, file_variable, options, run}

-- uniform int t = 0;
-- export void go() {
-- t += 1;
-- t += 1;
-- t += 1;
-- t += 1;
-- t += 1;
-- t += 1;
-- }
abbrev pub source : ParsedSource
source =
    (file_variable (at 1 13) (codes "t") (spec false false false false (Some Uniform) (Some t.Int32)) (Initial (Number false 0 false false))) ∷
    (function (at 2 13) (codes "go") (spec true false false false None None) ([])
    (ParsedNext (ParsedChange (at 3 1) (target (at 3 1) (codes "t") None) op.Add (ParsedNumber (at 3 6) 1 false false))
    (ParsedNext (ParsedChange (at 4 1) (target (at 4 1) (codes "t") None) op.Add (ParsedNumber (at 4 6) 1 false false))
    (ParsedNext (ParsedChange (at 5 1) (target (at 5 1) (codes "t") None) op.Add (ParsedNumber (at 5 6) 1 false false))
    (ParsedNext (ParsedChange (at 6 1) (target (at 6 1) (codes "t") None) op.Add (ParsedNumber (at 6 6) 1 false false))
    (ParsedNext (ParsedChange (at 7 1) (target (at 7 1) (codes "t") None) op.Add (ParsedNumber (at 7 6) 1 false false))
    (ParsedNext (ParsedChange (at 8 1) (target (at 8 1) (codes "t") None) op.Add (ParsedNumber (at 8 6) 1 false false))
    ParsedLast)))))) (at 9 1)) ∷ []

row_1 : run source (codes "") (options 4 4 1000000)
    (codes "step 6\nreverse-step\nreverse-step\nreverse-step\nreverse-step\nreverse-step\nprint t\nstep\nundo\nundo\nstep 4\nreverse-step 9\n")
    ≡ codes "at 9:1 go depth 1 lanes 1111\nat 8:1 go depth 1 lanes 1111\nat 7:1 go depth 1 lanes 1111\nat 6:1 go depth 1 lanes 1111\nat 5:1 go depth 1 lanes 1111\nC3 NoHistory\nt = 2\nat 6:1 go depth 1 lanes 1111\nundone step: at 5:1 go depth 1 lanes 1111\nC3 NoHistory\nat 9:1 go depth 1 lanes 1111\nhistory end: at 5:1 go depth 1 lanes 1111\n"
unfolding digits value_of residue word_of value_in wrapped binary_of
row_1 = refl
