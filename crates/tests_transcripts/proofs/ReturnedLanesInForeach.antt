-- A foreach runs over all lanes of the gang, also those that returned. Refuses returned lanes that stay out of its body.
use Rattle.std.specs.Prelude.{◌≡◌, refl, true, false, [], ◌∷◌, Some, None, codes}
use Rattle.std.specs.Fmt.{digits}
use Rattle.gang_types.specs.Values.{value_of, residue, word_of, value_in, wrapped, binary_of}
use Rattle.gang_types.specs.declared.types.Rate.TheVariants.{Uniform}
use Rattle.gang_types.specs.declared.types.IntType.TheVariants as t
use Rattle.gang_types.specs.declared.operators.BinaryOp.TheVariants as op
use Rattle.gang_model.specs.declared.forms.Infix.TheVariants.{Op}
use Rattle.gang_model.specs.declared.forms.GlobalForm.TheVariants.{Array}
use Rattle.gang_model.specs.Source.Parsed.{ParsedNumber, ParsedName, ParsedBinary, ParsedBlock, ParsedDeclare, ParsedAssign, ParsedChange, ParsedReturn, ParsedIf, ParsedForEach, ParsedLast, ParsedNext, ParsedSource}
use Rattle.tests_transcripts.proofs.Forms.{at, spec, target, dimension, function, file_variable, options, run}

-- uniform int a[6];
-- export void go() {
-- int n = 0;
-- if (programIndex == 0) return;
-- foreach (i = 0 ... 6) {
-- if (i > 0) a[i] = i * 10;
-- n += 1;
-- }
-- n += 100;
-- }
abbrev pub source : ParsedSource
source =
    (file_variable (at 1 13) (codes "a") (spec false false false false (Some Uniform) (Some t.Int32)) (Array 6)) ∷
    (function (at 2 13) (codes "go") (spec true false false false None None) ([])
    (ParsedNext (ParsedDeclare (at 3 1) (spec false false false false None (Some t.Int32)) (at 3 5) (codes "n") (Some (ParsedNumber (at 3 9) 0 false false)))
    (ParsedNext (ParsedIf (at 4 1) (ParsedBinary (Op op.Equal) (ParsedName (at 4 5) (codes "programIndex")) (ParsedNumber (at 4 21) 0 false false)) (ParsedReturn (at 4 24) None))
    (ParsedNext (ParsedForEach (at 5 1) false (dimension (at 5 10) (codes "i") (ParsedNumber (at 5 14) 0 false false) (ParsedNumber (at 5 20) 6 false false) ∷ []) (ParsedBlock (ParsedNext (ParsedIf (at 6 1) (ParsedBinary (Op op.Greater) (ParsedName (at 6 5) (codes "i")) (ParsedNumber (at 6 9) 0 false false)) (ParsedAssign (at 6 12) (target (at 6 12) (codes "a") (Some (ParsedName (at 6 14) (codes "i")))) (ParsedBinary (Op op.Mul) (ParsedName (at 6 19) (codes "i")) (ParsedNumber (at 6 23) 10 false false))))
    (ParsedNext (ParsedChange (at 7 1) (target (at 7 1) (codes "n") None) op.Add (ParsedNumber (at 7 6) 1 false false))
    ParsedLast))))
    (ParsedNext (ParsedChange (at 9 1) (target (at 9 1) (codes "n") None) op.Add (ParsedNumber (at 9 6) 100 false false))
    ParsedLast)))) (at 10 1)) ∷ []

row_1 : run source (codes "") (options 4 64 1000000)
    (codes "step 3\nstep\nstep 2\nstep 6\nstep\nprint n\nprint a\n")
    ≡ codes "at 5:1 go depth 1 lanes 0111\nat 5:1 go depth 1 lanes 1111\nat 6:12 go depth 1 lanes 0111\nat 9:1 go depth 1 lanes 0111\nat 10:1 go depth 1 lanes 1111\nn = 2 102 101 101\na = 0 10 20 30 40 50\n"
unfolding digits value_of residue word_of value_in wrapped binary_of
row_1 = refl
