-- A division faults for active lanes alone, changes nothing and is no step. Refuses the fault of an inactive lane.
use Rattle.std.specs.Prelude.{◌≡◌, refl, true, false, [], ◌∷◌, Some, None, codes}
use Rattle.std.specs.Fmt.{digits}
use Rattle.gang_types.specs.Values.{value_of, residue, word_of, value_in, wrapped, binary_of}
use Rattle.gang_types.specs.declared.types.IntType.TheVariants as t
use Rattle.gang_types.specs.declared.operators.BinaryOp.TheVariants as op
use Rattle.gang_model.specs.declared.forms.Infix.TheVariants.{Op}
use Rattle.gang_model.specs.Source.Parsed.{ParsedNumber, ParsedName, ParsedBinary, ParsedDeclare, ParsedAssign, ParsedIf, ParsedLast, ParsedNext, ParsedSource}
use Rattle.tests_transcripts.proofs.Forms.{at, spec, target, function, options, run}

-- export void go() {
-- int x = 12;
-- int y = 2 - programIndex;
-- if (y != 0) x = x / y;
-- x = x / y;
-- }
abbrev pub source : ParsedSource
source =
    (function (at 1 13) (codes "go") (spec true false false false None None) ([])
    (ParsedNext (ParsedDeclare (at 2 1) (spec false false false false None (Some t.Int32)) (at 2 5) (codes "x") (Some (ParsedNumber (at 2 9) 12 false false)))
    (ParsedNext (ParsedDeclare (at 3 1) (spec false false false false None (Some t.Int32)) (at 3 5) (codes "y") (Some (ParsedBinary (Op op.Sub) (ParsedNumber (at 3 9) 2 false false) (ParsedName (at 3 13) (codes "programIndex")))))
    (ParsedNext (ParsedIf (at 4 1) (ParsedBinary (Op op.NotEqual) (ParsedName (at 4 5) (codes "y")) (ParsedNumber (at 4 10) 0 false false)) (ParsedAssign (at 4 13) (target (at 4 13) (codes "x") None) (ParsedBinary (Op op.Div) (ParsedName (at 4 17) (codes "x")) (ParsedName (at 4 21) (codes "y")))))
    (ParsedNext (ParsedAssign (at 5 1) (target (at 5 1) (codes "x") None) (ParsedBinary (Op op.Div) (ParsedName (at 5 5) (codes "x")) (ParsedName (at 5 9) (codes "y"))))
    ParsedLast)))) (at 6 1)) ∷ []

row_1 : run source (codes "") (options 4 64 1000000)
    (codes "step 3\nstep\nprint x\nstep\nundo\nprint x\n")
    ≡ codes "at 4:13 go depth 1 lanes 1101\nat 5:1 go depth 1 lanes 1111\nx = 6 12 12 -12\nfault F1 DivideByZero lane 2: at 5:1 go depth 1 lanes 1111\nundone step: at 4:13 go depth 1 lanes 1101\nx = 12 12 12 12\n"
unfolding digits value_of residue word_of value_in wrapped binary_of
row_1 = refl
