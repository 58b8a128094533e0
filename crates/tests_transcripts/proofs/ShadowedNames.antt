-- The variables in scope, without those that an inner declaration hides, and without the parameters.
use Rattle.std.specs.Prelude.{◌≡◌, refl, true, false, [], ◌∷◌, Some, None, codes}
use Rattle.std.specs.Fmt.{digits}
use Rattle.gang_types.specs.Values.{value_of, residue, word_of, value_in, wrapped, binary_of}
use Rattle.gang_types.specs.declared.types.Rate.TheVariants.{Uniform}
use Rattle.gang_types.specs.declared.types.IntType.TheVariants as t
use Rattle.gang_types.specs.declared.operators.BinaryOp.TheVariants as op
use Rattle.gang_model.specs.declared.forms.Infix.TheVariants.{Op}
use Rattle.gang_model.specs.Source.Parsed.{ParsedNumber, ParsedName, ParsedBinary, ParsedBlock, ParsedDeclare, ParsedAssign, ParsedChange, ParsedIncrement, ParsedFor, ParsedLast, ParsedNext, ParsedSource}
use Rattle.tests_transcripts.proofs.Forms.{at, spec, target, parameter, function, options, run}

-- export void go(uniform int p) {
-- int x = 1;
-- int y = 2;
-- {
-- int x = 30;
-- for (uniform int y = 4; y < 5; y++) {
-- x += y;
-- }
-- y = x;
-- }
-- x = y;
-- }
abbrev pub source : ParsedSource
source =
    (function (at 1 13) (codes "go") (spec true false false false None None) (parameter (at 1 28) (codes "p") (spec false false false false (Some Uniform) (Some t.Int32)) false ∷ [])
    (ParsedNext (ParsedDeclare (at 2 1) (spec false false false false None (Some t.Int32)) (at 2 5) (codes "x") (Some (ParsedNumber (at 2 9) 1 false false)))
    (ParsedNext (ParsedDeclare (at 3 1) (spec false false false false None (Some t.Int32)) (at 3 5) (codes "y") (Some (ParsedNumber (at 3 9) 2 false false)))
    (ParsedNext (ParsedBlock (ParsedNext (ParsedDeclare (at 5 1) (spec false false false false None (Some t.Int32)) (at 5 5) (codes "x") (Some (ParsedNumber (at 5 9) 30 false false)))
    (ParsedNext (ParsedFor (at 6 1) (ParsedDeclare (at 6 6) (spec false false false false (Some Uniform) (Some t.Int32)) (at 6 18) (codes "y") (Some (ParsedNumber (at 6 22) 4 false false))) (Some (ParsedBinary (Op op.Less) (ParsedName (at 6 25) (codes "y")) (ParsedNumber (at 6 29) 5 false false))) (ParsedIncrement (at 6 32) (target (at 6 32) (codes "y") None) op.Add) (ParsedBlock (ParsedNext (ParsedChange (at 7 1) (target (at 7 1) (codes "x") None) op.Add (ParsedName (at 7 6) (codes "y")))
    ParsedLast)))
    (ParsedNext (ParsedAssign (at 9 1) (target (at 9 1) (codes "y") None) (ParsedName (at 9 5) (codes "x")))
    ParsedLast))))
    (ParsedNext (ParsedAssign (at 11 1) (target (at 11 1) (codes "x") None) (ParsedName (at 11 5) (codes "y")))
    ParsedLast)))) (at 12 1)) ∷ []

row_1 : run source (codes "p = 7") (options 4 64 1000000)
    (codes "info locals\nstep 2\ninfo locals\nstep\ninfo locals\nstep 2\ninfo locals\nset var x = 7\nstep\nstep 2\ninfo locals\nstep\ninfo locals\nstep\nprint x\nprint p\n")
    ≡ codes "none\nat 5:1 go depth 1 lanes 1111\nx = 1 1 1 1\ny = 2 2 2 2\nat 6:6 go depth 1 lanes 1111\ny = 2 2 2 2\nx = 30 30 30 30\nat 7:1 go depth 1 lanes 1111\nx = 30 30 30 30\ny = 4\nx = 7 7 7 7\nat 6:32 go depth 1 lanes 1111\nat 9:1 go depth 1 lanes 1111\ny = 2 2 2 2\nx = 11 11 11 11\nat 11:1 go depth 1 lanes 1111\nx = 1 1 1 1\ny = 11 11 11 11\nat 12:1 go depth 1 lanes 1111\nx = 11 11 11 11\np = 7\n"
unfolding digits value_of residue word_of value_in wrapped binary_of
row_1 = refl
