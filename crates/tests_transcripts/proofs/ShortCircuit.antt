-- Right sides and arms for the lanes that need them.
use Rattle.std.specs.Prelude.{◌≡◌, refl, true, false, [], ◌∷◌, Some, None, codes}
use Rattle.std.specs.Fmt.{digits}
use Rattle.gang_types.specs.Values.{value_of, residue, word_of, value_in, wrapped, binary_of}
use Rattle.gang_types.specs.declared.types.Rate.TheVariants.{Uniform}
use Rattle.gang_types.specs.declared.types.IntType.TheVariants as t
use Rattle.gang_types.specs.declared.operators.BinaryOp.TheVariants as op
use Rattle.gang_model.specs.declared.forms.Infix.TheVariants.{Op, AndAlso}
use Rattle.gang_model.specs.Source.Parsed.{ParsedNumber, ParsedName, ParsedBinary, ParsedChoice, ParsedDeclare, ParsedLast, ParsedNext, ParsedSource}
use Rattle.tests_transcripts.proofs.Forms.{at, spec, function, options, run}

-- export void go() {
-- int y = programIndex - 1;
-- bool b = y != 0 && 6 / y > 2;
-- int z = y == 0 ? 0 : 7 % y;
-- uniform uint8 u = 300;
-- int w = 7 / y;
-- }
abbrev pub source : ParsedSource
source =
    (function (at 1 13) (codes "go") (spec true false false false None None) ([])
    (ParsedNext (ParsedDeclare (at 2 1) (spec false false false false None (Some t.Int32)) (at 2 5) (codes "y") (Some (ParsedBinary (Op op.Sub) (ParsedName (at 2 9) (codes "programIndex")) (ParsedNumber (at 2 24) 1 false false))))
    (ParsedNext (ParsedDeclare (at 3 1) (spec false false false false None (Some t.Bool)) (at 3 6) (codes "b") (Some (ParsedBinary AndAlso (ParsedBinary (Op op.NotEqual) (ParsedName (at 3 10) (codes "y")) (ParsedNumber (at 3 15) 0 false false)) (ParsedBinary (Op op.Greater) (ParsedBinary (Op op.Div) (ParsedNumber (at 3 20) 6 false false) (ParsedName (at 3 24) (codes "y"))) (ParsedNumber (at 3 28) 2 false false)))))
    (ParsedNext (ParsedDeclare (at 4 1) (spec false false false false None (Some t.Int32)) (at 4 5) (codes "z") (Some (ParsedChoice (ParsedBinary (Op op.Equal) (ParsedName (at 4 9) (codes "y")) (ParsedNumber (at 4 14) 0 false false)) (ParsedNumber (at 4 18) 0 false false) (ParsedBinary (Op op.Rem) (ParsedNumber (at 4 22) 7 false false) (ParsedName (at 4 26) (codes "y"))))))
    (ParsedNext (ParsedDeclare (at 5 1) (spec false false false false (Some Uniform) (Some t.Uint8)) (at 5 15) (codes "u") (Some (ParsedNumber (at 5 19) 300 false false)))
    (ParsedNext (ParsedDeclare (at 6 1) (spec false false false false None (Some t.Int32)) (at 6 5) (codes "w") (Some (ParsedBinary (Op op.Div) (ParsedNumber (at 6 9) 7 false false) (ParsedName (at 6 13) (codes "y")))))
    ParsedLast))))) (at 7 1)) ∷ []

row_1 : run source (codes "") (options 4 64 1000000)
    (codes "step 4\nprint b\nprint z\nprint u\nstep\n")
    ≡ codes "at 6:1 go depth 1 lanes 1111\nb = false false true true\nz = 0 0 0 1\nu = 44\nfault F1 DivideByZero lane 1: at 6:1 go depth 1 lanes 1111\n"
unfolding digits value_of residue word_of value_in wrapped binary_of
row_1 = refl
