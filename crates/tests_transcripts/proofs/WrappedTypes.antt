-- Values wrap at their types' widths.
use Rattle.std.specs.Prelude.{◌≡◌, refl, true, false, [], ◌∷◌, Some, None, codes}
use Rattle.std.specs.Fmt.{digits}
use Rattle.gang_types.specs.Values.{value_of, residue, word_of, value_in, wrapped, binary_of}
use Rattle.gang_types.specs.declared.types.IntType.TheVariants as t
use Rattle.gang_types.specs.declared.operators.UnaryOp.TheVariants as unary
use Rattle.gang_types.specs.declared.operators.BinaryOp.TheVariants as op
use Rattle.gang_model.specs.declared.forms.Infix.TheVariants.{Op}
use Rattle.gang_model.specs.Source.Parsed.{ParsedNumber, ParsedName, ParsedUnary, ParsedBinary, ParsedDeclare, ParsedLast, ParsedNext, ParsedSource}
use Rattle.tests_transcripts.proofs.Forms.{at, spec, function, options, run}

-- export void go() {
-- int8 a = 100;
-- int8 b = a + a;
-- int c = -2147483648;
-- int d = c / -1;
-- int e = 5 << 32;
-- unsigned int8 f = a << 1;
-- }
abbrev pub source : ParsedSource
source =
    (function (at 1 13) (codes "go") (spec true false false false None None) ([])
    (ParsedNext (ParsedDeclare (at 2 1) (spec false false false false None (Some t.Int8)) (at 2 6) (codes "a") (Some (ParsedNumber (at 2 10) 100 false false)))
    (ParsedNext (ParsedDeclare (at 3 1) (spec false false false false None (Some t.Int8)) (at 3 6) (codes "b") (Some (ParsedBinary (Op op.Add) (ParsedName (at 3 10) (codes "a")) (ParsedName (at 3 14) (codes "a")))))
    (ParsedNext (ParsedDeclare (at 4 1) (spec false false false false None (Some t.Int32)) (at 4 5) (codes "c") (Some (ParsedUnary (at 4 9) unary.Negate (ParsedNumber (at 4 10) 2147483648 false false))))
    (ParsedNext (ParsedDeclare (at 5 1) (spec false false false false None (Some t.Int32)) (at 5 5) (codes "d") (Some (ParsedBinary (Op op.Div) (ParsedName (at 5 9) (codes "c")) (ParsedUnary (at 5 13) unary.Negate (ParsedNumber (at 5 14) 1 false false)))))
    (ParsedNext (ParsedDeclare (at 6 1) (spec false false false false None (Some t.Int32)) (at 6 5) (codes "e") (Some (ParsedBinary (Op op.Shl) (ParsedNumber (at 6 9) 5 false false) (ParsedNumber (at 6 14) 32 false false))))
    (ParsedNext (ParsedDeclare (at 7 1) (spec false false false false None (Some t.Uint8)) (at 7 15) (codes "f") (Some (ParsedBinary (Op op.Shl) (ParsedName (at 7 19) (codes "a")) (ParsedNumber (at 7 24) 1 false false))))
    ParsedLast)))))) (at 8 1)) ∷ []

row_1 : run source (codes "") (options 4 64 1000000)
    (codes "step 6\ninfo locals\n")
    ≡ codes "at 8:1 go depth 1 lanes 1111\na = 100 100 100 100\nb = -56 -56 -56 -56\nc = -2147483648 -2147483648 -2147483648 -2147483648\nd = -2147483648 -2147483648 -2147483648 -2147483648\ne = 5 5 5 5\nf = 200 200 200 200\n"
unfolding digits value_of residue word_of value_in wrapped binary_of
row_1 = refl
