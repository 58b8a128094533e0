-- Library calls by two lanes of eight.
use Rattle.std.specs.Prelude.{◌≡◌, refl, true, false, [], ◌∷◌, Some, None, codes}
use Rattle.std.specs.Fmt.{digits}
use Rattle.gang_types.specs.Values.{value_of, residue, word_of, value_in, wrapped, binary_of}
use Rattle.gang_types.specs.declared.types.Rate.TheVariants.{Uniform}
use Rattle.gang_types.specs.declared.types.IntType.TheVariants as t
use Rattle.gang_types.specs.declared.operators.UnaryOp.TheVariants as unary
use Rattle.gang_types.specs.declared.operators.BinaryOp.TheVariants as op
use Rattle.gang_model.specs.declared.forms.Infix.TheVariants.{Op, OrElse}
use Rattle.gang_model.specs.declared.forms.GlobalForm.TheVariants.{Array}
use Rattle.gang_model.specs.Source.Parsed.{ParsedNumber, ParsedName, ParsedCall, ParsedUnary, ParsedBinary, ParsedEnd, ParsedValue, ParsedPartFrom, ParsedBlock, ParsedDeclare, ParsedAssign, ParsedIf, ParsedLast, ParsedNext, ParsedSource}
use Rattle.tests_transcripts.proofs.Forms.{at, spec, target, function, file_variable, options, run}

-- uniform int a[4];
-- export void go() {
-- int v = programIndex + 1;
-- int w = rotate(v, -1);
-- int s = -1;
-- int t = -1;
-- uniform int n = 0;
-- if (programIndex == 1 || programIndex == 3) {
-- s = exclusive_scan_add(v);
-- t = rotate(v, 2);
-- n = packed_store_active(&a[1], v);
-- }
-- }
abbrev pub source : ParsedSource
source =
    (file_variable (at 1 13) (codes "a") (spec false false false false (Some Uniform) (Some t.Int32)) (Array 4)) ∷
    (function (at 2 13) (codes "go") (spec true false false false None None) ([])
    (ParsedNext (ParsedDeclare (at 3 1) (spec false false false false None (Some t.Int32)) (at 3 5) (codes "v") (Some (ParsedBinary (Op op.Add) (ParsedName (at 3 9) (codes "programIndex")) (ParsedNumber (at 3 24) 1 false false))))
    (ParsedNext (ParsedDeclare (at 4 1) (spec false false false false None (Some t.Int32)) (at 4 5) (codes "w") (Some (ParsedCall (at 4 9) (codes "rotate") (ParsedValue (ParsedName (at 4 16) (codes "v")) (ParsedValue (ParsedUnary (at 4 19) unary.Negate (ParsedNumber (at 4 20) 1 false false)) ParsedEnd)))))
    (ParsedNext (ParsedDeclare (at 5 1) (spec false false false false None (Some t.Int32)) (at 5 5) (codes "s") (Some (ParsedUnary (at 5 9) unary.Negate (ParsedNumber (at 5 10) 1 false false))))
    (ParsedNext (ParsedDeclare (at 6 1) (spec false false false false None (Some t.Int32)) (at 6 5) (codes "t") (Some (ParsedUnary (at 6 9) unary.Negate (ParsedNumber (at 6 10) 1 false false))))
    (ParsedNext (ParsedDeclare (at 7 1) (spec false false false false (Some Uniform) (Some t.Int32)) (at 7 13) (codes "n") (Some (ParsedNumber (at 7 17) 0 false false)))
    (ParsedNext (ParsedIf (at 8 1) (ParsedBinary OrElse (ParsedBinary (Op op.Equal) (ParsedName (at 8 5) (codes "programIndex")) (ParsedNumber (at 8 21) 1 false false)) (ParsedBinary (Op op.Equal) (ParsedName (at 8 26) (codes "programIndex")) (ParsedNumber (at 8 42) 3 false false))) (ParsedBlock (ParsedNext (ParsedAssign (at 9 1) (target (at 9 1) (codes "s") None) (ParsedCall (at 9 5) (codes "exclusive_scan_add") (ParsedValue (ParsedName (at 9 24) (codes "v")) ParsedEnd)))
    (ParsedNext (ParsedAssign (at 10 1) (target (at 10 1) (codes "t") None) (ParsedCall (at 10 5) (codes "rotate") (ParsedValue (ParsedName (at 10 12) (codes "v")) (ParsedValue (ParsedNumber (at 10 15) 2 false false) ParsedEnd))))
    (ParsedNext (ParsedAssign (at 11 1) (target (at 11 1) (codes "n") None) (ParsedCall (at 11 5) (codes "packed_store_active") (ParsedPartFrom (at 11 26) (codes "a") (ParsedNumber (at 11 28) 1 false false) (ParsedValue (ParsedName (at 11 32) (codes "v")) ParsedEnd))))
    ParsedLast)))))
    ParsedLast)))))) (at 13 1)) ∷ []

row_1 : run source (codes "") (options 8 64 1000000)
    (codes "break 11\ncontinue\nstep\ninfo locals\nprint a\n")
    ≡ codes "breakpoint 1 at line 11\nbreakpoint 1: at 11:1 go depth 1 lanes 01010000\nat 13:1 go depth 1 lanes 11111111\nv = 1 2 3 4 5 6 7 8\nw = 8 1 2 3 4 5 6 7\ns = -1 0 -1 2 -1 -1 -1 -1\nt = -1 4 -1 0 -1 -1 -1 -1\nn = 2\na = 0 2 4 0\n"
unfolding digits value_of residue word_of value_in wrapped binary_of
row_1 = refl
