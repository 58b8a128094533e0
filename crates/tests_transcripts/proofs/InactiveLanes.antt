-- In calls across lanes an inactive lane counts as 0.
use Rattle.std.specs.Prelude.{◌≡◌, refl, true, false, [], ◌∷◌, Some, None, codes}
use Rattle.std.specs.Fmt.{digits}
use Rattle.gang_types.specs.Values.{value_of, residue, word_of, value_in, wrapped, binary_of}
use Rattle.gang_types.specs.declared.types.IntType.TheVariants as t
use Rattle.gang_types.specs.declared.operators.UnaryOp.TheVariants as unary
use Rattle.gang_types.specs.declared.operators.BinaryOp.TheVariants as op
use Rattle.gang_model.specs.declared.forms.Infix.TheVariants.{Op}
use Rattle.gang_model.specs.Source.Parsed.{ParsedNumber, ParsedName, ParsedCall, ParsedUnary, ParsedBinary, ParsedEnd, ParsedValue, ParsedBlock, ParsedDeclare, ParsedAssign, ParsedIf, ParsedLast, ParsedNext, ParsedSource}
use Rattle.tests_transcripts.proofs.Forms.{at, spec, target, function, options, run}

-- export void go() {
-- int v = programIndex + 5;
-- int x = 0;
-- if (programIndex & 1) {
-- x = broadcast(9, 0);
-- x = broadcast(9, 1);
-- x = shift(v, 2);
-- x = shift(v, -1);
-- x = shift(v, 2147483647);
-- x = rotate(v, -2);
-- x = rotate(v, 5);
-- x = insert(v, 0, 3);
-- x = shuffle(v, v, 7);
-- x = extract(v, 2);
-- }
-- }
abbrev pub source : ParsedSource
source =
    (function (at 1 13) (codes "go") (spec true false false false None None) ([])
    (ParsedNext (ParsedDeclare (at 2 1) (spec false false false false None (Some t.Int32)) (at 2 5) (codes "v") (Some (ParsedBinary (Op op.Add) (ParsedName (at 2 9) (codes "programIndex")) (ParsedNumber (at 2 24) 5 false false))))
    (ParsedNext (ParsedDeclare (at 3 1) (spec false false false false None (Some t.Int32)) (at 3 5) (codes "x") (Some (ParsedNumber (at 3 9) 0 false false)))
    (ParsedNext (ParsedIf (at 4 1) (ParsedBinary (Op op.And) (ParsedName (at 4 5) (codes "programIndex")) (ParsedNumber (at 4 20) 1 false false)) (ParsedBlock (ParsedNext (ParsedAssign (at 5 1) (target (at 5 1) (codes "x") None) (ParsedCall (at 5 5) (codes "broadcast") (ParsedValue (ParsedNumber (at 5 15) 9 false false) (ParsedValue (ParsedNumber (at 5 18) 0 false false) ParsedEnd))))
    (ParsedNext (ParsedAssign (at 6 1) (target (at 6 1) (codes "x") None) (ParsedCall (at 6 5) (codes "broadcast") (ParsedValue (ParsedNumber (at 6 15) 9 false false) (ParsedValue (ParsedNumber (at 6 18) 1 false false) ParsedEnd))))
    (ParsedNext (ParsedAssign (at 7 1) (target (at 7 1) (codes "x") None) (ParsedCall (at 7 5) (codes "shift") (ParsedValue (ParsedName (at 7 11) (codes "v")) (ParsedValue (ParsedNumber (at 7 14) 2 false false) ParsedEnd))))
    (ParsedNext (ParsedAssign (at 8 1) (target (at 8 1) (codes "x") None) (ParsedCall (at 8 5) (codes "shift") (ParsedValue (ParsedName (at 8 11) (codes "v")) (ParsedValue (ParsedUnary (at 8 14) unary.Negate (ParsedNumber (at 8 15) 1 false false)) ParsedEnd))))
    (ParsedNext (ParsedAssign (at 9 1) (target (at 9 1) (codes "x") None) (ParsedCall (at 9 5) (codes "shift") (ParsedValue (ParsedName (at 9 11) (codes "v")) (ParsedValue (ParsedNumber (at 9 14) 2147483647 false false) ParsedEnd))))
    (ParsedNext (ParsedAssign (at 10 1) (target (at 10 1) (codes "x") None) (ParsedCall (at 10 5) (codes "rotate") (ParsedValue (ParsedName (at 10 12) (codes "v")) (ParsedValue (ParsedUnary (at 10 15) unary.Negate (ParsedNumber (at 10 16) 2 false false)) ParsedEnd))))
    (ParsedNext (ParsedAssign (at 11 1) (target (at 11 1) (codes "x") None) (ParsedCall (at 11 5) (codes "rotate") (ParsedValue (ParsedName (at 11 12) (codes "v")) (ParsedValue (ParsedNumber (at 11 15) 5 false false) ParsedEnd))))
    (ParsedNext (ParsedAssign (at 12 1) (target (at 12 1) (codes "x") None) (ParsedCall (at 12 5) (codes "insert") (ParsedValue (ParsedName (at 12 12) (codes "v")) (ParsedValue (ParsedNumber (at 12 15) 0 false false) (ParsedValue (ParsedNumber (at 12 18) 3 false false) ParsedEnd)))))
    (ParsedNext (ParsedAssign (at 13 1) (target (at 13 1) (codes "x") None) (ParsedCall (at 13 5) (codes "shuffle") (ParsedValue (ParsedName (at 13 13) (codes "v")) (ParsedValue (ParsedName (at 13 16) (codes "v")) (ParsedValue (ParsedNumber (at 13 19) 7 false false) ParsedEnd)))))
    (ParsedNext (ParsedAssign (at 14 1) (target (at 14 1) (codes "x") None) (ParsedCall (at 14 5) (codes "extract") (ParsedValue (ParsedName (at 14 13) (codes "v")) (ParsedValue (ParsedNumber (at 14 16) 2 false false) ParsedEnd))))
    ParsedLast))))))))))))
    ParsedLast))) (at 16 1)) ∷ []

row_1 : run source (codes "") (options 4 64 1000000)
    (codes "step 4\nprint x\nstep\nprint x\nstep\nprint x\nstep\nprint x\nstep\nprint x\nstep\nprint x\nstep\nprint x\nstep\nprint x\nstep\nprint x\nstep\nprint x\n")
    ≡ codes "at 6:1 go depth 1 lanes 0101\nx = 0 0 0 0\nat 7:1 go depth 1 lanes 0101\nx = 0 9 0 9\nat 8:1 go depth 1 lanes 0101\nx = 0 8 0 0\nat 9:1 go depth 1 lanes 0101\nx = 0 0 0 0\nat 10:1 go depth 1 lanes 0101\nx = 0 0 0 0\nat 11:1 go depth 1 lanes 0101\nx = 0 8 0 6\nat 12:1 go depth 1 lanes 0101\nx = 0 0 0 0\nat 13:1 go depth 1 lanes 0101\nx = 0 6 0 8\nat 14:1 go depth 1 lanes 0101\nx = 0 8 0 8\nat 16:1 go depth 1 lanes 1111\nx = 0 0 0 0\n"
unfolding digits value_of residue word_of value_in wrapped binary_of
row_1 = refl
