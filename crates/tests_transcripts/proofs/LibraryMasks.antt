-- Library calls by lanes 1 and 3 of four.
use Rattle.std.specs.Prelude.{◌≡◌, refl, true, false, [], ◌∷◌, Some, None, codes}
use Rattle.std.specs.Fmt.{digits}
use Rattle.gang_types.specs.Values.{value_of, residue, word_of, value_in, wrapped, binary_of}
use Rattle.gang_types.specs.declared.types.Rate.TheVariants.{Uniform}
use Rattle.gang_types.specs.declared.types.IntType.TheVariants as t
use Rattle.gang_types.specs.declared.operators.UnaryOp.TheVariants as unary
use Rattle.gang_types.specs.declared.operators.BinaryOp.TheVariants as op
use Rattle.gang_model.specs.declared.forms.Infix.TheVariants.{Op}
use Rattle.gang_model.specs.declared.forms.GlobalForm.TheVariants.{Plain}
use Rattle.gang_model.specs.Source.Parsed.{ParsedNumber, ParsedName, ParsedCall, ParsedUnary, ParsedCast, ParsedBinary, ParsedChoice, ParsedEnd, ParsedValue, ParsedEmpty, ParsedBlock, ParsedDeclare, ParsedAssign, ParsedIf, ParsedLast, ParsedNext, ParsedSource}
use Rattle.tests_transcripts.proofs.Forms.{at, spec, target, function, file_variable, options, run}

-- uniform int m;
-- export void go() {
-- int v = programIndex == 0 ? 5 : programIndex == 1 ? -2 : programIndex == 2 ? 7 : 3;
-- int w = programIndex + 1;
-- int p = programIndex == 1 ? 3 : 0;
-- int q = programIndex == 1 ? 7 : 1;
-- if (programIndex & 1) {
-- int64 r12 = popcnt(v > 0);
-- int64 r13 = reduce_add((int16)32767) << 16;
-- int64 r14 = rotate(v, 2);
-- int64 r15 = shift(v, -2);
-- ;
-- w = 0;
-- }
-- }
abbrev pub source : ParsedSource
source =
    (file_variable (at 1 13) (codes "m") (spec false false false false (Some Uniform) (Some t.Int32)) Plain) ∷
    (function (at 2 13) (codes "go") (spec true false false false None None) ([])
    (ParsedNext (ParsedDeclare (at 3 1) (spec false false false false None (Some t.Int32)) (at 3 5) (codes "v") (Some (ParsedChoice (ParsedBinary (Op op.Equal) (ParsedName (at 3 9) (codes "programIndex")) (ParsedNumber (at 3 25) 0 false false)) (ParsedNumber (at 3 29) 5 false false) (ParsedChoice (ParsedBinary (Op op.Equal) (ParsedName (at 3 33) (codes "programIndex")) (ParsedNumber (at 3 49) 1 false false)) (ParsedUnary (at 3 53) unary.Negate (ParsedNumber (at 3 54) 2 false false)) (ParsedChoice (ParsedBinary (Op op.Equal) (ParsedName (at 3 58) (codes "programIndex")) (ParsedNumber (at 3 74) 2 false false)) (ParsedNumber (at 3 78) 7 false false) (ParsedNumber (at 3 82) 3 false false))))))
    (ParsedNext (ParsedDeclare (at 4 1) (spec false false false false None (Some t.Int32)) (at 4 5) (codes "w") (Some (ParsedBinary (Op op.Add) (ParsedName (at 4 9) (codes "programIndex")) (ParsedNumber (at 4 24) 1 false false))))
    (ParsedNext (ParsedDeclare (at 5 1) (spec false false false false None (Some t.Int32)) (at 5 5) (codes "p") (Some (ParsedChoice (ParsedBinary (Op op.Equal) (ParsedName (at 5 9) (codes "programIndex")) (ParsedNumber (at 5 25) 1 false false)) (ParsedNumber (at 5 29) 3 false false) (ParsedNumber (at 5 33) 0 false false))))
    (ParsedNext (ParsedDeclare (at 6 1) (spec false false false false None (Some t.Int32)) (at 6 5) (codes "q") (Some (ParsedChoice (ParsedBinary (Op op.Equal) (ParsedName (at 6 9) (codes "programIndex")) (ParsedNumber (at 6 25) 1 false false)) (ParsedNumber (at 6 29) 7 false false) (ParsedNumber (at 6 33) 1 false false))))
    (ParsedNext (ParsedIf (at 7 1) (ParsedBinary (Op op.And) (ParsedName (at 7 5) (codes "programIndex")) (ParsedNumber (at 7 20) 1 false false)) (ParsedBlock (ParsedNext (ParsedDeclare (at 8 1) (spec false false false false None (Some t.Int64)) (at 8 7) (codes "r12") (Some (ParsedCall (at 8 13) (codes "popcnt") (ParsedValue (ParsedBinary (Op op.Greater) (ParsedName (at 8 20) (codes "v")) (ParsedNumber (at 8 24) 0 false false)) ParsedEnd))))
    (ParsedNext (ParsedDeclare (at 9 1) (spec false false false false None (Some t.Int64)) (at 9 7) (codes "r13") (Some (ParsedBinary (Op op.Shl) (ParsedCall (at 9 13) (codes "reduce_add") (ParsedValue (ParsedCast (at 9 24) None (Some t.Int16) (ParsedNumber (at 9 31) 32767 false false)) ParsedEnd)) (ParsedNumber (at 9 41) 16 false false))))
    (ParsedNext (ParsedDeclare (at 10 1) (spec false false false false None (Some t.Int64)) (at 10 7) (codes "r14") (Some (ParsedCall (at 10 13) (codes "rotate") (ParsedValue (ParsedName (at 10 20) (codes "v")) (ParsedValue (ParsedNumber (at 10 23) 2 false false) ParsedEnd)))))
    (ParsedNext (ParsedDeclare (at 11 1) (spec false false false false None (Some t.Int64)) (at 11 7) (codes "r15") (Some (ParsedCall (at 11 13) (codes "shift") (ParsedValue (ParsedName (at 11 19) (codes "v")) (ParsedValue (ParsedUnary (at 11 22) unary.Negate (ParsedNumber (at 11 23) 2 false false)) ParsedEnd)))))
    (ParsedNext ParsedEmpty
    (ParsedNext (ParsedAssign (at 13 1) (target (at 13 1) (codes "w") None) (ParsedNumber (at 13 5) 0 false false))
    ParsedLast))))))))
    ParsedLast))))) (at 15 1)) ∷ []

row_1 : run source (codes "") (options 4 64 1000000)
    (codes "step 5\nstep\nprint r12\nstep\nprint r13\nstep\nprint r14\nstep\nprint r15\n")
    ≡ codes "at 8:1 go depth 1 lanes 0101\nat 9:1 go depth 1 lanes 0101\nr12 = 0 1 0 1\nat 10:1 go depth 1 lanes 0101\nr13 = 0 -131072 0 -131072\nat 11:1 go depth 1 lanes 0101\nr14 = 0 3 0 -2\nat 13:1 go depth 1 lanes 0101\nr15 = 0 0 0 -2\n"
unfolding digits value_of residue word_of value_in wrapped binary_of
row_1 = refl
