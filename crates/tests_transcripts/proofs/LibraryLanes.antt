-- Library calls by lanes 1 and 3 of four.
use Rattle.std.specs.Prelude.{◌≡◌, refl, true, false, [], ◌∷◌, Some, None, codes}
use Rattle.std.specs.Fmt.{digits}
use Rattle.gang_types.specs.Values.{value_of, residue, word_of, value_in, wrapped, binary_of}
use Rattle.gang_types.specs.declared.types.Rate.TheVariants.{Uniform}
use Rattle.gang_types.specs.declared.types.IntType.TheVariants as t
use Rattle.gang_types.specs.declared.operators.UnaryOp.TheVariants as unary
use Rattle.gang_types.specs.declared.operators.BinaryOp.TheVariants as op
use Rattle.gang_model.specs.declared.forms.Infix.TheVariants.{Op}
use Rattle.gang_model.specs.declared.forms.GlobalForm.TheVariants.{Plain}
use Rattle.gang_model.specs.Source.Parsed.{ParsedNumber, ParsedName, ParsedCall, ParsedUnary, ParsedBinary, ParsedChoice, ParsedEnd, ParsedValue, ParsedEmpty, ParsedBlock, ParsedDeclare, ParsedAssign, ParsedIf, ParsedLast, ParsedNext, ParsedSource}
use Rattle.tests_transcripts.proofs.Forms.{at, spec, target, function, file_variable, options, run}

-- uniform int m;
-- export void go() {
-- int v = programIndex == 0 ? 5 : programIndex == 1 ? -2 : programIndex == 2 ? 7 : 3;
-- int w = programIndex + 1;
-- int p = programIndex == 1 ? 3 : 0;
-- int q = programIndex == 1 ? 7 : 1;
-- if (programIndex & 1) {
-- int64 r8 = extract(v, 2);
-- int64 r9 = insert(v, 3, 9);
-- int64 r10 = lanemask();
-- int64 r11 = packmask(v > 0);
-- ;
-- w = 0;
-- }
-- }
abbrev pub source : ParsedSource
source =
    (file_variable (at 1 13) (codes "m") (spec false false false false (Some Uniform) (Some t.Int32)) Plain) ∷
    (function (at 2 13) (codes "go") (spec true false false false None None) ([])
    (ParsedNext (ParsedDeclare (at 3 1) (spec false false false false None (Some t.Int32)) (at 3 5) (codes "v") (Some (ParsedChoice (ParsedBinary (Op op.Equal) (ParsedName (at 3 9) (codes "programIndex")) (ParsedNumber (at 3 25) 0 false false)) (ParsedNumber (at 3 29) 5 false false) (ParsedChoice (ParsedBinary (Op op.Equal) (ParsedName (at 3 33) (codes "programIndex")) (ParsedNumber (at 3 49) 1 false false)) (ParsedUnary (at 3 53) unary.Negate (ParsedNumber (at 3 54) 2 false false)) (ParsedChoice (ParsedBinary (Op op.Equal) (ParsedName (at 3 58) (codes "programIndex")) (ParsedNumber (at 3 74) 2 false false)) (ParsedNumber (at 3 78) 7 false false) (ParsedNumber (at 3 82) 3 false false))))))
    (ParsedNext (ParsedDeclare (at 4 1) (spec false false false false None (Some t.Int32)) (at 4 5) (codes "w") (Some (ParsedBinary (Op op.Add) (ParsedName (at 4 9) (codes "programIndex")) (ParsedNumber (at 4 24) 1 false false))))
    (ParsedNext (ParsedDeclare (at 5 1) (spec false false false false None (Some t.Int32)) (at 5 5) (codes "p") (Some (ParsedChoice (ParsedBinary (Op op.Equal) (ParsedName (at 5 9) (codes "programIndex")) (ParsedNumber (at 5 25) 1 false false)) (ParsedNumber (at 5 29) 3 false false) (ParsedNumber (at 5 33) 0 false false))))
    (ParsedNext (ParsedDeclare (at 6 1) (spec false false false false None (Some t.Int32)) (at 6 5) (codes "q") (Some (ParsedChoice (ParsedBinary (Op op.Equal) (ParsedName (at 6 9) (codes "programIndex")) (ParsedNumber (at 6 25) 1 false false)) (ParsedNumber (at 6 29) 7 false false) (ParsedNumber (at 6 33) 1 false false))))
    (ParsedNext (ParsedIf (at 7 1) (ParsedBinary (Op op.And) (ParsedName (at 7 5) (codes "programIndex")) (ParsedNumber (at 7 20) 1 false false)) (ParsedBlock (ParsedNext (ParsedDeclare (at 8 1) (spec false false false false None (Some t.Int64)) (at 8 7) (codes "r8") (Some (ParsedCall (at 8 12) (codes "extract") (ParsedValue (ParsedName (at 8 20) (codes "v")) (ParsedValue (ParsedNumber (at 8 23) 2 false false) ParsedEnd)))))
    (ParsedNext (ParsedDeclare (at 9 1) (spec false false false false None (Some t.Int64)) (at 9 7) (codes "r9") (Some (ParsedCall (at 9 12) (codes "insert") (ParsedValue (ParsedName (at 9 19) (codes "v")) (ParsedValue (ParsedNumber (at 9 22) 3 false false) (ParsedValue (ParsedNumber (at 9 25) 9 false false) ParsedEnd))))))
    (ParsedNext (ParsedDeclare (at 10 1) (spec false false false false None (Some t.Int64)) (at 10 7) (codes "r10") (Some (ParsedCall (at 10 13) (codes "lanemask") ParsedEnd)))
    (ParsedNext (ParsedDeclare (at 11 1) (spec false false false false None (Some t.Int64)) (at 11 7) (codes "r11") (Some (ParsedCall (at 11 13) (codes "packmask") (ParsedValue (ParsedBinary (Op op.Greater) (ParsedName (at 11 22) (codes "v")) (ParsedNumber (at 11 26) 0 false false)) ParsedEnd))))
    (ParsedNext ParsedEmpty
    (ParsedNext (ParsedAssign (at 13 1) (target (at 13 1) (codes "w") None) (ParsedNumber (at 13 5) 0 false false))
    ParsedLast))))))))
    ParsedLast))))) (at 15 1)) ∷ []

row_1 : run source (codes "") (options 4 64 1000000)
    (codes "step 5\nstep\nprint r8\nstep\nprint r9\nstep\nprint r10\nstep\nprint r11\n")
    ≡ codes "at 8:1 go depth 1 lanes 0101\nat 9:1 go depth 1 lanes 0101\nr8 = 0 0 0 0\nat 10:1 go depth 1 lanes 0101\nr9 = 0 -2 0 9\nat 11:1 go depth 1 lanes 0101\nr10 = 0 10 0 10\nat 13:1 go depth 1 lanes 0101\nr11 = 0 8 0 8\n"
unfolding digits value_of residue word_of value_in wrapped binary_of
row_1 = refl
