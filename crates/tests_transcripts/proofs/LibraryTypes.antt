-- Bool counts as int32 in the library; a first value has its literal's own type.
use Rattle.std.specs.Prelude.{◌≡◌, refl, true, false, [], ◌∷◌, Some, None, codes}
use Rattle.std.specs.Fmt.{digits}
use Rattle.gang_types.specs.Values.{value_of, residue, word_of, value_in, wrapped, binary_of}
use Rattle.gang_types.specs.declared.types.IntType.TheVariants as t
use Rattle.gang_types.specs.declared.operators.UnaryOp.TheVariants as unary
use Rattle.gang_types.specs.declared.operators.BinaryOp.TheVariants as op
use Rattle.gang_model.specs.declared.forms.Infix.TheVariants.{Op}
use Rattle.gang_model.specs.declared.forms.GlobalForm.TheVariants.{Initial}
use Rattle.gang_model.specs.declared.forms.Literal.TheVariants.{Number}
use Rattle.gang_model.specs.Source.Parsed.{ParsedNumber, ParsedName, ParsedCall, ParsedUnary, ParsedBinary, ParsedEnd, ParsedValue, ParsedDeclare, ParsedLast, ParsedNext, ParsedSource}
use Rattle.tests_transcripts.proofs.Forms.{at, spec, function, file_variable, options, run}

-- int64 v = -5u;
-- export void go() {
-- bool b = programIndex > 1;
-- int8 p = -5;
-- uint16 a = 0;
-- int r = clamp(p, a, b);
-- uint8 f = 255;
-- int g = shuffle(b, b, 7) + f;
-- }
abbrev pub source : ParsedSource
source =
    (file_variable (at 1 7) (codes "v") (spec false false false false None (Some t.Int64)) (Initial (Number true 5 true false))) ∷
    (function (at 2 13) (codes "go") (spec true false false false None None) ([])
    (ParsedNext (ParsedDeclare (at 3 1) (spec false false false false None (Some t.Bool)) (at 3 6) (codes "b") (Some (ParsedBinary (Op op.Greater) (ParsedName (at 3 10) (codes "programIndex")) (ParsedNumber (at 3 25) 1 false false))))
    (ParsedNext (ParsedDeclare (at 4 1) (spec false false false false None (Some t.Int8)) (at 4 6) (codes "p") (Some (ParsedUnary (at 4 10) unary.Negate (ParsedNumber (at 4 11) 5 false false))))
    (ParsedNext (ParsedDeclare (at 5 1) (spec false false false false None (Some t.Uint16)) (at 5 8) (codes "a") (Some (ParsedNumber (at 5 12) 0 false false)))
    (ParsedNext (ParsedDeclare (at 6 1) (spec false false false false None (Some t.Int32)) (at 6 5) (codes "r") (Some (ParsedCall (at 6 9) (codes "clamp") (ParsedValue (ParsedName (at 6 15) (codes "p")) (ParsedValue (ParsedName (at 6 18) (codes "a")) (ParsedValue (ParsedName (at 6 21) (codes "b")) ParsedEnd))))))
    (ParsedNext (ParsedDeclare (at 7 1) (spec false false false false None (Some t.Uint8)) (at 7 7) (codes "f") (Some (ParsedNumber (at 7 11) 255 false false)))
    (ParsedNext (ParsedDeclare (at 8 1) (spec false false false false None (Some t.Int32)) (at 8 5) (codes "g") (Some (ParsedBinary (Op op.Add) (ParsedCall (at 8 9) (codes "shuffle") (ParsedValue (ParsedName (at 8 17) (codes "b")) (ParsedValue (ParsedName (at 8 20) (codes "b")) (ParsedValue (ParsedNumber (at 8 23) 7 false false) ParsedEnd)))) (ParsedName (at 8 28) (codes "f")))))
    ParsedLast)))))) (at 9 1)) ∷ []

row_1 : run source (codes "") (options 4 64 1000000)
    (codes "step 6\nprint r\nprint g\nprint v\n")
    ≡ codes "at 9:1 go depth 1 lanes 1111\nr = 0 0 0 0\ng = 256 256 256 256\nv = 4294967291 4294967291 4294967291 4294967291\n"
unfolding digits value_of residue word_of value_in wrapped binary_of
row_1 = refl
