-- Sums, scans and shifts of narrow types.
use Rattle.std.specs.Prelude.{◌≡◌, refl, true, false, [], ◌∷◌, Some, None, codes}
use Rattle.std.specs.Fmt.{digits}
use Rattle.gang_types.specs.Values.{value_of, residue, word_of, value_in, wrapped, binary_of}
use Rattle.gang_types.specs.declared.types.Rate.TheVariants.{Uniform}
use Rattle.gang_types.specs.declared.types.IntType.TheVariants as t
use Rattle.gang_types.specs.declared.operators.UnaryOp.TheVariants as unary
use Rattle.gang_types.specs.declared.operators.BinaryOp.TheVariants as op
use Rattle.gang_model.specs.declared.forms.Infix.TheVariants.{Op}
use Rattle.gang_model.specs.Source.Parsed.{ParsedNumber, ParsedBool, ParsedName, ParsedCall, ParsedParen, ParsedUnary, ParsedCast, ParsedBinary, ParsedEnd, ParsedValue, ParsedDeclare, ParsedLast, ParsedNext, ParsedSource}
use Rattle.tests_transcripts.proofs.Forms.{at, spec, function, options, run}

-- export void go() {
-- uniform int16 a = reduce_add((int8)(programIndex + 125));
-- uniform uint64 b = reduce_add((uint32)4294967295);
-- int8 c = exclusive_scan_add((int8)60);
-- uint8 d = exclusive_scan_and((uint8)(7 << programIndex));
-- int8 e = (int8)(-128) >> 1;
-- uint16 f = (uint16)65535 >> 17;
-- int8 g = -(int8)(-128);
-- uint8 h = ~(uint8)1;
-- int i = -true;
-- bool j = 2;
-- int8 k = 200 % 7 - 3 / 2;
-- }
abbrev pub source : ParsedSource
source =
    (function (at 1 13) (codes "go") (spec true false false false None None) ([])
    (ParsedNext (ParsedDeclare (at 2 1) (spec false false false false (Some Uniform) (Some t.Int16)) (at 2 15) (codes "a") (Some (ParsedCall (at 2 19) (codes "reduce_add") (ParsedValue (ParsedCast (at 2 30) None (Some t.Int8) (ParsedParen (at 2 36) (ParsedBinary (Op op.Add) (ParsedName (at 2 37) (codes "programIndex")) (ParsedNumber (at 2 52) 125 false false)))) ParsedEnd))))
    (ParsedNext (ParsedDeclare (at 3 1) (spec false false false false (Some Uniform) (Some t.Uint64)) (at 3 16) (codes "b") (Some (ParsedCall (at 3 20) (codes "reduce_add") (ParsedValue (ParsedCast (at 3 31) None (Some t.Uint32) (ParsedNumber (at 3 39) 4294967295 false false)) ParsedEnd))))
    (ParsedNext (ParsedDeclare (at 4 1) (spec false false false false None (Some t.Int8)) (at 4 6) (codes "c") (Some (ParsedCall (at 4 10) (codes "exclusive_scan_add") (ParsedValue (ParsedCast (at 4 29) None (Some t.Int8) (ParsedNumber (at 4 35) 60 false false)) ParsedEnd))))
    (ParsedNext (ParsedDeclare (at 5 1) (spec false false false false None (Some t.Uint8)) (at 5 7) (codes "d") (Some (ParsedCall (at 5 11) (codes "exclusive_scan_and") (ParsedValue (ParsedCast (at 5 30) None (Some t.Uint8) (ParsedParen (at 5 37) (ParsedBinary (Op op.Shl) (ParsedNumber (at 5 38) 7 false false) (ParsedName (at 5 43) (codes "programIndex"))))) ParsedEnd))))
    (ParsedNext (ParsedDeclare (at 6 1) (spec false false false false None (Some t.Int8)) (at 6 6) (codes "e") (Some (ParsedBinary (Op op.Shr) (ParsedCast (at 6 10) None (Some t.Int8) (ParsedParen (at 6 16) (ParsedUnary (at 6 17) unary.Negate (ParsedNumber (at 6 18) 128 false false)))) (ParsedNumber (at 6 26) 1 false false))))
    (ParsedNext (ParsedDeclare (at 7 1) (spec false false false false None (Some t.Uint16)) (at 7 8) (codes "f") (Some (ParsedBinary (Op op.Shr) (ParsedCast (at 7 12) None (Some t.Uint16) (ParsedNumber (at 7 20) 65535 false false)) (ParsedNumber (at 7 29) 17 false false))))
    (ParsedNext (ParsedDeclare (at 8 1) (spec false false false false None (Some t.Int8)) (at 8 6) (codes "g") (Some (ParsedUnary (at 8 10) unary.Negate (ParsedCast (at 8 11) None (Some t.Int8) (ParsedParen (at 8 17) (ParsedUnary (at 8 18) unary.Negate (ParsedNumber (at 8 19) 128 false false)))))))
    (ParsedNext (ParsedDeclare (at 9 1) (spec false false false false None (Some t.Uint8)) (at 9 7) (codes "h") (Some (ParsedUnary (at 9 11) unary.Complement (ParsedCast (at 9 12) None (Some t.Uint8) (ParsedNumber (at 9 19) 1 false false)))))
    (ParsedNext (ParsedDeclare (at 10 1) (spec false false false false None (Some t.Int32)) (at 10 5) (codes "i") (Some (ParsedUnary (at 10 9) unary.Negate (ParsedBool (at 10 10) true))))
    (ParsedNext (ParsedDeclare (at 11 1) (spec false false false false None (Some t.Bool)) (at 11 6) (codes "j") (Some (ParsedNumber (at 11 10) 2 false false)))
    (ParsedNext (ParsedDeclare (at 12 1) (spec false false false false None (Some t.Int8)) (at 12 6) (codes "k") (Some (ParsedBinary (Op op.Sub) (ParsedBinary (Op op.Rem) (ParsedNumber (at 12 10) 200 false false) (ParsedNumber (at 12 16) 7 false false)) (ParsedBinary (Op op.Div) (ParsedNumber (at 12 20) 3 false false) (ParsedNumber (at 12 24) 2 false false)))))
    ParsedLast))))))))))) (at 13 1)) ∷ []

row_1 : run source (codes "") (options 4 64 1000000)
    (codes "step 11\ninfo locals\n")
    ≡ codes "at 13:1 go depth 1 lanes 1111\na = 250\nb = 17179869180\nc = 0 60 120 -76\nd = 255 7 6 4\ne = -64 -64 -64 -64\nf = 32767 32767 32767 32767\ng = -128 -128 -128 -128\nh = 254 254 254 254\ni = -1 -1 -1 -1\nj = true true true true\nk = 3 3 3 3\n"
unfolding digits value_of residue word_of value_in wrapped binary_of
row_1 = refl
