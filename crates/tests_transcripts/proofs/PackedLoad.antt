-- A packed load by two lanes, and one past the end.
use Rattle.std.specs.Prelude.{◌≡◌, refl, true, false, [], ◌∷◌, Some, None, codes}
use Rattle.std.specs.Fmt.{digits}
use Rattle.gang_types.specs.Values.{value_of, residue, word_of, value_in, wrapped, binary_of}
use Rattle.gang_types.specs.declared.types.Rate.TheVariants.{Uniform}
use Rattle.gang_types.specs.declared.types.IntType.TheVariants as t
use Rattle.gang_types.specs.declared.operators.BinaryOp.TheVariants as op
use Rattle.gang_model.specs.declared.forms.Infix.TheVariants.{Op}
use Rattle.gang_model.specs.declared.forms.GlobalForm.TheVariants.{Array}
use Rattle.gang_model.specs.Source.Parsed.{ParsedNumber, ParsedName, ParsedCall, ParsedBinary, ParsedEnd, ParsedPart, ParsedPartFrom, ParsedBlock, ParsedDeclare, ParsedAssign, ParsedIf, ParsedLast, ParsedNext, ParsedSource}
use Rattle.tests_transcripts.proofs.Forms.{at, spec, target, function, file_variable, options, run}

-- uniform int m[4];
-- export void go() {
-- m[programIndex] = programIndex * 10;
-- if (programIndex & 1) {
-- int x = 1;
-- uniform int n = packed_load_active(&m[1], &x);
-- n = packed_load_active(&m[3], &x);
-- }
-- }
abbrev pub source : ParsedSource
source =
    (file_variable (at 1 13) (codes "m") (spec false false false false (Some Uniform) (Some t.Int32)) (Array 4)) ∷
    (function (at 2 13) (codes "go") (spec true false false false None None) ([])
    (ParsedNext (ParsedAssign (at 3 1) (target (at 3 1) (codes "m") (Some (ParsedName (at 3 3) (codes "programIndex")))) (ParsedBinary (Op op.Mul) (ParsedName (at 3 19) (codes "programIndex")) (ParsedNumber (at 3 34) 10 false false)))
    (ParsedNext (ParsedIf (at 4 1) (ParsedBinary (Op op.And) (ParsedName (at 4 5) (codes "programIndex")) (ParsedNumber (at 4 20) 1 false false)) (ParsedBlock (ParsedNext (ParsedDeclare (at 5 1) (spec false false false false None (Some t.Int32)) (at 5 5) (codes "x") (Some (ParsedNumber (at 5 9) 1 false false)))
    (ParsedNext (ParsedDeclare (at 6 1) (spec false false false false (Some Uniform) (Some t.Int32)) (at 6 13) (codes "n") (Some (ParsedCall (at 6 17) (codes "packed_load_active") (ParsedPartFrom (at 6 37) (codes "m") (ParsedNumber (at 6 39) 1 false false) (ParsedPart (at 6 44) (codes "x") ParsedEnd)))))
    (ParsedNext (ParsedAssign (at 7 1) (target (at 7 1) (codes "n") None) (ParsedCall (at 7 5) (codes "packed_load_active") (ParsedPartFrom (at 7 25) (codes "m") (ParsedNumber (at 7 27) 3 false false) (ParsedPart (at 7 32) (codes "x") ParsedEnd))))
    ParsedLast)))))
    ParsedLast)) (at 9 1)) ∷ []

row_1 : run source (codes "") (options 4 64 1000000)
    (codes "step 4\nprint n\nprint x\nstep\n")
    ≡ codes "at 7:1 go depth 1 lanes 0101\nn = 2\nx = 0 10 0 20\nfault F2 Index lane 3: at 7:1 go depth 1 lanes 0101\n"
unfolding digits value_of residue word_of value_in wrapped binary_of
row_1 = refl
