-- Watches on an element and on lanes stop only where their own value differs.
use Rattle.std.specs.Prelude.{◌≡◌, refl, true, false, [], ◌∷◌, Some, None, codes}
use Rattle.std.specs.Fmt.{digits}
use Rattle.gang_types.specs.Values.{value_of, residue, word_of, value_in, wrapped, binary_of}
use Rattle.gang_types.specs.declared.types.Rate.TheVariants.{Uniform}
use Rattle.gang_types.specs.declared.types.IntType.TheVariants as t
use Rattle.gang_types.specs.declared.operators.BinaryOp.TheVariants as op
use Rattle.gang_model.specs.declared.forms.Infix.TheVariants.{Op}
use Rattle.gang_model.specs.declared.forms.GlobalForm.TheVariants.{Array, Initial}
use Rattle.gang_model.specs.declared.forms.Literal.TheVariants.{Number}
use Rattle.gang_model.specs.Source.Parsed.{ParsedNumber, ParsedName, ParsedBinary, ParsedAssign, ParsedForEach, ParsedLast, ParsedNext, ParsedSource}
use Rattle.tests_transcripts.proofs.Forms.{at, spec, target, dimension, function, file_variable, options, run}

-- uniform int a[4];
-- int v = 0;
-- export void go() {
-- foreach (i = 0 ... 4)
-- a[3 - i] = i;
-- v = programIndex;
-- a[2] = 1;
-- a[2] = 5;
-- }
abbrev pub source : ParsedSource
source =
    (file_variable (at 1 13) (codes "a") (spec false false false false (Some Uniform) (Some t.Int32)) (Array 4)) ∷
    (file_variable (at 2 5) (codes "v") (spec false false false false None (Some t.Int32)) (Initial (Number false 0 false false))) ∷
    (function (at 3 13) (codes "go") (spec true false false false None None) ([])
    (ParsedNext (ParsedForEach (at 4 1) false (dimension (at 4 10) (codes "i") (ParsedNumber (at 4 14) 0 false false) (ParsedNumber (at 4 20) 4 false false) ∷ []) (ParsedAssign (at 5 1) (target (at 5 1) (codes "a") (Some (ParsedBinary (Op op.Sub) (ParsedNumber (at 5 3) 3 false false) (ParsedName (at 5 7) (codes "i"))))) (ParsedName (at 5 12) (codes "i"))))
    (ParsedNext (ParsedAssign (at 6 1) (target (at 6 1) (codes "v") None) (ParsedName (at 6 5) (codes "programIndex")))
    (ParsedNext (ParsedAssign (at 7 1) (target (at 7 1) (codes "a") (Some (ParsedNumber (at 7 3) 2 false false))) (ParsedNumber (at 7 8) 1 false false))
    (ParsedNext (ParsedAssign (at 8 1) (target (at 8 1) (codes "a") (Some (ParsedNumber (at 8 3) 2 false false))) (ParsedNumber (at 8 8) 5 false false))
    ParsedLast)))) (at 9 1)) ∷ []

row_1 : run source (codes "") (options 4 64 1000000)
    (codes "watch a[2]\nwatch v[0]\nwatch v[3]\nwatch a\nwatch a[4]\nwatch v[4]\nwatch v\ncontinue\ncontinue\nprint v[3]\ndelete 3\nreverse-continue\ncontinue\ncontinue\ninfo breakpoints\ncontinue\n")
    ≡ codes "watch 1: a[2]\nwatch 2: v[0]\nwatch 3: v[3]\nC2 NoSuchName\nC8 OutOfRange\nC8 OutOfRange\nwatch 4: v\nwatch 1: at 6:1 go depth 1 lanes 1111\nwatch 3: at 7:1 go depth 1 lanes 1111\nv[3] = 3\ndeleted 3\nwatch 4: at 6:1 go depth 1 lanes 1111\nwatch 4: at 7:1 go depth 1 lanes 1111\nwatch 1: at 9:1 go depth 1 lanes 1111\n1 watch a[2]\n2 watch v[0]\n4 watch v\nended\n"
unfolding digits value_of residue word_of value_in wrapped binary_of
row_1 = refl
