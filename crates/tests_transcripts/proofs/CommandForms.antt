-- What spells a command.
use Rattle.std.specs.Prelude.{◌≡◌, refl, true, false, [], ◌∷◌, Some, None, codes}
use Rattle.std.specs.Fmt.{digits}
use Rattle.gang_types.specs.Values.{value_of, residue, word_of, value_in, wrapped, binary_of}
use Rattle.gang_types.specs.declared.types.IntType.TheVariants as t
use Rattle.gang_types.specs.declared.operators.BinaryOp.TheVariants as op
use Rattle.gang_model.specs.declared.forms.Infix.TheVariants.{Op}
use Rattle.gang_model.specs.Source.Parsed.{ParsedNumber, ParsedName, ParsedBinary, ParsedDeclare, ParsedChange, ParsedLast, ParsedNext, ParsedSource}
use Rattle.tests_transcripts.proofs.Forms.{at, spec, target, function, options, run}

-- export void go() {
--     int x = programIndex * 3;
--     x += 1;
-- }
abbrev pub source : ParsedSource
source =
    (function (at 1 13) (codes "go") (spec true false false false None None) ([])
    (ParsedNext (ParsedDeclare (at 2 5) (spec false false false false None (Some t.Int32)) (at 2 9) (codes "x") (Some (ParsedBinary (Op op.Mul) (ParsedName (at 2 13) (codes "programIndex")) (ParsedNumber (at 2 28) 3 false false))))
    (ParsedNext (ParsedChange (at 3 5) (target (at 3 5) (codes "x") None) op.Add (ParsedNumber (at 3 10) 1 false false))
    ParsedLast)) (at 4 1)) ∷ []

row_1 : run source (codes "") (options 4 64 1000000)
    (codes "\n \t \n step\nstep 0\nstep 10000001\nstep 1 1\nstep1\nStep\ndelete 0\nfinish 1\nset record full insn-number-max 0\ns\t001 \nprint x[4]\nprint x[10000001]\np x [ 03 ]\np x]\nprint 5\nprint int\nprint programIndex\nset var x = 18446744073709551616\nset var x = 18446744073709551615\nset var x = - 5\nset var x=-5\nset  var x[0]=0x1F\nset var x [1] = -0x10\nset var x[2] = true\nset var x[3] = 0X1\np x\nb 900\ninfo\nstep                                                                                                                                                                                                                                                            \nstep                                                                                                                                                                                                                                                             \nquit\nstep\n")
    ≡ codes "C1 BadCommand\nC1 BadCommand\nC1 BadCommand\nC1 BadCommand\nC1 BadCommand\nC1 BadCommand\nC1 BadCommand\nC1 BadCommand\nC1 BadCommand\nat 3:5 go depth 1 lanes 1111\nC8 OutOfRange\nC1 BadCommand\nx[3] = 9\nC1 BadCommand\nC1 BadCommand\nC2 NoSuchName\nC2 NoSuchName\nC1 BadCommand\nC8 OutOfRange\nC1 BadCommand\nx = -5 -5 -5 -5\nx[0] = 31\nx[1] = -16\nx[2] = 1\nC1 BadCommand\nx = 31 -16 1 -5\nC7 NoLine\nC1 BadCommand\nat 4:1 go depth 1 lanes 1111\nC1 BadCommand\n"
unfolding digits value_of residue word_of value_in wrapped binary_of
row_1 = refl
