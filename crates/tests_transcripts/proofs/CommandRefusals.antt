-- Each refusal of a command.
use Rattle.std.specs.Prelude.{◌≡◌, refl, true, false, [], ◌∷◌, Some, None, codes}
use Rattle.std.specs.Fmt.{digits}
use Rattle.gang_types.specs.Values.{value_of, residue, word_of, value_in, wrapped, binary_of}
use Rattle.gang_types.specs.declared.types.Rate.TheVariants.{Uniform}
use Rattle.gang_types.specs.declared.types.IntType.TheVariants as t
use Rattle.gang_types.specs.declared.operators.BinaryOp.TheVariants as op
use Rattle.gang_model.specs.declared.forms.GlobalForm.TheVariants.{Initial}
use Rattle.gang_model.specs.declared.forms.Literal.TheVariants.{Number}
use Rattle.gang_model.specs.Source.Parsed.{ParsedNumber, ParsedChange, ParsedForEach, ParsedLast, ParsedNext, ParsedSource}
use Rattle.tests_transcripts.proofs.Forms.{at, spec, target, dimension, function, file_variable, options, run}

-- uniform int8 q = 1;
-- export void go() {
-- foreach (i = 0 ... 4)
-- q += 1;
-- }
abbrev pub source : ParsedSource
source =
    (file_variable (at 1 14) (codes "q") (spec false false false false (Some Uniform) (Some t.Int8)) (Initial (Number false 1 false false))) ∷
    (function (at 2 13) (codes "go") (spec true false false false None None) ([])
    (ParsedNext (ParsedForEach (at 3 1) false (dimension (at 3 10) (codes "i") (ParsedNumber (at 3 14) 0 false false) (ParsedNumber (at 3 20) 4 false false) ∷ []) (ParsedChange (at 4 1) (target (at 4 1) (codes "q") None) op.Add (ParsedNumber (at 4 6) 1 false false)))
    ParsedLast) (at 5 1)) ∷ []

row_1 : run source (codes "") (options 4 64 1000000)
    (codes "step 2\nset var i = 3\nset var q = 300\nprint z\nxxxxxxxxxxxxxxxxxxxxxxxxxxxxxxxxxxxxxxxxxxxxxxxxxxxxxxxxxxxxxxxxxxxxxxxxxxxxxxxxxxxxxxxxxxxxxxxxxxxxxxxxxxxxxxxxxxxxxxxxxxxxxxxxxxxxxxxxxxxxxxxxxxxxxxxxxxxxxxxxxxxxxxxxxxxxxxxxxxxxxxxxxxxxxxxxxxxxxxxxxxxxxxxxxxxxxxxxxxxxxxxxxxxxxxxxxxxxxxxxxxxxxxxxxxxxxxxxx\nfinish\ndelete 3\nbreak 6\nwatch i\nprint q\ninfo breakpoints\nundo\nbreak 4\nbreak 4\nbreak 4\nbreak 4\nbreak 4\nbreak 4\nbreak 4\nbreak 4\nbreak 4\nbreak 4\nbreak 4\nbreak 4\nbreak 4\nbreak 4\nbreak 4\nbreak 4\nbreak 4\nbreak 4\nbreak 4\nbreak 4\nbreak 4\nbreak 4\nbreak 4\nbreak 4\nbreak 4\nbreak 4\nbreak 4\nbreak 4\nbreak 4\nbreak 4\nbreak 4\nbreak 4\nbreak 4\nbreak 4\nbreak 4\nbreak 4\nbreak 4\nbreak 4\nbreak 4\nbreak 4\nbreak 4\nbreak 4\nbreak 4\nbreak 4\nbreak 4\nbreak 4\nbreak 4\nbreak 4\nbreak 4\nbreak 4\nbreak 4\nbreak 4\nbreak 4\nbreak 4\nbreak 4\nbreak 4\nbreak 4\nbreak 4\nbreak 4\nbreak 4\nbreak 4\nbreak 4\nbreak 4\nbreak 4\nbreak 4\n")
    ≡ codes "at 4:1 go depth 1 lanes 1111\nC9 Constant\nC8 OutOfRange\nC2 NoSuchName\nC1 BadCommand\nC6 Outermost\nC10 NoSuchNumber\nC7 NoLine\nC2 NoSuchName\nq = 1\nnone\nundone step: at 3:1 go depth 1 lanes 1111\nbreakpoint 1 at line 4\nbreakpoint 2 at line 4\nbreakpoint 3 at line 4\nbreakpoint 4 at line 4\nbreakpoint 5 at line 4\nbreakpoint 6 at line 4\nbreakpoint 7 at line 4\nbreakpoint 8 at line 4\nbreakpoint 9 at line 4\nbreakpoint 10 at line 4\nbreakpoint 11 at line 4\nbreakpoint 12 at line 4\nbreakpoint 13 at line 4\nbreakpoint 14 at line 4\nbreakpoint 15 at line 4\nbreakpoint 16 at line 4\nbreakpoint 17 at line 4\nbreakpoint 18 at line 4\nbreakpoint 19 at line 4\nbreakpoint 20 at line 4\nbreakpoint 21 at line 4\nbreakpoint 22 at line 4\nbreakpoint 23 at line 4\nbreakpoint 24 at line 4\nbreakpoint 25 at line 4\nbreakpoint 26 at line 4\nbreakpoint 27 at line 4\nbreakpoint 28 at line 4\nbreakpoint 29 at line 4\nbreakpoint 30 at line 4\nbreakpoint 31 at line 4\nbreakpoint 32 at line 4\nbreakpoint 33 at line 4\nbreakpoint 34 at line 4\nbreakpoint 35 at line 4\nbreakpoint 36 at line 4\nbreakpoint 37 at line 4\nbreakpoint 38 at line 4\nbreakpoint 39 at line 4\nbreakpoint 40 at line 4\nbreakpoint 41 at line 4\nbreakpoint 42 at line 4\nbreakpoint 43 at line 4\nbreakpoint 44 at line 4\nbreakpoint 45 at line 4\nbreakpoint 46 at line 4\nbreakpoint 47 at line 4\nbreakpoint 48 at line 4\nbreakpoint 49 at line 4\nbreakpoint 50 at line 4\nbreakpoint 51 at line 4\nbreakpoint 52 at line 4\nbreakpoint 53 at line 4\nbreakpoint 54 at line 4\nbreakpoint 55 at line 4\nbreakpoint 56 at line 4\nbreakpoint 57 at line 4\nbreakpoint 58 at line 4\nbreakpoint 59 at line 4\nbreakpoint 60 at line 4\nbreakpoint 61 at line 4\nbreakpoint 62 at line 4\nbreakpoint 63 at line 4\nbreakpoint 64 at line 4\nC11 TableFull\n"
unfolding digits value_of residue word_of value_in wrapped binary_of
row_1 = refl
