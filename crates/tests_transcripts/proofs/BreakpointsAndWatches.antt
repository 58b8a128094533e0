-- Breakpoints and watches, forwards and back.
use Rattle.std.specs.Prelude.{◌≡◌, refl, true, false, [], ◌∷◌, Some, None, codes}
use Rattle.std.specs.Fmt.{digits}
use Rattle.gang_types.specs.Values.{value_of, residue, word_of, value_in, wrapped, binary_of}
use Rattle.gang_types.specs.declared.types.Rate.TheVariants.{Uniform}
use Rattle.gang_types.specs.declared.types.IntType.TheVariants as t
use Rattle.gang_types.specs.declared.operators.BinaryOp.TheVariants as op
use Rattle.gang_model.specs.declared.forms.Infix.TheVariants.{Op}
use Rattle.gang_model.specs.declared.forms.GlobalForm.TheVariants.{Initial}
use Rattle.gang_model.specs.declared.forms.Literal.TheVariants.{Number}
use Rattle.gang_model.specs.Source.Parsed.{ParsedNumber, ParsedName, ParsedBinary, ParsedBlock, ParsedDeclare, ParsedChange, ParsedWhile, ParsedLast, ParsedNext, ParsedSource}
use Rattle.tests_transcripts.proofs.Forms.{at, spec, target, function, file_variable, options, run}

-- uniform int t = 0;
-- export void go() {
-- uniform int i = 0;
-- while (i < 3) {
--
-- t += i;
-- i += 1;
-- }
-- }
abbrev pub source : ParsedSource
source =
    (file_variable (at 1 13) (codes "t") (spec false false false false (Some Uniform) (Some t.Int32)) (Initial (Number false 0 false false))) ∷
    (function (at 2 13) (codes "go") (spec true false false false None None) ([])
    (ParsedNext (ParsedDeclare (at 3 1) (spec false false false false (Some Uniform) (Some t.Int32)) (at 3 13) (codes "i") (Some (ParsedNumber (at 3 17) 0 false false)))
    (ParsedNext (ParsedWhile (at 4 1) (ParsedBinary (Op op.Less) (ParsedName (at 4 8) (codes "i")) (ParsedNumber (at 4 12) 3 false false)) (ParsedBlock (ParsedNext (ParsedChange (at 6 1) (target (at 6 1) (codes "t") None) op.Add (ParsedName (at 6 6) (codes "i")))
    (ParsedNext (ParsedChange (at 7 1) (target (at 7 1) (codes "i") None) op.Add (ParsedNumber (at 7 6) 1 false false))
    ParsedLast))))
    ParsedLast)) (at 9 1)) ∷ []

row_1 : run source (codes "") (options 4 64 1000000)
    (codes "break 5\ncontinue\ncontinue\nprint i\nreverse-continue\nprint i\nreverse-continue\nbreak 900\ndelete 1\ndelete 1\nwatch t\ncontinue\ninfo breakpoints\ncontinue\ncontinue\n")
    ≡ codes "breakpoint 1 at line 6\nbreakpoint 1: at 6:1 go depth 1 lanes 1111\nbreakpoint 1: at 6:1 go depth 1 lanes 1111\ni = 1\nbreakpoint 1: at 6:1 go depth 1 lanes 1111\ni = 0\nhistory end: at 3:1 go depth 1 lanes 1111\nC7 NoLine\ndeleted 1\nC10 NoSuchNumber\nwatch 2: t\nwatch 2: at 7:1 go depth 1 lanes 1111\n2 watch t\nwatch 2: at 7:1 go depth 1 lanes 1111\nended\n"
unfolding digits value_of residue word_of value_in wrapped binary_of
row_1 = refl
