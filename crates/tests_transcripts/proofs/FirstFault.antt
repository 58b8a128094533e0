-- The first operation that faults decides, not the lowest lane.
use Rattle.std.specs.Prelude.{◌≡◌, refl, true, false, [], ◌∷◌, Some, None, codes}
use Rattle.std.specs.Fmt.{digits}
use Rattle.gang_types.specs.Values.{value_of, residue, word_of, value_in, wrapped, binary_of}
use Rattle.gang_types.specs.declared.types.IntType.TheVariants as t
use Rattle.gang_types.specs.declared.operators.BinaryOp.TheVariants as op
use Rattle.gang_model.specs.declared.forms.Infix.TheVariants.{Op}
use Rattle.gang_model.specs.Source.Parsed.{ParsedNumber, ParsedName, ParsedParen, ParsedBinary, ParsedDeclare, ParsedLast, ParsedNext, ParsedSource}
use Rattle.tests_transcripts.proofs.Forms.{at, spec, function, options, run}

-- export void go() { int q = 1 / (programIndex - 3) + 1 / programIndex; }
abbrev pub source : ParsedSource
source =
    (function (at 1 13) (codes "go") (spec true false false false None None) ([])
    (ParsedNext (ParsedDeclare (at 1 20) (spec false false false false None (Some t.Int32)) (at 1 24) (codes "q") (Some (ParsedBinary (Op op.Add) (ParsedBinary (Op op.Div) (ParsedNumber (at 1 28) 1 false false) (ParsedParen (at 1 32) (ParsedBinary (Op op.Sub) (ParsedName (at 1 33) (codes "programIndex")) (ParsedNumber (at 1 48) 3 false false)))) (ParsedBinary (Op op.Div) (ParsedNumber (at 1 53) 1 false false) (ParsedName (at 1 57) (codes "programIndex"))))))
    ParsedLast) (at 1 71)) ∷ []

row_1 : run source (codes "") (options 4 64 1000000)
    (codes "step\n")
    ≡ codes "fault F1 DivideByZero lane 3: at 1:20 go depth 1 lanes 1111\n"
unfolding digits value_of residue word_of value_in wrapped binary_of
row_1 = refl
