-- Each part of an `if` runs with its own lanes; a uniform assignment happens once in each. Refuses an else part with the lanes of the whole `if`.
use Rattle.std.specs.Prelude.{◌≡◌, refl, true, false, [], ◌∷◌, Some, None, codes}
use Rattle.std.specs.Fmt.{digits}
use Rattle.gang_types.specs.Values.{value_of, residue, word_of, value_in, wrapped, binary_of}
use Rattle.gang_types.specs.declared.types.Rate.TheVariants.{Uniform}
use Rattle.gang_types.specs.declared.types.IntType.TheVariants as t
use Rattle.gang_types.specs.declared.operators.BinaryOp.TheVariants as op
use Rattle.gang_model.specs.declared.forms.Infix.TheVariants.{Op}
use Rattle.gang_model.specs.Source.Parsed.{ParsedNumber, ParsedName, ParsedBinary, ParsedDeclare, ParsedAssign, ParsedIfElse, ParsedLast, ParsedNext, ParsedSource}
use Rattle.tests_transcripts.proofs.Forms.{at, spec, target, function, options, run}

-- export void go() {
-- uniform int u = 0;
-- if (programIndex & 1)
-- u = 1;
-- else
-- u = 2;
-- }
abbrev pub source : ParsedSource
source =
    (function (at 1 13) (codes "go") (spec true false false false None None) ([])
    (ParsedNext (ParsedDeclare (at 2 1) (spec false false false false (Some Uniform) (Some t.Int32)) (at 2 13) (codes "u") (Some (ParsedNumber (at 2 17) 0 false false)))
    (ParsedNext (ParsedIfElse (at 3 1) (ParsedBinary (Op op.And) (ParsedName (at 3 5) (codes "programIndex")) (ParsedNumber (at 3 20) 1 false false)) (ParsedAssign (at 4 1) (target (at 4 1) (codes "u") None) (ParsedNumber (at 4 5) 1 false false)) (ParsedAssign (at 6 1) (target (at 6 1) (codes "u") None) (ParsedNumber (at 6 5) 2 false false)))
    ParsedLast)) (at 7 1)) ∷ []

row_1 : run source (codes "") (options 4 64 1000000)
    (codes "step 2\nstep\nstep\nprint u\n")
    ≡ codes "at 4:1 go depth 1 lanes 0101\nat 6:1 go depth 1 lanes 1010\nat 7:1 go depth 1 lanes 1111\nu = 2\n"
unfolding digits value_of residue word_of value_in wrapped binary_of
row_1 = refl
