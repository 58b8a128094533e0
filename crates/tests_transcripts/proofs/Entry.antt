-- A run begins with the first exported function, of the name that is asked for.
use Rattle.std.specs.Prelude.{◌≡◌, refl, true, false, [], ◌∷◌, Some, None, codes}
use Rattle.std.specs.Fmt.{digits}
use Rattle.gang_types.specs.Values.{value_of, residue, word_of, value_in, wrapped, binary_of}
use Rattle.gang_types.specs.declared.types.IntType.TheVariants as t
use Rattle.gang_model.specs.Source.Parsed.{ParsedNumber, ParsedDeclare, ParsedLast, ParsedNext, ParsedSource}
use Rattle.tests_transcripts.proofs.Forms.{at, spec, function, options, run, run_from}

-- void a() { }
-- export void b() { int x = 1; }
-- export void c() { }
abbrev pub source : ParsedSource
source =
    (function (at 1 6) (codes "a") (spec false false false false None None) ([])
    ParsedLast (at 1 12)) ∷
    (function (at 2 13) (codes "b") (spec true false false false None None) ([])
    (ParsedNext (ParsedDeclare (at 2 19) (spec false false false false None (Some t.Int32)) (at 2 23) (codes "x") (Some (ParsedNumber (at 2 27) 1 false false)))
    ParsedLast) (at 2 30)) ∷
    (function (at 3 13) (codes "c") (spec true false false false None None) ([])
    ParsedLast (at 3 19)) ∷ []

row_1 : run source (codes "") (options 4 64 1000000)
    (codes "step\n")
    ≡ codes "at 2:30 b depth 1 lanes 1111\n"
unfolding digits value_of residue word_of value_in wrapped binary_of
row_1 = refl

row_2 : run_from (Some (codes "b")) source (codes "") (options 4 64 1000000)
    (codes "backtrace\n")
    ≡ codes "at 2:19 b depth 1 lanes 1111\n"
unfolding digits value_of residue word_of value_in wrapped binary_of
row_2 = refl

row_3 : run_from (Some (codes "c")) source (codes "") (options 4 64 1000000)
    (codes "backtrace\n")
    ≡ codes "at 3:19 c depth 1 lanes 1111\n"
unfolding digits value_of residue word_of value_in wrapped binary_of
row_3 = refl

row_4 : run_from (Some (codes "a")) source (codes "") (options 4 64 1000000)
    (codes "")
    ≡ codes "entry: E1 NoEntry\n"
unfolding digits value_of residue word_of value_in wrapped binary_of
row_4 = refl

row_5 : run_from (Some (codes "d")) source (codes "") (options 4 64 1000000)
    (codes "")
    ≡ codes "entry: E1 NoEntry\n"
unfolding digits value_of residue word_of value_in wrapped binary_of
row_5 = refl
