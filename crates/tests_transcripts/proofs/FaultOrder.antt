-- The index and the right side come before the index is checked, and that before the operation; a uniform operation faults at the lowest lane that evaluates it.
use Rattle.std.specs.Prelude.{◌≡◌, refl, true, false, [], ◌∷◌, Some, None, codes}
use Rattle.std.specs.Fmt.{digits}
use Rattle.gang_types.specs.Values.{value_of, residue, word_of, value_in, wrapped, binary_of}
use Rattle.gang_types.specs.declared.types.Rate.TheVariants.{Uniform}
use Rattle.gang_types.specs.declared.types.IntType.TheVariants as t
use Rattle.gang_types.specs.declared.operators.BinaryOp.TheVariants as op
use Rattle.gang_model.specs.declared.forms.Infix.TheVariants.{Op, AndAlso}
use Rattle.gang_model.specs.declared.forms.GlobalForm.TheVariants.{Array}
use Rattle.gang_model.specs.Source.Parsed.{ParsedNumber, ParsedName, ParsedIndex, ParsedCall, ParsedParen, ParsedBinary, ParsedEnd, ParsedValue, ParsedPartFrom, ParsedDeclare, ParsedAssign, ParsedChange, ParsedDoCall, ParsedIf, ParsedLast, ParsedNext, ParsedSource}
use Rattle.tests_transcripts.proofs.Forms.{at, spec, target, function, file_variable, options, run}

-- uniform int a[2];
-- export void go() { a[programIndex * 9] = 1 / (programIndex - 2); }
abbrev pub source_1 : ParsedSource
source_1 =
    (file_variable (at 1 13) (codes "a") (spec false false false false (Some Uniform) (Some t.Int32)) (Array 2)) ∷
    (function (at 2 13) (codes "go") (spec true false false false None None) ([])
    (ParsedNext (ParsedAssign (at 2 20) (target (at 2 20) (codes "a") (Some (ParsedBinary (Op op.Mul) (ParsedName (at 2 22) (codes "programIndex")) (ParsedNumber (at 2 37) 9 false false)))) (ParsedBinary (Op op.Div) (ParsedNumber (at 2 42) 1 false false) (ParsedParen (at 2 46) (ParsedBinary (Op op.Sub) (ParsedName (at 2 47) (codes "programIndex")) (ParsedNumber (at 2 62) 2 false false)))))
    ParsedLast) (at 2 66)) ∷ []

row_1 : run source_1 (codes "") (options 4 64 1000000)
    (codes "continue\nprint a\n")
    ≡ codes "fault F1 DivideByZero lane 2: at 2:20 go depth 1 lanes 1111\na = 0 0\n"
unfolding digits value_of residue word_of value_in wrapped binary_of
row_1 = refl

-- uniform int a[2];
-- export void go() { a[programIndex * 9] /= 0; }
abbrev pub source_2 : ParsedSource
source_2 =
    (file_variable (at 1 13) (codes "a") (spec false false false false (Some Uniform) (Some t.Int32)) (Array 2)) ∷
    (function (at 2 13) (codes "go") (spec true false false false None None) ([])
    (ParsedNext (ParsedChange (at 2 20) (target (at 2 20) (codes "a") (Some (ParsedBinary (Op op.Mul) (ParsedName (at 2 22) (codes "programIndex")) (ParsedNumber (at 2 37) 9 false false)))) op.Div (ParsedNumber (at 2 43) 0 false false))
    ParsedLast) (at 2 46)) ∷ []

row_2 : run source_2 (codes "") (options 4 64 1000000)
    (codes "continue\nprint a\n")
    ≡ codes "fault F2 Index lane 1: at 2:20 go depth 1 lanes 1111\na = 0 0\n"
unfolding digits value_of residue word_of value_in wrapped binary_of
row_2 = refl

-- uniform int a[2];
-- export void go() { a[a[programIndex] / 0] = a[7]; }
abbrev pub source_3 : ParsedSource
source_3 =
    (file_variable (at 1 13) (codes "a") (spec false false false false (Some Uniform) (Some t.Int32)) (Array 2)) ∷
    (function (at 2 13) (codes "go") (spec true false false false None None) ([])
    (ParsedNext (ParsedAssign (at 2 20) (target (at 2 20) (codes "a") (Some (ParsedBinary (Op op.Div) (ParsedIndex (at 2 22) (codes "a") (ParsedName (at 2 24) (codes "programIndex"))) (ParsedNumber (at 2 40) 0 false false)))) (ParsedIndex (at 2 45) (codes "a") (ParsedNumber (at 2 47) 7 false false)))
    ParsedLast) (at 2 51)) ∷ []

row_3 : run source_3 (codes "") (options 4 64 1000000)
    (codes "continue\nprint a\n")
    ≡ codes "fault F2 Index lane 2: at 2:20 go depth 1 lanes 1111\na = 0 0\n"
unfolding digits value_of residue word_of value_in wrapped binary_of
row_3 = refl

-- uniform int a[2];
-- export void go() { bool b = programIndex > 0 && a[programIndex - 1] / 0 > 1; }
abbrev pub source_4 : ParsedSource
source_4 =
    (file_variable (at 1 13) (codes "a") (spec false false false false (Some Uniform) (Some t.Int32)) (Array 2)) ∷
    (function (at 2 13) (codes "go") (spec true false false false None None) ([])
    (ParsedNext (ParsedDeclare (at 2 20) (spec false false false false None (Some t.Bool)) (at 2 25) (codes "b") (Some (ParsedBinary AndAlso (ParsedBinary (Op op.Greater) (ParsedName (at 2 29) (codes "programIndex")) (ParsedNumber (at 2 44) 0 false false)) (ParsedBinary (Op op.Greater) (ParsedBinary (Op op.Div) (ParsedIndex (at 2 49) (codes "a") (ParsedBinary (Op op.Sub) (ParsedName (at 2 51) (codes "programIndex")) (ParsedNumber (at 2 66) 1 false false))) (ParsedNumber (at 2 71) 0 false false)) (ParsedNumber (at 2 75) 1 false false)))))
    ParsedLast) (at 2 78)) ∷ []

row_4 : run source_4 (codes "") (options 4 64 1000000)
    (codes "continue\nprint a\n")
    ≡ codes "fault F2 Index lane 3: at 2:20 go depth 1 lanes 1111\na = 0 0\n"
unfolding digits value_of residue word_of value_in wrapped binary_of
row_4 = refl

-- uniform int a[2];
-- export void go() { if (programIndex > 1) a[1 / a[0]] = 1; }
abbrev pub source_5 : ParsedSource
source_5 =
    (file_variable (at 1 13) (codes "a") (spec false false false false (Some Uniform) (Some t.Int32)) (Array 2)) ∷
    (function (at 2 13) (codes "go") (spec true false false false None None) ([])
    (ParsedNext (ParsedIf (at 2 20) (ParsedBinary (Op op.Greater) (ParsedName (at 2 24) (codes "programIndex")) (ParsedNumber (at 2 39) 1 false false)) (ParsedAssign (at 2 42) (target (at 2 42) (codes "a") (Some (ParsedBinary (Op op.Div) (ParsedNumber (at 2 44) 1 false false) (ParsedIndex (at 2 48) (codes "a") (ParsedNumber (at 2 50) 0 false false))))) (ParsedNumber (at 2 56) 1 false false)))
    ParsedLast) (at 2 59)) ∷ []

row_5 : run source_5 (codes "") (options 4 64 1000000)
    (codes "continue\nprint a\n")
    ≡ codes "fault F1 DivideByZero lane 2: at 2:42 go depth 1 lanes 0011\na = 0 0\n"
unfolding digits value_of residue word_of value_in wrapped binary_of
row_5 = refl

-- uniform int a[2];
-- export void go() { if (programIndex > 1) packed_store_active(&a[1], 5); }
abbrev pub source_6 : ParsedSource
source_6 =
    (file_variable (at 1 13) (codes "a") (spec false false false false (Some Uniform) (Some t.Int32)) (Array 2)) ∷
    (function (at 2 13) (codes "go") (spec true false false false None None) ([])
    (ParsedNext (ParsedIf (at 2 20) (ParsedBinary (Op op.Greater) (ParsedName (at 2 24) (codes "programIndex")) (ParsedNumber (at 2 39) 1 false false)) (ParsedDoCall (at 2 42) (codes "packed_store_active") (ParsedPartFrom (at 2 63) (codes "a") (ParsedNumber (at 2 65) 1 false false) (ParsedValue (ParsedNumber (at 2 69) 5 false false) ParsedEnd))))
    ParsedLast) (at 2 73)) ∷ []

row_6 : run source_6 (codes "") (options 4 64 1000000)
    (codes "continue\nprint a\n")
    ≡ codes "fault F2 Index lane 3: at 2:42 go depth 1 lanes 0011\na = 0 0\n"
unfolding digits value_of residue word_of value_in wrapped binary_of
row_6 = refl

-- uniform int a[2];
-- export void go() { packed_store_active(&a[3], 1 / 0); }
abbrev pub source_7 : ParsedSource
source_7 =
    (file_variable (at 1 13) (codes "a") (spec false false false false (Some Uniform) (Some t.Int32)) (Array 2)) ∷
    (function (at 2 13) (codes "go") (spec true false false false None None) ([])
    (ParsedNext (ParsedDoCall (at 2 20) (codes "packed_store_active") (ParsedPartFrom (at 2 41) (codes "a") (ParsedNumber (at 2 43) 3 false false) (ParsedValue (ParsedBinary (Op op.Div) (ParsedNumber (at 2 47) 1 false false) (ParsedNumber (at 2 51) 0 false false)) ParsedEnd)))
    ParsedLast) (at 2 55)) ∷ []

row_7 : run source_7 (codes "") (options 4 64 1000000)
    (codes "continue\nprint a\n")
    ≡ codes "fault F2 Index lane 0: at 2:20 go depth 1 lanes 1111\na = 0 0\n"
unfolding digits value_of residue word_of value_in wrapped binary_of
row_7 = refl

-- uniform int a[2];
-- export void go() { packed_store_active(&a[2], 1 / 0); }
abbrev pub source_8 : ParsedSource
source_8 =
    (file_variable (at 1 13) (codes "a") (spec false false false false (Some Uniform) (Some t.Int32)) (Array 2)) ∷
    (function (at 2 13) (codes "go") (spec true false false false None None) ([])
    (ParsedNext (ParsedDoCall (at 2 20) (codes "packed_store_active") (ParsedPartFrom (at 2 41) (codes "a") (ParsedNumber (at 2 43) 2 false false) (ParsedValue (ParsedBinary (Op op.Div) (ParsedNumber (at 2 47) 1 false false) (ParsedNumber (at 2 51) 0 false false)) ParsedEnd)))
    ParsedLast) (at 2 55)) ∷ []

row_8 : run source_8 (codes "") (options 4 64 1000000)
    (codes "continue\nprint a\n")
    ≡ codes "fault F1 DivideByZero lane 0: at 2:20 go depth 1 lanes 1111\na = 0 0\n"
unfolding digits value_of residue word_of value_in wrapped binary_of
row_8 = refl

-- uniform int a[2];
-- export void go() { int x = shuffle(programIndex, programIndex * 2); }
abbrev pub source_9 : ParsedSource
source_9 =
    (file_variable (at 1 13) (codes "a") (spec false false false false (Some Uniform) (Some t.Int32)) (Array 2)) ∷
    (function (at 2 13) (codes "go") (spec true false false false None None) ([])
    (ParsedNext (ParsedDeclare (at 2 20) (spec false false false false None (Some t.Int32)) (at 2 24) (codes "x") (Some (ParsedCall (at 2 28) (codes "shuffle") (ParsedValue (ParsedName (at 2 36) (codes "programIndex")) (ParsedValue (ParsedBinary (Op op.Mul) (ParsedName (at 2 50) (codes "programIndex")) (ParsedNumber (at 2 65) 2 false false)) ParsedEnd)))))
    ParsedLast) (at 2 69)) ∷ []

row_9 : run source_9 (codes "") (options 4 64 1000000)
    (codes "continue\nprint a\n")
    ≡ codes "fault F3 LaneIndex lane 2: at 2:20 go depth 1 lanes 1111\na = 0 0\n"
unfolding digits value_of residue word_of value_in wrapped binary_of
row_9 = refl

-- uniform int a[2];
-- export void go() { assert(programIndex != 3 && 1 / (programIndex - 2) != 5); }
abbrev pub source_10 : ParsedSource
source_10 =
    (file_variable (at 1 13) (codes "a") (spec false false false false (Some Uniform) (Some t.Int32)) (Array 2)) ∷
    (function (at 2 13) (codes "go") (spec true false false false None None) ([])
    (ParsedNext (ParsedDoCall (at 2 20) (codes "assert") (ParsedValue (ParsedBinary AndAlso (ParsedBinary (Op op.NotEqual) (ParsedName (at 2 27) (codes "programIndex")) (ParsedNumber (at 2 43) 3 false false)) (ParsedBinary (Op op.NotEqual) (ParsedBinary (Op op.Div) (ParsedNumber (at 2 48) 1 false false) (ParsedParen (at 2 52) (ParsedBinary (Op op.Sub) (ParsedName (at 2 53) (codes "programIndex")) (ParsedNumber (at 2 68) 2 false false)))) (ParsedNumber (at 2 74) 5 false false))) ParsedEnd))
    ParsedLast) (at 2 78)) ∷ []

row_10 : run source_10 (codes "") (options 4 64 1000000)
    (codes "continue\nprint a\n")
    ≡ codes "fault F1 DivideByZero lane 2: at 2:20 go depth 1 lanes 1111\na = 0 0\n"
unfolding digits value_of residue word_of value_in wrapped binary_of
row_10 = refl
