-- A fault comes at a lane exactly if that lane is active, and is no step.
use Rattle.std.specs.Prelude.{◌≡◌, refl, true, false, [], ◌∷◌, Some, None, codes}
use Rattle.std.specs.Fmt.{digits}
use Rattle.gang_types.specs.Values.{value_of, residue, word_of, value_in, wrapped, binary_of}
use Rattle.gang_types.specs.declared.types.Rate.TheVariants.{Uniform}
use Rattle.gang_types.specs.declared.types.IntType.TheVariants as t
use Rattle.gang_types.specs.declared.operators.BinaryOp.TheVariants as op
use Rattle.gang_model.specs.declared.forms.Infix.TheVariants.{Op}
use Rattle.gang_model.specs.declared.forms.GlobalForm.TheVariants.{Array}
use Rattle.gang_model.specs.Source.Parsed.{ParsedNumber, ParsedName, ParsedIndex, ParsedParen, ParsedBinary, ParsedChoice, ParsedDeclare, ParsedAssign, ParsedIf, ParsedLast, ParsedNext, ParsedSource}
use Rattle.tests_transcripts.proofs.Forms.{at, spec, target, function, file_variable, options, run}

-- uniform int a[4];
-- export void go() { int x = 0; if ((1 >> programIndex) & 1) x = a[programIndex == 0 ? 9 : 0]; }
abbrev pub source_1 : ParsedSource
source_1 =
    (file_variable (at 1 13) (codes "a") (spec false false false false (Some Uniform) (Some t.Int32)) (Array 4)) ∷
    (function (at 2 13) (codes "go") (spec true false false false None None) ([])
    (ParsedNext (ParsedDeclare (at 2 20) (spec false false false false None (Some t.Int32)) (at 2 24) (codes "x") (Some (ParsedNumber (at 2 28) 0 false false)))
    (ParsedNext (ParsedIf (at 2 31) (ParsedBinary (Op op.And) (ParsedParen (at 2 35) (ParsedBinary (Op op.Shr) (ParsedNumber (at 2 36) 1 false false) (ParsedName (at 2 41) (codes "programIndex")))) (ParsedNumber (at 2 57) 1 false false)) (ParsedAssign (at 2 60) (target (at 2 60) (codes "x") None) (ParsedIndex (at 2 64) (codes "a") (ParsedChoice (ParsedBinary (Op op.Equal) (ParsedName (at 2 66) (codes "programIndex")) (ParsedNumber (at 2 82) 0 false false)) (ParsedNumber (at 2 86) 9 false false) (ParsedNumber (at 2 90) 0 false false)))))
    ParsedLast)) (at 2 94)) ∷ []

row_1 : run source_1 (codes "") (options 4 64 1000000)
    (codes "continue\nundo\n")
    ≡ codes "fault F2 Index lane 0: at 2:60 go depth 1 lanes 1000\nundone step: at 2:31 go depth 1 lanes 1111\n"
unfolding digits value_of residue word_of value_in wrapped binary_of
row_1 = refl

-- uniform int a[4];
-- export void go() { int x = 0; if ((1 >> programIndex) & 1) x = a[programIndex == 1 ? 9 : 0]; }
abbrev pub source_2 : ParsedSource
source_2 =
    (file_variable (at 1 13) (codes "a") (spec false false false false (Some Uniform) (Some t.Int32)) (Array 4)) ∷
    (function (at 2 13) (codes "go") (spec true false false false None None) ([])
    (ParsedNext (ParsedDeclare (at 2 20) (spec false false false false None (Some t.Int32)) (at 2 24) (codes "x") (Some (ParsedNumber (at 2 28) 0 false false)))
    (ParsedNext (ParsedIf (at 2 31) (ParsedBinary (Op op.And) (ParsedParen (at 2 35) (ParsedBinary (Op op.Shr) (ParsedNumber (at 2 36) 1 false false) (ParsedName (at 2 41) (codes "programIndex")))) (ParsedNumber (at 2 57) 1 false false)) (ParsedAssign (at 2 60) (target (at 2 60) (codes "x") None) (ParsedIndex (at 2 64) (codes "a") (ParsedChoice (ParsedBinary (Op op.Equal) (ParsedName (at 2 66) (codes "programIndex")) (ParsedNumber (at 2 82) 1 false false)) (ParsedNumber (at 2 86) 9 false false) (ParsedNumber (at 2 90) 0 false false)))))
    ParsedLast)) (at 2 94)) ∷ []

row_2 : run source_2 (codes "") (options 4 64 1000000)
    (codes "continue\n")
    ≡ codes "ended\n"
unfolding digits value_of residue word_of value_in wrapped binary_of
row_2 = refl

-- uniform int a[4];
-- export void go() { int x = 0; if ((1 >> programIndex) & 1) x = a[programIndex == 2 ? 9 : 0]; }
abbrev pub source_3 : ParsedSource
source_3 =
    (file_variable (at 1 13) (codes "a") (spec false false false false (Some Uniform) (Some t.Int32)) (Array 4)) ∷
    (function (at 2 13) (codes "go") (spec true false false false None None) ([])
    (ParsedNext (ParsedDeclare (at 2 20) (spec false false false false None (Some t.Int32)) (at 2 24) (codes "x") (Some (ParsedNumber (at 2 28) 0 false false)))
    (ParsedNext (ParsedIf (at 2 31) (ParsedBinary (Op op.And) (ParsedParen (at 2 35) (ParsedBinary (Op op.Shr) (ParsedNumber (at 2 36) 1 false false) (ParsedName (at 2 41) (codes "programIndex")))) (ParsedNumber (at 2 57) 1 false false)) (ParsedAssign (at 2 60) (target (at 2 60) (codes "x") None) (ParsedIndex (at 2 64) (codes "a") (ParsedChoice (ParsedBinary (Op op.Equal) (ParsedName (at 2 66) (codes "programIndex")) (ParsedNumber (at 2 82) 2 false false)) (ParsedNumber (at 2 86) 9 false false) (ParsedNumber (at 2 90) 0 false false)))))
    ParsedLast)) (at 2 94)) ∷ []

row_3 : run source_3 (codes "") (options 4 64 1000000)
    (codes "continue\n")
    ≡ codes "ended\n"
unfolding digits value_of residue word_of value_in wrapped binary_of
row_3 = refl

-- uniform int a[4];
-- export void go() { int x = 0; if ((1 >> programIndex) & 1) x = a[programIndex == 3 ? 9 : 0]; }
abbrev pub source_4 : ParsedSource
source_4 =
    (file_variable (at 1 13) (codes "a") (spec false false false false (Some Uniform) (Some t.Int32)) (Array 4)) ∷
    (function (at 2 13) (codes "go") (spec true false false false None None) ([])
    (ParsedNext (ParsedDeclare (at 2 20) (spec false false false false None (Some t.Int32)) (at 2 24) (codes "x") (Some (ParsedNumber (at 2 28) 0 false false)))
    (ParsedNext (ParsedIf (at 2 31) (ParsedBinary (Op op.And) (ParsedParen (at 2 35) (ParsedBinary (Op op.Shr) (ParsedNumber (at 2 36) 1 false false) (ParsedName (at 2 41) (codes "programIndex")))) (ParsedNumber (at 2 57) 1 false false)) (ParsedAssign (at 2 60) (target (at 2 60) (codes "x") None) (ParsedIndex (at 2 64) (codes "a") (ParsedChoice (ParsedBinary (Op op.Equal) (ParsedName (at 2 66) (codes "programIndex")) (ParsedNumber (at 2 82) 3 false false)) (ParsedNumber (at 2 86) 9 false false) (ParsedNumber (at 2 90) 0 false false)))))
    ParsedLast)) (at 2 94)) ∷ []

row_4 : run source_4 (codes "") (options 4 64 1000000)
    (codes "continue\n")
    ≡ codes "ended\n"
unfolding digits value_of residue word_of value_in wrapped binary_of
row_4 = refl

-- uniform int a[4];
-- export void go() { int x = 0; if ((2 >> programIndex) & 1) x = a[programIndex == 0 ? 9 : 0]; }
abbrev pub source_5 : ParsedSource
source_5 =
    (file_variable (at 1 13) (codes "a") (spec false false false false (Some Uniform) (Some t.Int32)) (Array 4)) ∷
    (function (at 2 13) (codes "go") (spec true false false false None None) ([])
    (ParsedNext (ParsedDeclare (at 2 20) (spec false false false false None (Some t.Int32)) (at 2 24) (codes "x") (Some (ParsedNumber (at 2 28) 0 false false)))
    (ParsedNext (ParsedIf (at 2 31) (ParsedBinary (Op op.And) (ParsedParen (at 2 35) (ParsedBinary (Op op.Shr) (ParsedNumber (at 2 36) 2 false false) (ParsedName (at 2 41) (codes "programIndex")))) (ParsedNumber (at 2 57) 1 false false)) (ParsedAssign (at 2 60) (target (at 2 60) (codes "x") None) (ParsedIndex (at 2 64) (codes "a") (ParsedChoice (ParsedBinary (Op op.Equal) (ParsedName (at 2 66) (codes "programIndex")) (ParsedNumber (at 2 82) 0 false false)) (ParsedNumber (at 2 86) 9 false false) (ParsedNumber (at 2 90) 0 false false)))))
    ParsedLast)) (at 2 94)) ∷ []

row_5 : run source_5 (codes "") (options 4 64 1000000)
    (codes "continue\n")
    ≡ codes "ended\n"
unfolding digits value_of residue word_of value_in wrapped binary_of
row_5 = refl

-- uniform int a[4];
-- export void go() { int x = 0; if ((2 >> programIndex) & 1) x = a[programIndex == 1 ? 9 : 0]; }
abbrev pub source_6 : ParsedSource
source_6 =
    (file_variable (at 1 13) (codes "a") (spec false false false false (Some Uniform) (Some t.Int32)) (Array 4)) ∷
    (function (at 2 13) (codes "go") (spec true false false false None None) ([])
    (ParsedNext (ParsedDeclare (at 2 20) (spec false false false false None (Some t.Int32)) (at 2 24) (codes "x") (Some (ParsedNumber (at 2 28) 0 false false)))
    (ParsedNext (ParsedIf (at 2 31) (ParsedBinary (Op op.And) (ParsedParen (at 2 35) (ParsedBinary (Op op.Shr) (ParsedNumber (at 2 36) 2 false false) (ParsedName (at 2 41) (codes "programIndex")))) (ParsedNumber (at 2 57) 1 false false)) (ParsedAssign (at 2 60) (target (at 2 60) (codes "x") None) (ParsedIndex (at 2 64) (codes "a") (ParsedChoice (ParsedBinary (Op op.Equal) (ParsedName (at 2 66) (codes "programIndex")) (ParsedNumber (at 2 82) 1 false false)) (ParsedNumber (at 2 86) 9 false false) (ParsedNumber (at 2 90) 0 false false)))))
    ParsedLast)) (at 2 94)) ∷ []

row_6 : run source_6 (codes "") (options 4 64 1000000)
    (codes "continue\nundo\n")
    ≡ codes "fault F2 Index lane 1: at 2:60 go depth 1 lanes 0100\nundone step: at 2:31 go depth 1 lanes 1111\n"
unfolding digits value_of residue word_of value_in wrapped binary_of
row_6 = refl

-- uniform int a[4];
-- export void go() { int x = 0; if ((2 >> programIndex) & 1) x = a[programIndex == 2 ? 9 : 0]; }
abbrev pub source_7 : ParsedSource
source_7 =
    (file_variable (at 1 13) (codes "a") (spec false false false false (Some Uniform) (Some t.Int32)) (Array 4)) ∷
    (function (at 2 13) (codes "go") (spec true false false false None None) ([])
    (ParsedNext (ParsedDeclare (at 2 20) (spec false false false false None (Some t.Int32)) (at 2 24) (codes "x") (Some (ParsedNumber (at 2 28) 0 false false)))
    (ParsedNext (ParsedIf (at 2 31) (ParsedBinary (Op op.And) (ParsedParen (at 2 35) (ParsedBinary (Op op.Shr) (ParsedNumber (at 2 36) 2 false false) (ParsedName (at 2 41) (codes "programIndex")))) (ParsedNumber (at 2 57) 1 false false)) (ParsedAssign (at 2 60) (target (at 2 60) (codes "x") None) (ParsedIndex (at 2 64) (codes "a") (ParsedChoice (ParsedBinary (Op op.Equal) (ParsedName (at 2 66) (codes "programIndex")) (ParsedNumber (at 2 82) 2 false false)) (ParsedNumber (at 2 86) 9 false false) (ParsedNumber (at 2 90) 0 false false)))))
    ParsedLast)) (at 2 94)) ∷ []

row_7 : run source_7 (codes "") (options 4 64 1000000)
    (codes "continue\n")
    ≡ codes "ended\n"
unfolding digits value_of residue word_of value_in wrapped binary_of
row_7 = refl

-- uniform int a[4];
-- export void go() { int x = 0; if ((2 >> programIndex) & 1) x = a[programIndex == 3 ? 9 : 0]; }
abbrev pub source_8 : ParsedSource
source_8 =
    (file_variable (at 1 13) (codes "a") (spec false false false false (Some Uniform) (Some t.Int32)) (Array 4)) ∷
    (function (at 2 13) (codes "go") (spec true false false false None None) ([])
    (ParsedNext (ParsedDeclare (at 2 20) (spec false false false false None (Some t.Int32)) (at 2 24) (codes "x") (Some (ParsedNumber (at 2 28) 0 false false)))
    (ParsedNext (ParsedIf (at 2 31) (ParsedBinary (Op op.And) (ParsedParen (at 2 35) (ParsedBinary (Op op.Shr) (ParsedNumber (at 2 36) 2 false false) (ParsedName (at 2 41) (codes "programIndex")))) (ParsedNumber (at 2 57) 1 false false)) (ParsedAssign (at 2 60) (target (at 2 60) (codes "x") None) (ParsedIndex (at 2 64) (codes "a") (ParsedChoice (ParsedBinary (Op op.Equal) (ParsedName (at 2 66) (codes "programIndex")) (ParsedNumber (at 2 82) 3 false false)) (ParsedNumber (at 2 86) 9 false false) (ParsedNumber (at 2 90) 0 false false)))))
    ParsedLast)) (at 2 94)) ∷ []

row_8 : run source_8 (codes "") (options 4 64 1000000)
    (codes "continue\n")
    ≡ codes "ended\n"
unfolding digits value_of residue word_of value_in wrapped binary_of
row_8 = refl

-- uniform int a[4];
-- export void go() { int x = 0; if ((3 >> programIndex) & 1) x = a[programIndex == 0 ? 9 : 0]; }
abbrev pub source_9 : ParsedSource
source_9 =
    (file_variable (at 1 13) (codes "a") (spec false false false false (Some Uniform) (Some t.Int32)) (Array 4)) ∷
    (function (at 2 13) (codes "go") (spec true false false false None None) ([])
    (ParsedNext (ParsedDeclare (at 2 20) (spec false false false false None (Some t.Int32)) (at 2 24) (codes "x") (Some (ParsedNumber (at 2 28) 0 false false)))
    (ParsedNext (ParsedIf (at 2 31) (ParsedBinary (Op op.And) (ParsedParen (at 2 35) (ParsedBinary (Op op.Shr) (ParsedNumber (at 2 36) 3 false false) (ParsedName (at 2 41) (codes "programIndex")))) (ParsedNumber (at 2 57) 1 false false)) (ParsedAssign (at 2 60) (target (at 2 60) (codes "x") None) (ParsedIndex (at 2 64) (codes "a") (ParsedChoice (ParsedBinary (Op op.Equal) (ParsedName (at 2 66) (codes "programIndex")) (ParsedNumber (at 2 82) 0 false false)) (ParsedNumber (at 2 86) 9 false false) (ParsedNumber (at 2 90) 0 false false)))))
    ParsedLast)) (at 2 94)) ∷ []

row_9 : run source_9 (codes "") (options 4 64 1000000)
    (codes "continue\nundo\n")
    ≡ codes "fault F2 Index lane 0: at 2:60 go depth 1 lanes 1100\nundone step: at 2:31 go depth 1 lanes 1111\n"
unfolding digits value_of residue word_of value_in wrapped binary_of
row_9 = refl

-- uniform int a[4];
-- export void go() { int x = 0; if ((3 >> programIndex) & 1) x = a[programIndex == 1 ? 9 : 0]; }
abbrev pub source_10 : ParsedSource
source_10 =
    (file_variable (at 1 13) (codes "a") (spec false false false false (Some Uniform) (Some t.Int32)) (Array 4)) ∷
    (function (at 2 13) (codes "go") (spec true false false false None None) ([])
    (ParsedNext (ParsedDeclare (at 2 20) (spec false false false false None (Some t.Int32)) (at 2 24) (codes "x") (Some (ParsedNumber (at 2 28) 0 false false)))
    (ParsedNext (ParsedIf (at 2 31) (ParsedBinary (Op op.And) (ParsedParen (at 2 35) (ParsedBinary (Op op.Shr) (ParsedNumber (at 2 36) 3 false false) (ParsedName (at 2 41) (codes "programIndex")))) (ParsedNumber (at 2 57) 1 false false)) (ParsedAssign (at 2 60) (target (at 2 60) (codes "x") None) (ParsedIndex (at 2 64) (codes "a") (ParsedChoice (ParsedBinary (Op op.Equal) (ParsedName (at 2 66) (codes "programIndex")) (ParsedNumber (at 2 82) 1 false false)) (ParsedNumber (at 2 86) 9 false false) (ParsedNumber (at 2 90) 0 false false)))))
    ParsedLast)) (at 2 94)) ∷ []

row_10 : run source_10 (codes "") (options 4 64 1000000)
    (codes "continue\nundo\n")
    ≡ codes "fault F2 Index lane 1: at 2:60 go depth 1 lanes 1100\nundone step: at 2:31 go depth 1 lanes 1111\n"
unfolding digits value_of residue word_of value_in wrapped binary_of
row_10 = refl

-- uniform int a[4];
-- export void go() { int x = 0; if ((3 >> programIndex) & 1) x = a[programIndex == 2 ? 9 : 0]; }
abbrev pub source_11 : ParsedSource
source_11 =
    (file_variable (at 1 13) (codes "a") (spec false false false false (Some Uniform) (Some t.Int32)) (Array 4)) ∷
    (function (at 2 13) (codes "go") (spec true false false false None None) ([])
    (ParsedNext (ParsedDeclare (at 2 20) (spec false false false false None (Some t.Int32)) (at 2 24) (codes "x") (Some (ParsedNumber (at 2 28) 0 false false)))
    (ParsedNext (ParsedIf (at 2 31) (ParsedBinary (Op op.And) (ParsedParen (at 2 35) (ParsedBinary (Op op.Shr) (ParsedNumber (at 2 36) 3 false false) (ParsedName (at 2 41) (codes "programIndex")))) (ParsedNumber (at 2 57) 1 false false)) (ParsedAssign (at 2 60) (target (at 2 60) (codes "x") None) (ParsedIndex (at 2 64) (codes "a") (ParsedChoice (ParsedBinary (Op op.Equal) (ParsedName (at 2 66) (codes "programIndex")) (ParsedNumber (at 2 82) 2 false false)) (ParsedNumber (at 2 86) 9 false false) (ParsedNumber (at 2 90) 0 false false)))))
    ParsedLast)) (at 2 94)) ∷ []

row_11 : run source_11 (codes "") (options 4 64 1000000)
    (codes "continue\n")
    ≡ codes "ended\n"
unfolding digits value_of residue word_of value_in wrapped binary_of
row_11 = refl

-- uniform int a[4];
-- export void go() { int x = 0; if ((3 >> programIndex) & 1) x = a[programIndex == 3 ? 9 : 0]; }
abbrev pub source_12 : ParsedSource
source_12 =
    (file_variable (at 1 13) (codes "a") (spec false false false false (Some Uniform) (Some t.Int32)) (Array 4)) ∷
    (function (at 2 13) (codes "go") (spec true false false false None None) ([])
    (ParsedNext (ParsedDeclare (at 2 20) (spec false false false false None (Some t.Int32)) (at 2 24) (codes "x") (Some (ParsedNumber (at 2 28) 0 false false)))
    (ParsedNext (ParsedIf (at 2 31) (ParsedBinary (Op op.And) (ParsedParen (at 2 35) (ParsedBinary (Op op.Shr) (ParsedNumber (at 2 36) 3 false false) (ParsedName (at 2 41) (codes "programIndex")))) (ParsedNumber (at 2 57) 1 false false)) (ParsedAssign (at 2 60) (target (at 2 60) (codes "x") None) (ParsedIndex (at 2 64) (codes "a") (ParsedChoice (ParsedBinary (Op op.Equal) (ParsedName (at 2 66) (codes "programIndex")) (ParsedNumber (at 2 82) 3 false false)) (ParsedNumber (at 2 86) 9 false false) (ParsedNumber (at 2 90) 0 false false)))))
    ParsedLast)) (at 2 94)) ∷ []

row_12 : run source_12 (codes "") (options 4 64 1000000)
    (codes "continue\n")
    ≡ codes "ended\n"
unfolding digits value_of residue word_of value_in wrapped binary_of
row_12 = refl

-- uniform int a[4];
-- export void go() { int x = 0; if ((4 >> programIndex) & 1) x = a[programIndex == 0 ? 9 : 0]; }
abbrev pub source_13 : ParsedSource
source_13 =
    (file_variable (at 1 13) (codes "a") (spec false false false false (Some Uniform) (Some t.Int32)) (Array 4)) ∷
    (function (at 2 13) (codes "go") (spec true false false false None None) ([])
    (ParsedNext (ParsedDeclare (at 2 20) (spec false false false false None (Some t.Int32)) (at 2 24) (codes "x") (Some (ParsedNumber (at 2 28) 0 false false)))
    (ParsedNext (ParsedIf (at 2 31) (ParsedBinary (Op op.And) (ParsedParen (at 2 35) (ParsedBinary (Op op.Shr) (ParsedNumber (at 2 36) 4 false false) (ParsedName (at 2 41) (codes "programIndex")))) (ParsedNumber (at 2 57) 1 false false)) (ParsedAssign (at 2 60) (target (at 2 60) (codes "x") None) (ParsedIndex (at 2 64) (codes "a") (ParsedChoice (ParsedBinary (Op op.Equal) (ParsedName (at 2 66) (codes "programIndex")) (ParsedNumber (at 2 82) 0 false false)) (ParsedNumber (at 2 86) 9 false false) (ParsedNumber (at 2 90) 0 false false)))))
    ParsedLast)) (at 2 94)) ∷ []

row_13 : run source_13 (codes "") (options 4 64 1000000)
    (codes "continue\n")
    ≡ codes "ended\n"
unfolding digits value_of residue word_of value_in wrapped binary_of
row_13 = refl

-- uniform int a[4];
-- export void go() { int x = 0; if ((4 >> programIndex) & 1) x = a[programIndex == 1 ? 9 : 0]; }
abbrev pub source_14 : ParsedSource
source_14 =
    (file_variable (at 1 13) (codes "a") (spec false false false false (Some Uniform) (Some t.Int32)) (Array 4)) ∷
    (function (at 2 13) (codes "go") (spec true false false false None None) ([])
    (ParsedNext (ParsedDeclare (at 2 20) (spec false false false false None (Some t.Int32)) (at 2 24) (codes "x") (Some (ParsedNumber (at 2 28) 0 false false)))
    (ParsedNext (ParsedIf (at 2 31) (ParsedBinary (Op op.And) (ParsedParen (at 2 35) (ParsedBinary (Op op.Shr) (ParsedNumber (at 2 36) 4 false false) (ParsedName (at 2 41) (codes "programIndex")))) (ParsedNumber (at 2 57) 1 false false)) (ParsedAssign (at 2 60) (target (at 2 60) (codes "x") None) (ParsedIndex (at 2 64) (codes "a") (ParsedChoice (ParsedBinary (Op op.Equal) (ParsedName (at 2 66) (codes "programIndex")) (ParsedNumber (at 2 82) 1 false false)) (ParsedNumber (at 2 86) 9 false false) (ParsedNumber (at 2 90) 0 false false)))))
    ParsedLast)) (at 2 94)) ∷ []

row_14 : run source_14 (codes "") (options 4 64 1000000)
    (codes "continue\n")
    ≡ codes "ended\n"
unfolding digits value_of residue word_of value_in wrapped binary_of
row_14 = refl

-- uniform int a[4];
-- export void go() { int x = 0; if ((4 >> programIndex) & 1) x = a[programIndex == 2 ? 9 : 0]; }
abbrev pub source_15 : ParsedSource
source_15 =
    (file_variable (at 1 13) (codes "a") (spec false false false false (Some Uniform) (Some t.Int32)) (Array 4)) ∷
    (function (at 2 13) (codes "go") (spec true false false false None None) ([])
    (ParsedNext (ParsedDeclare (at 2 20) (spec false false false false None (Some t.Int32)) (at 2 24) (codes "x") (Some (ParsedNumber (at 2 28) 0 false false)))
    (ParsedNext (ParsedIf (at 2 31) (ParsedBinary (Op op.And) (ParsedParen (at 2 35) (ParsedBinary (Op op.Shr) (ParsedNumber (at 2 36) 4 false false) (ParsedName (at 2 41) (codes "programIndex")))) (ParsedNumber (at 2 57) 1 false false)) (ParsedAssign (at 2 60) (target (at 2 60) (codes "x") None) (ParsedIndex (at 2 64) (codes "a") (ParsedChoice (ParsedBinary (Op op.Equal) (ParsedName (at 2 66) (codes "programIndex")) (ParsedNumber (at 2 82) 2 false false)) (ParsedNumber (at 2 86) 9 false false) (ParsedNumber (at 2 90) 0 false false)))))
    ParsedLast)) (at 2 94)) ∷ []

row_15 : run source_15 (codes "") (options 4 64 1000000)
    (codes "continue\nundo\n")
    ≡ codes "fault F2 Index lane 2: at 2:60 go depth 1 lanes 0010\nundone step: at 2:31 go depth 1 lanes 1111\n"
unfolding digits value_of residue word_of value_in wrapped binary_of
row_15 = refl

-- uniform int a[4];
-- export void go() { int x = 0; if ((4 >> programIndex) & 1) x = a[programIndex == 3 ? 9 : 0]; }
abbrev pub source_16 : ParsedSource
source_16 =
    (file_variable (at 1 13) (codes "a") (spec false false false false (Some Uniform) (Some t.Int32)) (Array 4)) ∷
    (function (at 2 13) (codes "go") (spec true false false false None None) ([])
    (ParsedNext (ParsedDeclare (at 2 20) (spec false false false false None (Some t.Int32)) (at 2 24) (codes "x") (Some (ParsedNumber (at 2 28) 0 false false)))
    (ParsedNext (ParsedIf (at 2 31) (ParsedBinary (Op op.And) (ParsedParen (at 2 35) (ParsedBinary (Op op.Shr) (ParsedNumber (at 2 36) 4 false false) (ParsedName (at 2 41) (codes "programIndex")))) (ParsedNumber (at 2 57) 1 false false)) (ParsedAssign (at 2 60) (target (at 2 60) (codes "x") None) (ParsedIndex (at 2 64) (codes "a") (ParsedChoice (ParsedBinary (Op op.Equal) (ParsedName (at 2 66) (codes "programIndex")) (ParsedNumber (at 2 82) 3 false false)) (ParsedNumber (at 2 86) 9 false false) (ParsedNumber (at 2 90) 0 false false)))))
    ParsedLast)) (at 2 94)) ∷ []

row_16 : run source_16 (codes "") (options 4 64 1000000)
    (codes "continue\n")
    ≡ codes "ended\n"
unfolding digits value_of residue word_of value_in wrapped binary_of
row_16 = refl

-- uniform int a[4];
-- export void go() { int x = 0; if ((5 >> programIndex) & 1) x = a[programIndex == 0 ? 9 : 0]; }
abbrev pub source_17 : ParsedSource
source_17 =
    (file_variable (at 1 13) (codes "a") (spec false false false false (Some Uniform) (Some t.Int32)) (Array 4)) ∷
    (function (at 2 13) (codes "go") (spec true false false false None None) ([])
    (ParsedNext (ParsedDeclare (at 2 20) (spec false false false false None (Some t.Int32)) (at 2 24) (codes "x") (Some (ParsedNumber (at 2 28) 0 false false)))
    (ParsedNext (ParsedIf (at 2 31) (ParsedBinary (Op op.And) (ParsedParen (at 2 35) (ParsedBinary (Op op.Shr) (ParsedNumber (at 2 36) 5 false false) (ParsedName (at 2 41) (codes "programIndex")))) (ParsedNumber (at 2 57) 1 false false)) (ParsedAssign (at 2 60) (target (at 2 60) (codes "x") None) (ParsedIndex (at 2 64) (codes "a") (ParsedChoice (ParsedBinary (Op op.Equal) (ParsedName (at 2 66) (codes "programIndex")) (ParsedNumber (at 2 82) 0 false false)) (ParsedNumber (at 2 86) 9 false false) (ParsedNumber (at 2 90) 0 false false)))))
    ParsedLast)) (at 2 94)) ∷ []

row_17 : run source_17 (codes "") (options 4 64 1000000)
    (codes "continue\nundo\n")
    ≡ codes "fault F2 Index lane 0: at 2:60 go depth 1 lanes 1010\nundone step: at 2:31 go depth 1 lanes 1111\n"
unfolding digits value_of residue word_of value_in wrapped binary_of
row_17 = refl

-- uniform int a[4];
-- export void go() { int x = 0; if ((5 >> programIndex) & 1) x = a[programIndex == 1 ? 9 : 0]; }
abbrev pub source_18 : ParsedSource
source_18 =
    (file_variable (at 1 13) (codes "a") (spec false false false false (Some Uniform) (Some t.Int32)) (Array 4)) ∷
    (function (at 2 13) (codes "go") (spec true false false false None None) ([])
    (ParsedNext (ParsedDeclare (at 2 20) (spec false false false false None (Some t.Int32)) (at 2 24) (codes "x") (Some (ParsedNumber (at 2 28) 0 false false)))
    (ParsedNext (ParsedIf (at 2 31) (ParsedBinary (Op op.And) (ParsedParen (at 2 35) (ParsedBinary (Op op.Shr) (ParsedNumber (at 2 36) 5 false false) (ParsedName (at 2 41) (codes "programIndex")))) (ParsedNumber (at 2 57) 1 false false)) (ParsedAssign (at 2 60) (target (at 2 60) (codes "x") None) (ParsedIndex (at 2 64) (codes "a") (ParsedChoice (ParsedBinary (Op op.Equal) (ParsedName (at 2 66) (codes "programIndex")) (ParsedNumber (at 2 82) 1 false false)) (ParsedNumber (at 2 86) 9 false false) (ParsedNumber (at 2 90) 0 false false)))))
    ParsedLast)) (at 2 94)) ∷ []

row_18 : run source_18 (codes "") (options 4 64 1000000)
    (codes "continue\n")
    ≡ codes "ended\n"
unfolding digits value_of residue word_of value_in wrapped binary_of
row_18 = refl

-- uniform int a[4];
-- export void go() { int x = 0; if ((5 >> programIndex) & 1) x = a[programIndex == 2 ? 9 : 0]; }
abbrev pub source_19 : ParsedSource
source_19 =
    (file_variable (at 1 13) (codes "a") (spec false false false false (Some Uniform) (Some t.Int32)) (Array 4)) ∷
    (function (at 2 13) (codes "go") (spec true false false false None None) ([])
    (ParsedNext (ParsedDeclare (at 2 20) (spec false false false false None (Some t.Int32)) (at 2 24) (codes "x") (Some (ParsedNumber (at 2 28) 0 false false)))
    (ParsedNext (ParsedIf (at 2 31) (ParsedBinary (Op op.And) (ParsedParen (at 2 35) (ParsedBinary (Op op.Shr) (ParsedNumber (at 2 36) 5 false false) (ParsedName (at 2 41) (codes "programIndex")))) (ParsedNumber (at 2 57) 1 false false)) (ParsedAssign (at 2 60) (target (at 2 60) (codes "x") None) (ParsedIndex (at 2 64) (codes "a") (ParsedChoice (ParsedBinary (Op op.Equal) (ParsedName (at 2 66) (codes "programIndex")) (ParsedNumber (at 2 82) 2 false false)) (ParsedNumber (at 2 86) 9 false false) (ParsedNumber (at 2 90) 0 false false)))))
    ParsedLast)) (at 2 94)) ∷ []

row_19 : run source_19 (codes "") (options 4 64 1000000)
    (codes "continue\nundo\n")
    ≡ codes "fault F2 Index lane 2: at 2:60 go depth 1 lanes 1010\nundone step: at 2:31 go depth 1 lanes 1111\n"
unfolding digits value_of residue word_of value_in wrapped binary_of
row_19 = refl

-- uniform int a[4];
-- export void go() { int x = 0; if ((5 >> programIndex) & 1) x = a[programIndex == 3 ? 9 : 0]; }
abbrev pub source_20 : ParsedSource
source_20 =
    (file_variable (at 1 13) (codes "a") (spec false false false false (Some Uniform) (Some t.Int32)) (Array 4)) ∷
    (function (at 2 13) (codes "go") (spec true false false false None None) ([])
    (ParsedNext (ParsedDeclare (at 2 20) (spec false false false false None (Some t.Int32)) (at 2 24) (codes "x") (Some (ParsedNumber (at 2 28) 0 false false)))
    (ParsedNext (ParsedIf (at 2 31) (ParsedBinary (Op op.And) (ParsedParen (at 2 35) (ParsedBinary (Op op.Shr) (ParsedNumber (at 2 36) 5 false false) (ParsedName (at 2 41) (codes "programIndex")))) (ParsedNumber (at 2 57) 1 false false)) (ParsedAssign (at 2 60) (target (at 2 60) (codes "x") None) (ParsedIndex (at 2 64) (codes "a") (ParsedChoice (ParsedBinary (Op op.Equal) (ParsedName (at 2 66) (codes "programIndex")) (ParsedNumber (at 2 82) 3 false false)) (ParsedNumber (at 2 86) 9 false false) (ParsedNumber (at 2 90) 0 false false)))))
    ParsedLast)) (at 2 94)) ∷ []

row_20 : run source_20 (codes "") (options 4 64 1000000)
    (codes "continue\n")
    ≡ codes "ended\n"
unfolding digits value_of residue word_of value_in wrapped binary_of
row_20 = refl

-- uniform int a[4];
-- export void go() { int x = 0; if ((6 >> programIndex) & 1) x = a[programIndex == 0 ? 9 : 0]; }
abbrev pub source_21 : ParsedSource
source_21 =
    (file_variable (at 1 13) (codes "a") (spec false false false false (Some Uniform) (Some t.Int32)) (Array 4)) ∷
    (function (at 2 13) (codes "go") (spec true false false false None None) ([])
    (ParsedNext (ParsedDeclare (at 2 20) (spec false false false false None (Some t.Int32)) (at 2 24) (codes "x") (Some (ParsedNumber (at 2 28) 0 false false)))
    (ParsedNext (ParsedIf (at 2 31) (ParsedBinary (Op op.And) (ParsedParen (at 2 35) (ParsedBinary (Op op.Shr) (ParsedNumber (at 2 36) 6 false false) (ParsedName (at 2 41) (codes "programIndex")))) (ParsedNumber (at 2 57) 1 false false)) (ParsedAssign (at 2 60) (target (at 2 60) (codes "x") None) (ParsedIndex (at 2 64) (codes "a") (ParsedChoice (ParsedBinary (Op op.Equal) (ParsedName (at 2 66) (codes "programIndex")) (ParsedNumber (at 2 82) 0 false false)) (ParsedNumber (at 2 86) 9 false false) (ParsedNumber (at 2 90) 0 false false)))))
    ParsedLast)) (at 2 94)) ∷ []

row_21 : run source_21 (codes "") (options 4 64 1000000)
    (codes "continue\n")
    ≡ codes "ended\n"
unfolding digits value_of residue word_of value_in wrapped binary_of
row_21 = refl

-- uniform int a[4];
-- export void go() { int x = 0; if ((6 >> programIndex) & 1) x = a[programIndex == 1 ? 9 : 0]; }
abbrev pub source_22 : ParsedSource
source_22 =
    (file_variable (at 1 13) (codes "a") (spec false false false false (Some Uniform) (Some t.Int32)) (Array 4)) ∷
    (function (at 2 13) (codes "go") (spec true false false false None None) ([])
    (ParsedNext (ParsedDeclare (at 2 20) (spec false false false false None (Some t.Int32)) (at 2 24) (codes "x") (Some (ParsedNumber (at 2 28) 0 false false)))
    (ParsedNext (ParsedIf (at 2 31) (ParsedBinary (Op op.And) (ParsedParen (at 2 35) (ParsedBinary (Op op.Shr) (ParsedNumber (at 2 36) 6 false false) (ParsedName (at 2 41) (codes "programIndex")))) (ParsedNumber (at 2 57) 1 false false)) (ParsedAssign (at 2 60) (target (at 2 60) (codes "x") None) (ParsedIndex (at 2 64) (codes "a") (ParsedChoice (ParsedBinary (Op op.Equal) (ParsedName (at 2 66) (codes "programIndex")) (ParsedNumber (at 2 82) 1 false false)) (ParsedNumber (at 2 86) 9 false false) (ParsedNumber (at 2 90) 0 false false)))))
    ParsedLast)) (at 2 94)) ∷ []

row_22 : run source_22 (codes "") (options 4 64 1000000)
    (codes "continue\nundo\n")
    ≡ codes "fault F2 Index lane 1: at 2:60 go depth 1 lanes 0110\nundone step: at 2:31 go depth 1 lanes 1111\n"
unfolding digits value_of residue word_of value_in wrapped binary_of
row_22 = refl

-- uniform int a[4];
-- export void go() { int x = 0; if ((6 >> programIndex) & 1) x = a[programIndex == 2 ? 9 : 0]; }
abbrev pub source_23 : ParsedSource
source_23 =
    (file_variable (at 1 13) (codes "a") (spec false false false false (Some Uniform) (Some t.Int32)) (Array 4)) ∷
    (function (at 2 13) (codes "go") (spec true false false false None None) ([])
    (ParsedNext (ParsedDeclare (at 2 20) (spec false false false false None (Some t.Int32)) (at 2 24) (codes "x") (Some (ParsedNumber (at 2 28) 0 false false)))
    (ParsedNext (ParsedIf (at 2 31) (ParsedBinary (Op op.And) (ParsedParen (at 2 35) (ParsedBinary (Op op.Shr) (ParsedNumber (at 2 36) 6 false false) (ParsedName (at 2 41) (codes "programIndex")))) (ParsedNumber (at 2 57) 1 false false)) (ParsedAssign (at 2 60) (target (at 2 60) (codes "x") None) (ParsedIndex (at 2 64) (codes "a") (ParsedChoice (ParsedBinary (Op op.Equal) (ParsedName (at 2 66) (codes "programIndex")) (ParsedNumber (at 2 82) 2 false false)) (ParsedNumber (at 2 86) 9 false false) (ParsedNumber (at 2 90) 0 false false)))))
    ParsedLast)) (at 2 94)) ∷ []

row_23 : run source_23 (codes "") (options 4 64 1000000)
    (codes "continue\nundo\n")
    ≡ codes "fault F2 Index lane 2: at 2:60 go depth 1 lanes 0110\nundone step: at 2:31 go depth 1 lanes 1111\n"
unfolding digits value_of residue word_of value_in wrapped binary_of
row_23 = refl

-- uniform int a[4];
-- export void go() { int x = 0; if ((6 >> programIndex) & 1) x = a[programIndex == 3 ? 9 : 0]; }
abbrev pub source_24 : ParsedSource
source_24 =
    (file_variable (at 1 13) (codes "a") (spec false false false false (Some Uniform) (Some t.Int32)) (Array 4)) ∷
    (function (at 2 13) (codes "go") (spec true false false false None None) ([])
    (ParsedNext (ParsedDeclare (at 2 20) (spec false false false false None (Some t.Int32)) (at 2 24) (codes "x") (Some (ParsedNumber (at 2 28) 0 false false)))
    (ParsedNext (ParsedIf (at 2 31) (ParsedBinary (Op op.And) (ParsedParen (at 2 35) (ParsedBinary (Op op.Shr) (ParsedNumber (at 2 36) 6 false false) (ParsedName (at 2 41) (codes "programIndex")))) (ParsedNumber (at 2 57) 1 false false)) (ParsedAssign (at 2 60) (target (at 2 60) (codes "x") None) (ParsedIndex (at 2 64) (codes "a") (ParsedChoice (ParsedBinary (Op op.Equal) (ParsedName (at 2 66) (codes "programIndex")) (ParsedNumber (at 2 82) 3 false false)) (ParsedNumber (at 2 86) 9 false false) (ParsedNumber (at 2 90) 0 false false)))))
    ParsedLast)) (at 2 94)) ∷ []

row_24 : run source_24 (codes "") (options 4 64 1000000)
    (codes "continue\n")
    ≡ codes "ended\n"
unfolding digits value_of residue word_of value_in wrapped binary_of
row_24 = refl

-- uniform int a[4];
-- export void go() { int x = 0; if ((7 >> programIndex) & 1) x = a[programIndex == 0 ? 9 : 0]; }
abbrev pub source_25 : ParsedSource
source_25 =
    (file_variable (at 1 13) (codes "a") (spec false false false false (Some Uniform) (Some t.Int32)) (Array 4)) ∷
    (function (at 2 13) (codes "go") (spec true false false false None None) ([])
    (ParsedNext (ParsedDeclare (at 2 20) (spec false false false false None (Some t.Int32)) (at 2 24) (codes "x") (Some (ParsedNumber (at 2 28) 0 false false)))
    (ParsedNext (ParsedIf (at 2 31) (ParsedBinary (Op op.And) (ParsedParen (at 2 35) (ParsedBinary (Op op.Shr) (ParsedNumber (at 2 36) 7 false false) (ParsedName (at 2 41) (codes "programIndex")))) (ParsedNumber (at 2 57) 1 false false)) (ParsedAssign (at 2 60) (target (at 2 60) (codes "x") None) (ParsedIndex (at 2 64) (codes "a") (ParsedChoice (ParsedBinary (Op op.Equal) (ParsedName (at 2 66) (codes "programIndex")) (ParsedNumber (at 2 82) 0 false false)) (ParsedNumber (at 2 86) 9 false false) (ParsedNumber (at 2 90) 0 false false)))))
    ParsedLast)) (at 2 94)) ∷ []

row_25 : run source_25 (codes "") (options 4 64 1000000)
    (codes "continue\nundo\n")
    ≡ codes "fault F2 Index lane 0: at 2:60 go depth 1 lanes 1110\nundone step: at 2:31 go depth 1 lanes 1111\n"
unfolding digits value_of residue word_of value_in wrapped binary_of
row_25 = refl

-- uniform int a[4];
-- export void go() { int x = 0; if ((7 >> programIndex) & 1) x = a[programIndex == 1 ? 9 : 0]; }
abbrev pub source_26 : ParsedSource
source_26 =
    (file_variable (at 1 13) (codes "a") (spec false false false false (Some Uniform) (Some t.Int32)) (Array 4)) ∷
    (function (at 2 13) (codes "go") (spec true false false false None None) ([])
    (ParsedNext (ParsedDeclare (at 2 20) (spec false false false false None (Some t.Int32)) (at 2 24) (codes "x") (Some (ParsedNumber (at 2 28) 0 false false)))
    (ParsedNext (ParsedIf (at 2 31) (ParsedBinary (Op op.And) (ParsedParen (at 2 35) (ParsedBinary (Op op.Shr) (ParsedNumber (at 2 36) 7 false false) (ParsedName (at 2 41) (codes "programIndex")))) (ParsedNumber (at 2 57) 1 false false)) (ParsedAssign (at 2 60) (target (at 2 60) (codes "x") None) (ParsedIndex (at 2 64) (codes "a") (ParsedChoice (ParsedBinary (Op op.Equal) (ParsedName (at 2 66) (codes "programIndex")) (ParsedNumber (at 2 82) 1 false false)) (ParsedNumber (at 2 86) 9 false false) (ParsedNumber (at 2 90) 0 false false)))))
    ParsedLast)) (at 2 94)) ∷ []

row_26 : run source_26 (codes "") (options 4 64 1000000)
    (codes "continue\nundo\n")
    ≡ codes "fault F2 Index lane 1: at 2:60 go depth 1 lanes 1110\nundone step: at 2:31 go depth 1 lanes 1111\n"
unfolding digits value_of residue word_of value_in wrapped binary_of
row_26 = refl

-- uniform int a[4];
-- export void go() { int x = 0; if ((7 >> programIndex) & 1) x = a[programIndex == 2 ? 9 : 0]; }
abbrev pub source_27 : ParsedSource
source_27 =
    (file_variable (at 1 13) (codes "a") (spec false false false false (Some Uniform) (Some t.Int32)) (Array 4)) ∷
    (function (at 2 13) (codes "go") (spec true false false false None None) ([])
    (ParsedNext (ParsedDeclare (at 2 20) (spec false false false false None (Some t.Int32)) (at 2 24) (codes "x") (Some (ParsedNumber (at 2 28) 0 false false)))
    (ParsedNext (ParsedIf (at 2 31) (ParsedBinary (Op op.And) (ParsedParen (at 2 35) (ParsedBinary (Op op.Shr) (ParsedNumber (at 2 36) 7 false false) (ParsedName (at 2 41) (codes "programIndex")))) (ParsedNumber (at 2 57) 1 false false)) (ParsedAssign (at 2 60) (target (at 2 60) (codes "x") None) (ParsedIndex (at 2 64) (codes "a") (ParsedChoice (ParsedBinary (Op op.Equal) (ParsedName (at 2 66) (codes "programIndex")) (ParsedNumber (at 2 82) 2 false false)) (ParsedNumber (at 2 86) 9 false false) (ParsedNumber (at 2 90) 0 false false)))))
    ParsedLast)) (at 2 94)) ∷ []

row_27 : run source_27 (codes "") (options 4 64 1000000)
    (codes "continue\nundo\n")
    ≡ codes "fault F2 Index lane 2: at 2:60 go depth 1 lanes 1110\nundone step: at 2:31 go depth 1 lanes 1111\n"
unfolding digits value_of residue word_of value_in wrapped binary_of
row_27 = refl

-- uniform int a[4];
-- export void go() { int x = 0; if ((7 >> programIndex) & 1) x = a[programIndex == 3 ? 9 : 0]; }
abbrev pub source_28 : ParsedSource
source_28 =
    (file_variable (at 1 13) (codes "a") (spec false false false false (Some Uniform) (Some t.Int32)) (Array 4)) ∷
    (function (at 2 13) (codes "go") (spec true false false false None None) ([])
    (ParsedNext (ParsedDeclare (at 2 20) (spec false false false false None (Some t.Int32)) (at 2 24) (codes "x") (Some (ParsedNumber (at 2 28) 0 false false)))
    (ParsedNext (ParsedIf (at 2 31) (ParsedBinary (Op op.And) (ParsedParen (at 2 35) (ParsedBinary (Op op.Shr) (ParsedNumber (at 2 36) 7 false false) (ParsedName (at 2 41) (codes "programIndex")))) (ParsedNumber (at 2 57) 1 false false)) (ParsedAssign (at 2 60) (target (at 2 60) (codes "x") None) (ParsedIndex (at 2 64) (codes "a") (ParsedChoice (ParsedBinary (Op op.Equal) (ParsedName (at 2 66) (codes "programIndex")) (ParsedNumber (at 2 82) 3 false false)) (ParsedNumber (at 2 86) 9 false false) (ParsedNumber (at 2 90) 0 false false)))))
    ParsedLast)) (at 2 94)) ∷ []

row_28 : run source_28 (codes "") (options 4 64 1000000)
    (codes "continue\n")
    ≡ codes "ended\n"
unfolding digits value_of residue word_of value_in wrapped binary_of
row_28 = refl

-- uniform int a[4];
-- export void go() { int x = 0; if ((8 >> programIndex) & 1) x = a[programIndex == 0 ? 9 : 0]; }
abbrev pub source_29 : ParsedSource
source_29 =
    (file_variable (at 1 13) (codes "a") (spec false false false false (Some Uniform) (Some t.Int32)) (Array 4)) ∷
    (function (at 2 13) (codes "go") (spec true false false false None None) ([])
    (ParsedNext (ParsedDeclare (at 2 20) (spec false false false false None (Some t.Int32)) (at 2 24) (codes "x") (Some (ParsedNumber (at 2 28) 0 false false)))
    (ParsedNext (ParsedIf (at 2 31) (ParsedBinary (Op op.And) (ParsedParen (at 2 35) (ParsedBinary (Op op.Shr) (ParsedNumber (at 2 36) 8 false false) (ParsedName (at 2 41) (codes "programIndex")))) (ParsedNumber (at 2 57) 1 false false)) (ParsedAssign (at 2 60) (target (at 2 60) (codes "x") None) (ParsedIndex (at 2 64) (codes "a") (ParsedChoice (ParsedBinary (Op op.Equal) (ParsedName (at 2 66) (codes "programIndex")) (ParsedNumber (at 2 82) 0 false false)) (ParsedNumber (at 2 86) 9 false false) (ParsedNumber (at 2 90) 0 false false)))))
    ParsedLast)) (at 2 94)) ∷ []

row_29 : run source_29 (codes "") (options 4 64 1000000)
    (codes "continue\n")
    ≡ codes "ended\n"
unfolding digits value_of residue word_of value_in wrapped binary_of
row_29 = refl

-- uniform int a[4];
-- export void go() { int x = 0; if ((8 >> programIndex) & 1) x = a[programIndex == 1 ? 9 : 0]; }
abbrev pub source_30 : ParsedSource
source_30 =
    (file_variable (at 1 13) (codes "a") (spec false false false false (Some Uniform) (Some t.Int32)) (Array 4)) ∷
    (function (at 2 13) (codes "go") (spec true false false false None None) ([])
    (ParsedNext (ParsedDeclare (at 2 20) (spec false false false false None (Some t.Int32)) (at 2 24) (codes "x") (Some (ParsedNumber (at 2 28) 0 false false)))
    (ParsedNext (ParsedIf (at 2 31) (ParsedBinary (Op op.And) (ParsedParen (at 2 35) (ParsedBinary (Op op.Shr) (ParsedNumber (at 2 36) 8 false false) (ParsedName (at 2 41) (codes "programIndex")))) (ParsedNumber (at 2 57) 1 false false)) (ParsedAssign (at 2 60) (target (at 2 60) (codes "x") None) (ParsedIndex (at 2 64) (codes "a") (ParsedChoice (ParsedBinary (Op op.Equal) (ParsedName (at 2 66) (codes "programIndex")) (ParsedNumber (at 2 82) 1 false false)) (ParsedNumber (at 2 86) 9 false false) (ParsedNumber (at 2 90) 0 false false)))))
    ParsedLast)) (at 2 94)) ∷ []

row_30 : run source_30 (codes "") (options 4 64 1000000)
    (codes "continue\n")
    ≡ codes "ended\n"
unfolding digits value_of residue word_of value_in wrapped binary_of
row_30 = refl

-- uniform int a[4];
-- export void go() { int x = 0; if ((8 >> programIndex) & 1) x = a[programIndex == 2 ? 9 : 0]; }
abbrev pub source_31 : ParsedSource
source_31 =
    (file_variable (at 1 13) (codes "a") (spec false false false false (Some Uniform) (Some t.Int32)) (Array 4)) ∷
    (function (at 2 13) (codes "go") (spec true false false false None None) ([])
    (ParsedNext (ParsedDeclare (at 2 20) (spec false false false false None (Some t.Int32)) (at 2 24) (codes "x") (Some (ParsedNumber (at 2 28) 0 false false)))
    (ParsedNext (ParsedIf (at 2 31) (ParsedBinary (Op op.And) (ParsedParen (at 2 35) (ParsedBinary (Op op.Shr) (ParsedNumber (at 2 36) 8 false false) (ParsedName (at 2 41) (codes "programIndex")))) (ParsedNumber (at 2 57) 1 false false)) (ParsedAssign (at 2 60) (target (at 2 60) (codes "x") None) (ParsedIndex (at 2 64) (codes "a") (ParsedChoice (ParsedBinary (Op op.Equal) (ParsedName (at 2 66) (codes "programIndex")) (ParsedNumber (at 2 82) 2 false false)) (ParsedNumber (at 2 86) 9 false false) (ParsedNumber (at 2 90) 0 false false)))))
    ParsedLast)) (at 2 94)) ∷ []

row_31 : run source_31 (codes "") (options 4 64 1000000)
    (codes "continue\n")
    ≡ codes "ended\n"
unfolding digits value_of residue word_of value_in wrapped binary_of
row_31 = refl

-- uniform int a[4];
-- export void go() { int x = 0; if ((8 >> programIndex) & 1) x = a[programIndex == 3 ? 9 : 0]; }
abbrev pub source_32 : ParsedSource
source_32 =
    (file_variable (at 1 13) (codes "a") (spec false false false false (Some Uniform) (Some t.Int32)) (Array 4)) ∷
    (function (at 2 13) (codes "go") (spec true false false false None None) ([])
    (ParsedNext (ParsedDeclare (at 2 20) (spec false false false false None (Some t.Int32)) (at 2 24) (codes "x") (Some (ParsedNumber (at 2 28) 0 false false)))
    (ParsedNext (ParsedIf (at 2 31) (ParsedBinary (Op op.And) (ParsedParen (at 2 35) (ParsedBinary (Op op.Shr) (ParsedNumber (at 2 36) 8 false false) (ParsedName (at 2 41) (codes "programIndex")))) (ParsedNumber (at 2 57) 1 false false)) (ParsedAssign (at 2 60) (target (at 2 60) (codes "x") None) (ParsedIndex (at 2 64) (codes "a") (ParsedChoice (ParsedBinary (Op op.Equal) (ParsedName (at 2 66) (codes "programIndex")) (ParsedNumber (at 2 82) 3 false false)) (ParsedNumber (at 2 86) 9 false false) (ParsedNumber (at 2 90) 0 false false)))))
    ParsedLast)) (at 2 94)) ∷ []

row_32 : run source_32 (codes "") (options 4 64 1000000)
    (codes "continue\nundo\n")
    ≡ codes "fault F2 Index lane 3: at 2:60 go depth 1 lanes 0001\nundone step: at 2:31 go depth 1 lanes 1111\n"
unfolding digits value_of residue word_of value_in wrapped binary_of
row_32 = refl

-- uniform int a[4];
-- export void go() { int x = 0; if ((9 >> programIndex) & 1) x = a[programIndex == 0 ? 9 : 0]; }
abbrev pub source_33 : ParsedSource
source_33 =
    (file_variable (at 1 13) (codes "a") (spec false false false false (Some Uniform) (Some t.Int32)) (Array 4)) ∷
    (function (at 2 13) (codes "go") (spec true false false false None None) ([])
    (ParsedNext (ParsedDeclare (at 2 20) (spec false false false false None (Some t.Int32)) (at 2 24) (codes "x") (Some (ParsedNumber (at 2 28) 0 false false)))
    (ParsedNext (ParsedIf (at 2 31) (ParsedBinary (Op op.And) (ParsedParen (at 2 35) (ParsedBinary (Op op.Shr) (ParsedNumber (at 2 36) 9 false false) (ParsedName (at 2 41) (codes "programIndex")))) (ParsedNumber (at 2 57) 1 false false)) (ParsedAssign (at 2 60) (target (at 2 60) (codes "x") None) (ParsedIndex (at 2 64) (codes "a") (ParsedChoice (ParsedBinary (Op op.Equal) (ParsedName (at 2 66) (codes "programIndex")) (ParsedNumber (at 2 82) 0 false false)) (ParsedNumber (at 2 86) 9 false false) (ParsedNumber (at 2 90) 0 false false)))))
    ParsedLast)) (at 2 94)) ∷ []

row_33 : run source_33 (codes "") (options 4 64 1000000)
    (codes "continue\nundo\n")
    ≡ codes "fault F2 Index lane 0: at 2:60 go depth 1 lanes 1001\nundone step: at 2:31 go depth 1 lanes 1111\n"
unfolding digits value_of residue word_of value_in wrapped binary_of
row_33 = refl

-- uniform int a[4];
-- export void go() { int x = 0; if ((9 >> programIndex) & 1) x = a[programIndex == 1 ? 9 : 0]; }
abbrev pub source_34 : ParsedSource
source_34 =
    (file_variable (at 1 13) (codes "a") (spec false false false false (Some Uniform) (Some t.Int32)) (Array 4)) ∷
    (function (at 2 13) (codes "go") (spec true false false false None None) ([])
    (ParsedNext (ParsedDeclare (at 2 20) (spec false false false false None (Some t.Int32)) (at 2 24) (codes "x") (Some (ParsedNumber (at 2 28) 0 false false)))
    (ParsedNext (ParsedIf (at 2 31) (ParsedBinary (Op op.And) (ParsedParen (at 2 35) (ParsedBinary (Op op.Shr) (ParsedNumber (at 2 36) 9 false false) (ParsedName (at 2 41) (codes "programIndex")))) (ParsedNumber (at 2 57) 1 false false)) (ParsedAssign (at 2 60) (target (at 2 60) (codes "x") None) (ParsedIndex (at 2 64) (codes "a") (ParsedChoice (ParsedBinary (Op op.Equal) (ParsedName (at 2 66) (codes "programIndex")) (ParsedNumber (at 2 82) 1 false false)) (ParsedNumber (at 2 86) 9 false false) (ParsedNumber (at 2 90) 0 false false)))))
    ParsedLast)) (at 2 94)) ∷ []

row_34 : run source_34 (codes "") (options 4 64 1000000)
    (codes "continue\n")
    ≡ codes "ended\n"
unfolding digits value_of residue word_of value_in wrapped binary_of
row_34 = refl

-- uniform int a[4];
-- export void go() { int x = 0; if ((9 >> programIndex) & 1) x = a[programIndex == 2 ? 9 : 0]; }
abbrev pub source_35 : ParsedSource
source_35 =
    (file_variable (at 1 13) (codes "a") (spec false false false false (Some Uniform) (Some t.Int32)) (Array 4)) ∷
    (function (at 2 13) (codes "go") (spec true false false false None None) ([])
    (ParsedNext (ParsedDeclare (at 2 20) (spec false false false false None (Some t.Int32)) (at 2 24) (codes "x") (Some (ParsedNumber (at 2 28) 0 false false)))
    (ParsedNext (ParsedIf (at 2 31) (ParsedBinary (Op op.And) (ParsedParen (at 2 35) (ParsedBinary (Op op.Shr) (ParsedNumber (at 2 36) 9 false false) (ParsedName (at 2 41) (codes "programIndex")))) (ParsedNumber (at 2 57) 1 false false)) (ParsedAssign (at 2 60) (target (at 2 60) (codes "x") None) (ParsedIndex (at 2 64) (codes "a") (ParsedChoice (ParsedBinary (Op op.Equal) (ParsedName (at 2 66) (codes "programIndex")) (ParsedNumber (at 2 82) 2 false false)) (ParsedNumber (at 2 86) 9 false false) (ParsedNumber (at 2 90) 0 false false)))))
    ParsedLast)) (at 2 94)) ∷ []

row_35 : run source_35 (codes "") (options 4 64 1000000)
    (codes "continue\n")
    ≡ codes "ended\n"
unfolding digits value_of residue word_of value_in wrapped binary_of
row_35 = refl

-- uniform int a[4];
-- export void go() { int x = 0; if ((9 >> programIndex) & 1) x = a[programIndex == 3 ? 9 : 0]; }
abbrev pub source_36 : ParsedSource
source_36 =
    (file_variable (at 1 13) (codes "a") (spec false false false false (Some Uniform) (Some t.Int32)) (Array 4)) ∷
    (function (at 2 13) (codes "go") (spec true false false false None None) ([])
    (ParsedNext (ParsedDeclare (at 2 20) (spec false false false false None (Some t.Int32)) (at 2 24) (codes "x") (Some (ParsedNumber (at 2 28) 0 false false)))
    (ParsedNext (ParsedIf (at 2 31) (ParsedBinary (Op op.And) (ParsedParen (at 2 35) (ParsedBinary (Op op.Shr) (ParsedNumber (at 2 36) 9 false false) (ParsedName (at 2 41) (codes "programIndex")))) (ParsedNumber (at 2 57) 1 false false)) (ParsedAssign (at 2 60) (target (at 2 60) (codes "x") None) (ParsedIndex (at 2 64) (codes "a") (ParsedChoice (ParsedBinary (Op op.Equal) (ParsedName (at 2 66) (codes "programIndex")) (ParsedNumber (at 2 82) 3 false false)) (ParsedNumber (at 2 86) 9 false false) (ParsedNumber (at 2 90) 0 false false)))))
    ParsedLast)) (at 2 94)) ∷ []

row_36 : run source_36 (codes "") (options 4 64 1000000)
    (codes "continue\nundo\n")
    ≡ codes "fault F2 Index lane 3: at 2:60 go depth 1 lanes 1001\nundone step: at 2:31 go depth 1 lanes 1111\n"
unfolding digits value_of residue word_of value_in wrapped binary_of
row_36 = refl

-- uniform int a[4];
-- export void go() { int x = 0; if ((10 >> programIndex) & 1) x = a[programIndex == 0 ? 9 : 0]; }
abbrev pub source_37 : ParsedSource
source_37 =
    (file_variable (at 1 13) (codes "a") (spec false false false false (Some Uniform) (Some t.Int32)) (Array 4)) ∷
    (function (at 2 13) (codes "go") (spec true false false false None None) ([])
    (ParsedNext (ParsedDeclare (at 2 20) (spec false false false false None (Some t.Int32)) (at 2 24) (codes "x") (Some (ParsedNumber (at 2 28) 0 false false)))
    (ParsedNext (ParsedIf (at 2 31) (ParsedBinary (Op op.And) (ParsedParen (at 2 35) (ParsedBinary (Op op.Shr) (ParsedNumber (at 2 36) 10 false false) (ParsedName (at 2 42) (codes "programIndex")))) (ParsedNumber (at 2 58) 1 false false)) (ParsedAssign (at 2 61) (target (at 2 61) (codes "x") None) (ParsedIndex (at 2 65) (codes "a") (ParsedChoice (ParsedBinary (Op op.Equal) (ParsedName (at 2 67) (codes "programIndex")) (ParsedNumber (at 2 83) 0 false false)) (ParsedNumber (at 2 87) 9 false false) (ParsedNumber (at 2 91) 0 false false)))))
    ParsedLast)) (at 2 95)) ∷ []

row_37 : run source_37 (codes "") (options 4 64 1000000)
    (codes "continue\n")
    ≡ codes "ended\n"
unfolding digits value_of residue word_of value_in wrapped binary_of
row_37 = refl

-- uniform int a[4];
-- export void go() { int x = 0; if ((10 >> programIndex) & 1) x = a[programIndex == 1 ? 9 : 0]; }
abbrev pub source_38 : ParsedSource
source_38 =
    (file_variable (at 1 13) (codes "a") (spec false false false false (Some Uniform) (Some t.Int32)) (Array 4)) ∷
    (function (at 2 13) (codes "go") (spec true false false false None None) ([])
    (ParsedNext (ParsedDeclare (at 2 20) (spec false false false false None (Some t.Int32)) (at 2 24) (codes "x") (Some (ParsedNumber (at 2 28) 0 false false)))
    (ParsedNext (ParsedIf (at 2 31) (ParsedBinary (Op op.And) (ParsedParen (at 2 35) (ParsedBinary (Op op.Shr) (ParsedNumber (at 2 36) 10 false false) (ParsedName (at 2 42) (codes "programIndex")))) (ParsedNumber (at 2 58) 1 false false)) (ParsedAssign (at 2 61) (target (at 2 61) (codes "x") None) (ParsedIndex (at 2 65) (codes "a") (ParsedChoice (ParsedBinary (Op op.Equal) (ParsedName (at 2 67) (codes "programIndex")) (ParsedNumber (at 2 83) 1 false false)) (ParsedNumber (at 2 87) 9 false false) (ParsedNumber (at 2 91) 0 false false)))))
    ParsedLast)) (at 2 95)) ∷ []

row_38 : run source_38 (codes "") (options 4 64 1000000)
    (codes "continue\nundo\n")
    ≡ codes "fault F2 Index lane 1: at 2:61 go depth 1 lanes 0101\nundone step: at 2:31 go depth 1 lanes 1111\n"
unfolding digits value_of residue word_of value_in wrapped binary_of
row_38 = refl

-- uniform int a[4];
-- export void go() { int x = 0; if ((10 >> programIndex) & 1) x = a[programIndex == 2 ? 9 : 0]; }
abbrev pub source_39 : ParsedSource
source_39 =
    (file_variable (at 1 13) (codes "a") (spec false false false false (Some Uniform) (Some t.Int32)) (Array 4)) ∷
    (function (at 2 13) (codes "go") (spec true false false false None None) ([])
    (ParsedNext (ParsedDeclare (at 2 20) (spec false false false false None (Some t.Int32)) (at 2 24) (codes "x") (Some (ParsedNumber (at 2 28) 0 false false)))
    (ParsedNext (ParsedIf (at 2 31) (ParsedBinary (Op op.And) (ParsedParen (at 2 35) (ParsedBinary (Op op.Shr) (ParsedNumber (at 2 36) 10 false false) (ParsedName (at 2 42) (codes "programIndex")))) (ParsedNumber (at 2 58) 1 false false)) (ParsedAssign (at 2 61) (target (at 2 61) (codes "x") None) (ParsedIndex (at 2 65) (codes "a") (ParsedChoice (ParsedBinary (Op op.Equal) (ParsedName (at 2 67) (codes "programIndex")) (ParsedNumber (at 2 83) 2 false false)) (ParsedNumber (at 2 87) 9 false false) (ParsedNumber (at 2 91) 0 false false)))))
    ParsedLast)) (at 2 95)) ∷ []

row_39 : run source_39 (codes "") (options 4 64 1000000)
    (codes "continue\n")
    ≡ codes "ended\n"
unfolding digits value_of residue word_of value_in wrapped binary_of
row_39 = refl

-- uniform int a[4];
-- export void go() { int x = 0; if ((10 >> programIndex) & 1) x = a[programIndex == 3 ? 9 : 0]; }
abbrev pub source_40 : ParsedSource
source_40 =
    (file_variable (at 1 13) (codes "a") (spec false false false false (Some Uniform) (Some t.Int32)) (Array 4)) ∷
    (function (at 2 13) (codes "go") (spec true false false false None None) ([])
    (ParsedNext (ParsedDeclare (at 2 20) (spec false false false false None (Some t.Int32)) (at 2 24) (codes "x") (Some (ParsedNumber (at 2 28) 0 false false)))
    (ParsedNext (ParsedIf (at 2 31) (ParsedBinary (Op op.And) (ParsedParen (at 2 35) (ParsedBinary (Op op.Shr) (ParsedNumber (at 2 36) 10 false false) (ParsedName (at 2 42) (codes "programIndex")))) (ParsedNumber (at 2 58) 1 false false)) (ParsedAssign (at 2 61) (target (at 2 61) (codes "x") None) (ParsedIndex (at 2 65) (codes "a") (ParsedChoice (ParsedBinary (Op op.Equal) (ParsedName (at 2 67) (codes "programIndex")) (ParsedNumber (at 2 83) 3 false false)) (ParsedNumber (at 2 87) 9 false false) (ParsedNumber (at 2 91) 0 false false)))))
    ParsedLast)) (at 2 95)) ∷ []

row_40 : run source_40 (codes "") (options 4 64 1000000)
    (codes "continue\nundo\n")
    ≡ codes "fault F2 Index lane 3: at 2:61 go depth 1 lanes 0101\nundone step: at 2:31 go depth 1 lanes 1111\n"
unfolding digits value_of residue word_of value_in wrapped binary_of
row_40 = refl

-- uniform int a[4];
-- export void go() { int x = 0; if ((11 >> programIndex) & 1) x = a[programIndex == 0 ? 9 : 0]; }
abbrev pub source_41 : ParsedSource
source_41 =
    (file_variable (at 1 13) (codes "a") (spec false false false false (Some Uniform) (Some t.Int32)) (Array 4)) ∷
    (function (at 2 13) (codes "go") (spec true false false false None None) ([])
    (ParsedNext (ParsedDeclare (at 2 20) (spec false false false false None (Some t.Int32)) (at 2 24) (codes "x") (Some (ParsedNumber (at 2 28) 0 false false)))
    (ParsedNext (ParsedIf (at 2 31) (ParsedBinary (Op op.And) (ParsedParen (at 2 35) (ParsedBinary (Op op.Shr) (ParsedNumber (at 2 36) 11 false false) (ParsedName (at 2 42) (codes "programIndex")))) (ParsedNumber (at 2 58) 1 false false)) (ParsedAssign (at 2 61) (target (at 2 61) (codes "x") None) (ParsedIndex (at 2 65) (codes "a") (ParsedChoice (ParsedBinary (Op op.Equal) (ParsedName (at 2 67) (codes "programIndex")) (ParsedNumber (at 2 83) 0 false false)) (ParsedNumber (at 2 87) 9 false false) (ParsedNumber (at 2 91) 0 false false)))))
    ParsedLast)) (at 2 95)) ∷ []

row_41 : run source_41 (codes "") (options 4 64 1000000)
    (codes "continue\nundo\n")
    ≡ codes "fault F2 Index lane 0: at 2:61 go depth 1 lanes 1101\nundone step: at 2:31 go depth 1 lanes 1111\n"
unfolding digits value_of residue word_of value_in wrapped binary_of
row_41 = refl

-- uniform int a[4];
-- export void go() { int x = 0; if ((11 >> programIndex) & 1) x = a[programIndex == 1 ? 9 : 0]; }
abbrev pub source_42 : ParsedSource
source_42 =
    (file_variable (at 1 13) (codes "a") (spec false false false false (Some Uniform) (Some t.Int32)) (Array 4)) ∷
    (function (at 2 13) (codes "go") (spec true false false false None None) ([])
    (ParsedNext (ParsedDeclare (at 2 20) (spec false false false false None (Some t.Int32)) (at 2 24) (codes "x") (Some (ParsedNumber (at 2 28) 0 false false)))
    (ParsedNext (ParsedIf (at 2 31) (ParsedBinary (Op op.And) (ParsedParen (at 2 35) (ParsedBinary (Op op.Shr) (ParsedNumber (at 2 36) 11 false false) (ParsedName (at 2 42) (codes "programIndex")))) (ParsedNumber (at 2 58) 1 false false)) (ParsedAssign (at 2 61) (target (at 2 61) (codes "x") None) (ParsedIndex (at 2 65) (codes "a") (ParsedChoice (ParsedBinary (Op op.Equal) (ParsedName (at 2 67) (codes "programIndex")) (ParsedNumber (at 2 83) 1 false false)) (ParsedNumber (at 2 87) 9 false false) (ParsedNumber (at 2 91) 0 false false)))))
    ParsedLast)) (at 2 95)) ∷ []

row_42 : run source_42 (codes "") (options 4 64 1000000)
    (codes "continue\nundo\n")
    ≡ codes "fault F2 Index lane 1: at 2:61 go depth 1 lanes 1101\nundone step: at 2:31 go depth 1 lanes 1111\n"
unfolding digits value_of residue word_of value_in wrapped binary_of
row_42 = refl

-- uniform int a[4];
-- export void go() { int x = 0; if ((11 >> programIndex) & 1) x = a[programIndex == 2 ? 9 : 0]; }
abbrev pub source_43 : ParsedSource
source_43 =
    (file_variable (at 1 13) (codes "a") (spec false false false false (Some Uniform) (Some t.Int32)) (Array 4)) ∷
    (function (at 2 13) (codes "go") (spec true false false false None None) ([])
    (ParsedNext (ParsedDeclare (at 2 20) (spec false false false false None (Some t.Int32)) (at 2 24) (codes "x") (Some (ParsedNumber (at 2 28) 0 false false)))
    (ParsedNext (ParsedIf (at 2 31) (ParsedBinary (Op op.And) (ParsedParen (at 2 35) (ParsedBinary (Op op.Shr) (ParsedNumber (at 2 36) 11 false false) (ParsedName (at 2 42) (codes "programIndex")))) (ParsedNumber (at 2 58) 1 false false)) (ParsedAssign (at 2 61) (target (at 2 61) (codes "x") None) (ParsedIndex (at 2 65) (codes "a") (ParsedChoice (ParsedBinary (Op op.Equal) (ParsedName (at 2 67) (codes "programIndex")) (ParsedNumber (at 2 83) 2 false false)) (ParsedNumber (at 2 87) 9 false false) (ParsedNumber (at 2 91) 0 false false)))))
    ParsedLast)) (at 2 95)) ∷ []

row_43 : run source_43 (codes "") (options 4 64 1000000)
    (codes "continue\n")
    ≡ codes "ended\n"
unfolding digits value_of residue word_of value_in wrapped binary_of
row_43 = refl

-- uniform int a[4];
-- export void go() { int x = 0; if ((11 >> programIndex) & 1) x = a[programIndex == 3 ? 9 : 0]; }
abbrev pub source_44 : ParsedSource
source_44 =
    (file_variable (at 1 13) (codes "a") (spec false false false false (Some Uniform) (Some t.Int32)) (Array 4)) ∷
    (function (at 2 13) (codes "go") (spec true false false false None None) ([])
    (ParsedNext (ParsedDeclare (at 2 20) (spec false false false false None (Some t.Int32)) (at 2 24) (codes "x") (Some (ParsedNumber (at 2 28) 0 false false)))
    (ParsedNext (ParsedIf (at 2 31) (ParsedBinary (Op op.And) (ParsedParen (at 2 35) (ParsedBinary (Op op.Shr) (ParsedNumber (at 2 36) 11 false false) (ParsedName (at 2 42) (codes "programIndex")))) (ParsedNumber (at 2 58) 1 false false)) (ParsedAssign (at 2 61) (target (at 2 61) (codes "x") None) (ParsedIndex (at 2 65) (codes "a") (ParsedChoice (ParsedBinary (Op op.Equal) (ParsedName (at 2 67) (codes "programIndex")) (ParsedNumber (at 2 83) 3 false false)) (ParsedNumber (at 2 87) 9 false false) (ParsedNumber (at 2 91) 0 false false)))))
    ParsedLast)) (at 2 95)) ∷ []

row_44 : run source_44 (codes "") (options 4 64 1000000)
    (codes "continue\nundo\n")
    ≡ codes "fault F2 Index lane 3: at 2:61 go depth 1 lanes 1101\nundone step: at 2:31 go depth 1 lanes 1111\n"
unfolding digits value_of residue word_of value_in wrapped binary_of
row_44 = refl

-- uniform int a[4];
-- export void go() { int x = 0; if ((12 >> programIndex) & 1) x = a[programIndex == 0 ? 9 : 0]; }
abbrev pub source_45 : ParsedSource
source_45 =
    (file_variable (at 1 13) (codes "a") (spec false false false false (Some Uniform) (Some t.Int32)) (Array 4)) ∷
    (function (at 2 13) (codes "go") (spec true false false false None None) ([])
    (ParsedNext (ParsedDeclare (at 2 20) (spec false false false false None (Some t.Int32)) (at 2 24) (codes "x") (Some (ParsedNumber (at 2 28) 0 false false)))
    (ParsedNext (ParsedIf (at 2 31) (ParsedBinary (Op op.And) (ParsedParen (at 2 35) (ParsedBinary (Op op.Shr) (ParsedNumber (at 2 36) 12 false false) (ParsedName (at 2 42) (codes "programIndex")))) (ParsedNumber (at 2 58) 1 false false)) (ParsedAssign (at 2 61) (target (at 2 61) (codes "x") None) (ParsedIndex (at 2 65) (codes "a") (ParsedChoice (ParsedBinary (Op op.Equal) (ParsedName (at 2 67) (codes "programIndex")) (ParsedNumber (at 2 83) 0 false false)) (ParsedNumber (at 2 87) 9 false false) (ParsedNumber (at 2 91) 0 false false)))))
    ParsedLast)) (at 2 95)) ∷ []

row_45 : run source_45 (codes "") (options 4 64 1000000)
    (codes "continue\n")
    ≡ codes "ended\n"
unfolding digits value_of residue word_of value_in wrapped binary_of
row_45 = refl

-- uniform int a[4];
-- export void go() { int x = 0; if ((12 >> programIndex) & 1) x = a[programIndex == 1 ? 9 : 0]; }
abbrev pub source_46 : ParsedSource
source_46 =
    (file_variable (at 1 13) (codes "a") (spec false false false false (Some Uniform) (Some t.Int32)) (Array 4)) ∷
    (function (at 2 13) (codes "go") (spec true false false false None None) ([])
    (ParsedNext (ParsedDeclare (at 2 20) (spec false false false false None (Some t.Int32)) (at 2 24) (codes "x") (Some (ParsedNumber (at 2 28) 0 false false)))
    (ParsedNext (ParsedIf (at 2 31) (ParsedBinary (Op op.And) (ParsedParen (at 2 35) (ParsedBinary (Op op.Shr) (ParsedNumber (at 2 36) 12 false false) (ParsedName (at 2 42) (codes "programIndex")))) (ParsedNumber (at 2 58) 1 false false)) (ParsedAssign (at 2 61) (target (at 2 61) (codes "x") None) (ParsedIndex (at 2 65) (codes "a") (ParsedChoice (ParsedBinary (Op op.Equal) (ParsedName (at 2 67) (codes "programIndex")) (ParsedNumber (at 2 83) 1 false false)) (ParsedNumber (at 2 87) 9 false false) (ParsedNumber (at 2 91) 0 false false)))))
    ParsedLast)) (at 2 95)) ∷ []

row_46 : run source_46 (codes "") (options 4 64 1000000)
    (codes "continue\n")
    ≡ codes "ended\n"
unfolding digits value_of residue word_of value_in wrapped binary_of
row_46 = refl

-- uniform int a[4];
-- export void go() { int x = 0; if ((12 >> programIndex) & 1) x = a[programIndex == 2 ? 9 : 0]; }
abbrev pub source_47 : ParsedSource
source_47 =
    (file_variable (at 1 13) (codes "a") (spec false false false false (Some Uniform) (Some t.Int32)) (Array 4)) ∷
    (function (at 2 13) (codes "go") (spec true false false false None None) ([])
    (ParsedNext (ParsedDeclare (at 2 20) (spec false false false false None (Some t.Int32)) (at 2 24) (codes "x") (Some (ParsedNumber (at 2 28) 0 false false)))
    (ParsedNext (ParsedIf (at 2 31) (ParsedBinary (Op op.And) (ParsedParen (at 2 35) (ParsedBinary (Op op.Shr) (ParsedNumber (at 2 36) 12 false false) (ParsedName (at 2 42) (codes "programIndex")))) (ParsedNumber (at 2 58) 1 false false)) (ParsedAssign (at 2 61) (target (at 2 61) (codes "x") None) (ParsedIndex (at 2 65) (codes "a") (ParsedChoice (ParsedBinary (Op op.Equal) (ParsedName (at 2 67) (codes "programIndex")) (ParsedNumber (at 2 83) 2 false false)) (ParsedNumber (at 2 87) 9 false false) (ParsedNumber (at 2 91) 0 false false)))))
    ParsedLast)) (at 2 95)) ∷ []

row_47 : run source_47 (codes "") (options 4 64 1000000)
    (codes "continue\nundo\n")
    ≡ codes "fault F2 Index lane 2: at 2:61 go depth 1 lanes 0011\nundone step: at 2:31 go depth 1 lanes 1111\n"
unfolding digits value_of residue word_of value_in wrapped binary_of
row_47 = refl

-- uniform int a[4];
-- export void go() { int x = 0; if ((12 >> programIndex) & 1) x = a[programIndex == 3 ? 9 : 0]; }
abbrev pub source_48 : ParsedSource
source_48 =
    (file_variable (at 1 13) (codes "a") (spec false false false false (Some Uniform) (Some t.Int32)) (Array 4)) ∷
    (function (at 2 13) (codes "go") (spec true false false false None None) ([])
    (ParsedNext (ParsedDeclare (at 2 20) (spec false false false false None (Some t.Int32)) (at 2 24) (codes "x") (Some (ParsedNumber (at 2 28) 0 false false)))
    (ParsedNext (ParsedIf (at 2 31) (ParsedBinary (Op op.And) (ParsedParen (at 2 35) (ParsedBinary (Op op.Shr) (ParsedNumber (at 2 36) 12 false false) (ParsedName (at 2 42) (codes "programIndex")))) (ParsedNumber (at 2 58) 1 false false)) (ParsedAssign (at 2 61) (target (at 2 61) (codes "x") None) (ParsedIndex (at 2 65) (codes "a") (ParsedChoice (ParsedBinary (Op op.Equal) (ParsedName (at 2 67) (codes "programIndex")) (ParsedNumber (at 2 83) 3 false false)) (ParsedNumber (at 2 87) 9 false false) (ParsedNumber (at 2 91) 0 false false)))))
    ParsedLast)) (at 2 95)) ∷ []

row_48 : run source_48 (codes "") (options 4 64 1000000)
    (codes "continue\nundo\n")
    ≡ codes "fault F2 Index lane 3: at 2:61 go depth 1 lanes 0011\nundone step: at 2:31 go depth 1 lanes 1111\n"
unfolding digits value_of residue word_of value_in wrapped binary_of
row_48 = refl

-- uniform int a[4];
-- export void go() { int x = 0; if ((13 >> programIndex) & 1) x = a[programIndex == 0 ? 9 : 0]; }
abbrev pub source_49 : ParsedSource
source_49 =
    (file_variable (at 1 13) (codes "a") (spec false false false false (Some Uniform) (Some t.Int32)) (Array 4)) ∷
    (function (at 2 13) (codes "go") (spec true false false false None None) ([])
    (ParsedNext (ParsedDeclare (at 2 20) (spec false false false false None (Some t.Int32)) (at 2 24) (codes "x") (Some (ParsedNumber (at 2 28) 0 false false)))
    (ParsedNext (ParsedIf (at 2 31) (ParsedBinary (Op op.And) (ParsedParen (at 2 35) (ParsedBinary (Op op.Shr) (ParsedNumber (at 2 36) 13 false false) (ParsedName (at 2 42) (codes "programIndex")))) (ParsedNumber (at 2 58) 1 false false)) (ParsedAssign (at 2 61) (target (at 2 61) (codes "x") None) (ParsedIndex (at 2 65) (codes "a") (ParsedChoice (ParsedBinary (Op op.Equal) (ParsedName (at 2 67) (codes "programIndex")) (ParsedNumber (at 2 83) 0 false false)) (ParsedNumber (at 2 87) 9 false false) (ParsedNumber (at 2 91) 0 false false)))))
    ParsedLast)) (at 2 95)) ∷ []

row_49 : run source_49 (codes "") (options 4 64 1000000)
    (codes "continue\nundo\n")
    ≡ codes "fault F2 Index lane 0: at 2:61 go depth 1 lanes 1011\nundone step: at 2:31 go depth 1 lanes 1111\n"
unfolding digits value_of residue word_of value_in wrapped binary_of
row_49 = refl

-- uniform int a[4];
-- export void go() { int x = 0; if ((13 >> programIndex) & 1) x = a[programIndex == 1 ? 9 : 0]; }
abbrev pub source_50 : ParsedSource
source_50 =
    (file_variable (at 1 13) (codes "a") (spec false false false false (Some Uniform) (Some t.Int32)) (Array 4)) ∷
    (function (at 2 13) (codes "go") (spec true false false false None None) ([])
    (ParsedNext (ParsedDeclare (at 2 20) (spec false false false false None (Some t.Int32)) (at 2 24) (codes "x") (Some (ParsedNumber (at 2 28) 0 false false)))
    (ParsedNext (ParsedIf (at 2 31) (ParsedBinary (Op op.And) (ParsedParen (at 2 35) (ParsedBinary (Op op.Shr) (ParsedNumber (at 2 36) 13 false false) (ParsedName (at 2 42) (codes "programIndex")))) (ParsedNumber (at 2 58) 1 false false)) (ParsedAssign (at 2 61) (target (at 2 61) (codes "x") None) (ParsedIndex (at 2 65) (codes "a") (ParsedChoice (ParsedBinary (Op op.Equal) (ParsedName (at 2 67) (codes "programIndex")) (ParsedNumber (at 2 83) 1 false false)) (ParsedNumber (at 2 87) 9 false false) (ParsedNumber (at 2 91) 0 false false)))))
    ParsedLast)) (at 2 95)) ∷ []

row_50 : run source_50 (codes "") (options 4 64 1000000)
    (codes "continue\n")
    ≡ codes "ended\n"
unfolding digits value_of residue word_of value_in wrapped binary_of
row_50 = refl

-- uniform int a[4];
-- export void go() { int x = 0; if ((13 >> programIndex) & 1) x = a[programIndex == 2 ? 9 : 0]; }
abbrev pub source_51 : ParsedSource
source_51 =
    (file_variable (at 1 13) (codes "a") (spec false false false false (Some Uniform) (Some t.Int32)) (Array 4)) ∷
    (function (at 2 13) (codes "go") (spec true false false false None None) ([])
    (ParsedNext (ParsedDeclare (at 2 20) (spec false false false false None (Some t.Int32)) (at 2 24) (codes "x") (Some (ParsedNumber (at 2 28) 0 false false)))
    (ParsedNext (ParsedIf (at 2 31) (ParsedBinary (Op op.And) (ParsedParen (at 2 35) (ParsedBinary (Op op.Shr) (ParsedNumber (at 2 36) 13 false false) (ParsedName (at 2 42) (codes "programIndex")))) (ParsedNumber (at 2 58) 1 false false)) (ParsedAssign (at 2 61) (target (at 2 61) (codes "x") None) (ParsedIndex (at 2 65) (codes "a") (ParsedChoice (ParsedBinary (Op op.Equal) (ParsedName (at 2 67) (codes "programIndex")) (ParsedNumber (at 2 83) 2 false false)) (ParsedNumber (at 2 87) 9 false false) (ParsedNumber (at 2 91) 0 false false)))))
    ParsedLast)) (at 2 95)) ∷ []

row_51 : run source_51 (codes "") (options 4 64 1000000)
    (codes "continue\nundo\n")
    ≡ codes "fault F2 Index lane 2: at 2:61 go depth 1 lanes 1011\nundone step: at 2:31 go depth 1 lanes 1111\n"
unfolding digits value_of residue word_of value_in wrapped binary_of
row_51 = refl

-- uniform int a[4];
-- export void go() { int x = 0; if ((13 >> programIndex) & 1) x = a[programIndex == 3 ? 9 : 0]; }
abbrev pub source_52 : ParsedSource
source_52 =
    (file_variable (at 1 13) (codes "a") (spec false false false false (Some Uniform) (Some t.Int32)) (Array 4)) ∷
    (function (at 2 13) (codes "go") (spec true false false false None None) ([])
    (ParsedNext (ParsedDeclare (at 2 20) (spec false false false false None (Some t.Int32)) (at 2 24) (codes "x") (Some (ParsedNumber (at 2 28) 0 false false)))
    (ParsedNext (ParsedIf (at 2 31) (ParsedBinary (Op op.And) (ParsedParen (at 2 35) (ParsedBinary (Op op.Shr) (ParsedNumber (at 2 36) 13 false false) (ParsedName (at 2 42) (codes "programIndex")))) (ParsedNumber (at 2 58) 1 false false)) (ParsedAssign (at 2 61) (target (at 2 61) (codes "x") None) (ParsedIndex (at 2 65) (codes "a") (ParsedChoice (ParsedBinary (Op op.Equal) (ParsedName (at 2 67) (codes "programIndex")) (ParsedNumber (at 2 83) 3 false false)) (ParsedNumber (at 2 87) 9 false false) (ParsedNumber (at 2 91) 0 false false)))))
    ParsedLast)) (at 2 95)) ∷ []

row_52 : run source_52 (codes "") (options 4 64 1000000)
    (codes "continue\nundo\n")
    ≡ codes "fault F2 Index lane 3: at 2:61 go depth 1 lanes 1011\nundone step: at 2:31 go depth 1 lanes 1111\n"
unfolding digits value_of residue word_of value_in wrapped binary_of
row_52 = refl

-- uniform int a[4];
-- export void go() { int x = 0; if ((14 >> programIndex) & 1) x = a[programIndex == 0 ? 9 : 0]; }
abbrev pub source_53 : ParsedSource
source_53 =
    (file_variable (at 1 13) (codes "a") (spec false false false false (Some Uniform) (Some t.Int32)) (Array 4)) ∷
    (function (at 2 13) (codes "go") (spec true false false false None None) ([])
    (ParsedNext (ParsedDeclare (at 2 20) (spec false false false false None (Some t.Int32)) (at 2 24) (codes "x") (Some (ParsedNumber (at 2 28) 0 false false)))
    (ParsedNext (ParsedIf (at 2 31) (ParsedBinary (Op op.And) (ParsedParen (at 2 35) (ParsedBinary (Op op.Shr) (ParsedNumber (at 2 36) 14 false false) (ParsedName (at 2 42) (codes "programIndex")))) (ParsedNumber (at 2 58) 1 false false)) (ParsedAssign (at 2 61) (target (at 2 61) (codes "x") None) (ParsedIndex (at 2 65) (codes "a") (ParsedChoice (ParsedBinary (Op op.Equal) (ParsedName (at 2 67) (codes "programIndex")) (ParsedNumber (at 2 83) 0 false false)) (ParsedNumber (at 2 87) 9 false false) (ParsedNumber (at 2 91) 0 false false)))))
    ParsedLast)) (at 2 95)) ∷ []

row_53 : run source_53 (codes "") (options 4 64 1000000)
    (codes "continue\n")
    ≡ codes "ended\n"
unfolding digits value_of residue word_of value_in wrapped binary_of
row_53 = refl

-- uniform int a[4];
-- export void go() { int x = 0; if ((14 >> programIndex) & 1) x = a[programIndex == 1 ? 9 : 0]; }
abbrev pub source_54 : ParsedSource
source_54 =
    (file_variable (at 1 13) (codes "a") (spec false false false false (Some Uniform) (Some t.Int32)) (Array 4)) ∷
    (function (at 2 13) (codes "go") (spec true false false false None None) ([])
    (ParsedNext (ParsedDeclare (at 2 20) (spec false false false false None (Some t.Int32)) (at 2 24) (codes "x") (Some (ParsedNumber (at 2 28) 0 false false)))
    (ParsedNext (ParsedIf (at 2 31) (ParsedBinary (Op op.And) (ParsedParen (at 2 35) (ParsedBinary (Op op.Shr) (ParsedNumber (at 2 36) 14 false false) (ParsedName (at 2 42) (codes "programIndex")))) (ParsedNumber (at 2 58) 1 false false)) (ParsedAssign (at 2 61) (target (at 2 61) (codes "x") None) (ParsedIndex (at 2 65) (codes "a") (ParsedChoice (ParsedBinary (Op op.Equal) (ParsedName (at 2 67) (codes "programIndex")) (ParsedNumber (at 2 83) 1 false false)) (ParsedNumber (at 2 87) 9 false false) (ParsedNumber (at 2 91) 0 false false)))))
    ParsedLast)) (at 2 95)) ∷ []

row_54 : run source_54 (codes "") (options 4 64 1000000)
    (codes "continue\nundo\n")
    ≡ codes "fault F2 Index lane 1: at 2:61 go depth 1 lanes 0111\nundone step: at 2:31 go depth 1 lanes 1111\n"
unfolding digits value_of residue word_of value_in wrapped binary_of
row_54 = refl

-- uniform int a[4];
-- export void go() { int x = 0; if ((14 >> programIndex) & 1) x = a[programIndex == 2 ? 9 : 0]; }
abbrev pub source_55 : ParsedSource
source_55 =
    (file_variable (at 1 13) (codes "a") (spec false false false false (Some Uniform) (Some t.Int32)) (Array 4)) ∷
    (function (at 2 13) (codes "go") (spec true false false false None None) ([])
    (ParsedNext (ParsedDeclare (at 2 20) (spec false false false false None (Some t.Int32)) (at 2 24) (codes "x") (Some (ParsedNumber (at 2 28) 0 false false)))
    (ParsedNext (ParsedIf (at 2 31) (ParsedBinary (Op op.And) (ParsedParen (at 2 35) (ParsedBinary (Op op.Shr) (ParsedNumber (at 2 36) 14 false false) (ParsedName (at 2 42) (codes "programIndex")))) (ParsedNumber (at 2 58) 1 false false)) (ParsedAssign (at 2 61) (target (at 2 61) (codes "x") None) (ParsedIndex (at 2 65) (codes "a") (ParsedChoice (ParsedBinary (Op op.Equal) (ParsedName (at 2 67) (codes "programIndex")) (ParsedNumber (at 2 83) 2 false false)) (ParsedNumber (at 2 87) 9 false false) (ParsedNumber (at 2 91) 0 false false)))))
    ParsedLast)) (at 2 95)) ∷ []

row_55 : run source_55 (codes "") (options 4 64 1000000)
    (codes "continue\nundo\n")
    ≡ codes "fault F2 Index lane 2: at 2:61 go depth 1 lanes 0111\nundone step: at 2:31 go depth 1 lanes 1111\n"
unfolding digits value_of residue word_of value_in wrapped binary_of
row_55 = refl

-- uniform int a[4];
-- export void go() { int x = 0; if ((14 >> programIndex) & 1) x = a[programIndex == 3 ? 9 : 0]; }
abbrev pub source_56 : ParsedSource
source_56 =
    (file_variable (at 1 13) (codes "a") (spec false false false false (Some Uniform) (Some t.Int32)) (Array 4)) ∷
    (function (at 2 13) (codes "go") (spec true false false false None None) ([])
    (ParsedNext (ParsedDeclare (at 2 20) (spec false false false false None (Some t.Int32)) (at 2 24) (codes "x") (Some (ParsedNumber (at 2 28) 0 false false)))
    (ParsedNext (ParsedIf (at 2 31) (ParsedBinary (Op op.And) (ParsedParen (at 2 35) (ParsedBinary (Op op.Shr) (ParsedNumber (at 2 36) 14 false false) (ParsedName (at 2 42) (codes "programIndex")))) (ParsedNumber (at 2 58) 1 false false)) (ParsedAssign (at 2 61) (target (at 2 61) (codes "x") None) (ParsedIndex (at 2 65) (codes "a") (ParsedChoice (ParsedBinary (Op op.Equal) (ParsedName (at 2 67) (codes "programIndex")) (ParsedNumber (at 2 83) 3 false false)) (ParsedNumber (at 2 87) 9 false false) (ParsedNumber (at 2 91) 0 false false)))))
    ParsedLast)) (at 2 95)) ∷ []

row_56 : run source_56 (codes "") (options 4 64 1000000)
    (codes "continue\nundo\n")
    ≡ codes "fault F2 Index lane 3: at 2:61 go depth 1 lanes 0111\nundone step: at 2:31 go depth 1 lanes 1111\n"
unfolding digits value_of residue word_of value_in wrapped binary_of
row_56 = refl

-- uniform int a[4];
-- export void go() { int x = 0; if ((15 >> programIndex) & 1) x = a[programIndex == 0 ? 9 : 0]; }
abbrev pub source_57 : ParsedSource
source_57 =
    (file_variable (at 1 13) (codes "a") (spec false false false false (Some Uniform) (Some t.Int32)) (Array 4)) ∷
    (function (at 2 13) (codes "go") (spec true false false false None None) ([])
    (ParsedNext (ParsedDeclare (at 2 20) (spec false false false false None (Some t.Int32)) (at 2 24) (codes "x") (Some (ParsedNumber (at 2 28) 0 false false)))
    (ParsedNext (ParsedIf (at 2 31) (ParsedBinary (Op op.And) (ParsedParen (at 2 35) (ParsedBinary (Op op.Shr) (ParsedNumber (at 2 36) 15 false false) (ParsedName (at 2 42) (codes "programIndex")))) (ParsedNumber (at 2 58) 1 false false)) (ParsedAssign (at 2 61) (target (at 2 61) (codes "x") None) (ParsedIndex (at 2 65) (codes "a") (ParsedChoice (ParsedBinary (Op op.Equal) (ParsedName (at 2 67) (codes "programIndex")) (ParsedNumber (at 2 83) 0 false false)) (ParsedNumber (at 2 87) 9 false false) (ParsedNumber (at 2 91) 0 false false)))))
    ParsedLast)) (at 2 95)) ∷ []

row_57 : run source_57 (codes "") (options 4 64 1000000)
    (codes "continue\nundo\n")
    ≡ codes "fault F2 Index lane 0: at 2:61 go depth 1 lanes 1111\nundone step: at 2:31 go depth 1 lanes 1111\n"
unfolding digits value_of residue word_of value_in wrapped binary_of
row_57 = refl

-- uniform int a[4];
-- export void go() { int x = 0; if ((15 >> programIndex) & 1) x = a[programIndex == 1 ? 9 : 0]; }
abbrev pub source_58 : ParsedSource
source_58 =
    (file_variable (at 1 13) (codes "a") (spec false false false false (Some Uniform) (Some t.Int32)) (Array 4)) ∷
    (function (at 2 13) (codes "go") (spec true false false false None None) ([])
    (ParsedNext (ParsedDeclare (at 2 20) (spec false false false false None (Some t.Int32)) (at 2 24) (codes "x") (Some (ParsedNumber (at 2 28) 0 false false)))
    (ParsedNext (ParsedIf (at 2 31) (ParsedBinary (Op op.And) (ParsedParen (at 2 35) (ParsedBinary (Op op.Shr) (ParsedNumber (at 2 36) 15 false false) (ParsedName (at 2 42) (codes "programIndex")))) (ParsedNumber (at 2 58) 1 false false)) (ParsedAssign (at 2 61) (target (at 2 61) (codes "x") None) (ParsedIndex (at 2 65) (codes "a") (ParsedChoice (ParsedBinary (Op op.Equal) (ParsedName (at 2 67) (codes "programIndex")) (ParsedNumber (at 2 83) 1 false false)) (ParsedNumber (at 2 87) 9 false false) (ParsedNumber (at 2 91) 0 false false)))))
    ParsedLast)) (at 2 95)) ∷ []

row_58 : run source_58 (codes "") (options 4 64 1000000)
    (codes "continue\nundo\n")
    ≡ codes "fault F2 Index lane 1: at 2:61 go depth 1 lanes 1111\nundone step: at 2:31 go depth 1 lanes 1111\n"
unfolding digits value_of residue word_of value_in wrapped binary_of
row_58 = refl

-- uniform int a[4];
-- export void go() { int x = 0; if ((15 >> programIndex) & 1) x = a[programIndex == 2 ? 9 : 0]; }
abbrev pub source_59 : ParsedSource
source_59 =
    (file_variable (at 1 13) (codes "a") (spec false false false false (Some Uniform) (Some t.Int32)) (Array 4)) ∷
    (function (at 2 13) (codes "go") (spec true false false false None None) ([])
    (ParsedNext (ParsedDeclare (at 2 20) (spec false false false false None (Some t.Int32)) (at 2 24) (codes "x") (Some (ParsedNumber (at 2 28) 0 false false)))
    (ParsedNext (ParsedIf (at 2 31) (ParsedBinary (Op op.And) (ParsedParen (at 2 35) (ParsedBinary (Op op.Shr) (ParsedNumber (at 2 36) 15 false false) (ParsedName (at 2 42) (codes "programIndex")))) (ParsedNumber (at 2 58) 1 false false)) (ParsedAssign (at 2 61) (target (at 2 61) (codes "x") None) (ParsedIndex (at 2 65) (codes "a") (ParsedChoice (ParsedBinary (Op op.Equal) (ParsedName (at 2 67) (codes "programIndex")) (ParsedNumber (at 2 83) 2 false false)) (ParsedNumber (at 2 87) 9 false false) (ParsedNumber (at 2 91) 0 false false)))))
    ParsedLast)) (at 2 95)) ∷ []

row_59 : run source_59 (codes "") (options 4 64 1000000)
    (codes "continue\nundo\n")
    ≡ codes "fault F2 Index lane 2: at 2:61 go depth 1 lanes 1111\nundone step: at 2:31 go depth 1 lanes 1111\n"
unfolding digits value_of residue word_of value_in wrapped binary_of
row_59 = refl

-- uniform int a[4];
-- export void go() { int x = 0; if ((15 >> programIndex) & 1) x = a[programIndex == 3 ? 9 : 0]; }
abbrev pub source_60 : ParsedSource
source_60 =
    (file_variable (at 1 13) (codes "a") (spec false false false false (Some Uniform) (Some t.Int32)) (Array 4)) ∷
    (function (at 2 13) (codes "go") (spec true false false false None None) ([])
    (ParsedNext (ParsedDeclare (at 2 20) (spec false false false false None (Some t.Int32)) (at 2 24) (codes "x") (Some (ParsedNumber (at 2 28) 0 false false)))
    (ParsedNext (ParsedIf (at 2 31) (ParsedBinary (Op op.And) (ParsedParen (at 2 35) (ParsedBinary (Op op.Shr) (ParsedNumber (at 2 36) 15 false false) (ParsedName (at 2 42) (codes "programIndex")))) (ParsedNumber (at 2 58) 1 false false)) (ParsedAssign (at 2 61) (target (at 2 61) (codes "x") None) (ParsedIndex (at 2 65) (codes "a") (ParsedChoice (ParsedBinary (Op op.Equal) (ParsedName (at 2 67) (codes "programIndex")) (ParsedNumber (at 2 83) 3 false false)) (ParsedNumber (at 2 87) 9 false false) (ParsedNumber (at 2 91) 0 false false)))))
    ParsedLast)) (at 2 95)) ∷ []

row_60 : run source_60 (codes "") (options 4 64 1000000)
    (codes "continue\nundo\n")
    ≡ codes "fault F2 Index lane 3: at 2:61 go depth 1 lanes 1111\nundone step: at 2:31 go depth 1 lanes 1111\n"
unfolding digits value_of residue word_of value_in wrapped binary_of
row_60 = refl
