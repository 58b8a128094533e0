-- A fault comes at a lane exactly if that lane is active, and is no step.
use Rattle.std.specs.Prelude.{◌≡◌, refl, true, false, [], ◌∷◌, Some, None, codes}
use Rattle.std.specs.Fmt.{digits}
use Rattle.gang_types.specs.Values.{value_of, residue, word_of, value_in, wrapped, binary_of}
use Rattle.gang_types.specs.declared.types.IntType.TheVariants as t
use Rattle.gang_types.specs.declared.operators.BinaryOp.TheVariants as op
use Rattle.gang_model.specs.declared.forms.Infix.TheVariants.{Op}
use Rattle.gang_model.specs.Source.Parsed.{ParsedNumber, ParsedName, ParsedCall, ParsedParen, ParsedBinary, ParsedChoice, ParsedEnd, ParsedValue, ParsedDeclare, ParsedAssign, ParsedIf, ParsedLast, ParsedNext, ParsedSource}
use Rattle.tests_transcripts.proofs.Forms.{at, spec, target, function, options, run}

-- export void go() { int x = 0; if ((1 >> programIndex) & 1) x = shuffle(x, programIndex == 0 ? 4 : 0); }
abbrev pub source_1 : ParsedSource
source_1 =
    (function (at 1 13) (codes "go") (spec true false false false None None) ([])
    (ParsedNext (ParsedDeclare (at 1 20) (spec false false false false None (Some t.Int32)) (at 1 24) (codes "x") (Some (ParsedNumber (at 1 28) 0 false false)))
    (ParsedNext (ParsedIf (at 1 31) (ParsedBinary (Op op.And) (ParsedParen (at 1 35) (ParsedBinary (Op op.Shr) (ParsedNumber (at 1 36) 1 false false) (ParsedName (at 1 41) (codes "programIndex")))) (ParsedNumber (at 1 57) 1 false false)) (ParsedAssign (at 1 60) (target (at 1 60) (codes "x") None) (ParsedCall (at 1 64) (codes "shuffle") (ParsedValue (ParsedName (at 1 72) (codes "x")) (ParsedValue (ParsedChoice (ParsedBinary (Op op.Equal) (ParsedName (at 1 75) (codes "programIndex")) (ParsedNumber (at 1 91) 0 false false)) (ParsedNumber (at 1 95) 4 false false) (ParsedNumber (at 1 99) 0 false false)) ParsedEnd)))))
    ParsedLast)) (at 1 103)) ∷ []

row_1 : run source_1 (codes "") (options 4 64 1000000)
    (codes "continue\nundo\n")
    ≡ codes "fault F3 LaneIndex lane 0: at 1:60 go depth 1 lanes 1000\nundone step: at 1:31 go depth 1 lanes 1111\n"
unfolding digits value_of residue word_of value_in wrapped binary_of
row_1 = refl

-- export void go() { int x = 0; if ((1 >> programIndex) & 1) x = shuffle(x, programIndex == 1 ? 4 : 0); }
abbrev pub source_2 : ParsedSource
source_2 =
    (function (at 1 13) (codes "go") (spec true false false false None None) ([])
    (ParsedNext (ParsedDeclare (at 1 20) (spec false false false false None (Some t.Int32)) (at 1 24) (codes "x") (Some (ParsedNumber (at 1 28) 0 false false)))
    (ParsedNext (ParsedIf (at 1 31) (ParsedBinary (Op op.And) (ParsedParen (at 1 35) (ParsedBinary (Op op.Shr) (ParsedNumber (at 1 36) 1 false false) (ParsedName (at 1 41) (codes "programIndex")))) (ParsedNumber (at 1 57) 1 false false)) (ParsedAssign (at 1 60) (target (at 1 60) (codes "x") None) (ParsedCall (at 1 64) (codes "shuffle") (ParsedValue (ParsedName (at 1 72) (codes "x")) (ParsedValue (ParsedChoice (ParsedBinary (Op op.Equal) (ParsedName (at 1 75) (codes "programIndex")) (ParsedNumber (at 1 91) 1 false false)) (ParsedNumber (at 1 95) 4 false false) (ParsedNumber (at 1 99) 0 false false)) ParsedEnd)))))
    ParsedLast)) (at 1 103)) ∷ []

row_2 : run source_2 (codes "") (options 4 64 1000000)
    (codes "continue\n")
    ≡ codes "ended\n"
unfolding digits value_of residue word_of value_in wrapped binary_of
row_2 = refl

-- export void go() { int x = 0; if ((1 >> programIndex) & 1) x = shuffle(x, programIndex == 2 ? 4 : 0); }
abbrev pub source_3 : ParsedSource
source_3 =
    (function (at 1 13) (codes "go") (spec true false false false None None) ([])
    (ParsedNext (ParsedDeclare (at 1 20) (spec false false false false None (Some t.Int32)) (at 1 24) (codes "x") (Some (ParsedNumber (at 1 28) 0 false false)))
    (ParsedNext (ParsedIf (at 1 31) (ParsedBinary (Op op.And) (ParsedParen (at 1 35) (ParsedBinary (Op op.Shr) (ParsedNumber (at 1 36) 1 false false) (ParsedName (at 1 41) (codes "programIndex")))) (ParsedNumber (at 1 57) 1 false false)) (ParsedAssign (at 1 60) (target (at 1 60) (codes "x") None) (ParsedCall (at 1 64) (codes "shuffle") (ParsedValue (ParsedName (at 1 72) (codes "x")) (ParsedValue (ParsedChoice (ParsedBinary (Op op.Equal) (ParsedName (at 1 75) (codes "programIndex")) (ParsedNumber (at 1 91) 2 false false)) (ParsedNumber (at 1 95) 4 false false) (ParsedNumber (at 1 99) 0 false false)) ParsedEnd)))))
    ParsedLast)) (at 1 103)) ∷ []

row_3 : run source_3 (codes "") (options 4 64 1000000)
    (codes "continue\n")
    ≡ codes "ended\n"
unfolding digits value_of residue word_of value_in wrapped binary_of
row_3 = refl

-- export void go() { int x = 0; if ((1 >> programIndex) & 1) x = shuffle(x, programIndex == 3 ? 4 : 0); }
abbrev pub source_4 : ParsedSource
source_4 =
    (function (at 1 13) (codes "go") (spec true false false false None None) ([])
    (ParsedNext (ParsedDeclare (at 1 20) (spec false false false false None (Some t.Int32)) (at 1 24) (codes "x") (Some (ParsedNumber (at 1 28) 0 false false)))
    (ParsedNext (ParsedIf (at 1 31) (ParsedBinary (Op op.And) (ParsedParen (at 1 35) (ParsedBinary (Op op.Shr) (ParsedNumber (at 1 36) 1 false false) (ParsedName (at 1 41) (codes "programIndex")))) (ParsedNumber (at 1 57) 1 false false)) (ParsedAssign (at 1 60) (target (at 1 60) (codes "x") None) (ParsedCall (at 1 64) (codes "shuffle") (ParsedValue (ParsedName (at 1 72) (codes "x")) (ParsedValue (ParsedChoice (ParsedBinary (Op op.Equal) (ParsedName (at 1 75) (codes "programIndex")) (ParsedNumber (at 1 91) 3 false false)) (ParsedNumber (at 1 95) 4 false false) (ParsedNumber (at 1 99) 0 false false)) ParsedEnd)))))
    ParsedLast)) (at 1 103)) ∷ []

row_4 : run source_4 (codes "") (options 4 64 1000000)
    (codes "continue\n")
    ≡ codes "ended\n"
unfolding digits value_of residue word_of value_in wrapped binary_of
row_4 = refl

-- export void go() { int x = 0; if ((2 >> programIndex) & 1) x = shuffle(x, programIndex == 0 ? 4 : 0); }
abbrev pub source_5 : ParsedSource
source_5 =
    (function (at 1 13) (codes "go") (spec true false false false None None) ([])
    (ParsedNext (ParsedDeclare (at 1 20) (spec false false false false None (Some t.Int32)) (at 1 24) (codes "x") (Some (ParsedNumber (at 1 28) 0 false false)))
    (ParsedNext (ParsedIf (at 1 31) (ParsedBinary (Op op.And) (ParsedParen (at 1 35) (ParsedBinary (Op op.Shr) (ParsedNumber (at 1 36) 2 false false) (ParsedName (at 1 41) (codes "programIndex")))) (ParsedNumber (at 1 57) 1 false false)) (ParsedAssign (at 1 60) (target (at 1 60) (codes "x") None) (ParsedCall (at 1 64) (codes "shuffle") (ParsedValue (ParsedName (at 1 72) (codes "x")) (ParsedValue (ParsedChoice (ParsedBinary (Op op.Equal) (ParsedName (at 1 75) (codes "programIndex")) (ParsedNumber (at 1 91) 0 false false)) (ParsedNumber (at 1 95) 4 false false) (ParsedNumber (at 1 99) 0 false false)) ParsedEnd)))))
    ParsedLast)) (at 1 103)) ∷ []

row_5 : run source_5 (codes "") (options 4 64 1000000)
    (codes "continue\n")
    ≡ codes "ended\n"
unfolding digits value_of residue word_of value_in wrapped binary_of
row_5 = refl

-- export void go() { int x = 0; if ((2 >> programIndex) & 1) x = shuffle(x, programIndex == 1 ? 4 : 0); }
abbrev pub source_6 : ParsedSource
source_6 =
    (function (at 1 13) (codes "go") (spec true false false false None None) ([])
    (ParsedNext (ParsedDeclare (at 1 20) (spec false false false false None (Some t.Int32)) (at 1 24) (codes "x") (Some (ParsedNumber (at 1 28) 0 false false)))
    (ParsedNext (ParsedIf (at 1 31) (ParsedBinary (Op op.And) (ParsedParen (at 1 35) (ParsedBinary (Op op.Shr) (ParsedNumber (at 1 36) 2 false false) (ParsedName (at 1 41) (codes "programIndex")))) (ParsedNumber (at 1 57) 1 false false)) (ParsedAssign (at 1 60) (target (at 1 60) (codes "x") None) (ParsedCall (at 1 64) (codes "shuffle") (ParsedValue (ParsedName (at 1 72) (codes "x")) (ParsedValue (ParsedChoice (ParsedBinary (Op op.Equal) (ParsedName (at 1 75) (codes "programIndex")) (ParsedNumber (at 1 91) 1 false false)) (ParsedNumber (at 1 95) 4 false false) (ParsedNumber (at 1 99) 0 false false)) ParsedEnd)))))
    ParsedLast)) (at 1 103)) ∷ []

row_6 : run source_6 (codes "") (options 4 64 1000000)
    (codes "continue\nundo\n")
    ≡ codes "fault F3 LaneIndex lane 1: at 1:60 go depth 1 lanes 0100\nundone step: at 1:31 go depth 1 lanes 1111\n"
unfolding digits value_of residue word_of value_in wrapped binary_of
row_6 = refl

-- export void go() { int x = 0; if ((2 >> programIndex) & 1) x = shuffle(x, programIndex == 2 ? 4 : 0); }
abbrev pub source_7 : ParsedSource
source_7 =
    (function (at 1 13) (codes "go") (spec true false false false None None) ([])
    (ParsedNext (ParsedDeclare (at 1 20) (spec false false false false None (Some t.Int32)) (at 1 24) (codes "x") (Some (ParsedNumber (at 1 28) 0 false false)))
    (ParsedNext (ParsedIf (at 1 31) (ParsedBinary (Op op.And) (ParsedParen (at 1 35) (ParsedBinary (Op op.Shr) (ParsedNumber (at 1 36) 2 false false) (ParsedName (at 1 41) (codes "programIndex")))) (ParsedNumber (at 1 57) 1 false false)) (ParsedAssign (at 1 60) (target (at 1 60) (codes "x") None) (ParsedCall (at 1 64) (codes "shuffle") (ParsedValue (ParsedName (at 1 72) (codes "x")) (ParsedValue (ParsedChoice (ParsedBinary (Op op.Equal) (ParsedName (at 1 75) (codes "programIndex")) (ParsedNumber (at 1 91) 2 false false)) (ParsedNumber (at 1 95) 4 false false) (ParsedNumber (at 1 99) 0 false false)) ParsedEnd)))))
    ParsedLast)) (at 1 103)) ∷ []

row_7 : run source_7 (codes "") (options 4 64 1000000)
    (codes "continue\n")
    ≡ codes "ended\n"
unfolding digits value_of residue word_of value_in wrapped binary_of
row_7 = refl

-- export void go() { int x = 0; if ((2 >> programIndex) & 1) x = shuffle(x, programIndex == 3 ? 4 : 0); }
abbrev pub source_8 : ParsedSource
source_8 =
    (function (at 1 13) (codes "go") (spec true false false false None None) ([])
    (ParsedNext (ParsedDeclare (at 1 20) (spec false false false false None (Some t.Int32)) (at 1 24) (codes "x") (Some (ParsedNumber (at 1 28) 0 false false)))
    (ParsedNext (ParsedIf (at 1 31) (ParsedBinary (Op op.And) (ParsedParen (at 1 35) (ParsedBinary (Op op.Shr) (ParsedNumber (at 1 36) 2 false false) (ParsedName (at 1 41) (codes "programIndex")))) (ParsedNumber (at 1 57) 1 false false)) (ParsedAssign (at 1 60) (target (at 1 60) (codes "x") None) (ParsedCall (at 1 64) (codes "shuffle") (ParsedValue (ParsedName (at 1 72) (codes "x")) (ParsedValue (ParsedChoice (ParsedBinary (Op op.Equal) (ParsedName (at 1 75) (codes "programIndex")) (ParsedNumber (at 1 91) 3 false false)) (ParsedNumber (at 1 95) 4 false false) (ParsedNumber (at 1 99) 0 false false)) ParsedEnd)))))
    ParsedLast)) (at 1 103)) ∷ []

row_8 : run source_8 (codes "") (options 4 64 1000000)
    (codes "continue\n")
    ≡ codes "ended\n"
unfolding digits value_of residue word_of value_in wrapped binary_of
row_8 = refl

-- export void go() { int x = 0; if ((3 >> programIndex) & 1) x = shuffle(x, programIndex == 0 ? 4 : 0); }
abbrev pub source_9 : ParsedSource
source_9 =
    (function (at 1 13) (codes "go") (spec true false false false None None) ([])
    (ParsedNext (ParsedDeclare (at 1 20) (spec false false false false None (Some t.Int32)) (at 1 24) (codes "x") (Some (ParsedNumber (at 1 28) 0 false false)))
    (ParsedNext (ParsedIf (at 1 31) (ParsedBinary (Op op.And) (ParsedParen (at 1 35) (ParsedBinary (Op op.Shr) (ParsedNumber (at 1 36) 3 false false) (ParsedName (at 1 41) (codes "programIndex")))) (ParsedNumber (at 1 57) 1 false false)) (ParsedAssign (at 1 60) (target (at 1 60) (codes "x") None) (ParsedCall (at 1 64) (codes "shuffle") (ParsedValue (ParsedName (at 1 72) (codes "x")) (ParsedValue (ParsedChoice (ParsedBinary (Op op.Equal) (ParsedName (at 1 75) (codes "programIndex")) (ParsedNumber (at 1 91) 0 false false)) (ParsedNumber (at 1 95) 4 false false) (ParsedNumber (at 1 99) 0 false false)) ParsedEnd)))))
    ParsedLast)) (at 1 103)) ∷ []

row_9 : run source_9 (codes "") (options 4 64 1000000)
    (codes "continue\nundo\n")
    ≡ codes "fault F3 LaneIndex lane 0: at 1:60 go depth 1 lanes 1100\nundone step: at 1:31 go depth 1 lanes 1111\n"
unfolding digits value_of residue word_of value_in wrapped binary_of
row_9 = refl

-- export void go() { int x = 0; if ((3 >> programIndex) & 1) x = shuffle(x, programIndex == 1 ? 4 : 0); }
abbrev pub source_10 : ParsedSource
source_10 =
    (function (at 1 13) (codes "go") (spec true false false false None None) ([])
    (ParsedNext (ParsedDeclare (at 1 20) (spec false false false false None (Some t.Int32)) (at 1 24) (codes "x") (Some (ParsedNumber (at 1 28) 0 false false)))
    (ParsedNext (ParsedIf (at 1 31) (ParsedBinary (Op op.And) (ParsedParen (at 1 35) (ParsedBinary (Op op.Shr) (ParsedNumber (at 1 36) 3 false false) (ParsedName (at 1 41) (codes "programIndex")))) (ParsedNumber (at 1 57) 1 false false)) (ParsedAssign (at 1 60) (target (at 1 60) (codes "x") None) (ParsedCall (at 1 64) (codes "shuffle") (ParsedValue (ParsedName (at 1 72) (codes "x")) (ParsedValue (ParsedChoice (ParsedBinary (Op op.Equal) (ParsedName (at 1 75) (codes "programIndex")) (ParsedNumber (at 1 91) 1 false false)) (ParsedNumber (at 1 95) 4 false false) (ParsedNumber (at 1 99) 0 false false)) ParsedEnd)))))
    ParsedLast)) (at 1 103)) ∷ []

row_10 : run source_10 (codes "") (options 4 64 1000000)
    (codes "continue\nundo\n")
    ≡ codes "fault F3 LaneIndex lane 1: at 1:60 go depth 1 lanes 1100\nundone step: at 1:31 go depth 1 lanes 1111\n"
unfolding digits value_of residue word_of value_in wrapped binary_of
row_10 = refl

-- export void go() { int x = 0; if ((3 >> programIndex) & 1) x = shuffle(x, programIndex == 2 ? 4 : 0); }
abbrev pub source_11 : ParsedSource
source_11 =
    (function (at 1 13) (codes "go") (spec true false false false None None) ([])
    (ParsedNext (ParsedDeclare (at 1 20) (spec false false false false None (Some t.Int32)) (at 1 24) (codes "x") (Some (ParsedNumber (at 1 28) 0 false false)))
    (ParsedNext (ParsedIf (at 1 31) (ParsedBinary (Op op.And) (ParsedParen (at 1 35) (ParsedBinary (Op op.Shr) (ParsedNumber (at 1 36) 3 false false) (ParsedName (at 1 41) (codes "programIndex")))) (ParsedNumber (at 1 57) 1 false false)) (ParsedAssign (at 1 60) (target (at 1 60) (codes "x") None) (ParsedCall (at 1 64) (codes "shuffle") (ParsedValue (ParsedName (at 1 72) (codes "x")) (ParsedValue (ParsedChoice (ParsedBinary (Op op.Equal) (ParsedName (at 1 75) (codes "programIndex")) (ParsedNumber (at 1 91) 2 false false)) (ParsedNumber (at 1 95) 4 false false) (ParsedNumber (at 1 99) 0 false false)) ParsedEnd)))))
    ParsedLast)) (at 1 103)) ∷ []

row_11 : run source_11 (codes "") (options 4 64 1000000)
    (codes "continue\n")
    ≡ codes "ended\n"
unfolding digits value_of residue word_of value_in wrapped binary_of
row_11 = refl

-- export void go() { int x = 0; if ((3 >> programIndex) & 1) x = shuffle(x, programIndex == 3 ? 4 : 0); }
abbrev pub source_12 : ParsedSource
source_12 =
    (function (at 1 13) (codes "go") (spec true false false false None None) ([])
    (ParsedNext (ParsedDeclare (at 1 20) (spec false false false false None (Some t.Int32)) (at 1 24) (codes "x") (Some (ParsedNumber (at 1 28) 0 false false)))
    (ParsedNext (ParsedIf (at 1 31) (ParsedBinary (Op op.And) (ParsedParen (at 1 35) (ParsedBinary (Op op.Shr) (ParsedNumber (at 1 36) 3 false false) (ParsedName (at 1 41) (codes "programIndex")))) (ParsedNumber (at 1 57) 1 false false)) (ParsedAssign (at 1 60) (target (at 1 60) (codes "x") None) (ParsedCall (at 1 64) (codes "shuffle") (ParsedValue (ParsedName (at 1 72) (codes "x")) (ParsedValue (ParsedChoice (ParsedBinary (Op op.Equal) (ParsedName (at 1 75) (codes "programIndex")) (ParsedNumber (at 1 91) 3 false false)) (ParsedNumber (at 1 95) 4 false false) (ParsedNumber (at 1 99) 0 false false)) ParsedEnd)))))
    ParsedLast)) (at 1 103)) ∷ []

row_12 : run source_12 (codes "") (options 4 64 1000000)
    (codes "continue\n")
    ≡ codes "ended\n"
unfolding digits value_of residue word_of value_in wrapped binary_of
row_12 = refl

-- export void go() { int x = 0; if ((4 >> programIndex) & 1) x = shuffle(x, programIndex == 0 ? 4 : 0); }
abbrev pub source_13 : ParsedSource
source_13 =
    (function (at 1 13) (codes "go") (spec true false false false None None) ([])
    (ParsedNext (ParsedDeclare (at 1 20) (spec false false false false None (Some t.Int32)) (at 1 24) (codes "x") (Some (ParsedNumber (at 1 28) 0 false false)))
    (ParsedNext (ParsedIf (at 1 31) (ParsedBinary (Op op.And) (ParsedParen (at 1 35) (ParsedBinary (Op op.Shr) (ParsedNumber (at 1 36) 4 false false) (ParsedName (at 1 41) (codes "programIndex")))) (ParsedNumber (at 1 57) 1 false false)) (ParsedAssign (at 1 60) (target (at 1 60) (codes "x") None) (ParsedCall (at 1 64) (codes "shuffle") (ParsedValue (ParsedName (at 1 72) (codes "x")) (ParsedValue (ParsedChoice (ParsedBinary (Op op.Equal) (ParsedName (at 1 75) (codes "programIndex")) (ParsedNumber (at 1 91) 0 false false)) (ParsedNumber (at 1 95) 4 false false) (ParsedNumber (at 1 99) 0 false false)) ParsedEnd)))))
    ParsedLast)) (at 1 103)) ∷ []

row_13 : run source_13 (codes "") (options 4 64 1000000)
    (codes "continue\n")
    ≡ codes "ended\n"
unfolding digits value_of residue word_of value_in wrapped binary_of
row_13 = refl

-- export void go() { int x = 0; if ((4 >> programIndex) & 1) x = shuffle(x, programIndex == 1 ? 4 : 0); }
abbrev pub source_14 : ParsedSource
source_14 =
    (function (at 1 13) (codes "go") (spec true false false false None None) ([])
    (ParsedNext (ParsedDeclare (at 1 20) (spec false false false false None (Some t.Int32)) (at 1 24) (codes "x") (Some (ParsedNumber (at 1 28) 0 false false)))
    (ParsedNext (ParsedIf (at 1 31) (ParsedBinary (Op op.And) (ParsedParen (at 1 35) (ParsedBinary (Op op.Shr) (ParsedNumber (at 1 36) 4 false false) (ParsedName (at 1 41) (codes "programIndex")))) (ParsedNumber (at 1 57) 1 false false)) (ParsedAssign (at 1 60) (target (at 1 60) (codes "x") None) (ParsedCall (at 1 64) (codes "shuffle") (ParsedValue (ParsedName (at 1 72) (codes "x")) (ParsedValue (ParsedChoice (ParsedBinary (Op op.Equal) (ParsedName (at 1 75) (codes "programIndex")) (ParsedNumber (at 1 91) 1 false false)) (ParsedNumber (at 1 95) 4 false false) (ParsedNumber (at 1 99) 0 false false)) ParsedEnd)))))
    ParsedLast)) (at 1 103)) ∷ []

row_14 : run source_14 (codes "") (options 4 64 1000000)
    (codes "continue\n")
    ≡ codes "ended\n"
unfolding digits value_of residue word_of value_in wrapped binary_of
row_14 = refl

-- export void go() { int x = 0; if ((4 >> programIndex) & 1) x = shuffle(x, programIndex == 2 ? 4 : 0); }
abbrev pub source_15 : ParsedSource
source_15 =
    (function (at 1 13) (codes "go") (spec true false false false None None) ([])
    (ParsedNext (ParsedDeclare (at 1 20) (spec false false false false None (Some t.Int32)) (at 1 24) (codes "x") (Some (ParsedNumber (at 1 28) 0 false false)))
    (ParsedNext (ParsedIf (at 1 31) (ParsedBinary (Op op.And) (ParsedParen (at 1 35) (ParsedBinary (Op op.Shr) (ParsedNumber (at 1 36) 4 false false) (ParsedName (at 1 41) (codes "programIndex")))) (ParsedNumber (at 1 57) 1 false false)) (ParsedAssign (at 1 60) (target (at 1 60) (codes "x") None) (ParsedCall (at 1 64) (codes "shuffle") (ParsedValue (ParsedName (at 1 72) (codes "x")) (ParsedValue (ParsedChoice (ParsedBinary (Op op.Equal) (ParsedName (at 1 75) (codes "programIndex")) (ParsedNumber (at 1 91) 2 false false)) (ParsedNumber (at 1 95) 4 false false) (ParsedNumber (at 1 99) 0 false false)) ParsedEnd)))))
    ParsedLast)) (at 1 103)) ∷ []

row_15 : run source_15 (codes "") (options 4 64 1000000)
    (codes "continue\nundo\n")
    ≡ codes "fault F3 LaneIndex lane 2: at 1:60 go depth 1 lanes 0010\nundone step: at 1:31 go depth 1 lanes 1111\n"
unfolding digits value_of residue word_of value_in wrapped binary_of
row_15 = refl

-- export void go() { int x = 0; if ((4 >> programIndex) & 1) x = shuffle(x, programIndex == 3 ? 4 : 0); }
abbrev pub source_16 : ParsedSource
source_16 =
    (function (at 1 13) (codes "go") (spec true false false false None None) ([])
    (ParsedNext (ParsedDeclare (at 1 20) (spec false false false false None (Some t.Int32)) (at 1 24) (codes "x") (Some (ParsedNumber (at 1 28) 0 false false)))
    (ParsedNext (ParsedIf (at 1 31) (ParsedBinary (Op op.And) (ParsedParen (at 1 35) (ParsedBinary (Op op.Shr) (ParsedNumber (at 1 36) 4 false false) (ParsedName (at 1 41) (codes "programIndex")))) (ParsedNumber (at 1 57) 1 false false)) (ParsedAssign (at 1 60) (target (at 1 60) (codes "x") None) (ParsedCall (at 1 64) (codes "shuffle") (ParsedValue (ParsedName (at 1 72) (codes "x")) (ParsedValue (ParsedChoice (ParsedBinary (Op op.Equal) (ParsedName (at 1 75) (codes "programIndex")) (ParsedNumber (at 1 91) 3 false false)) (ParsedNumber (at 1 95) 4 false false) (ParsedNumber (at 1 99) 0 false false)) ParsedEnd)))))
    ParsedLast)) (at 1 103)) ∷ []

row_16 : run source_16 (codes "") (options 4 64 1000000)
    (codes "continue\n")
    ≡ codes "ended\n"
unfolding digits value_of residue word_of value_in wrapped binary_of
row_16 = refl

-- export void go() { int x = 0; if ((5 >> programIndex) & 1) x = shuffle(x, programIndex == 0 ? 4 : 0); }
abbrev pub source_17 : ParsedSource
source_17 =
    (function (at 1 13) (codes "go") (spec true false false false None None) ([])
    (ParsedNext (ParsedDeclare (at 1 20) (spec false false false false None (Some t.Int32)) (at 1 24) (codes "x") (Some (ParsedNumber (at 1 28) 0 false false)))
    (ParsedNext (ParsedIf (at 1 31) (ParsedBinary (Op op.And) (ParsedParen (at 1 35) (ParsedBinary (Op op.Shr) (ParsedNumber (at 1 36) 5 false false) (ParsedName (at 1 41) (codes "programIndex")))) (ParsedNumber (at 1 57) 1 false false)) (ParsedAssign (at 1 60) (target (at 1 60) (codes "x") None) (ParsedCall (at 1 64) (codes "shuffle") (ParsedValue (ParsedName (at 1 72) (codes "x")) (ParsedValue (ParsedChoice (ParsedBinary (Op op.Equal) (ParsedName (at 1 75) (codes "programIndex")) (ParsedNumber (at 1 91) 0 false false)) (ParsedNumber (at 1 95) 4 false false) (ParsedNumber (at 1 99) 0 false false)) ParsedEnd)))))
    ParsedLast)) (at 1 103)) ∷ []

row_17 : run source_17 (codes "") (options 4 64 1000000)
    (codes "continue\nundo\n")
    ≡ codes "fault F3 LaneIndex lane 0: at 1:60 go depth 1 lanes 1010\nundone step: at 1:31 go depth 1 lanes 1111\n"
unfolding digits value_of residue word_of value_in wrapped binary_of
row_17 = refl

-- export void go() { int x = 0; if ((5 >> programIndex) & 1) x = shuffle(x, programIndex == 1 ? 4 : 0); }
abbrev pub source_18 : ParsedSource
source_18 =
    (function (at 1 13) (codes "go") (spec true false false false None None) ([])
    (ParsedNext (ParsedDeclare (at 1 20) (spec false false false false None (Some t.Int32)) (at 1 24) (codes "x") (Some (ParsedNumber (at 1 28) 0 false false)))
    (ParsedNext (ParsedIf (at 1 31) (ParsedBinary (Op op.And) (ParsedParen (at 1 35) (ParsedBinary (Op op.Shr) (ParsedNumber (at 1 36) 5 false false) (ParsedName (at 1 41) (codes "programIndex")))) (ParsedNumber (at 1 57) 1 false false)) (ParsedAssign (at 1 60) (target (at 1 60) (codes "x") None) (ParsedCall (at 1 64) (codes "shuffle") (ParsedValue (ParsedName (at 1 72) (codes "x")) (ParsedValue (ParsedChoice (ParsedBinary (Op op.Equal) (ParsedName (at 1 75) (codes "programIndex")) (ParsedNumber (at 1 91) 1 false false)) (ParsedNumber (at 1 95) 4 false false) (ParsedNumber (at 1 99) 0 false false)) ParsedEnd)))))
    ParsedLast)) (at 1 103)) ∷ []

row_18 : run source_18 (codes "") (options 4 64 1000000)
    (codes "continue\n")
    ≡ codes "ended\n"
unfolding digits value_of residue word_of value_in wrapped binary_of
row_18 = refl

-- export void go() { int x = 0; if ((5 >> programIndex) & 1) x = shuffle(x, programIndex == 2 ? 4 : 0); }
abbrev pub source_19 : ParsedSource
source_19 =
    (function (at 1 13) (codes "go") (spec true false false false None None) ([])
    (ParsedNext (ParsedDeclare (at 1 20) (spec false false false false None (Some t.Int32)) (at 1 24) (codes "x") (Some (ParsedNumber (at 1 28) 0 false false)))
    (ParsedNext (ParsedIf (at 1 31) (ParsedBinary (Op op.And) (ParsedParen (at 1 35) (ParsedBinary (Op op.Shr) (ParsedNumber (at 1 36) 5 false false) (ParsedName (at 1 41) (codes "programIndex")))) (ParsedNumber (at 1 57) 1 false false)) (ParsedAssign (at 1 60) (target (at 1 60) (codes "x") None) (ParsedCall (at 1 64) (codes "shuffle") (ParsedValue (ParsedName (at 1 72) (codes "x")) (ParsedValue (ParsedChoice (ParsedBinary (Op op.Equal) (ParsedName (at 1 75) (codes "programIndex")) (ParsedNumber (at 1 91) 2 false false)) (ParsedNumber (at 1 95) 4 false false) (ParsedNumber (at 1 99) 0 false false)) ParsedEnd)))))
    ParsedLast)) (at 1 103)) ∷ []

row_19 : run source_19 (codes "") (options 4 64 1000000)
    (codes "continue\nundo\n")
    ≡ codes "fault F3 LaneIndex lane 2: at 1:60 go depth 1 lanes 1010\nundone step: at 1:31 go depth 1 lanes 1111\n"
unfolding digits value_of residue word_of value_in wrapped binary_of
row_19 = refl

-- export void go() { int x = 0; if ((5 >> programIndex) & 1) x = shuffle(x, programIndex == 3 ? 4 : 0); }
abbrev pub source_20 : ParsedSource
source_20 =
    (function (at 1 13) (codes "go") (spec true false false false None None) ([])
    (ParsedNext (ParsedDeclare (at 1 20) (spec false false false false None (Some t.Int32)) (at 1 24) (codes "x") (Some (ParsedNumber (at 1 28) 0 false false)))
    (ParsedNext (ParsedIf (at 1 31) (ParsedBinary (Op op.And) (ParsedParen (at 1 35) (ParsedBinary (Op op.Shr) (ParsedNumber (at 1 36) 5 false false) (ParsedName (at 1 41) (codes "programIndex")))) (ParsedNumber (at 1 57) 1 false false)) (ParsedAssign (at 1 60) (target (at 1 60) (codes "x") None) (ParsedCall (at 1 64) (codes "shuffle") (ParsedValue (ParsedName (at 1 72) (codes "x")) (ParsedValue (ParsedChoice (ParsedBinary (Op op.Equal) (ParsedName (at 1 75) (codes "programIndex")) (ParsedNumber (at 1 91) 3 false false)) (ParsedNumber (at 1 95) 4 false false) (ParsedNumber (at 1 99) 0 false false)) ParsedEnd)))))
    ParsedLast)) (at 1 103)) ∷ []

row_20 : run source_20 (codes "") (options 4 64 1000000)
    (codes "continue\n")
    ≡ codes "ended\n"
unfolding digits value_of residue word_of value_in wrapped binary_of
row_20 = refl

-- export void go() { int x = 0; if ((6 >> programIndex) & 1) x = shuffle(x, programIndex == 0 ? 4 : 0); }
abbrev pub source_21 : ParsedSource
source_21 =
    (function (at 1 13) (codes "go") (spec true false false false None None) ([])
    (ParsedNext (ParsedDeclare (at 1 20) (spec false false false false None (Some t.Int32)) (at 1 24) (codes "x") (Some (ParsedNumber (at 1 28) 0 false false)))
    (ParsedNext (ParsedIf (at 1 31) (ParsedBinary (Op op.And) (ParsedParen (at 1 35) (ParsedBinary (Op op.Shr) (ParsedNumber (at 1 36) 6 false false) (ParsedName (at 1 41) (codes "programIndex")))) (ParsedNumber (at 1 57) 1 false false)) (ParsedAssign (at 1 60) (target (at 1 60) (codes "x") None) (ParsedCall (at 1 64) (codes "shuffle") (ParsedValue (ParsedName (at 1 72) (codes "x")) (ParsedValue (ParsedChoice (ParsedBinary (Op op.Equal) (ParsedName (at 1 75) (codes "programIndex")) (ParsedNumber (at 1 91) 0 false false)) (ParsedNumber (at 1 95) 4 false false) (ParsedNumber (at 1 99) 0 false false)) ParsedEnd)))))
    ParsedLast)) (at 1 103)) ∷ []

row_21 : run source_21 (codes "") (options 4 64 1000000)
    (codes "continue\n")
    ≡ codes "ended\n"
unfolding digits value_of residue word_of value_in wrapped binary_of
row_21 = refl

-- export void go() { int x = 0; if ((6 >> programIndex) & 1) x = shuffle(x, programIndex == 1 ? 4 : 0); }
abbrev pub source_22 : ParsedSource
source_22 =
    (function (at 1 13) (codes "go") (spec true false false false None None) ([])
    (ParsedNext (ParsedDeclare (at 1 20) (spec false false false false None (Some t.Int32)) (at 1 24) (codes "x") (Some (ParsedNumber (at 1 28) 0 false false)))
    (ParsedNext (ParsedIf (at 1 31) (ParsedBinary (Op op.And) (ParsedParen (at 1 35) (ParsedBinary (Op op.Shr) (ParsedNumber (at 1 36) 6 false false) (ParsedName (at 1 41) (codes "programIndex")))) (ParsedNumber (at 1 57) 1 false false)) (ParsedAssign (at 1 60) (target (at 1 60) (codes "x") None) (ParsedCall (at 1 64) (codes "shuffle") (ParsedValue (ParsedName (at 1 72) (codes "x")) (ParsedValue (ParsedChoice (ParsedBinary (Op op.Equal) (ParsedName (at 1 75) (codes "programIndex")) (ParsedNumber (at 1 91) 1 false false)) (ParsedNumber (at 1 95) 4 false false) (ParsedNumber (at 1 99) 0 false false)) ParsedEnd)))))
    ParsedLast)) (at 1 103)) ∷ []

row_22 : run source_22 (codes "") (options 4 64 1000000)
    (codes "continue\nundo\n")
    ≡ codes "fault F3 LaneIndex lane 1: at 1:60 go depth 1 lanes 0110\nundone step: at 1:31 go depth 1 lanes 1111\n"
unfolding digits value_of residue word_of value_in wrapped binary_of
row_22 = refl

-- export void go() { int x = 0; if ((6 >> programIndex) & 1) x = shuffle(x, programIndex == 2 ? 4 : 0); }
abbrev pub source_23 : ParsedSource
source_23 =
    (function (at 1 13) (codes "go") (spec true false false false None None) ([])
    (ParsedNext (ParsedDeclare (at 1 20) (spec false false false false None (Some t.Int32)) (at 1 24) (codes "x") (Some (ParsedNumber (at 1 28) 0 false false)))
    (ParsedNext (ParsedIf (at 1 31) (ParsedBinary (Op op.And) (ParsedParen (at 1 35) (ParsedBinary (Op op.Shr) (ParsedNumber (at 1 36) 6 false false) (ParsedName (at 1 41) (codes "programIndex")))) (ParsedNumber (at 1 57) 1 false false)) (ParsedAssign (at 1 60) (target (at 1 60) (codes "x") None) (ParsedCall (at 1 64) (codes "shuffle") (ParsedValue (ParsedName (at 1 72) (codes "x")) (ParsedValue (ParsedChoice (ParsedBinary (Op op.Equal) (ParsedName (at 1 75) (codes "programIndex")) (ParsedNumber (at 1 91) 2 false false)) (ParsedNumber (at 1 95) 4 false false) (ParsedNumber (at 1 99) 0 false false)) ParsedEnd)))))
    ParsedLast)) (at 1 103)) ∷ []

row_23 : run source_23 (codes "") (options 4 64 1000000)
    (codes "continue\nundo\n")
    ≡ codes "fault F3 LaneIndex lane 2: at 1:60 go depth 1 lanes 0110\nundone step: at 1:31 go depth 1 lanes 1111\n"
unfolding digits value_of residue word_of value_in wrapped binary_of
row_23 = refl

-- export void go() { int x = 0; if ((6 >> programIndex) & 1) x = shuffle(x, programIndex == 3 ? 4 : 0); }
abbrev pub source_24 : ParsedSource
source_24 =
    (function (at 1 13) (codes "go") (spec true false false false None None) ([])
    (ParsedNext (ParsedDeclare (at 1 20) (spec false false false false None (Some t.Int32)) (at 1 24) (codes "x") (Some (ParsedNumber (at 1 28) 0 false false)))
    (ParsedNext (ParsedIf (at 1 31) (ParsedBinary (Op op.And) (ParsedParen (at 1 35) (ParsedBinary (Op op.Shr) (ParsedNumber (at 1 36) 6 false false) (ParsedName (at 1 41) (codes "programIndex")))) (ParsedNumber (at 1 57) 1 false false)) (ParsedAssign (at 1 60) (target (at 1 60) (codes "x") None) (ParsedCall (at 1 64) (codes "shuffle") (ParsedValue (ParsedName (at 1 72) (codes "x")) (ParsedValue (ParsedChoice (ParsedBinary (Op op.Equal) (ParsedName (at 1 75) (codes "programIndex")) (ParsedNumber (at 1 91) 3 false false)) (ParsedNumber (at 1 95) 4 false false) (ParsedNumber (at 1 99) 0 false false)) ParsedEnd)))))
    ParsedLast)) (at 1 103)) ∷ []

row_24 : run source_24 (codes "") (options 4 64 1000000)
    (codes "continue\n")
    ≡ codes "ended\n"
unfolding digits value_of residue word_of value_in wrapped binary_of
row_24 = refl

-- export void go() { int x = 0; if ((7 >> programIndex) & 1) x = shuffle(x, programIndex == 0 ? 4 : 0); }
abbrev pub source_25 : ParsedSource
source_25 =
    (function (at 1 13) (codes "go") (spec true false false false None None) ([])
    (ParsedNext (ParsedDeclare (at 1 20) (spec false false false false None (Some t.Int32)) (at 1 24) (codes "x") (Some (ParsedNumber (at 1 28) 0 false false)))
    (ParsedNext (ParsedIf (at 1 31) (ParsedBinary (Op op.And) (ParsedParen (at 1 35) (ParsedBinary (Op op.Shr) (ParsedNumber (at 1 36) 7 false false) (ParsedName (at 1 41) (codes "programIndex")))) (ParsedNumber (at 1 57) 1 false false)) (ParsedAssign (at 1 60) (target (at 1 60) (codes "x") None) (ParsedCall (at 1 64) (codes "shuffle") (ParsedValue (ParsedName (at 1 72) (codes "x")) (ParsedValue (ParsedChoice (ParsedBinary (Op op.Equal) (ParsedName (at 1 75) (codes "programIndex")) (ParsedNumber (at 1 91) 0 false false)) (ParsedNumber (at 1 95) 4 false false) (ParsedNumber (at 1 99) 0 false false)) ParsedEnd)))))
    ParsedLast)) (at 1 103)) ∷ []

row_25 : run source_25 (codes "") (options 4 64 1000000)
    (codes "continue\nundo\n")
    ≡ codes "fault F3 LaneIndex lane 0: at 1:60 go depth 1 lanes 1110\nundone step: at 1:31 go depth 1 lanes 1111\n"
unfolding digits value_of residue word_of value_in wrapped binary_of
row_25 = refl

-- export void go() { int x = 0; if ((7 >> programIndex) & 1) x = shuffle(x, programIndex == 1 ? 4 : 0); }
abbrev pub source_26 : ParsedSource
source_26 =
    (function (at 1 13) (codes "go") (spec true false false false None None) ([])
    (ParsedNext (ParsedDeclare (at 1 20) (spec false false false false None (Some t.Int32)) (at 1 24) (codes "x") (Some (ParsedNumber (at 1 28) 0 false false)))
    (ParsedNext (ParsedIf (at 1 31) (ParsedBinary (Op op.And) (ParsedParen (at 1 35) (ParsedBinary (Op op.Shr) (ParsedNumber (at 1 36) 7 false false) (ParsedName (at 1 41) (codes "programIndex")))) (ParsedNumber (at 1 57) 1 false false)) (ParsedAssign (at 1 60) (target (at 1 60) (codes "x") None) (ParsedCall (at 1 64) (codes "shuffle") (ParsedValue (ParsedName (at 1 72) (codes "x")) (ParsedValue (ParsedChoice (ParsedBinary (Op op.Equal) (ParsedName (at 1 75) (codes "programIndex")) (ParsedNumber (at 1 91) 1 false false)) (ParsedNumber (at 1 95) 4 false false) (ParsedNumber (at 1 99) 0 false false)) ParsedEnd)))))
    ParsedLast)) (at 1 103)) ∷ []

row_26 : run source_26 (codes "") (options 4 64 1000000)
    (codes "continue\nundo\n")
    ≡ codes "fault F3 LaneIndex lane 1: at 1:60 go depth 1 lanes 1110\nundone step: at 1:31 go depth 1 lanes 1111\n"
unfolding digits value_of residue word_of value_in wrapped binary_of
row_26 = refl

-- export void go() { int x = 0; if ((7 >> programIndex) & 1) x = shuffle(x, programIndex == 2 ? 4 : 0); }
abbrev pub source_27 : ParsedSource
source_27 =
    (function (at 1 13) (codes "go") (spec true false false false None None) ([])
    (ParsedNext (ParsedDeclare (at 1 20) (spec false false false false None (Some t.Int32)) (at 1 24) (codes "x") (Some (ParsedNumber (at 1 28) 0 false false)))
    (ParsedNext (ParsedIf (at 1 31) (ParsedBinary (Op op.And) (ParsedParen (at 1 35) (ParsedBinary (Op op.Shr) (ParsedNumber (at 1 36) 7 false false) (ParsedName (at 1 41) (codes "programIndex")))) (ParsedNumber (at 1 57) 1 false false)) (ParsedAssign (at 1 60) (target (at 1 60) (codes "x") None) (ParsedCall (at 1 64) (codes "shuffle") (ParsedValue (ParsedName (at 1 72) (codes "x")) (ParsedValue (ParsedChoice (ParsedBinary (Op op.Equal) (ParsedName (at 1 75) (codes "programIndex")) (ParsedNumber (at 1 91) 2 false false)) (ParsedNumber (at 1 95) 4 false false) (ParsedNumber (at 1 99) 0 false false)) ParsedEnd)))))
    ParsedLast)) (at 1 103)) ∷ []

row_27 : run source_27 (codes "") (options 4 64 1000000)
    (codes "continue\nundo\n")
    ≡ codes "fault F3 LaneIndex lane 2: at 1:60 go depth 1 lanes 1110\nundone step: at 1:31 go depth 1 lanes 1111\n"
unfolding digits value_of residue word_of value_in wrapped binary_of
row_27 = refl

-- export void go() { int x = 0; if ((7 >> programIndex) & 1) x = shuffle(x, programIndex == 3 ? 4 : 0); }
abbrev pub source_28 : ParsedSource
source_28 =
    (function (at 1 13) (codes "go") (spec true false false false None None) ([])
    (ParsedNext (ParsedDeclare (at 1 20) (spec false false false false None (Some t.Int32)) (at 1 24) (codes "x") (Some (ParsedNumber (at 1 28) 0 false false)))
    (ParsedNext (ParsedIf (at 1 31) (ParsedBinary (Op op.And) (ParsedParen (at 1 35) (ParsedBinary (Op op.Shr) (ParsedNumber (at 1 36) 7 false false) (ParsedName (at 1 41) (codes "programIndex")))) (ParsedNumber (at 1 57) 1 false false)) (ParsedAssign (at 1 60) (target (at 1 60) (codes "x") None) (ParsedCall (at 1 64) (codes "shuffle") (ParsedValue (ParsedName (at 1 72) (codes "x")) (ParsedValue (ParsedChoice (ParsedBinary (Op op.Equal) (ParsedName (at 1 75) (codes "programIndex")) (ParsedNumber (at 1 91) 3 false false)) (ParsedNumber (at 1 95) 4 false false) (ParsedNumber (at 1 99) 0 false false)) ParsedEnd)))))
    ParsedLast)) (at 1 103)) ∷ []

row_28 : run source_28 (codes "") (options 4 64 1000000)
    (codes "continue\n")
    ≡ codes "ended\n"
unfolding digits value_of residue word_of value_in wrapped binary_of
row_28 = refl

-- export void go() { int x = 0; if ((8 >> programIndex) & 1) x = shuffle(x, programIndex == 0 ? 4 : 0); }
abbrev pub source_29 : ParsedSource
source_29 =
    (function (at 1 13) (codes "go") (spec true false false false None None) ([])
    (ParsedNext (ParsedDeclare (at 1 20) (spec false false false false None (Some t.Int32)) (at 1 24) (codes "x") (Some (ParsedNumber (at 1 28) 0 false false)))
    (ParsedNext (ParsedIf (at 1 31) (ParsedBinary (Op op.And) (ParsedParen (at 1 35) (ParsedBinary (Op op.Shr) (ParsedNumber (at 1 36) 8 false false) (ParsedName (at 1 41) (codes "programIndex")))) (ParsedNumber (at 1 57) 1 false false)) (ParsedAssign (at 1 60) (target (at 1 60) (codes "x") None) (ParsedCall (at 1 64) (codes "shuffle") (ParsedValue (ParsedName (at 1 72) (codes "x")) (ParsedValue (ParsedChoice (ParsedBinary (Op op.Equal) (ParsedName (at 1 75) (codes "programIndex")) (ParsedNumber (at 1 91) 0 false false)) (ParsedNumber (at 1 95) 4 false false) (ParsedNumber (at 1 99) 0 false false)) ParsedEnd)))))
    ParsedLast)) (at 1 103)) ∷ []

row_29 : run source_29 (codes "") (options 4 64 1000000)
    (codes "continue\n")
    ≡ codes "ended\n"
unfolding digits value_of residue word_of value_in wrapped binary_of
row_29 = refl

-- export void go() { int x = 0; if ((8 >> programIndex) & 1) x = shuffle(x, programIndex == 1 ? 4 : 0); }
abbrev pub source_30 : ParsedSource
source_30 =
    (function (at 1 13) (codes "go") (spec true false false false None None) ([])
    (ParsedNext (ParsedDeclare (at 1 20) (spec false false false false None (Some t.Int32)) (at 1 24) (codes "x") (Some (ParsedNumber (at 1 28) 0 false false)))
    (ParsedNext (ParsedIf (at 1 31) (ParsedBinary (Op op.And) (ParsedParen (at 1 35) (ParsedBinary (Op op.Shr) (ParsedNumber (at 1 36) 8 false false) (ParsedName (at 1 41) (codes "programIndex")))) (ParsedNumber (at 1 57) 1 false false)) (ParsedAssign (at 1 60) (target (at 1 60) (codes "x") None) (ParsedCall (at 1 64) (codes "shuffle") (ParsedValue (ParsedName (at 1 72) (codes "x")) (ParsedValue (ParsedChoice (ParsedBinary (Op op.Equal) (ParsedName (at 1 75) (codes "programIndex")) (ParsedNumber (at 1 91) 1 false false)) (ParsedNumber (at 1 95) 4 false false) (ParsedNumber (at 1 99) 0 false false)) ParsedEnd)))))
    ParsedLast)) (at 1 103)) ∷ []

row_30 : run source_30 (codes "") (options 4 64 1000000)
    (codes "continue\n")
    ≡ codes "ended\n"
unfolding digits value_of residue word_of value_in wrapped binary_of
row_30 = refl

-- export void go() { int x = 0; if ((8 >> programIndex) & 1) x = shuffle(x, programIndex == 2 ? 4 : 0); }
abbrev pub source_31 : ParsedSource
source_31 =
    (function (at 1 13) (codes "go") (spec true false false false None None) ([])
    (ParsedNext (ParsedDeclare (at 1 20) (spec false false false false None (Some t.Int32)) (at 1 24) (codes "x") (Some (ParsedNumber (at 1 28) 0 false false)))
    (ParsedNext (ParsedIf (at 1 31) (ParsedBinary (Op op.And) (ParsedParen (at 1 35) (ParsedBinary (Op op.Shr) (ParsedNumber (at 1 36) 8 false false) (ParsedName (at 1 41) (codes "programIndex")))) (ParsedNumber (at 1 57) 1 false false)) (ParsedAssign (at 1 60) (target (at 1 60) (codes "x") None) (ParsedCall (at 1 64) (codes "shuffle") (ParsedValue (ParsedName (at 1 72) (codes "x")) (ParsedValue (ParsedChoice (ParsedBinary (Op op.Equal) (ParsedName (at 1 75) (codes "programIndex")) (ParsedNumber (at 1 91) 2 false false)) (ParsedNumber (at 1 95) 4 false false) (ParsedNumber (at 1 99) 0 false false)) ParsedEnd)))))
    ParsedLast)) (at 1 103)) ∷ []

row_31 : run source_31 (codes "") (options 4 64 1000000)
    (codes "continue\n")
    ≡ codes "ended\n"
unfolding digits value_of residue word_of value_in wrapped binary_of
row_31 = refl

-- export void go() { int x = 0; if ((8 >> programIndex) & 1) x = shuffle(x, programIndex == 3 ? 4 : 0); }
abbrev pub source_32 : ParsedSource
source_32 =
    (function (at 1 13) (codes "go") (spec true false false false None None) ([])
    (ParsedNext (ParsedDeclare (at 1 20) (spec false false false false None (Some t.Int32)) (at 1 24) (codes "x") (Some (ParsedNumber (at 1 28) 0 false false)))
    (ParsedNext (ParsedIf (at 1 31) (ParsedBinary (Op op.And) (ParsedParen (at 1 35) (ParsedBinary (Op op.Shr) (ParsedNumber (at 1 36) 8 false false) (ParsedName (at 1 41) (codes "programIndex")))) (ParsedNumber (at 1 57) 1 false false)) (ParsedAssign (at 1 60) (target (at 1 60) (codes "x") None) (ParsedCall (at 1 64) (codes "shuffle") (ParsedValue (ParsedName (at 1 72) (codes "x")) (ParsedValue (ParsedChoice (ParsedBinary (Op op.Equal) (ParsedName (at 1 75) (codes "programIndex")) (ParsedNumber (at 1 91) 3 false false)) (ParsedNumber (at 1 95) 4 false false) (ParsedNumber (at 1 99) 0 false false)) ParsedEnd)))))
    ParsedLast)) (at 1 103)) ∷ []

row_32 : run source_32 (codes "") (options 4 64 1000000)
    (codes "continue\nundo\n")
    ≡ codes "fault F3 LaneIndex lane 3: at 1:60 go depth 1 lanes 0001\nundone step: at 1:31 go depth 1 lanes 1111\n"
unfolding digits value_of residue word_of value_in wrapped binary_of
row_32 = refl

-- export void go() { int x = 0; if ((9 >> programIndex) & 1) x = shuffle(x, programIndex == 0 ? 4 : 0); }
abbrev pub source_33 : ParsedSource
source_33 =
    (function (at 1 13) (codes "go") (spec true false false false None None) ([])
    (ParsedNext (ParsedDeclare (at 1 20) (spec false false false false None (Some t.Int32)) (at 1 24) (codes "x") (Some (ParsedNumber (at 1 28) 0 false false)))
    (ParsedNext (ParsedIf (at 1 31) (ParsedBinary (Op op.And) (ParsedParen (at 1 35) (ParsedBinary (Op op.Shr) (ParsedNumber (at 1 36) 9 false false) (ParsedName (at 1 41) (codes "programIndex")))) (ParsedNumber (at 1 57) 1 false false)) (ParsedAssign (at 1 60) (target (at 1 60) (codes "x") None) (ParsedCall (at 1 64) (codes "shuffle") (ParsedValue (ParsedName (at 1 72) (codes "x")) (ParsedValue (ParsedChoice (ParsedBinary (Op op.Equal) (ParsedName (at 1 75) (codes "programIndex")) (ParsedNumber (at 1 91) 0 false false)) (ParsedNumber (at 1 95) 4 false false) (ParsedNumber (at 1 99) 0 false false)) ParsedEnd)))))
    ParsedLast)) (at 1 103)) ∷ []

row_33 : run source_33 (codes "") (options 4 64 1000000)
    (codes "continue\nundo\n")
    ≡ codes "fault F3 LaneIndex lane 0: at 1:60 go depth 1 lanes 1001\nundone step: at 1:31 go depth 1 lanes 1111\n"
unfolding digits value_of residue word_of value_in wrapped binary_of
row_33 = refl

-- export void go() { int x = 0; if ((9 >> programIndex) & 1) x = shuffle(x, programIndex == 1 ? 4 : 0); }
abbrev pub source_34 : ParsedSource
source_34 =
    (function (at 1 13) (codes "go") (spec true false false false None None) ([])
    (ParsedNext (ParsedDeclare (at 1 20) (spec false false false false None (Some t.Int32)) (at 1 24) (codes "x") (Some (ParsedNumber (at 1 28) 0 false false)))
    (ParsedNext (ParsedIf (at 1 31) (ParsedBinary (Op op.And) (ParsedParen (at 1 35) (ParsedBinary (Op op.Shr) (ParsedNumber (at 1 36) 9 false false) (ParsedName (at 1 41) (codes "programIndex")))) (ParsedNumber (at 1 57) 1 false false)) (ParsedAssign (at 1 60) (target (at 1 60) (codes "x") None) (ParsedCall (at 1 64) (codes "shuffle") (ParsedValue (ParsedName (at 1 72) (codes "x")) (ParsedValue (ParsedChoice (ParsedBinary (Op op.Equal) (ParsedName (at 1 75) (codes "programIndex")) (ParsedNumber (at 1 91) 1 false false)) (ParsedNumber (at 1 95) 4 false false) (ParsedNumber (at 1 99) 0 false false)) ParsedEnd)))))
    ParsedLast)) (at 1 103)) ∷ []

row_34 : run source_34 (codes "") (options 4 64 1000000)
    (codes "continue\n")
    ≡ codes "ended\n"
unfolding digits value_of residue word_of value_in wrapped binary_of
row_34 = refl

-- export void go() { int x = 0; if ((9 >> programIndex) & 1) x = shuffle(x, programIndex == 2 ? 4 : 0); }
abbrev pub source_35 : ParsedSource
source_35 =
    (function (at 1 13) (codes "go") (spec true false false false None None) ([])
    (ParsedNext (ParsedDeclare (at 1 20) (spec false false false false None (Some t.Int32)) (at 1 24) (codes "x") (Some (ParsedNumber (at 1 28) 0 false false)))
    (ParsedNext (ParsedIf (at 1 31) (ParsedBinary (Op op.And) (ParsedParen (at 1 35) (ParsedBinary (Op op.Shr) (ParsedNumber (at 1 36) 9 false false) (ParsedName (at 1 41) (codes "programIndex")))) (ParsedNumber (at 1 57) 1 false false)) (ParsedAssign (at 1 60) (target (at 1 60) (codes "x") None) (ParsedCall (at 1 64) (codes "shuffle") (ParsedValue (ParsedName (at 1 72) (codes "x")) (ParsedValue (ParsedChoice (ParsedBinary (Op op.Equal) (ParsedName (at 1 75) (codes "programIndex")) (ParsedNumber (at 1 91) 2 false false)) (ParsedNumber (at 1 95) 4 false false) (ParsedNumber (at 1 99) 0 false false)) ParsedEnd)))))
    ParsedLast)) (at 1 103)) ∷ []

row_35 : run source_35 (codes "") (options 4 64 1000000)
    (codes "continue\n")
    ≡ codes "ended\n"
unfolding digits value_of residue word_of value_in wrapped binary_of
row_35 = refl

-- export void go() { int x = 0; if ((9 >> programIndex) & 1) x = shuffle(x, programIndex == 3 ? 4 : 0); }
abbrev pub source_36 : ParsedSource
source_36 =
    (function (at 1 13) (codes "go") (spec true false false false None None) ([])
    (ParsedNext (ParsedDeclare (at 1 20) (spec false false false false None (Some t.Int32)) (at 1 24) (codes "x") (Some (ParsedNumber (at 1 28) 0 false false)))
    (ParsedNext (ParsedIf (at 1 31) (ParsedBinary (Op op.And) (ParsedParen (at 1 35) (ParsedBinary (Op op.Shr) (ParsedNumber (at 1 36) 9 false false) (ParsedName (at 1 41) (codes "programIndex")))) (ParsedNumber (at 1 57) 1 false false)) (ParsedAssign (at 1 60) (target (at 1 60) (codes "x") None) (ParsedCall (at 1 64) (codes "shuffle") (ParsedValue (ParsedName (at 1 72) (codes "x")) (ParsedValue (ParsedChoice (ParsedBinary (Op op.Equal) (ParsedName (at 1 75) (codes "programIndex")) (ParsedNumber (at 1 91) 3 false false)) (ParsedNumber (at 1 95) 4 false false) (ParsedNumber (at 1 99) 0 false false)) ParsedEnd)))))
    ParsedLast)) (at 1 103)) ∷ []

row_36 : run source_36 (codes "") (options 4 64 1000000)
    (codes "continue\nundo\n")
    ≡ codes "fault F3 LaneIndex lane 3: at 1:60 go depth 1 lanes 1001\nundone step: at 1:31 go depth 1 lanes 1111\n"
unfolding digits value_of residue word_of value_in wrapped binary_of
row_36 = refl

-- export void go() { int x = 0; if ((10 >> programIndex) & 1) x = shuffle(x, programIndex == 0 ? 4 : 0); }
abbrev pub source_37 : ParsedSource
source_37 =
    (function (at 1 13) (codes "go") (spec true false false false None None) ([])
    (ParsedNext (ParsedDeclare (at 1 20) (spec false false false false None (Some t.Int32)) (at 1 24) (codes "x") (Some (ParsedNumber (at 1 28) 0 false false)))
    (ParsedNext (ParsedIf (at 1 31) (ParsedBinary (Op op.And) (ParsedParen (at 1 35) (ParsedBinary (Op op.Shr) (ParsedNumber (at 1 36) 10 false false) (ParsedName (at 1 42) (codes "programIndex")))) (ParsedNumber (at 1 58) 1 false false)) (ParsedAssign (at 1 61) (target (at 1 61) (codes "x") None) (ParsedCall (at 1 65) (codes "shuffle") (ParsedValue (ParsedName (at 1 73) (codes "x")) (ParsedValue (ParsedChoice (ParsedBinary (Op op.Equal) (ParsedName (at 1 76) (codes "programIndex")) (ParsedNumber (at 1 92) 0 false false)) (ParsedNumber (at 1 96) 4 false false) (ParsedNumber (at 1 100) 0 false false)) ParsedEnd)))))
    ParsedLast)) (at 1 104)) ∷ []

row_37 : run source_37 (codes "") (options 4 64 1000000)
    (codes "continue\n")
    ≡ codes "ended\n"
unfolding digits value_of residue word_of value_in wrapped binary_of
row_37 = refl

-- export void go() { int x = 0; if ((10 >> programIndex) & 1) x = shuffle(x, programIndex == 1 ? 4 : 0); }
abbrev pub source_38 : ParsedSource
source_38 =
    (function (at 1 13) (codes "go") (spec true false false false None None) ([])
    (ParsedNext (ParsedDeclare (at 1 20) (spec false false false false None (Some t.Int32)) (at 1 24) (codes "x") (Some (ParsedNumber (at 1 28) 0 false false)))
    (ParsedNext (ParsedIf (at 1 31) (ParsedBinary (Op op.And) (ParsedParen (at 1 35) (ParsedBinary (Op op.Shr) (ParsedNumber (at 1 36) 10 false false) (ParsedName (at 1 42) (codes "programIndex")))) (ParsedNumber (at 1 58) 1 false false)) (ParsedAssign (at 1 61) (target (at 1 61) (codes "x") None) (ParsedCall (at 1 65) (codes "shuffle") (ParsedValue (ParsedName (at 1 73) (codes "x")) (ParsedValue (ParsedChoice (ParsedBinary (Op op.Equal) (ParsedName (at 1 76) (codes "programIndex")) (ParsedNumber (at 1 92) 1 false false)) (ParsedNumber (at 1 96) 4 false false) (ParsedNumber (at 1 100) 0 false false)) ParsedEnd)))))
    ParsedLast)) (at 1 104)) ∷ []

row_38 : run source_38 (codes "") (options 4 64 1000000)
    (codes "continue\nundo\n")
    ≡ codes "fault F3 LaneIndex lane 1: at 1:61 go depth 1 lanes 0101\nundone step: at 1:31 go depth 1 lanes 1111\n"
unfolding digits value_of residue word_of value_in wrapped binary_of
row_38 = refl

-- export void go() { int x = 0; if ((10 >> programIndex) & 1) x = shuffle(x, programIndex == 2 ? 4 : 0); }
abbrev pub source_39 : ParsedSource
source_39 =
    (function (at 1 13) (codes "go") (spec true false false false None None) ([])
    (ParsedNext (ParsedDeclare (at 1 20) (spec false false false false None (Some t.Int32)) (at 1 24) (codes "x") (Some (ParsedNumber (at 1 28) 0 false false)))
    (ParsedNext (ParsedIf (at 1 31) (ParsedBinary (Op op.And) (ParsedParen (at 1 35) (ParsedBinary (Op op.Shr) (ParsedNumber (at 1 36) 10 false false) (ParsedName (at 1 42) (codes "programIndex")))) (ParsedNumber (at 1 58) 1 false false)) (ParsedAssign (at 1 61) (target (at 1 61) (codes "x") None) (ParsedCall (at 1 65) (codes "shuffle") (ParsedValue (ParsedName (at 1 73) (codes "x")) (ParsedValue (ParsedChoice (ParsedBinary (Op op.Equal) (ParsedName (at 1 76) (codes "programIndex")) (ParsedNumber (at 1 92) 2 false false)) (ParsedNumber (at 1 96) 4 false false) (ParsedNumber (at 1 100) 0 false false)) ParsedEnd)))))
    ParsedLast)) (at 1 104)) ∷ []

row_39 : run source_39 (codes "") (options 4 64 1000000)
    (codes "continue\n")
    ≡ codes "ended\n"
unfolding digits value_of residue word_of value_in wrapped binary_of
row_39 = refl

-- export void go() { int x = 0; if ((10 >> programIndex) & 1) x = shuffle(x, programIndex == 3 ? 4 : 0); }
abbrev pub source_40 : ParsedSource
source_40 =
    (function (at 1 13) (codes "go") (spec true false false false None None) ([])
    (ParsedNext (ParsedDeclare (at 1 20) (spec false false false false None (Some t.Int32)) (at 1 24) (codes "x") (Some (ParsedNumber (at 1 28) 0 false false)))
    (ParsedNext (ParsedIf (at 1 31) (ParsedBinary (Op op.And) (ParsedParen (at 1 35) (ParsedBinary (Op op.Shr) (ParsedNumber (at 1 36) 10 false false) (ParsedName (at 1 42) (codes "programIndex")))) (ParsedNumber (at 1 58) 1 false false)) (ParsedAssign (at 1 61) (target (at 1 61) (codes "x") None) (ParsedCall (at 1 65) (codes "shuffle") (ParsedValue (ParsedName (at 1 73) (codes "x")) (ParsedValue (ParsedChoice (ParsedBinary (Op op.Equal) (ParsedName (at 1 76) (codes "programIndex")) (ParsedNumber (at 1 92) 3 false false)) (ParsedNumber (at 1 96) 4 false false) (ParsedNumber (at 1 100) 0 false false)) ParsedEnd)))))
    ParsedLast)) (at 1 104)) ∷ []

row_40 : run source_40 (codes "") (options 4 64 1000000)
    (codes "continue\nundo\n")
    ≡ codes "fault F3 LaneIndex lane 3: at 1:61 go depth 1 lanes 0101\nundone step: at 1:31 go depth 1 lanes 1111\n"
unfolding digits value_of residue word_of value_in wrapped binary_of
row_40 = refl

-- export void go() { int x = 0; if ((11 >> programIndex) & 1) x = shuffle(x, programIndex == 0 ? 4 : 0); }
abbrev pub source_41 : ParsedSource
source_41 =
    (function (at 1 13) (codes "go") (spec true false false false None None) ([])
    (ParsedNext (ParsedDeclare (at 1 20) (spec false false false false None (Some t.Int32)) (at 1 24) (codes "x") (Some (ParsedNumber (at 1 28) 0 false false)))
    (ParsedNext (ParsedIf (at 1 31) (ParsedBinary (Op op.And) (ParsedParen (at 1 35) (ParsedBinary (Op op.Shr) (ParsedNumber (at 1 36) 11 false false) (ParsedName (at 1 42) (codes "programIndex")))) (ParsedNumber (at 1 58) 1 false false)) (ParsedAssign (at 1 61) (target (at 1 61) (codes "x") None) (ParsedCall (at 1 65) (codes "shuffle") (ParsedValue (ParsedName (at 1 73) (codes "x")) (ParsedValue (ParsedChoice (ParsedBinary (Op op.Equal) (ParsedName (at 1 76) (codes "programIndex")) (ParsedNumber (at 1 92) 0 false false)) (ParsedNumber (at 1 96) 4 false false) (ParsedNumber (at 1 100) 0 false false)) ParsedEnd)))))
    ParsedLast)) (at 1 104)) ∷ []

row_41 : run source_41 (codes "") (options 4 64 1000000)
    (codes "continue\nundo\n")
    ≡ codes "fault F3 LaneIndex lane 0: at 1:61 go depth 1 lanes 1101\nundone step: at 1:31 go depth 1 lanes 1111\n"
unfolding digits value_of residue word_of value_in wrapped binary_of
row_41 = refl

-- export void go() { int x = 0; if ((11 >> programIndex) & 1) x = shuffle(x, programIndex == 1 ? 4 : 0); }
abbrev pub source_42 : ParsedSource
source_42 =
    (function (at 1 13) (codes "go") (spec true false false false None None) ([])
    (ParsedNext (ParsedDeclare (at 1 20) (spec false false false false None (Some t.Int32)) (at 1 24) (codes "x") (Some (ParsedNumber (at 1 28) 0 false false)))
    (ParsedNext (ParsedIf (at 1 31) (ParsedBinary (Op op.And) (ParsedParen (at 1 35) (ParsedBinary (Op op.Shr) (ParsedNumber (at 1 36) 11 false false) (ParsedName (at 1 42) (codes "programIndex")))) (ParsedNumber (at 1 58) 1 false false)) (ParsedAssign (at 1 61) (target (at 1 61) (codes "x") None) (ParsedCall (at 1 65) (codes "shuffle") (ParsedValue (ParsedName (at 1 73) (codes "x")) (ParsedValue (ParsedChoice (ParsedBinary (Op op.Equal) (ParsedName (at 1 76) (codes "programIndex")) (ParsedNumber (at 1 92) 1 false false)) (ParsedNumber (at 1 96) 4 false false) (ParsedNumber (at 1 100) 0 false false)) ParsedEnd)))))
    ParsedLast)) (at 1 104)) ∷ []

row_42 : run source_42 (codes "") (options 4 64 1000000)
    (codes "continue\nundo\n")
    ≡ codes "fault F3 LaneIndex lane 1: at 1:61 go depth 1 lanes 1101\nundone step: at 1:31 go depth 1 lanes 1111\n"
unfolding digits value_of residue word_of value_in wrapped binary_of
row_42 = refl

-- export void go() { int x = 0; if ((11 >> programIndex) & 1) x = shuffle(x, programIndex == 2 ? 4 : 0); }
abbrev pub source_43 : ParsedSource
source_43 =
    (function (at 1 13) (codes "go") (spec true false false false None None) ([])
    (ParsedNext (ParsedDeclare (at 1 20) (spec false false false false None (Some t.Int32)) (at 1 24) (codes "x") (Some (ParsedNumber (at 1 28) 0 false false)))
    (ParsedNext (ParsedIf (at 1 31) (ParsedBinary (Op op.And) (ParsedParen (at 1 35) (ParsedBinary (Op op.Shr) (ParsedNumber (at 1 36) 11 false false) (ParsedName (at 1 42) (codes "programIndex")))) (ParsedNumber (at 1 58) 1 false false)) (ParsedAssign (at 1 61) (target (at 1 61) (codes "x") None) (ParsedCall (at 1 65) (codes "shuffle") (ParsedValue (ParsedName (at 1 73) (codes "x")) (ParsedValue (ParsedChoice (ParsedBinary (Op op.Equal) (ParsedName (at 1 76) (codes "programIndex")) (ParsedNumber (at 1 92) 2 false false)) (ParsedNumber (at 1 96) 4 false false) (ParsedNumber (at 1 100) 0 false false)) ParsedEnd)))))
    ParsedLast)) (at 1 104)) ∷ []

row_43 : run source_43 (codes "") (options 4 64 1000000)
    (codes "continue\n")
    ≡ codes "ended\n"
unfolding digits value_of residue word_of value_in wrapped binary_of
row_43 = refl

-- export void go() { int x = 0; if ((11 >> programIndex) & 1) x = shuffle(x, programIndex == 3 ? 4 : 0); }
abbrev pub source_44 : ParsedSource
source_44 =
    (function (at 1 13) (codes "go") (spec true false false false None None) ([])
    (ParsedNext (ParsedDeclare (at 1 20) (spec false false false false None (Some t.Int32)) (at 1 24) (codes "x") (Some (ParsedNumber (at 1 28) 0 false false)))
    (ParsedNext (ParsedIf (at 1 31) (ParsedBinary (Op op.And) (ParsedParen (at 1 35) (ParsedBinary (Op op.Shr) (ParsedNumber (at 1 36) 11 false false) (ParsedName (at 1 42) (codes "programIndex")))) (ParsedNumber (at 1 58) 1 false false)) (ParsedAssign (at 1 61) (target (at 1 61) (codes "x") None) (ParsedCall (at 1 65) (codes "shuffle") (ParsedValue (ParsedName (at 1 73) (codes "x")) (ParsedValue (ParsedChoice (ParsedBinary (Op op.Equal) (ParsedName (at 1 76) (codes "programIndex")) (ParsedNumber (at 1 92) 3 false false)) (ParsedNumber (at 1 96) 4 false false) (ParsedNumber (at 1 100) 0 false false)) ParsedEnd)))))
    ParsedLast)) (at 1 104)) ∷ []

row_44 : run source_44 (codes "") (options 4 64 1000000)
    (codes "continue\nundo\n")
    ≡ codes "fault F3 LaneIndex lane 3: at 1:61 go depth 1 lanes 1101\nundone step: at 1:31 go depth 1 lanes 1111\n"
unfolding digits value_of residue word_of value_in wrapped binary_of
row_44 = refl

-- export void go() { int x = 0; if ((12 >> programIndex) & 1) x = shuffle(x, programIndex == 0 ? 4 : 0); }
abbrev pub source_45 : ParsedSource
source_45 =
    (function (at 1 13) (codes "go") (spec true false false false None None) ([])
    (ParsedNext (ParsedDeclare (at 1 20) (spec false false false false None (Some t.Int32)) (at 1 24) (codes "x") (Some (ParsedNumber (at 1 28) 0 false false)))
    (ParsedNext (ParsedIf (at 1 31) (ParsedBinary (Op op.And) (ParsedParen (at 1 35) (ParsedBinary (Op op.Shr) (ParsedNumber (at 1 36) 12 false false) (ParsedName (at 1 42) (codes "programIndex")))) (ParsedNumber (at 1 58) 1 false false)) (ParsedAssign (at 1 61) (target (at 1 61) (codes "x") None) (ParsedCall (at 1 65) (codes "shuffle") (ParsedValue (ParsedName (at 1 73) (codes "x")) (ParsedValue (ParsedChoice (ParsedBinary (Op op.Equal) (ParsedName (at 1 76) (codes "programIndex")) (ParsedNumber (at 1 92) 0 false false)) (ParsedNumber (at 1 96) 4 false false) (ParsedNumber (at 1 100) 0 false false)) ParsedEnd)))))
    ParsedLast)) (at 1 104)) ∷ []

row_45 : run source_45 (codes "") (options 4 64 1000000)
    (codes "continue\n")
    ≡ codes "ended\n"
unfolding digits value_of residue word_of value_in wrapped binary_of
row_45 = refl

-- export void go() { int x = 0; if ((12 >> programIndex) & 1) x = shuffle(x, programIndex == 1 ? 4 : 0); }
abbrev pub source_46 : ParsedSource
source_46 =
    (function (at 1 13) (codes "go") (spec true false false false None None) ([])
    (ParsedNext (ParsedDeclare (at 1 20) (spec false false false false None (Some t.Int32)) (at 1 24) (codes "x") (Some (ParsedNumber (at 1 28) 0 false false)))
    (ParsedNext (ParsedIf (at 1 31) (ParsedBinary (Op op.And) (ParsedParen (at 1 35) (ParsedBinary (Op op.Shr) (ParsedNumber (at 1 36) 12 false false) (ParsedName (at 1 42) (codes "programIndex")))) (ParsedNumber (at 1 58) 1 false false)) (ParsedAssign (at 1 61) (target (at 1 61) (codes "x") None) (ParsedCall (at 1 65) (codes "shuffle") (ParsedValue (ParsedName (at 1 73) (codes "x")) (ParsedValue (ParsedChoice (ParsedBinary (Op op.Equal) (ParsedName (at 1 76) (codes "programIndex")) (ParsedNumber (at 1 92) 1 false false)) (ParsedNumber (at 1 96) 4 false false) (ParsedNumber (at 1 100) 0 false false)) ParsedEnd)))))
    ParsedLast)) (at 1 104)) ∷ []

row_46 : run source_46 (codes "") (options 4 64 1000000)
    (codes "continue\n")
    ≡ codes "ended\n"
unfolding digits value_of residue word_of value_in wrapped binary_of
row_46 = refl

-- export void go() { int x = 0; if ((12 >> programIndex) & 1) x = shuffle(x, programIndex == 2 ? 4 : 0); }
abbrev pub source_47 : ParsedSource
source_47 =
    (function (at 1 13) (codes "go") (spec true false false false None None) ([])
    (ParsedNext (ParsedDeclare (at 1 20) (spec false false false false None (Some t.Int32)) (at 1 24) (codes "x") (Some (ParsedNumber (at 1 28) 0 false false)))
    (ParsedNext (ParsedIf (at 1 31) (ParsedBinary (Op op.And) (ParsedParen (at 1 35) (ParsedBinary (Op op.Shr) (ParsedNumber (at 1 36) 12 false false) (ParsedName (at 1 42) (codes "programIndex")))) (ParsedNumber (at 1 58) 1 false false)) (ParsedAssign (at 1 61) (target (at 1 61) (codes "x") None) (ParsedCall (at 1 65) (codes "shuffle") (ParsedValue (ParsedName (at 1 73) (codes "x")) (ParsedValue (ParsedChoice (ParsedBinary (Op op.Equal) (ParsedName (at 1 76) (codes "programIndex")) (ParsedNumber (at 1 92) 2 false false)) (ParsedNumber (at 1 96) 4 false false) (ParsedNumber (at 1 100) 0 false false)) ParsedEnd)))))
    ParsedLast)) (at 1 104)) ∷ []

row_47 : run source_47 (codes "") (options 4 64 1000000)
    (codes "continue\nundo\n")
    ≡ codes "fault F3 LaneIndex lane 2: at 1:61 go depth 1 lanes 0011\nundone step: at 1:31 go depth 1 lanes 1111\n"
unfolding digits value_of residue word_of value_in wrapped binary_of
row_47 = refl

-- export void go() { int x = 0; if ((12 >> programIndex) & 1) x = shuffle(x, programIndex == 3 ? 4 : 0); }
abbrev pub source_48 : ParsedSource
source_48 =
    (function (at 1 13) (codes "go") (spec true false false false None None) ([])
    (ParsedNext (ParsedDeclare (at 1 20) (spec false false false false None (Some t.Int32)) (at 1 24) (codes "x") (Some (ParsedNumber (at 1 28) 0 false false)))
    (ParsedNext (ParsedIf (at 1 31) (ParsedBinary (Op op.And) (ParsedParen (at 1 35) (ParsedBinary (Op op.Shr) (ParsedNumber (at 1 36) 12 false false) (ParsedName (at 1 42) (codes "programIndex")))) (ParsedNumber (at 1 58) 1 false false)) (ParsedAssign (at 1 61) (target (at 1 61) (codes "x") None) (ParsedCall (at 1 65) (codes "shuffle") (ParsedValue (ParsedName (at 1 73) (codes "x")) (ParsedValue (ParsedChoice (ParsedBinary (Op op.Equal) (ParsedName (at 1 76) (codes "programIndex")) (ParsedNumber (at 1 92) 3 false false)) (ParsedNumber (at 1 96) 4 false false) (ParsedNumber (at 1 100) 0 false false)) ParsedEnd)))))
    ParsedLast)) (at 1 104)) ∷ []

row_48 : run source_48 (codes "") (options 4 64 1000000)
    (codes "continue\nundo\n")
    ≡ codes "fault F3 LaneIndex lane 3: at 1:61 go depth 1 lanes 0011\nundone step: at 1:31 go depth 1 lanes 1111\n"
unfolding digits value_of residue word_of value_in wrapped binary_of
row_48 = refl

-- export void go() { int x = 0; if ((13 >> programIndex) & 1) x = shuffle(x, programIndex == 0 ? 4 : 0); }
abbrev pub source_49 : ParsedSource
source_49 =
    (function (at 1 13) (codes "go") (spec true false false false None None) ([])
    (ParsedNext (ParsedDeclare (at 1 20) (spec false false false false None (Some t.Int32)) (at 1 24) (codes "x") (Some (ParsedNumber (at 1 28) 0 false false)))
    (ParsedNext (ParsedIf (at 1 31) (ParsedBinary (Op op.And) (ParsedParen (at 1 35) (ParsedBinary (Op op.Shr) (ParsedNumber (at 1 36) 13 false false) (ParsedName (at 1 42) (codes "programIndex")))) (ParsedNumber (at 1 58) 1 false false)) (ParsedAssign (at 1 61) (target (at 1 61) (codes "x") None) (ParsedCall (at 1 65) (codes "shuffle") (ParsedValue (ParsedName (at 1 73) (codes "x")) (ParsedValue (ParsedChoice (ParsedBinary (Op op.Equal) (ParsedName (at 1 76) (codes "programIndex")) (ParsedNumber (at 1 92) 0 false false)) (ParsedNumber (at 1 96) 4 false false) (ParsedNumber (at 1 100) 0 false false)) ParsedEnd)))))
    ParsedLast)) (at 1 104)) ∷ []

row_49 : run source_49 (codes "") (options 4 64 1000000)
    (codes "continue\nundo\n")
    ≡ codes "fault F3 LaneIndex lane 0: at 1:61 go depth 1 lanes 1011\nundone step: at 1:31 go depth 1 lanes 1111\n"
unfolding digits value_of residue word_of value_in wrapped binary_of
row_49 = refl

-- export void go() { int x = 0; if ((13 >> programIndex) & 1) x = shuffle(x, programIndex == 1 ? 4 : 0); }
abbrev pub source_50 : ParsedSource
source_50 =
    (function (at 1 13) (codes "go") (spec true false false false None None) ([])
    (ParsedNext (ParsedDeclare (at 1 20) (spec false false false false None (Some t.Int32)) (at 1 24) (codes "x") (Some (ParsedNumber (at 1 28) 0 false false)))
    (ParsedNext (ParsedIf (at 1 31) (ParsedBinary (Op op.And) (ParsedParen (at 1 35) (ParsedBinary (Op op.Shr) (ParsedNumber (at 1 36) 13 false false) (ParsedName (at 1 42) (codes "programIndex")))) (ParsedNumber (at 1 58) 1 false false)) (ParsedAssign (at 1 61) (target (at 1 61) (codes "x") None) (ParsedCall (at 1 65) (codes "shuffle") (ParsedValue (ParsedName (at 1 73) (codes "x")) (ParsedValue (ParsedChoice (ParsedBinary (Op op.Equal) (ParsedName (at 1 76) (codes "programIndex")) (ParsedNumber (at 1 92) 1 false false)) (ParsedNumber (at 1 96) 4 false false) (ParsedNumber (at 1 100) 0 false false)) ParsedEnd)))))
    ParsedLast)) (at 1 104)) ∷ []

row_50 : run source_50 (codes "") (options 4 64 1000000)
    (codes "continue\n")
    ≡ codes "ended\n"
unfolding digits value_of residue word_of value_in wrapped binary_of
row_50 = refl

-- export void go() { int x = 0; if ((13 >> programIndex) & 1) x = shuffle(x, programIndex == 2 ? 4 : 0); }
abbrev pub source_51 : ParsedSource
source_51 =
    (function (at 1 13) (codes "go") (spec true false false false None None) ([])
    (ParsedNext (ParsedDeclare (at 1 20) (spec false false false false None (Some t.Int32)) (at 1 24) (codes "x") (Some (ParsedNumber (at 1 28) 0 false false)))
    (ParsedNext (ParsedIf (at 1 31) (ParsedBinary (Op op.And) (ParsedParen (at 1 35) (ParsedBinary (Op op.Shr) (ParsedNumber (at 1 36) 13 false false) (ParsedName (at 1 42) (codes "programIndex")))) (ParsedNumber (at 1 58) 1 false false)) (ParsedAssign (at 1 61) (target (at 1 61) (codes "x") None) (ParsedCall (at 1 65) (codes "shuffle") (ParsedValue (ParsedName (at 1 73) (codes "x")) (ParsedValue (ParsedChoice (ParsedBinary (Op op.Equal) (ParsedName (at 1 76) (codes "programIndex")) (ParsedNumber (at 1 92) 2 false false)) (ParsedNumber (at 1 96) 4 false false) (ParsedNumber (at 1 100) 0 false false)) ParsedEnd)))))
    ParsedLast)) (at 1 104)) ∷ []

row_51 : run source_51 (codes "") (options 4 64 1000000)
    (codes "continue\nundo\n")
    ≡ codes "fault F3 LaneIndex lane 2: at 1:61 go depth 1 lanes 1011\nundone step: at 1:31 go depth 1 lanes 1111\n"
unfolding digits value_of residue word_of value_in wrapped binary_of
row_51 = refl

-- export void go() { int x = 0; if ((13 >> programIndex) & 1) x = shuffle(x, programIndex == 3 ? 4 : 0); }
abbrev pub source_52 : ParsedSource
source_52 =
    (function (at 1 13) (codes "go") (spec true false false false None None) ([])
    (ParsedNext (ParsedDeclare (at 1 20) (spec false false false false None (Some t.Int32)) (at 1 24) (codes "x") (Some (ParsedNumber (at 1 28) 0 false false)))
    (ParsedNext (ParsedIf (at 1 31) (ParsedBinary (Op op.And) (ParsedParen (at 1 35) (ParsedBinary (Op op.Shr) (ParsedNumber (at 1 36) 13 false false) (ParsedName (at 1 42) (codes "programIndex")))) (ParsedNumber (at 1 58) 1 false false)) (ParsedAssign (at 1 61) (target (at 1 61) (codes "x") None) (ParsedCall (at 1 65) (codes "shuffle") (ParsedValue (ParsedName (at 1 73) (codes "x")) (ParsedValue (ParsedChoice (ParsedBinary (Op op.Equal) (ParsedName (at 1 76) (codes "programIndex")) (ParsedNumber (at 1 92) 3 false false)) (ParsedNumber (at 1 96) 4 false false) (ParsedNumber (at 1 100) 0 false false)) ParsedEnd)))))
    ParsedLast)) (at 1 104)) ∷ []

row_52 : run source_52 (codes "") (options 4 64 1000000)
    (codes "continue\nundo\n")
    ≡ codes "fault F3 LaneIndex lane 3: at 1:61 go depth 1 lanes 1011\nundone step: at 1:31 go depth 1 lanes 1111\n"
unfolding digits value_of residue word_of value_in wrapped binary_of
row_52 = refl

-- export void go() { int x = 0; if ((14 >> programIndex) & 1) x = shuffle(x, programIndex == 0 ? 4 : 0); }
abbrev pub source_53 : ParsedSource
source_53 =
    (function (at 1 13) (codes "go") (spec true false false false None None) ([])
    (ParsedNext (ParsedDeclare (at 1 20) (spec false false false false None (Some t.Int32)) (at 1 24) (codes "x") (Some (ParsedNumber (at 1 28) 0 false false)))
    (ParsedNext (ParsedIf (at 1 31) (ParsedBinary (Op op.And) (ParsedParen (at 1 35) (ParsedBinary (Op op.Shr) (ParsedNumber (at 1 36) 14 false false) (ParsedName (at 1 42) (codes "programIndex")))) (ParsedNumber (at 1 58) 1 false false)) (ParsedAssign (at 1 61) (target (at 1 61) (codes "x") None) (ParsedCall (at 1 65) (codes "shuffle") (ParsedValue (ParsedName (at 1 73) (codes "x")) (ParsedValue (ParsedChoice (ParsedBinary (Op op.Equal) (ParsedName (at 1 76) (codes "programIndex")) (ParsedNumber (at 1 92) 0 false false)) (ParsedNumber (at 1 96) 4 false false) (ParsedNumber (at 1 100) 0 false false)) ParsedEnd)))))
    ParsedLast)) (at 1 104)) ∷ []

row_53 : run source_53 (codes "") (options 4 64 1000000)
    (codes "continue\n")
    ≡ codes "ended\n"
unfolding digits value_of residue word_of value_in wrapped binary_of
row_53 = refl

-- export void go() { int x = 0; if ((14 >> programIndex) & 1) x = shuffle(x, programIndex == 1 ? 4 : 0); }
abbrev pub source_54 : ParsedSource
source_54 =
    (function (at 1 13) (codes "go") (spec true false false false None None) ([])
    (ParsedNext (ParsedDeclare (at 1 20) (spec false false false false None (Some t.Int32)) (at 1 24) (codes "x") (Some (ParsedNumber (at 1 28) 0 false false)))
    (ParsedNext (ParsedIf (at 1 31) (ParsedBinary (Op op.And) (ParsedParen (at 1 35) (ParsedBinary (Op op.Shr) (ParsedNumber (at 1 36) 14 false false) (ParsedName (at 1 42) (codes "programIndex")))) (ParsedNumber (at 1 58) 1 false false)) (ParsedAssign (at 1 61) (target (at 1 61) (codes "x") None) (ParsedCall (at 1 65) (codes "shuffle") (ParsedValue (ParsedName (at 1 73) (codes "x")) (ParsedValue (ParsedChoice (ParsedBinary (Op op.Equal) (ParsedName (at 1 76) (codes "programIndex")) (ParsedNumber (at 1 92) 1 false false)) (ParsedNumber (at 1 96) 4 false false) (ParsedNumber (at 1 100) 0 false false)) ParsedEnd)))))
    ParsedLast)) (at 1 104)) ∷ []

row_54 : run source_54 (codes "") (options 4 64 1000000)
    (codes "continue\nundo\n")
    ≡ codes "fault F3 LaneIndex lane 1: at 1:61 go depth 1 lanes 0111\nundone step: at 1:31 go depth 1 lanes 1111\n"
unfolding digits value_of residue word_of value_in wrapped binary_of
row_54 = refl

-- export void go() { int x = 0; if ((14 >> programIndex) & 1) x = shuffle(x, programIndex == 2 ? 4 : 0); }
abbrev pub source_55 : ParsedSource
source_55 =
    (function (at 1 13) (codes "go") (spec true false false false None None) ([])
    (ParsedNext (ParsedDeclare (at 1 20) (spec false false false false None (Some t.Int32)) (at 1 24) (codes "x") (Some (ParsedNumber (at 1 28) 0 false false)))
    (ParsedNext (ParsedIf (at 1 31) (ParsedBinary (Op op.And) (ParsedParen (at 1 35) (ParsedBinary (Op op.Shr) (ParsedNumber (at 1 36) 14 false false) (ParsedName (at 1 42) (codes "programIndex")))) (ParsedNumber (at 1 58) 1 false false)) (ParsedAssign (at 1 61) (target (at 1 61) (codes "x") None) (ParsedCall (at 1 65) (codes "shuffle") (ParsedValue (ParsedName (at 1 73) (codes "x")) (ParsedValue (ParsedChoice (ParsedBinary (Op op.Equal) (ParsedName (at 1 76) (codes "programIndex")) (ParsedNumber (at 1 92) 2 false false)) (ParsedNumber (at 1 96) 4 false false) (ParsedNumber (at 1 100) 0 false false)) ParsedEnd)))))
    ParsedLast)) (at 1 104)) ∷ []

row_55 : run source_55 (codes "") (options 4 64 1000000)
    (codes "continue\nundo\n")
    ≡ codes "fault F3 LaneIndex lane 2: at 1:61 go depth 1 lanes 0111\nundone step: at 1:31 go depth 1 lanes 1111\n"
unfolding digits value_of residue word_of value_in wrapped binary_of
row_55 = refl

-- export void go() { int x = 0; if ((14 >> programIndex) & 1) x = shuffle(x, programIndex == 3 ? 4 : 0); }
abbrev pub source_56 : ParsedSource
source_56 =
    (function (at 1 13) (codes "go") (spec true false false false None None) ([])
    (ParsedNext (ParsedDeclare (at 1 20) (spec false false false false None (Some t.Int32)) (at 1 24) (codes "x") (Some (ParsedNumber (at 1 28) 0 false false)))
    (ParsedNext (ParsedIf (at 1 31) (ParsedBinary (Op op.And) (ParsedParen (at 1 35) (ParsedBinary (Op op.Shr) (ParsedNumber (at 1 36) 14 false false) (ParsedName (at 1 42) (codes "programIndex")))) (ParsedNumber (at 1 58) 1 false false)) (ParsedAssign (at 1 61) (target (at 1 61) (codes "x") None) (ParsedCall (at 1 65) (codes "shuffle") (ParsedValue (ParsedName (at 1 73) (codes "x")) (ParsedValue (ParsedChoice (ParsedBinary (Op op.Equal) (ParsedName (at 1 76) (codes "programIndex")) (ParsedNumber (at 1 92) 3 false false)) (ParsedNumber (at 1 96) 4 false false) (ParsedNumber (at 1 100) 0 false false)) ParsedEnd)))))
    ParsedLast)) (at 1 104)) ∷ []

row_56 : run source_56 (codes "") (options 4 64 1000000)
    (codes "continue\nundo\n")
    ≡ codes "fault F3 LaneIndex lane 3: at 1:61 go depth 1 lanes 0111\nundone step: at 1:31 go depth 1 lanes 1111\n"
unfolding digits value_of residue word_of value_in wrapped binary_of
row_56 = refl

-- export void go() { int x = 0; if ((15 >> programIndex) & 1) x = shuffle(x, programIndex == 0 ? 4 : 0); }
abbrev pub source_57 : ParsedSource
source_57 =
    (function (at 1 13) (codes "go") (spec true false false false None None) ([])
    (ParsedNext (ParsedDeclare (at 1 20) (spec false false false false None (Some t.Int32)) (at 1 24) (codes "x") (Some (ParsedNumber (at 1 28) 0 false false)))
    (ParsedNext (ParsedIf (at 1 31) (ParsedBinary (Op op.And) (ParsedParen (at 1 35) (ParsedBinary (Op op.Shr) (ParsedNumber (at 1 36) 15 false false) (ParsedName (at 1 42) (codes "programIndex")))) (ParsedNumber (at 1 58) 1 false false)) (ParsedAssign (at 1 61) (target (at 1 61) (codes "x") None) (ParsedCall (at 1 65) (codes "shuffle") (ParsedValue (ParsedName (at 1 73) (codes "x")) (ParsedValue (ParsedChoice (ParsedBinary (Op op.Equal) (ParsedName (at 1 76) (codes "programIndex")) (ParsedNumber (at 1 92) 0 false false)) (ParsedNumber (at 1 96) 4 false false) (ParsedNumber (at 1 100) 0 false false)) ParsedEnd)))))
    ParsedLast)) (at 1 104)) ∷ []

row_57 : run source_57 (codes "") (options 4 64 1000000)
    (codes "continue\nundo\n")
    ≡ codes "fault F3 LaneIndex lane 0: at 1:61 go depth 1 lanes 1111\nundone step: at 1:31 go depth 1 lanes 1111\n"
unfolding digits value_of residue word_of value_in wrapped binary_of
row_57 = refl

-- export void go() { int x = 0; if ((15 >> programIndex) & 1) x = shuffle(x, programIndex == 1 ? 4 : 0); }
abbrev pub source_58 : ParsedSource
source_58 =
    (function (at 1 13) (codes "go") (spec true false false false None None) ([])
    (ParsedNext (ParsedDeclare (at 1 20) (spec false false false false None (Some t.Int32)) (at 1 24) (codes "x") (Some (ParsedNumber (at 1 28) 0 false false)))
    (ParsedNext (ParsedIf (at 1 31) (ParsedBinary (Op op.And) (ParsedParen (at 1 35) (ParsedBinary (Op op.Shr) (ParsedNumber (at 1 36) 15 false false) (ParsedName (at 1 42) (codes "programIndex")))) (ParsedNumber (at 1 58) 1 false false)) (ParsedAssign (at 1 61) (target (at 1 61) (codes "x") None) (ParsedCall (at 1 65) (codes "shuffle") (ParsedValue (ParsedName (at 1 73) (codes "x")) (ParsedValue (ParsedChoice (ParsedBinary (Op op.Equal) (ParsedName (at 1 76) (codes "programIndex")) (ParsedNumber (at 1 92) 1 false false)) (ParsedNumber (at 1 96) 4 false false) (ParsedNumber (at 1 100) 0 false false)) ParsedEnd)))))
    ParsedLast)) (at 1 104)) ∷ []

row_58 : run source_58 (codes "") (options 4 64 1000000)
    (codes "continue\nundo\n")
    ≡ codes "fault F3 LaneIndex lane 1: at 1:61 go depth 1 lanes 1111\nundone step: at 1:31 go depth 1 lanes 1111\n"
unfolding digits value_of residue word_of value_in wrapped binary_of
row_58 = refl

-- export void go() { int x = 0; if ((15 >> programIndex) & 1) x = shuffle(x, programIndex == 2 ? 4 : 0); }
abbrev pub source_59 : ParsedSource
source_59 =
    (function (at 1 13) (codes "go") (spec true false false false None None) ([])
    (ParsedNext (ParsedDeclare (at 1 20) (spec false false false false None (Some t.Int32)) (at 1 24) (codes "x") (Some (ParsedNumber (at 1 28) 0 false false)))
    (ParsedNext (ParsedIf (at 1 31) (ParsedBinary (Op op.And) (ParsedParen (at 1 35) (ParsedBinary (Op op.Shr) (ParsedNumber (at 1 36) 15 false false) (ParsedName (at 1 42) (codes "programIndex")))) (ParsedNumber (at 1 58) 1 false false)) (ParsedAssign (at 1 61) (target (at 1 61) (codes "x") None) (ParsedCall (at 1 65) (codes "shuffle") (ParsedValue (ParsedName (at 1 73) (codes "x")) (ParsedValue (ParsedChoice (ParsedBinary (Op op.Equal) (ParsedName (at 1 76) (codes "programIndex")) (ParsedNumber (at 1 92) 2 false false)) (ParsedNumber (at 1 96) 4 false false) (ParsedNumber (at 1 100) 0 false false)) ParsedEnd)))))
    ParsedLast)) (at 1 104)) ∷ []

row_59 : run source_59 (codes "") (options 4 64 1000000)
    (codes "continue\nundo\n")
    ≡ codes "fault F3 LaneIndex lane 2: at 1:61 go depth 1 lanes 1111\nundone step: at 1:31 go depth 1 lanes 1111\n"
unfolding digits value_of residue word_of value_in wrapped binary_of
row_59 = refl

-- export void go() { int x = 0; if ((15 >> programIndex) & 1) x = shuffle(x, programIndex == 3 ? 4 : 0); }
abbrev pub source_60 : ParsedSource
source_60 =
    (function (at 1 13) (codes "go") (spec true false false false None None) ([])
    (ParsedNext (ParsedDeclare (at 1 20) (spec false false false false None (Some t.Int32)) (at 1 24) (codes "x") (Some (ParsedNumber (at 1 28) 0 false false)))
    (ParsedNext (ParsedIf (at 1 31) (ParsedBinary (Op op.And) (ParsedParen (at 1 35) (ParsedBinary (Op op.Shr) (ParsedNumber (at 1 36) 15 false false) (ParsedName (at 1 42) (codes "programIndex")))) (ParsedNumber (at 1 58) 1 false false)) (ParsedAssign (at 1 61) (target (at 1 61) (codes "x") None) (ParsedCall (at 1 65) (codes "shuffle") (ParsedValue (ParsedName (at 1 73) (codes "x")) (ParsedValue (ParsedChoice (ParsedBinary (Op op.Equal) (ParsedName (at 1 76) (codes "programIndex")) (ParsedNumber (at 1 92) 3 false false)) (ParsedNumber (at 1 96) 4 false false) (ParsedNumber (at 1 100) 0 false false)) ParsedEnd)))))
    ParsedLast)) (at 1 104)) ∷ []

row_60 : run source_60 (codes "") (options 4 64 1000000)
    (codes "continue\nundo\n")
    ≡ codes "fault F3 LaneIndex lane 3: at 1:61 go depth 1 lanes 1111\nundone step: at 1:31 go depth 1 lanes 1111\n"
unfolding digits value_of residue word_of value_in wrapped binary_of
row_60 = refl
