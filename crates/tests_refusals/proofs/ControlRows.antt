-- Rows of `break`, `continue`, `return` and foreach forms that may not stand where they stand (S11), and of labels (S6).
use Rattle.std.specs.Prelude.{◌≡◌, refl, true, false, [], ◌∷◌, Some, None, codes}
use Rattle.gang_types.specs.Values.{value_of, residue, word_of, value_in, wrapped, binary_of}
use Rattle.gang_model.specs.Source.Parsed.{ParsedNumber, ParsedBool, ParsedName, ParsedEnd, ParsedEmpty, ParsedBlock, ParsedDoCall, ParsedBreak, ParsedContinue, ParsedReturn, ParsedIf, ParsedWhile, ParsedDo, ParsedFor, ParsedSwitch, ParsedForEach, ParsedForEachActive, ParsedForEachUnique, ParsedLast, ParsedNext, ParsedNoMore, ParsedSegment, ParsedSource}
use Rattle.tests_transcripts.proofs.Forms.{at, spec, dimension, label, function}
use Rattle.gang_model.specs.declared.refusals.RefusalNumber.TheVariants.{S5, S6, S11}
use Rattle.gang_model.specs.Types.SourceRefusals.{refusal_of}
use Rattle.tests_refusals.proofs.Wanted.{refused, accepted}

-- export void go() { break; }
abbrev tree_0 : ParsedSource
tree_0 =
    (function (at 1 13) (codes "go") (spec true false false false None None) ([])
    (ParsedNext (ParsedBreak (at 1 20))
    ParsedLast) (at 1 27)) ∷ []

row_0 : refusal_of tree_0 ≡ refused S11 1 20
unfolding value_of residue word_of value_in wrapped binary_of
row_0 = refl

-- export void go() { continue; }
abbrev tree_1 : ParsedSource
tree_1 =
    (function (at 1 13) (codes "go") (spec true false false false None None) ([])
    (ParsedNext (ParsedContinue (at 1 20))
    ParsedLast) (at 1 30)) ∷ []

row_1 : refusal_of tree_1 ≡ refused S11 1 20
unfolding value_of residue word_of value_in wrapped binary_of
row_1 = refl

-- export void go() { if (true) break; }
abbrev tree_2 : ParsedSource
tree_2 =
    (function (at 1 13) (codes "go") (spec true false false false None None) ([])
    (ParsedNext (ParsedIf (at 1 20) (ParsedBool (at 1 24) true) (ParsedBreak (at 1 30)))
    ParsedLast) (at 1 37)) ∷ []

row_2 : refusal_of tree_2 ≡ refused S11 1 30
unfolding value_of residue word_of value_in wrapped binary_of
row_2 = refl

-- export void go() { while (true) break; }
abbrev tree_3 : ParsedSource
tree_3 =
    (function (at 1 13) (codes "go") (spec true false false false None None) ([])
    (ParsedNext (ParsedWhile (at 1 20) (ParsedBool (at 1 27) true) (ParsedBreak (at 1 33)))
    ParsedLast) (at 1 40)) ∷ []

row_3 : refusal_of tree_3 ≡ accepted
unfolding value_of residue word_of value_in wrapped binary_of
row_3 = refl

-- export void go() { while (true) { if (true) continue; } }
abbrev tree_4 : ParsedSource
tree_4 =
    (function (at 1 13) (codes "go") (spec true false false false None None) ([])
    (ParsedNext (ParsedWhile (at 1 20) (ParsedBool (at 1 27) true) (ParsedBlock (ParsedNext (ParsedIf (at 1 35) (ParsedBool (at 1 39) true) (ParsedContinue (at 1 45)))
    ParsedLast)))
    ParsedLast) (at 1 57)) ∷ []

row_4 : refusal_of tree_4 ≡ accepted
unfolding value_of residue word_of value_in wrapped binary_of
row_4 = refl

-- export void go() { do break; while (true); }
abbrev tree_5 : ParsedSource
tree_5 =
    (function (at 1 13) (codes "go") (spec true false false false None None) ([])
    (ParsedNext (ParsedDo (ParsedBreak (at 1 23)) (at 1 30) (ParsedBool (at 1 37) true))
    ParsedLast) (at 1 44)) ∷ []

row_5 : refusal_of tree_5 ≡ accepted
unfolding value_of residue word_of value_in wrapped binary_of
row_5 = refl

-- export void go() { for (;;) { break; } }
abbrev tree_6 : ParsedSource
tree_6 =
    (function (at 1 13) (codes "go") (spec true false false false None None) ([])
    (ParsedNext (ParsedFor (at 1 20) ParsedEmpty None ParsedEmpty (ParsedBlock (ParsedNext (ParsedBreak (at 1 31))
    ParsedLast)))
    ParsedLast) (at 1 40)) ∷ []

row_6 : refusal_of tree_6 ≡ accepted
unfolding value_of residue word_of value_in wrapped binary_of
row_6 = refl

-- export void go() { foreach (i = 0 ... 4) continue; }
abbrev tree_7 : ParsedSource
tree_7 =
    (function (at 1 13) (codes "go") (spec true false false false None None) ([])
    (ParsedNext (ParsedForEach (at 1 20) false (dimension (at 1 29) (codes "i") (ParsedNumber (at 1 33) 0 false false) (ParsedNumber (at 1 39) 4 false false) ∷ []) (ParsedContinue (at 1 42)))
    ParsedLast) (at 1 52)) ∷ []

row_7 : refusal_of tree_7 ≡ accepted
unfolding value_of residue word_of value_in wrapped binary_of
row_7 = refl

-- export void go() { foreach (i = 0 ... 4) break; }
abbrev tree_8 : ParsedSource
tree_8 =
    (function (at 1 13) (codes "go") (spec true false false false None None) ([])
    (ParsedNext (ParsedForEach (at 1 20) false (dimension (at 1 29) (codes "i") (ParsedNumber (at 1 33) 0 false false) (ParsedNumber (at 1 39) 4 false false) ∷ []) (ParsedBreak (at 1 42)))
    ParsedLast) (at 1 49)) ∷ []

row_8 : refusal_of tree_8 ≡ refused S11 1 42
unfolding value_of residue word_of value_in wrapped binary_of
row_8 = refl

-- export void go() { foreach (i = 0 ... 4) while (true) break; }
abbrev tree_9 : ParsedSource
tree_9 =
    (function (at 1 13) (codes "go") (spec true false false false None None) ([])
    (ParsedNext (ParsedForEach (at 1 20) false (dimension (at 1 29) (codes "i") (ParsedNumber (at 1 33) 0 false false) (ParsedNumber (at 1 39) 4 false false) ∷ []) (ParsedWhile (at 1 42) (ParsedBool (at 1 49) true) (ParsedBreak (at 1 55))))
    ParsedLast) (at 1 62)) ∷ []

row_9 : refusal_of tree_9 ≡ accepted
unfolding value_of residue word_of value_in wrapped binary_of
row_9 = refl

-- export void go() { foreach (i = 0 ... 4) while (true) return; }
abbrev tree_10 : ParsedSource
tree_10 =
    (function (at 1 13) (codes "go") (spec true false false false None None) ([])
    (ParsedNext (ParsedForEach (at 1 20) false (dimension (at 1 29) (codes "i") (ParsedNumber (at 1 33) 0 false false) (ParsedNumber (at 1 39) 4 false false) ∷ []) (ParsedWhile (at 1 42) (ParsedBool (at 1 49) true) (ParsedReturn (at 1 55) None)))
    ParsedLast) (at 1 63)) ∷ []

row_10 : refusal_of tree_10 ≡ refused S11 1 55
unfolding value_of residue word_of value_in wrapped binary_of
row_10 = refl

-- export void go() { while (true) foreach (i = 0 ... 4) break; }
-- (the loop is outside the foreach)
abbrev tree_11 : ParsedSource
tree_11 =
    (function (at 1 13) (codes "go") (spec true false false false None None) ([])
    (ParsedNext (ParsedWhile (at 1 20) (ParsedBool (at 1 27) true) (ParsedForEach (at 1 33) false (dimension (at 1 42) (codes "i") (ParsedNumber (at 1 46) 0 false false) (ParsedNumber (at 1 52) 4 false false) ∷ []) (ParsedBreak (at 1 55))))
    ParsedLast) (at 1 62)) ∷ []

row_11 : refusal_of tree_11 ≡ refused S11 1 55
unfolding value_of residue word_of value_in wrapped binary_of
row_11 = refl

-- export void go() { foreach_active (i) return; }
abbrev tree_12 : ParsedSource
tree_12 =
    (function (at 1 13) (codes "go") (spec true false false false None None) ([])
    (ParsedNext (ParsedForEachActive (at 1 20) (at 1 36) (codes "i") (ParsedReturn (at 1 39) None))
    ParsedLast) (at 1 47)) ∷ []

row_12 : refusal_of tree_12 ≡ refused S11 1 39
unfolding value_of residue word_of value_in wrapped binary_of
row_12 = refl

-- export void go() { foreach_unique (v in programIndex) break; }
abbrev tree_13 : ParsedSource
tree_13 =
    (function (at 1 13) (codes "go") (spec true false false false None None) ([])
    (ParsedNext (ParsedForEachUnique (at 1 20) (at 1 36) (codes "v") (ParsedName (at 1 41) (codes "programIndex")) (ParsedBreak (at 1 55)))
    ParsedLast) (at 1 62)) ∷ []

row_13 : refusal_of tree_13 ≡ refused S11 1 55
unfolding value_of residue word_of value_in wrapped binary_of
row_13 = refl

-- export void go() { foreach (i = 0 ... 4) foreach (j = 0 ... 4) ; }
abbrev tree_14 : ParsedSource
tree_14 =
    (function (at 1 13) (codes "go") (spec true false false false None None) ([])
    (ParsedNext (ParsedForEach (at 1 20) false (dimension (at 1 29) (codes "i") (ParsedNumber (at 1 33) 0 false false) (ParsedNumber (at 1 39) 4 false false) ∷ []) (ParsedForEach (at 1 42) false (dimension (at 1 51) (codes "j") (ParsedNumber (at 1 55) 0 false false) (ParsedNumber (at 1 61) 4 false false) ∷ []) ParsedEmpty))
    ParsedLast) (at 1 66)) ∷ []

row_14 : refusal_of tree_14 ≡ refused S11 1 42
unfolding value_of residue word_of value_in wrapped binary_of
row_14 = refl

-- export void go() { foreach_tiled (i = 0 ... 4) foreach (j = 0 ... 4) ; }
abbrev tree_15 : ParsedSource
tree_15 =
    (function (at 1 13) (codes "go") (spec true false false false None None) ([])
    (ParsedNext (ParsedForEach (at 1 20) true (dimension (at 1 35) (codes "i") (ParsedNumber (at 1 39) 0 false false) (ParsedNumber (at 1 45) 4 false false) ∷ []) (ParsedForEach (at 1 48) false (dimension (at 1 57) (codes "j") (ParsedNumber (at 1 61) 0 false false) (ParsedNumber (at 1 67) 4 false false) ∷ []) ParsedEmpty))
    ParsedLast) (at 1 72)) ∷ []

row_15 : refusal_of tree_15 ≡ refused S11 1 48
unfolding value_of residue word_of value_in wrapped binary_of
row_15 = refl

-- export void go() { foreach (i = 0 ... 4) foreach_active (j) foreach (k = 0 ... 4) ; }
abbrev tree_16 : ParsedSource
tree_16 =
    (function (at 1 13) (codes "go") (spec true false false false None None) ([])
    (ParsedNext (ParsedForEach (at 1 20) false (dimension (at 1 29) (codes "i") (ParsedNumber (at 1 33) 0 false false) (ParsedNumber (at 1 39) 4 false false) ∷ []) (ParsedForEachActive (at 1 42) (at 1 58) (codes "j") (ParsedForEach (at 1 61) false (dimension (at 1 70) (codes "k") (ParsedNumber (at 1 74) 0 false false) (ParsedNumber (at 1 80) 4 false false) ∷ []) ParsedEmpty)))
    ParsedLast) (at 1 85)) ∷ []

row_16 : refusal_of tree_16 ≡ refused S11 1 61
unfolding value_of residue word_of value_in wrapped binary_of
row_16 = refl

-- export void go() { foreach_active (j) foreach (k = 0 ... 4) ; }
abbrev tree_17 : ParsedSource
tree_17 =
    (function (at 1 13) (codes "go") (spec true false false false None None) ([])
    (ParsedNext (ParsedForEachActive (at 1 20) (at 1 36) (codes "j") (ParsedForEach (at 1 39) false (dimension (at 1 48) (codes "k") (ParsedNumber (at 1 52) 0 false false) (ParsedNumber (at 1 58) 4 false false) ∷ []) ParsedEmpty))
    ParsedLast) (at 1 63)) ∷ []

row_17 : refusal_of tree_17 ≡ accepted
unfolding value_of residue word_of value_in wrapped binary_of
row_17 = refl

-- export void go() { foreach (i = 0 ... 4) foreach_active (j) continue; }
abbrev tree_18 : ParsedSource
tree_18 =
    (function (at 1 13) (codes "go") (spec true false false false None None) ([])
    (ParsedNext (ParsedForEach (at 1 20) false (dimension (at 1 29) (codes "i") (ParsedNumber (at 1 33) 0 false false) (ParsedNumber (at 1 39) 4 false false) ∷ []) (ParsedForEachActive (at 1 42) (at 1 58) (codes "j") (ParsedContinue (at 1 61))))
    ParsedLast) (at 1 71)) ∷ []

row_18 : refusal_of tree_18 ≡ accepted
unfolding value_of residue word_of value_in wrapped binary_of
row_18 = refl

-- export void go() { foreach_active (i) foreach_unique (v in programIndex) ; }
abbrev tree_19 : ParsedSource
tree_19 =
    (function (at 1 13) (codes "go") (spec true false false false None None) ([])
    (ParsedNext (ParsedForEachActive (at 1 20) (at 1 36) (codes "i") (ParsedForEachUnique (at 1 39) (at 1 55) (codes "v") (ParsedName (at 1 60) (codes "programIndex")) ParsedEmpty))
    ParsedLast) (at 1 76)) ∷ []

row_19 : refusal_of tree_19 ≡ accepted
unfolding value_of residue word_of value_in wrapped binary_of
row_19 = refl

-- export void go() { switch (1) { case 1: break; } }
abbrev tree_20 : ParsedSource
tree_20 =
    (function (at 1 13) (codes "go") (spec true false false false None None) ([])
    (ParsedNext (ParsedSwitch (at 1 20) (ParsedNumber (at 1 28) 1 false false) (ParsedSegment (at 1 33) (Some (label false 1)) (ParsedNext (ParsedBreak (at 1 41)) ParsedLast) ParsedNoMore))
    ParsedLast) (at 1 50)) ∷ []

row_20 : refusal_of tree_20 ≡ accepted
unfolding value_of residue word_of value_in wrapped binary_of
row_20 = refl

-- export void go() { switch (1) { case 1: continue; } }
abbrev tree_21 : ParsedSource
tree_21 =
    (function (at 1 13) (codes "go") (spec true false false false None None) ([])
    (ParsedNext (ParsedSwitch (at 1 20) (ParsedNumber (at 1 28) 1 false false) (ParsedSegment (at 1 33) (Some (label false 1)) (ParsedNext (ParsedContinue (at 1 41)) ParsedLast) ParsedNoMore))
    ParsedLast) (at 1 53)) ∷ []

row_21 : refusal_of tree_21 ≡ refused S11 1 41
unfolding value_of residue word_of value_in wrapped binary_of
row_21 = refl

-- export void go() { while (true) switch (1) { case 1: continue; } }
abbrev tree_22 : ParsedSource
tree_22 =
    (function (at 1 13) (codes "go") (spec true false false false None None) ([])
    (ParsedNext (ParsedWhile (at 1 20) (ParsedBool (at 1 27) true) (ParsedSwitch (at 1 33) (ParsedNumber (at 1 41) 1 false false) (ParsedSegment (at 1 46) (Some (label false 1)) (ParsedNext (ParsedContinue (at 1 54)) ParsedLast) ParsedNoMore)))
    ParsedLast) (at 1 66)) ∷ []

row_22 : refusal_of tree_22 ≡ accepted
unfolding value_of residue word_of value_in wrapped binary_of
row_22 = refl

-- export void go() { foreach (i = 0 ... 4) switch (i) { case 1: break; default: continue; } }
abbrev tree_23 : ParsedSource
tree_23 =
    (function (at 1 13) (codes "go") (spec true false false false None None) ([])
    (ParsedNext (ParsedForEach (at 1 20) false (dimension (at 1 29) (codes "i") (ParsedNumber (at 1 33) 0 false false) (ParsedNumber (at 1 39) 4 false false) ∷ []) (ParsedSwitch (at 1 42) (ParsedName (at 1 50) (codes "i")) (ParsedSegment (at 1 55) (Some (label false 1)) (ParsedNext (ParsedBreak (at 1 63)) ParsedLast) (ParsedSegment (at 1 70) None (ParsedNext (ParsedContinue (at 1 79)) ParsedLast) ParsedNoMore))))
    ParsedLast) (at 1 91)) ∷ []

row_23 : refusal_of tree_23 ≡ accepted
unfolding value_of residue word_of value_in wrapped binary_of
row_23 = refl

-- export void go() { switch (1) { default: ; default: ; } }
abbrev tree_24 : ParsedSource
tree_24 =
    (function (at 1 13) (codes "go") (spec true false false false None None) ([])
    (ParsedNext (ParsedSwitch (at 1 20) (ParsedNumber (at 1 28) 1 false false) (ParsedSegment (at 1 33) None (ParsedNext ParsedEmpty ParsedLast) (ParsedSegment (at 1 44) None (ParsedNext ParsedEmpty ParsedLast) ParsedNoMore)))
    ParsedLast) (at 1 57)) ∷ []

row_24 : refusal_of tree_24 ≡ refused S6 1 44
unfolding value_of residue word_of value_in wrapped binary_of
row_24 = refl

-- export void go() { switch (1) { case 0: ; case -0: ; } }
abbrev tree_25 : ParsedSource
tree_25 =
    (function (at 1 13) (codes "go") (spec true false false false None None) ([])
    (ParsedNext (ParsedSwitch (at 1 20) (ParsedNumber (at 1 28) 1 false false) (ParsedSegment (at 1 33) (Some (label false 0)) (ParsedNext ParsedEmpty ParsedLast) (ParsedSegment (at 1 43) (Some (label true 0)) (ParsedNext ParsedEmpty ParsedLast) ParsedNoMore)))
    ParsedLast) (at 1 56)) ∷ []

row_25 : refusal_of tree_25 ≡ refused S6 1 43
unfolding value_of residue word_of value_in wrapped binary_of
row_25 = refl

-- export void go() { switch (1) { case 1: ; case -1: ; default: ; } }
abbrev tree_26 : ParsedSource
tree_26 =
    (function (at 1 13) (codes "go") (spec true false false false None None) ([])
    (ParsedNext (ParsedSwitch (at 1 20) (ParsedNumber (at 1 28) 1 false false) (ParsedSegment (at 1 33) (Some (label false 1)) (ParsedNext ParsedEmpty ParsedLast) (ParsedSegment (at 1 43) (Some (label true 1)) (ParsedNext ParsedEmpty ParsedLast) (ParsedSegment (at 1 54) None (ParsedNext ParsedEmpty ParsedLast) ParsedNoMore))))
    ParsedLast) (at 1 67)) ∷ []

row_26 : refusal_of tree_26 ≡ accepted
unfolding value_of residue word_of value_in wrapped binary_of
row_26 = refl

-- export void go() { while (true) { foreach_one(); } }
abbrev tree_27 : ParsedSource
tree_27 =
    (function (at 1 13) (codes "go") (spec true false false false None None) ([])
    (ParsedNext (ParsedWhile (at 1 20) (ParsedBool (at 1 27) true) (ParsedBlock (ParsedNext (ParsedDoCall (at 1 35) (codes "foreach_one") ParsedEnd)
    ParsedLast)))
    ParsedLast) (at 1 52)) ∷ []

row_27 : refusal_of tree_27 ≡ refused S5 1 35
unfolding value_of residue word_of value_in wrapped binary_of
row_27 = refl
