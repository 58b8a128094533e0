-- Worked rows of the definitions.
use Rattle.std.proofs.Common.{◌≡◌, refl, true, false, [], ◌∷◌, Some, None}
use Rattle.gang_types.specs.declared.operators.BinaryOp.TheVariants as op
use Rattle.gang_types.specs.declared.types.IntType.TheVariants as t
use Rattle.gang_types.specs.Values.{binary_of, residue, value_in, value_of, word_of, wrapped}
use Rattle.gang_model.specs.Running.State.{State}
use Rattle.gang_model.specs.Types.Tree.{Binary, Number, ProgramIndex}
use Rattle.expression_watches.specs.declared.codes.KeptCode.TheVariants as kept
use Rattle.expression_watches.specs.Codes.{kept_at}
use Rattle.expression_watches.specs.LaneSights.{lane_words, lanes_differ, shown_in, without_lane}

-- ---- lanes

words_of_lanes : lane_words (true ∷ false ∷ true ∷ []) (7 ∷ 0 ∷ 9 ∷ []) ≡ Some 7 ∷ None ∷ Some 9 ∷ []
words_of_lanes = refl

one_out : without_lane 1 (true ∷ true ∷ false ∷ []) ≡ true ∷ false ∷ false ∷ []
one_out = refl

-- ---- what is shown

-- `6 / programIndex` has a fault in lane 0 alone
one_fault : (state : State) → shown_in 16 (Binary op.Div t.Int32 (Number 6) ProgramIndex) (true ∷ true ∷ false ∷ true ∷ []) state ≡ None ∷ Some 6 ∷ None ∷ Some 2 ∷ []
unfolding binary_of wrapped word_of residue value_in value_of
one_fault state = refl

-- `6 / 0` has one in each lane
each_fault : (state : State) → shown_in 16 (Binary op.Div t.Int32 (Number 6) (Number 0)) (true ∷ true ∷ []) state ≡ None ∷ None ∷ []
each_fault state = refl

-- ---- what differs

other_word : lanes_differ (Some 1 ∷ None ∷ []) (Some 2 ∷ None ∷ []) ≡ true
other_word = refl

same_words : lanes_differ (Some 1 ∷ Some 5 ∷ []) (Some 1 ∷ Some 5 ∷ []) ≡ false
same_words = refl

shown_again : lanes_differ (None ∷ Some 5 ∷ []) (Some 2 ∷ None ∷ []) ≡ false
shown_again = refl

none_before : lanes_differ [] (Some 2 ∷ Some 3 ∷ []) ≡ false
none_before = refl

-- ---- codes that are kept

-- for step 1, where the text has no value
for_a_step : kept_at (kept.Unread ∷ kept.Read None ∷ []) 1 ≡ kept.Read None
for_a_step = refl

-- neither for the step before it nor for one past the last
for_no_other : (kept_at (kept.Unread ∷ kept.Read None ∷ []) 0 ≡ kept.Unread) × (kept_at (kept.Unread ∷ kept.Read None ∷ []) 2 ≡ kept.Unread)
for_no_other = (refl, refl)
