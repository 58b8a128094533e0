-- Levels of a frame by its words, computed.
use Rattle.std.proofs.Common.{suc, zero, ◌≡◌, refl, [], ◌∷◌}
use Rattle.std.specs.Prelude.{map, pos, negsuc, replicate, true, false, ◌^◌, ◌-◌}
use Rattle.gang_types.specs.declared.places.VarId.TheVariants.{Local}
use Rattle.gang_types.specs.declared.types.IntType.TheVariants.{Int32}
use Rattle.gang_types.specs.declared.types.Rate.TheVariants.{Varying}
use Rattle.gang_types.specs.Masks as masks
use Rattle.gang_types.specs.Values as values
use Rattle.gang_model.specs.Types.Tree.{EachLane, EachValue, Number, Read, RoundsOf, Rows, Var}
use Rattle.mask_states.specs.Masked.{closed}
use Rattle.foreach_lowering.specs.Grids.{grid}
use Rattle.foreach_lowering.specs.Kept.{kept_lanes, lane_turn}
use Rattle.machine_states.specs.Levels.{LevelWords, LevelsWords, kept_in, form_level, levels_in}

abbrev x : Var
x = record { id = Local 0; type = Int32; rate = Varying }

-- from 5 up to 9: all of it was taken, and the lanes wait at the rounds again
abbrev row_form : RoundsOf
row_form = Rows (record { index = x; low = Number 5; high = Number 9 } ∷ [])

abbrev taken_words : LevelWords
taken_words = record {
  end = 7 ∷ [];
  numbers = replicate 4 7;
  counters = 5 ∷ 9 ∷ replicate 7 0;
  values = replicate 4 0;
}

-- the lanes 1 and 2 are still to come
abbrev lanes_words : LevelWords
lanes_words = record {
  end = 6 ∷ [];
  numbers = replicate 4 6;
  counters = 6 ∷ replicate 8 0;
  values = 30 ∷ 20 ∷ 20 ∷ 10 ∷ [];
}

abbrev body_words : LevelWords
body_words = record { end = []; numbers = 9 ∷ 9 ∷ 8 ∷ 9 ∷ []; counters = []; values = [] }

-- a `foreach` in which a `foreach_active` stands
abbrev words : LevelsWords
words zero = body_words
words (suc zero) = taken_words
words (suc (suc level)) = lanes_words

kept_row : kept_in 4 row_form taken_words ≡ record { bounds = (pos 5, pos 9) ∷ []; left = grid 0 0 0; lanes = []; values = [] }
unfolding values.value_of
kept_row = refl

-- int32 words are signed
signed_row : (kept_in 4 row_form (record taken_words { counters = (2 ^ 64 - 3) ∷ 9 ∷ replicate 7 0 })).bounds ≡ (negsuc 2, pos 9) ∷ []
unfolding values.value_of
signed_row = refl

lanes_row : (form_level 4 (EachLane x) lanes_words).turns ≡ lane_turn x 4 1 ∷ lane_turn x 4 2 ∷ []
unfolding masks.lanes_of_word
lanes_row = refl

values_row : kept_in 4 (EachValue x (Read x)) lanes_words ≡ kept_lanes (false ∷ true ∷ true ∷ false ∷ []) (30 ∷ 20 ∷ 20 ∷ 10 ∷ [])
unfolding masks.lanes_of_word
values_row = refl

ends_row : map (λ level. level.end) (levels_in 4 words 9 (EachLane x ∷ row_form ∷ [])) ≡ 6 ∷ 7 ∷ 9 ∷ []
ends_row = refl

-- a form that is over counts for nothing, if it is the innermost one
over_row : closed (levels_in 4 words 9 (row_form ∷ [])) ≡ levels_in 4 words 9 []
over_row = refl

live_row : closed (levels_in 4 words 9 (EachLane x ∷ row_form ∷ [])) ≡ levels_in 4 words 9 (EachLane x ∷ row_form ∷ [])
unfolding masks.lanes_of_word
live_row = refl
