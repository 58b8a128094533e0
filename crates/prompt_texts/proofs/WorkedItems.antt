-- Items of values, and how they are written, computed.
use Rattle.std.proofs.Common.{◌≡◌, [], ◌∷◌, ◌++◌, true, false, refl}
use Rattle.std.specs.Prelude.{codes, replicate}
use Rattle.std.specs.Fmt.{digits}
use Rattle.gang_types.specs.Values.{value_of}
use Rattle.gang_types.specs.declared.types.IntType.TheVariants.{Bool, Int32, Uint8}
use Rattle.value_digits.specs.declared.digits.Digits.TheVariants.{Decimal, Hexadecimal}
use Rattle.prompt_texts.specs.declared.items.Standing.TheVariants.{Counts, Waits}
use Rattle.prompt_texts.specs.Items.{are_cut, element_item, groups, head_text, is_narrow, item_text, kept, lane_item, lane_items, placed, rows_text, runs}

runs_row : runs (5 ∷ 5 ∷ 7 ∷ 5 ∷ []) ≡ (5, 2) ∷ (7, 1) ∷ (5, 1) ∷ []
runs_row = refl

-- two equal words are told one by one where two are allowed
short_row : groups 2 (5 ∷ 5 ∷ 7 ∷ []) ≡ (5, 1) ∷ (5, 1) ∷ (7, 1) ∷ []
short_row = refl

-- and three are not
long_row : groups 2 (5 ∷ 5 ∷ 5 ∷ 7 ∷ []) ≡ (5, 3) ∷ (7, 1) ∷ []
long_row = refl

-- a run counts as two: of four elements that are told, two are left for others
kept_row : kept 2 4 ((5, 30) ∷ (7, 1) ∷ (8, 1) ∷ (9, 1) ∷ []) ≡ (5, 30) ∷ (7, 1) ∷ (8, 1) ∷ []
kept_row = refl

cut_row : are_cut 2 4 ((5, 30) ∷ (7, 1) ∷ (8, 1) ∷ (9, 1) ∷ []) ≡ true
cut_row = refl

whole_row : are_cut 2 5 ((5, 30) ∷ (7, 1) ∷ (8, 1) ∷ (9, 1) ∷ []) ≡ false
whole_row = refl

placed_row : placed 8 ((5, 30) ∷ (7, 1) ∷ []) ≡ element_item 8 (5, 30) ∷ element_item 38 (7, 1) ∷ []
placed_row = refl

-- the second of these lanes waits
lanes_row : lane_items (true ∷ false ∷ true ∷ []) 1 (8 ∷ 9 ∷ [])
    ≡ record { index = 1; word = 8; count = 1; standing = Waits } ∷ record { index = 2; word = 9; count = 1; standing = Counts } ∷ []
lanes_row = refl

folded_row : item_text Decimal Uint8 (element_item 8 (5, 30)) ≡ codes " 5 <repeats 30 times>"
unfolding digits value_of
folded_row = refl

waiting_row : item_text Hexadecimal Uint8 (lane_item (false ∷ []) 0 10) ≡ codes " (0xa)"
unfolding digits
waiting_row = refl

narrow_row : is_narrow Decimal Uint8 200 ≡ true
unfolding digits value_of
narrow_row = refl

bool_row : is_narrow Decimal Bool 1 ≡ false
bool_row = refl

-- the row's index is that of its first element, and not the row's number
head_row : head_text 8 16 30 ≡ codes "\n[30]"
unfolding digits
head_row = refl

within_row : head_text 8 17 30 ≡ []
within_row = refl

rows_row : rows_text Decimal Uint8 2 0 (element_item 4 (5, 20) ∷ element_item 24 (6, 1) ∷ element_item 25 (7, 1) ∷ []) ≡ codes "\n[4] 5 <repeats 20 times> 6\n[25] 7"
unfolding digits value_of
rows_row = refl
