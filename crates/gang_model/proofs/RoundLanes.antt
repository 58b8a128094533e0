-- Each round of a foreach form has as many lanes as the gang.
use Rattle.std.proofs.Common.{◌≡◌, refl, ap, ◌∙◌, ℕ, zero, suc, List, [], ◌∷◌, length}
use Rattle.std.specs.Prelude.{IfOk, map, flat_map, is_some, ℤ}
use Rattle.std.proofs.lemmas.List.{length-map}
use Rattle.gang_types.specs.Lanes.{Lanes}
use Rattle.gang_types.specs.LaneLaws.{length-lanes_from, length-lanes_where}
use Rattle.gang_model.specs.Running.Lanes.{at, members}
use Rattle.gang_model.specs.Types.Tree.{Dimension, RoundsOf, Rows, Tiles, EachLane, EachValue}
use Rattle.gang_model.specs.Running.State.{State}
use Rattle.gang_model.specs.Running.Value.{value}
use Rattle.gang_model.specs.Running.Rounds.{Turn, Slots, range, starts, product, padded, chunks, after_index, row_slots, counted, tile, tile_rows, tile_columns, tile_slots, turn, bounds_of, distinct, rounds}
use Rattle.gang_model.proofs.LaneWords.{if_ok_after}
use Rattle.gang_model.proofs.StandingLaws.{Each, each_join}

-- ---- lists whose parts all have one property

pub each-map : {A B : Type 0} (P : B → Type 0) (f : A → B) → ((x : A) → P (f x)) → (xs : List A) → Each P (map f xs)
each-map P f h [] = tt
each-map P f h (x ∷ xs) = (h x, each-map P f h xs)

pub each-flat_map : {A B : Type 0} (P : B → Type 0) (f : A → List B) → ((x : A) → Each P (f x)) → (xs : List A) → Each P (flat_map f xs)
each-flat_map P f h [] = tt
each-flat_map P f h (x ∷ xs) = each_join P (f x) (flat_map f xs) (h x) (each-flat_map P f h xs)

-- what holds of each element holds of what a function makes of each
pub each-of : {A B : Type 0} (P : A → Type 0) (Q : B → Type 0) (f : A → B) → ((x : A) → P x → Q (f x)) → (xs : List A) → Each P xs → Each Q (map f xs)
each-of P Q f h [] k = tt
each-of P Q f h (x ∷ xs) k = (h x k.0, each-of P Q f h xs k.1)

-- ---- the index values of rounds

-- so many lanes take index values or none
abbrev HasSlots : ℕ → Slots → Type 0
HasSlots size slots = length slots ≡ size

length-padded : (size : ℕ) (points : List (List ℤ)) → HasSlots size (padded size points)
length-padded zero points = refl
length-padded (suc n) [] = ap suc (length-padded n [])
length-padded (suc n) (p ∷ points) = ap suc (length-padded n points)

length-counted : (k n : ℕ) → length (counted k n) ≡ n
length-counted k zero = refl
length-counted k (suc n) = ap suc (length-counted (suc k) n)

behind_index : (size : ℕ) (i : ℤ) (slots : Slots) → HasSlots size slots → HasSlots size (map (after_index i) slots)
behind_index size i slots h = length-map slots (after_index i) ∙ h

rows_filled : (size : ℕ) (bounds : List (ℤ × ℤ)) → Each (HasSlots size) (row_slots size bounds)
rows_filled size [] = tt
rows_filled size (last ∷ []) = each-map (HasSlots size) (padded size) (length-padded size) (chunks size (product (last ∷ [])))
rows_filled size (bounds ∷ next ∷ rest) =
    each-flat_map (HasSlots size) (λ i. map (map (after_index i)) (row_slots size (next ∷ rest)))
    (λ i. each-of (HasSlots size) (HasSlots size) (map (after_index i)) (behind_index size i) (row_slots size (next ∷ rest)) (rows_filled size (next ∷ rest)))
    (range bounds.0 bounds.1)

tile_filled : (size : ℕ) (row high_row column high_column : ℤ) → HasSlots size (tile size row high_row column high_column)
tile_filled size row high_row column high_column = length-map (counted 0 size) _ ∙ length-counted 0 size

tiles_filled : (size : ℕ) (bounds : List (ℤ × ℤ)) → Each (HasSlots size) (tile_slots size bounds)
tiles_filled size [] = tt
tiles_filled size (one ∷ []) = rows_filled size (one ∷ [])
tiles_filled size (rows ∷ columns ∷ []) =
    each-flat_map (HasSlots size) (λ row. map (λ column. tile size row rows.1 column columns.1) (starts (tile_columns size) columns.0 columns.1))
    (λ row. each-map (HasSlots size) (λ column. tile size row rows.1 column columns.1) (λ column. tile_filled size row rows.1 column columns.1) (starts (tile_columns size) columns.0 columns.1))
    (starts (tile_rows size) rows.0 rows.1)
tiles_filled size (bounds ∷ next ∷ third ∷ rest) =
    each-flat_map (HasSlots size) (λ i. map (map (after_index i)) (tile_slots size (next ∷ third ∷ rest)))
    (λ i. each-of (HasSlots size) (HasSlots size) (map (after_index i)) (behind_index size i) (tile_slots size (next ∷ third ∷ rest)) (tiles_filled size (next ∷ third ∷ rest)))
    (range bounds.0 bounds.1)

-- ---- rounds

-- a round has so many lanes
abbrev pub IsRoundOf : ℕ → Turn → Type 0
IsRoundOf size turn = length turn.lanes ≡ size

turns_filled : (size : ℕ) (ds : List Dimension) (rounds : List Slots) → Each (HasSlots size) rounds → Each (IsRoundOf size) (map (turn ds) rounds)
turns_filled size ds rounds h = each-of (HasSlots size) (IsRoundOf size) (turn ds) (λ slots k. length-map slots is_some ∙ k) rounds h

-- each round has a lane for each of the gang
pub length-rounds : (form : RoundsOf) (lanes : Lanes) (state : State) → IfOk (rounds form lanes state) (Each (IsRoundOf (length lanes)))
length-rounds (Rows ds) lanes state =
    if_ok_after _ (bounds_of ds lanes state) _ (λ bounds. turns_filled (length lanes) ds (row_slots (length lanes) bounds) (rows_filled (length lanes) bounds))
length-rounds (Tiles ds) lanes state =
    if_ok_after _ (bounds_of ds lanes state) _ (λ bounds. turns_filled (length lanes) ds (tile_slots (length lanes) bounds) (tiles_filled (length lanes) bounds))
length-rounds (EachLane i) lanes state = each-map (IsRoundOf (length lanes)) _ (λ k. length-lanes_from 0 (length lanes) _) (members lanes)
length-rounds (EachValue v e) lanes state =
    if_ok_after _ (value e lanes state) _ (λ x. each-map (IsRoundOf (length lanes)) _ (λ w. length-lanes_where lanes _) (distinct [] (map (at x) (members lanes))))
