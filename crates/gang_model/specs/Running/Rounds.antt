-- The rounds of the foreach forms: which lanes take part in each, and the words of its index variables
-- (ISPC User's Guide, "Parallel Iteration Statements"; the order of the rounds, and that a foreach takes in all lanes of the gang,
-- are a choice of this project).
use Rattle.std.specs.Prelude.{ℕ, zero, suc, ◌+◌, ◌-◌, ◌*◌, ◌/◌, ◌%◌, ◌==◌, ◌&&◌, Bool, true, false, List, [], ◌∷◌, map, length, take, drop, Option, Some, None, is_some, slice_get, flat_map, unwrap_or, ℤ, pos, negsuc, ◌+ℤ◌, ◌-ℤ◌, int_lt, Result, Ok, if◌then◌else◌}
use Rattle.gang_types.specs.declared.types.IntType.TheVariants as t
use Rattle.gang_types.specs.Values.{wrapped, value_of}
use Rattle.gang_types.specs.Lanes.{Lanes, lowest, lanes_from, lanes_where}
use Rattle.gang_model.specs.Running.Lanes.{Fault, ◌>>=◌, at, members}
use Rattle.gang_model.specs.Types.Tree.{Dimension, RoundsOf, Rows, Tiles, EachLane, EachValue}
use Rattle.gang_model.specs.Running.State.{State, Store}
use Rattle.gang_model.specs.Running.Value.{value}

-- a round: its lanes, and its index variables' words
pub record Turn : Type 0 where
  pub lanes : Lanes
  pub indices : Store

-- the numbers from low on, so many
abbrev pub up_from : ℤ → ℕ → List ℤ
up_from low zero = []
up_from low (suc n) = low ∷ up_from (low +ℤ pos 1) n

-- how far a difference goes up, 0 where it goes down
abbrev pub distance : ℤ → ℕ
distance (pos n) = n
distance (negsuc n) = 0

-- the numbers from k on, so many
abbrev pub counted : ℕ → ℕ → List ℕ
counted k zero = []
counted k (suc n) = k ∷ counted (suc k) n

-- the numbers from low up to high, without high
abbrev pub range : ℤ → ℤ → List ℤ
range low high = up_from low (distance (high -ℤ low))

-- every step-th number from low up to high
abbrev pub starts : ℕ → ℤ → ℤ → List ℤ
starts step low high = map (λ j. low +ℤ pos (j * step)) (counted 0 ((distance (high -ℤ low) + step - 1) / step))

-- the product of ranges, the last one running fastest
abbrev pub product : List (ℤ × ℤ) → List (List ℤ)
product [] = [] ∷ []
product (bounds ∷ rest) = flat_map (λ i. map (λ point. i ∷ point) (product rest)) (range bounds.0 bounds.1)

-- the index values that each lane takes, if it takes any
abbrev pub Slots : Type 0
Slots = List (Option (List ℤ))

-- the points taken by lanes in order, the lanes past the last point taking none
abbrev pub padded : ℕ → List (List ℤ) → Slots
padded zero points = []
padded (suc n) [] = None ∷ padded n []
padded (suc n) (p ∷ points) = Some p ∷ padded n points

-- the points in chunks of this size, the last one perhaps smaller
abbrev pub chunks : ℕ → List (List ℤ) → List (List (List ℤ))
chunks size points = map (λ j. take size (drop (j * size) points)) (counted 0 ((length points + size - 1) / size))

-- a lane's index values with a first one before them
abbrev pub after_index : ℤ → Option (List ℤ) → Option (List ℤ)
after_index i None = None
after_index i (Some point) = Some (i ∷ point)

-- row by row, each row in chunks of so many lanes
abbrev pub row_slots : ℕ → List (ℤ × ℤ) → List Slots
row_slots size [] = []
row_slots size (last ∷ []) = map (padded size) (chunks size (product (last ∷ [])))
row_slots size (bounds ∷ next ∷ rest) =
    flat_map (λ i. map (map (after_index i)) (row_slots size (next ∷ rest))) (range bounds.0 bounds.1)

-- how many rows a tile has: 2 by 2 places of 4 lanes, 2 by 4 of 8, 4 by 4 of 16
abbrev pub tile_rows : ℕ → ℕ
tile_rows size = if size == 16 then 4 else 2

-- how many columns a tile has
abbrev pub tile_columns : ℕ → ℕ
tile_columns size = if size == 4 then 2 else 4

-- a place of a tile, unless its row or column is at or past the bound
abbrev pub tile_slot : ℤ → ℤ → ℤ → ℤ → Option (List ℤ)
tile_slot row high_row column high_column =
    if int_lt row high_row && int_lt column high_column then Some (row ∷ column ∷ []) else None

-- the tile whose first corner is this one
abbrev pub tile : ℕ → ℤ → ℤ → ℤ → ℤ → Slots
tile size row high_row column high_column =
    map (λ k. tile_slot (row +ℤ pos (k / tile_columns size)) high_row (column +ℤ pos (k % tile_columns size)) high_column) (counted 0 size)

-- the last two dimensions by tiles, row by row of tiles; a first one of three one value at a time; one alone as rows
abbrev pub tile_slots : ℕ → List (ℤ × ℤ) → List Slots
tile_slots size [] = []
tile_slots size (one ∷ []) = row_slots size (one ∷ [])
tile_slots size (rows ∷ columns ∷ []) =
    flat_map (λ row. map (λ column. tile size row rows.1 column columns.1) (starts (tile_columns size) columns.0 columns.1)) (starts (tile_rows size) rows.0 rows.1)
tile_slots size (bounds ∷ next ∷ third ∷ rest) =
    flat_map (λ i. map (map (after_index i)) (tile_slots size (next ∷ third ∷ rest))) (range bounds.0 bounds.1)

-- the j-th index value of a lane as a word, 0 where the lane takes none
abbrev pub slot_word : ℕ → Option (List ℤ) → ℕ
slot_word j None = 0
slot_word j (Some point) = wrapped t.Int32 (unwrap_or (slice_get point j) (pos 0))

-- the words of the index variables from the j-th dimension on
abbrev pub index_words : ℕ → List Dimension → Slots → Store
index_words j [] slots = []
index_words j (d ∷ ds) slots = (d.index.id, map (slot_word j) slots) ∷ index_words (suc j) ds slots

-- the round of these index values
abbrev pub turn : List Dimension → Slots → Turn
turn ds slots = record { lanes = map is_some slots; indices = index_words 0 ds slots }

-- low and high of each dimension, in order
abbrev pub bounds_of : List Dimension → Lanes → State → Result (List (ℤ × ℤ)) Fault
bounds_of [] lanes state = Ok []
bounds_of (d ∷ ds) lanes state = do
  low ← value d.low lanes state
  high ← value d.high lanes state
  rest ← bounds_of ds lanes state
  Ok ((value_of t.Int32 (at low (lowest lanes)), value_of t.Int32 (at high (lowest lanes))) ∷ rest)

-- lane k alone
abbrev pub lone : ℕ → ℕ → Lanes
lone size k = lanes_from 0 size (λ j. j == k)

-- whether x is one of the values
abbrev pub listed : ℕ → List ℕ → Bool
listed x [] = false
listed x (y ∷ ys) = if x == y then true else listed x ys

-- the distinct values, in the order of their first places
abbrev pub distinct : List ℕ → List ℕ → List ℕ
distinct before [] = []
distinct before (x ∷ xs) = if listed x before then distinct before xs else x ∷ distinct (x ∷ before) xs

-- the rounds in order: of foreach and foreach_tiled over all lanes of the gang, of the other two over the lanes of the set
abbrev pub rounds : RoundsOf → Lanes → State → Result (List Turn) Fault
rounds (Rows ds) lanes state = do
  bounds ← bounds_of ds lanes state
  Ok (map (turn ds) (row_slots (length lanes) bounds))
rounds (Tiles ds) lanes state = do
  bounds ← bounds_of ds lanes state
  Ok (map (turn ds) (tile_slots (length lanes) bounds))
rounds (EachLane i) lanes state =
    Ok (map (λ k. record { lanes = lone (length lanes) k; indices = (i.id, k ∷ []) ∷ [] }) (members lanes))
rounds (EachValue v e) lanes state = do
  x ← value e lanes state
  Ok (map (λ w. record { lanes = lanes_where lanes (λ k. at x k == w); indices = (v.id, w ∷ []) ∷ [] }) (distinct [] (map (at x) (members lanes))))
