-- In each round of a foreach form a lane takes part: so all rounds are taken.
use Rattle.std.proofs.Common.{◌≡◌, refl, sym, ap, ap₂, ◌∙◌, ℕ, zero, suc, ◌+◌, ◌*◌, ◌/◌, ◌%◌, ◌<◌, Bool, true, false, ℤ, List, [], ◌∷◌, map, length, inl, inr, flat_map, Option, Some, None, is_some, arith}
use Rattle.std.specs.Prelude.{not, ◌==◌, ◌&&◌, if◌then◌else◌}
use Rattle.std.proofs.Math.Nat.{zero-div, zero-mod}
use Rattle.std.proofs.lemmas.Bool.{lt-ltb, eq-eqb, cases_lt, true≢false}
use Rattle.gang_types.specs.Lanes.{Lanes, has, no_lane, lanes_from, lanes_where}
use Rattle.gang_types.specs.LaneLaws.{some_lane, has-lanes_from, has-lanes_where, has_past}
use Rattle.gang_model.specs.Running.Lanes.{at, members, members_from}
use Rattle.gang_model.specs.Running.Rounds.{Turn, Slots, counted, tile_rows, tile_columns, turn, listed, distinct}
use Rattle.gang_model.specs.Types.Tree.{Dimension, Var}
use Rattle.gang_model.proofs.StandingLaws.{Each, each_join}
use Rattle.gang_model.proofs.RoundLanes.{each-of}
use Rattle.mask_states.specs.Masked.{turns_taken}
use Rattle.foreach_lowering.specs.Grids.{Grid, grid, in_order}
use Rattle.foreach_lowering.specs.Domains.{count_of, parts_of, index_of, nth_of, behind, corner, row_grid, row_slot, row_place, tile_grid, in_tile, tiled_slot, tile_place}
use Rattle.foreach_lowering.specs.Kept.{lane_turn, value_turn}
use Rattle.foreach_lowering.proofs.BelowBounds.{part_begins}

-- a lane takes part
abbrev pub HasLane : Turn → Type 0
HasLane turn = no_lane turn.lanes ≡ false

pub all_taken : (turns : List Turn) → Each HasLane turns → turns_taken turns ≡ turns
all_taken [] h = refl
all_taken (turn ∷ turns) h =
    ap (λ b. if not b then turn ∷ turns_taken turns else turns_taken turns) h.0 ∙ ap (λ ts. turn ∷ ts) (all_taken turns h.1)

-- ---- places of a grid

-- a place is one of a grid
pub record IsPlace (all place : Grid) : Type 0 where
  pub lead : place.leads < all.leads
  pub row : place.rows < all.rows
  pub column : place.columns < all.columns

each_counted : {A : Type 0} (P : A → Type 0) (f : ℕ → A) (k n : ℕ) → ((i : ℕ) → i < k + n → P (f i)) → Each P (map f (counted k n))
each_counted P f k zero h = tt
each_counted P f k (suc n) h = (h k (omega arith), each_counted P f (suc k) n (λ i within. h i (omega (arith, within))))

each_joined : {A : Type 0} (P : A → Type 0) (f : ℕ → List A) (k n : ℕ) → ((i : ℕ) → i < k + n → Each P (f i)) → Each P (flat_map f (counted k n))
each_joined P f k zero h = tt
each_joined P f k (suc n) h =
    each_join P (f k) (flat_map f (counted (suc k) n)) (h k (omega arith)) (each_joined P f (suc k) n (λ i within. h i (omega (arith, within))))

-- what holds at each place of a grid holds of each element of the list of its places
pub each_place : {A : Type 0} (P : A → Type 0) (f : Grid → A) (all : Grid) → ((place : Grid) → IsPlace all place → P (f place)) → Each P (in_order f all)
each_place P f all h =
    each_joined P (λ lead. flat_map (λ row. map (λ column. f (grid lead row column)) (counted 0 all.columns)) (counted 0 all.rows)) 0 all.leads
    (λ lead l. each_joined P (λ row. map (λ column. f (grid lead row column)) (counted 0 all.columns)) 0 all.rows
    (λ row r. each_counted P (λ column. f (grid lead row column)) 0 all.columns
    (λ column c. h (grid lead row column) (record { lead = omega (arith, l); row = omega (arith, r); column = omega (arith, c) }))))

-- ---- the first lane takes part at each place

takes_nth : (bounds : ℤ × ℤ) (n : ℕ) → n < count_of bounds → is_some (nth_of bounds n) ≡ true
takes_nth bounds n within = ap (λ b. is_some (if b then Some (index_of bounds n ∷ []) else None)) (lt-ltb n (count_of bounds) within)

takes_behind : (bounds : ℤ × ℤ) (n : ℕ) (slot : Option (List ℤ)) → is_some slot ≡ true → is_some (behind bounds n slot) ≡ true
takes_behind bounds n None e = e
takes_behind bounds n (Some values) e = refl

takes_corner : (row column : Option (List ℤ)) → is_some row ≡ true → is_some column ≡ true → is_some (corner row column) ≡ true
takes_corner None column e h = e
takes_corner (Some row) None e h = h
takes_corner (Some row) (Some column) e h = refl

-- the first lane of a part
takes_first_of : (size : ℕ) (bounds : ℤ × ℤ) (n k : ℕ) → 0 < size → n < parts_of size (count_of bounds) → k ≡ 0 → is_some (nth_of bounds (n * size + k)) ≡ true
takes_first_of size bounds n k some within e =
    let begins : n * size < count_of bounds = part_begins size (count_of bounds) n some within in takes_nth bounds (n * size + k) (omega (arith, begins, e))

rows_some : (size : ℕ) → 0 < tile_rows size
rows_some size = by (size == 16)
  where
    by : (b : Bool) → 0 < (if b then 4 else 2)
    by true = omega arith
    by false = omega arith

columns_some : (size : ℕ) → 0 < tile_columns size
columns_some size = by (size == 4)
  where
    by : (b : Bool) → 0 < (if b then 2 else 4)
    by true = omega arith
    by false = omega arith

takes_tile : (size : ℕ) (a b : ℤ × ℤ) (place : Grid) → place.rows < parts_of (tile_rows size) (count_of a) → place.columns < parts_of (tile_columns size) (count_of b)
    → is_some (in_tile size a b place 0) ≡ true
takes_tile size a b place row column =
    takes_corner (nth_of a (place.rows * tile_rows size + 0 / tile_columns size)) (nth_of b (place.columns * tile_columns size + 0 % tile_columns size))
    (takes_first_of (tile_rows size) a place.rows (0 / tile_columns size) (rows_some size) row (zero-div (tile_columns size)))
    (takes_first_of (tile_columns size) b place.columns (0 % tile_columns size) (columns_some size) column (zero-mod (tile_columns size)))

row_taken : (size : ℕ) (bounds : List (ℤ × ℤ)) (place : Grid) → 0 < size → IsPlace (row_grid size bounds) place → is_some (row_slot size bounds place 0) ≡ true
row_taken size [] place some is = absurd (omega (arith, is.lead))
row_taken size (a ∷ []) place some is = takes_first_of size a place.columns 0 some is.column refl
row_taken size (a ∷ b ∷ []) place some is = takes_behind a place.rows (nth_of b (place.columns * size + 0)) (takes_first_of size b place.columns 0 some is.column refl)
row_taken size (a ∷ b ∷ c ∷ more) place some is =
    takes_behind a place.leads (behind b place.rows (nth_of c (place.columns * size + 0)))
    (takes_behind b place.rows (nth_of c (place.columns * size + 0)) (takes_first_of size c place.columns 0 some is.column refl))

tile_taken : (size : ℕ) (bounds : List (ℤ × ℤ)) (place : Grid) → 0 < size → IsPlace (tile_grid size bounds) place → is_some (tiled_slot size bounds place 0) ≡ true
tile_taken size [] place some is = absurd (omega (arith, is.lead))
tile_taken size (a ∷ []) place some is = row_taken size (a ∷ []) place some is
tile_taken size (a ∷ b ∷ []) place some is = takes_tile size a b place is.row is.column
tile_taken size (a ∷ b ∷ c ∷ more) place some is = takes_behind a place.leads (in_tile size b c place 0) (takes_tile size b c place is.row is.column)

-- lanes of which the first takes part
first_in : (size : ℕ) (slot : ℕ → Option (List ℤ)) → 0 < size → is_some (slot 0) ≡ true → no_lane (map is_some (map slot (counted 0 size))) ≡ false
first_in zero slot some e = absurd (omega (arith, some))
first_in (suc n) slot some e = ap (λ b. not b && no_lane (map is_some (map slot (counted 1 n)))) e

pub row_has_lane : (ds : List Dimension) (size : ℕ) (bounds : List (ℤ × ℤ)) (place : Grid) → 0 < size → IsPlace (row_grid size bounds) place → HasLane (turn ds (row_place size bounds place))
row_has_lane ds size bounds place some is = first_in size (row_slot size bounds place) some (row_taken size bounds place some is)

pub tile_has_lane : (ds : List Dimension) (size : ℕ) (bounds : List (ℤ × ℤ)) (place : Grid) → 0 < size → IsPlace (tile_grid size bounds) place → HasLane (turn ds (tile_place size bounds place))
tile_has_lane ds size bounds place some is = first_in size (tiled_slot size bounds place) some (tile_taken size bounds place some is)

-- the rounds of the places of a grid
pub rounds_have_lanes : (ds : List Dimension) (f : Grid → Slots) (all : Grid) → ((place : Grid) → IsPlace all place → HasLane (turn ds (f place))) → Each HasLane (map (turn ds) (in_order f all))
rounds_have_lanes ds f all h =
    each-of (λ slots. HasLane (turn ds slots)) HasLane (turn ds) (λ slots k. k) (in_order f all) (each_place (λ slots. HasLane (turn ds slots)) f all h)

-- ---- lanes and values

-- the members of a set are lanes of it
members_are : (k : ℕ) (whole lanes : Lanes) → ((i : ℕ) → has whole (k + i) ≡ has lanes i) → Each (λ j. has whole j ≡ true) (members_from k lanes)
members_are k whole [] h = tt
members_are k whole (b ∷ lanes) h =
    by b refl (members_are (suc k) whole lanes (λ i. let e : suc k + i ≡ k + suc i = omega arith in ap (has whole) e ∙ h (suc i)))
  where
    by : (c : Bool) → b ≡ c → Each (λ j. has whole j ≡ true) (members_from (suc k) lanes) → Each (λ j. has whole j ≡ true) (if c then k ∷ members_from (suc k) lanes else members_from (suc k) lanes)
    by true e more = (let s : k ≡ k + 0 = omega arith in ap (has whole) s ∙ h 0 ∙ e, more)
    by false e more = more

pub members_have : (lanes : Lanes) → Each (λ j. has lanes j ≡ true) (members lanes)
members_have lanes = members_are 0 lanes lanes (λ i. let e : 0 + i ≡ i = omega arith in ap (has lanes) e)

pub lane_has_lane : (i : Var) (lanes : Lanes) (k : ℕ) → has lanes k ≡ true → HasLane (lane_turn i (length lanes) k)
lane_has_lane i lanes k e =
    some_lane (lanes_from 0 (length lanes) (λ j. j == k)) k
    (has-lanes_from 0 (length lanes) (λ j. j == k) k (below lanes k e) ∙ eq-eqb (0 + k) k (omega arith))
  where
    below : (lanes : Lanes) (k : ℕ) → has lanes k ≡ true → k < length lanes
    below lanes k e = elim (cases_lt k (length lanes)) [
      | inl within ↦ within
      | inr past ↦ absurd (true≢false (sym e ∙ has_past lanes k past))
    ]

pub lanes_have_lanes : (i : Var) (lanes : Lanes) → Each HasLane (map (lane_turn i (length lanes)) (members lanes))
lanes_have_lanes i lanes = each-of (λ k. has lanes k ≡ true) HasLane (lane_turn i (length lanes)) (lane_has_lane i lanes) (members lanes) (members_have lanes)

each_distinct : (P : ℕ → Type 0) (before xs : List ℕ) → Each P xs → Each P (distinct before xs)
each_distinct P before [] h = tt
each_distinct P before (x ∷ xs) h = by (listed x before) (each_distinct P before xs h.1) (each_distinct P (x ∷ before) xs h.1)
  where
    by : (b : Bool) → Each P (distinct before xs) → Each P (distinct (x ∷ before) xs) → Each P (if b then distinct before xs else x ∷ distinct (x ∷ before) xs)
    by true p q = p
    by false p q = (h.0, q)

pub value_has_lane : (v : Var) (lanes : Lanes) (values : List ℕ) (k : ℕ) → has lanes k ≡ true → HasLane (value_turn v lanes values (at values k))
value_has_lane v lanes values k e =
    some_lane (lanes_where lanes (λ j. at values j == at values k)) k
    (has-lanes_where lanes (λ j. at values j == at values k) k ∙ ap₂ (λ a b. a && b) e (eq-eqb (at values k) (at values k) refl))

pub values_have_lanes : (v : Var) (lanes : Lanes) (values : List ℕ) → Each HasLane (map (value_turn v lanes values) (distinct [] (map (at values) (members lanes))))
values_have_lanes v lanes values =
    each-of (λ w. HasLane (value_turn v lanes values w)) HasLane (value_turn v lanes values) (λ w h. h) (distinct [] (map (at values) (members lanes)))
    (each_distinct (λ w. HasLane (value_turn v lanes values w)) [] (map (at values) (members lanes))
    (each-of (λ k. has lanes k ≡ true) (λ w. HasLane (value_turn v lanes values w)) (at values) (value_has_lane v lanes values) (members lanes) (members_have lanes)))
