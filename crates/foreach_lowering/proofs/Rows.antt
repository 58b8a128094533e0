-- Worked rows: the rounds of some forms by counters.
use Rattle.std.specs.Prelude.{◌≡◌, refl, true, false, ℕ, List, [], ◌∷◌, map, is_some, Some, None, ℤ, pos, negsuc}
use Rattle.gang_types.specs.Lanes.{Lanes}
use Rattle.gang_model.specs.Types.Tree.{Expr, EachLane, EachValue, Var, RoundsOf, Empty, Then, Break, ForEach}
use Rattle.foreach_lowering.specs.Grids.{Grid, grid, to_come, all_left, next}
use Rattle.foreach_lowering.specs.Domains.{row_grid, row_place, tile_grid, tile_place}
use Rattle.foreach_lowering.specs.Kept.{turns_left, kept_lanes}
use Rattle.foreach_lowering.specs.Forms.{forms_round}

-- the lanes of each round
abbrev lanes_by_rows : (width : ℕ) → List (ℤ × ℤ) → List Lanes
lanes_by_rows width bounds = map (map is_some) (to_come (row_place width bounds) (row_grid width bounds) (all_left (row_grid width bounds)))

abbrev lanes_by_tiles : (width : ℕ) → List (ℤ × ℤ) → List Lanes
lanes_by_tiles width bounds = map (map is_some) (to_come (tile_place width bounds) (tile_grid width bounds) (all_left (tile_grid width bounds)))

-- ---- tiles of 3 rows and 3 columns

abbrev three_by_three : List (ℤ × ℤ)
three_by_three = (pos 0, pos 3) ∷ (pos 0, pos 3) ∷ []

tiles_of_four : lanes_by_tiles 4 three_by_three
    ≡ (true ∷ true ∷ true ∷ true ∷ []) ∷ (true ∷ false ∷ true ∷ false ∷ []) ∷ (true ∷ true ∷ false ∷ false ∷ []) ∷ (true ∷ false ∷ false ∷ false ∷ []) ∷ []
tiles_of_four = refl

tiles_of_eight : lanes_by_tiles 8 three_by_three
    ≡ (true ∷ true ∷ true ∷ false ∷ true ∷ true ∷ true ∷ false ∷ []) ∷ (true ∷ true ∷ true ∷ false ∷ false ∷ false ∷ false ∷ false ∷ []) ∷ []
tiles_of_eight = refl

tiles_of_sixteen : lanes_by_tiles 16 three_by_three
    ≡ (true ∷ true ∷ true ∷ false ∷ true ∷ true ∷ true ∷ false ∷ true ∷ true ∷ true ∷ false ∷ false ∷ false ∷ false ∷ false ∷ []) ∷ []
tiles_of_sixteen = refl

-- the second tile is that of the columns from 2 on
second_tile : tile_place 4 three_by_three (grid 0 0 1) ≡ Some (pos 0 ∷ pos 2 ∷ []) ∷ None ∷ Some (pos 1 ∷ pos 2 ∷ []) ∷ None ∷ []
second_tile = refl

-- ---- rows

-- each row has chunks of its own, and the last one leaves lanes out
rows_of_five : lanes_by_rows 4 ((pos 0, pos 2) ∷ (pos 0, pos 5) ∷ [])
    ≡ (true ∷ true ∷ true ∷ true ∷ []) ∷ (true ∷ false ∷ false ∷ false ∷ []) ∷ (true ∷ true ∷ true ∷ true ∷ []) ∷ (true ∷ false ∷ false ∷ false ∷ []) ∷ []
rows_of_five = refl

-- a last index 2147483647
last_index : row_place 4 ((pos 2147483645, pos 2147483648) ∷ []) (grid 0 0 0)
    ≡ Some (pos 2147483645 ∷ []) ∷ Some (pos 2147483646 ∷ []) ∷ Some (pos 2147483647 ∷ []) ∷ None ∷ []
last_index = refl

-- nothing is left of a domain without indices, in whichever dimension
nothing_in_one : all_left (row_grid 4 ((pos 0, pos 0) ∷ [])) ≡ grid 0 0 0
nothing_in_one = refl

nothing_goes_down : all_left (row_grid 4 ((pos 3, pos 1) ∷ [])) ≡ grid 0 0 0
nothing_goes_down = refl

nothing_in_the_first : all_left (row_grid 4 ((pos 3, pos 1) ∷ (pos 0, pos 5) ∷ (pos 0, pos 5) ∷ [])) ≡ grid 0 0 0
nothing_in_the_first = refl

nothing_in_the_second : all_left (tile_grid 8 ((pos 0, pos 5) ∷ (pos 0, pos 0) ∷ (pos 0, pos 5) ∷ [])) ≡ grid 0 0 0
nothing_in_the_second = refl

nothing_in_the_third : all_left (row_grid 16 ((pos 0, pos 5) ∷ (pos 0, pos 5) ∷ (pos 3, pos 1) ∷ [])) ≡ grid 0 0 0
nothing_in_the_third = refl

-- ---- 2^31 indices in each of three dimensions: 2^91 rounds

abbrev most : ℤ × ℤ
most = (negsuc 0, pos 2147483647)

abbrev most_grid : Grid
most_grid = row_grid 4 (most ∷ most ∷ most ∷ [])

most_counted : most_grid ≡ grid 2147483648 2147483648 536870912
most_counted = refl

first_of_most : next most_grid (all_left most_grid) ≡ Some (record { place = grid 0 0 0; left = grid 2147483647 2147483647 536870911 })
first_of_most = refl

second_of_most : next most_grid (grid 2147483647 2147483647 536870911) ≡ Some (record { place = grid 0 0 1; left = grid 2147483647 2147483647 536870910 })
second_of_most = refl

last_of_most : next most_grid (grid 0 0 1) ≡ Some (record { place = grid 2147483647 2147483647 536870911; left = grid 0 0 0 })
last_of_most = refl

none_after_most : next most_grid (grid 0 0 0) ≡ None
none_after_most = refl

last_place_of_most : row_place 4 (most ∷ most ∷ most ∷ []) (grid 2147483647 2147483647 536870911)
    ≡ Some (pos 2147483646 ∷ pos 2147483646 ∷ pos 2147483643 ∷ []) ∷ Some (pos 2147483646 ∷ pos 2147483646 ∷ pos 2147483644 ∷ [])
    ∷ Some (pos 2147483646 ∷ pos 2147483646 ∷ pos 2147483645 ∷ []) ∷ Some (pos 2147483646 ∷ pos 2147483646 ∷ pos 2147483646 ∷ []) ∷ []
last_place_of_most = refl

-- ---- lanes and values

module _ (v : Var) (e : Expr) where
  -- each active lane alone, in ascending order
  each_lane : map (λ turn. turn.lanes) (turns_left (EachLane v) 4 (kept_lanes (false ∷ true ∷ false ∷ true ∷ []) []))
      ≡ (false ∷ true ∷ false ∷ false ∷ []) ∷ (false ∷ false ∷ false ∷ true ∷ []) ∷ []
  each_lane = refl

  -- one value in all lanes
  one_value : map (λ turn. turn.lanes) (turns_left (EachValue v e) 4 (kept_lanes (true ∷ true ∷ true ∷ true ∷ []) (7 ∷ 7 ∷ 7 ∷ 7 ∷ []))) ≡ (true ∷ true ∷ true ∷ true ∷ []) ∷ []
  one_value = refl

  -- a value of its own in each lane
  four_values : map (λ turn. turn.lanes) (turns_left (EachValue v e) 4 (kept_lanes (true ∷ true ∷ true ∷ true ∷ []) (4 ∷ 3 ∷ 2 ∷ 1 ∷ [])))
      ≡ (true ∷ false ∷ false ∷ false ∷ []) ∷ (false ∷ true ∷ false ∷ false ∷ []) ∷ (false ∷ false ∷ true ∷ false ∷ []) ∷ (false ∷ false ∷ false ∷ true ∷ []) ∷ []
  four_values = refl

  -- the values of lanes that are not active do not count
  active_values : map (λ turn. turn.lanes) (turns_left (EachValue v e) 4 (kept_lanes (false ∷ true ∷ true ∷ true ∷ []) (5 ∷ 7 ∷ 5 ∷ 7 ∷ [])))
      ≡ (false ∷ true ∷ false ∷ true ∷ []) ∷ (false ∷ false ∷ true ∷ false ∷ []) ∷ []
  active_values = refl

  no_values : map (λ turn. turn.lanes) (turns_left (EachValue v e) 4 (kept_lanes (false ∷ false ∷ false ∷ false ∷ []) (5 ∷ 5 ∷ 5 ∷ 5 ∷ []))) ≡ []
  no_values = refl

-- ---- forms in one another

-- one form in another, and a third one behind them
module _ (outer inner later : RoundsOf) where
  nested : forms_round [] (Then (ForEach 0 outer (ForEach 1 inner (Break 2))) (ForEach 5 later Empty))
      ≡ [] ∷ (outer ∷ []) ∷ (inner ∷ outer ∷ []) ∷ (inner ∷ outer ∷ []) ∷ (outer ∷ []) ∷ [] ∷ (later ∷ []) ∷ []
  nested = refl
