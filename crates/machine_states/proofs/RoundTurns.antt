-- A round that is taken: a lane takes part in it, and its words of the index variables are those that its lanes declare.
use Rattle.std.proofs.Common.{◌≡◌, refl, sym, ap, ◌∙◌, subst, ℕ, zero, suc, ◌+◌, ◌-◌, ◌<◌, ◌⊎◌, inl, inr, false, List, [], ◌∷◌, map, length, arith}
use Rattle.std.specs.Prelude.{All, is_some, replicate, zip, Some, None}
use Rattle.std.proofs.lemmas.List.Elements.{All-head, All-tail}
use Rattle.gang_types.specs.declared.types.Rate.TheVariants.{Uniform, Varying}
use Rattle.gang_types.specs.Lanes.{Lanes, no_lane, lowest}
use Rattle.gang_types.specs.LaneLaws.{lowest-lt}
use Rattle.gang_model.specs.Running.Lanes.{at, each, members, words_from}
use Rattle.gang_model.specs.Running.Rounds.{Turn, Slots, distinct, slot_word, index_words, turn}
use Rattle.gang_model.specs.Running.State.{Store, declared_words}
use Rattle.gang_model.specs.Types.Tree.{Var, Dimension, RoundsOf, Rows, Tiles, EachLane, EachValue}
use Rattle.gang_model.proofs.StandingLaws.{Each}
use Rattle.foreach_lowering.specs.declared.rounds.Indices.{Indices}
use Rattle.foreach_lowering.specs.declared.rounds.Indices.TheVariants as words
use Rattle.foreach_lowering.specs.DomainViews.{stored}
use Rattle.foreach_lowering.specs.Domains.{row_grid, row_place, tile_grid, tile_place}
use Rattle.foreach_lowering.specs.Grids.{Grid, grid, to_come, IsLeft}
use Rattle.foreach_lowering.specs.Kept.{Kept, Takes, lane_turn, value_turn}
use Rattle.foreach_lowering.specs.Law.{IsKept}
use Rattle.foreach_lowering.specs.RoundViews.{index_store}
use Rattle.foreach_lowering.proofs.Grids.{takes_first}
use Rattle.foreach_lowering.proofs.TakenRounds.{HasLane, IsPlace, row_has_lane, tile_has_lane, lanes_have_lanes, values_have_lanes}
use Rattle.machine_states.specs.Variables.{Variables}
use Rattle.machine_states.specs.WellScoped.{DimensionWellScoped, FormWellScoped}
use Rattle.machine_states.specs.Rounds.{indices_of, round_indices, declared_store}
use Rattle.machine_states.proofs.DeclaredLists.{same_first}

-- ---- a lane takes part

-- there are rows and columns, where something is left
has_places : (left : Grid) (rows columns : ℕ) → (left ≡ grid 0 0 0) ⊎ ((0 < rows) × (0 < columns)) → 0 < left.leads + left.rows + left.columns → (0 < rows) × (0 < columns)
has_places left rows columns (inl e) h = absurd (omega (arith, h, ap (λ g. g.leads + g.rows + g.columns) e))
has_places left rows columns (inr both) h = both

-- the first of the places that are to come is one of the grid
module _ (f : Grid → Slots) (g : Slots → Turn) (first : Turn) (more : List Turn) where
  abbrev IsFirst : Grid → Type 0
  IsFirst all = (place : Grid) × IsPlace all place × (g (f place) ≡ first)

  first_at : (all place : Grid) (places later : List Slots) → places ≡ f place ∷ later → IsPlace all place → map g places ≡ first ∷ more → IsFirst all
  first_at all place places later e is taken = (place, is, same (g (f place)) (map g later) (sym (ap (map g) e) ∙ taken))
    where
      same : (x : Turn) (xs : List Turn) → x ∷ xs ≡ first ∷ more → x ≡ first
      same x xs h = cc

  first_place : (leads rows columns l r c : ℕ) → IsLeft (grid leads rows columns) (grid l r c) → map g (to_come f (grid leads rows columns) (grid l r c)) ≡ first ∷ more → IsFirst (grid leads rows columns)
  first_place leads rows columns l r (suc c) left taken =
      let lead : l < leads = left.lead (omega arith) in
      let row : r < rows = left.row (omega arith) in
      let column : suc c < suc columns = omega (arith, left.columns) in
      first_at (grid leads rows columns) (grid (leads - suc l) (rows - suc r) (columns - suc c)) _ _ (takes_first f leads rows columns l r (suc c) left).0
      (record { lead = omega (arith, lead); row = omega (arith, row); column = omega (arith, column) }) taken
  first_place leads rows columns l (suc r) zero left taken =
      let lead : l < leads = left.lead (omega arith) in
      let some = has_places (grid l (suc r) 0) rows columns left.some (omega arith) in
      first_at (grid leads rows columns) (grid (leads - suc l) (rows - suc r) 0) _ _ (takes_first f leads rows columns l (suc r) 0 left).0
      (record { lead = omega (arith, lead); row = omega (arith, some.0); column = some.1 }) taken
  first_place leads rows columns (suc l) zero zero left taken =
      let some = has_places (grid (suc l) 0 0) rows columns left.some (omega arith) in
      let lead : suc l < suc leads = omega (arith, left.leads) in
      first_at (grid leads rows columns) (grid (leads - suc l) 0 0) _ _ (takes_first f leads rows columns (suc l) 0 0 left).0
      (record { lead = omega (arith, lead); row = some.0; column = some.1 }) taken
  first_place leads rows columns zero zero zero left taken = absurd (none (sym (ap (map g) (takes_first f leads rows columns 0 0 0 left)) ∙ taken))
    where
      none : [] ≡ first ∷ more → ⊥
      none e = cc

module _ (width : ℕ) (some : 0 < width) (kept after : Kept) (first : Turn) where
  first_each : (P : Turn → Type 0) (turns more : List Turn) → turns ≡ first ∷ more → Each P turns → P first
  first_each P turns more e each = (subst (Each P) e each).0

  -- some lane takes part in a round that is taken
  pub takes_lane : (form : RoundsOf) → IsKept form width kept → Takes form width kept first after → no_lane first.lanes ≡ false
  takes_lane (Rows ds) is takes =
      let all = row_grid width kept.bounds in
      let at = first_place (row_place width kept.bounds) (turn ds) first _ all.leads all.rows all.columns kept.left.leads kept.left.rows kept.left.columns is.1 takes in
      subst HasLane at.2 (row_has_lane ds width kept.bounds at.0 some at.1)
  takes_lane (Tiles ds) is takes =
      let all = tile_grid width kept.bounds in
      let at = first_place (tile_place width kept.bounds) (turn ds) first _ all.leads all.rows all.columns kept.left.leads kept.left.rows kept.left.columns is.1 takes in
      subst HasLane at.2 (tile_has_lane ds width kept.bounds at.0 some at.1)
  takes_lane (EachLane i) is takes =
      first_each HasLane (map (lane_turn i width) (members kept.lanes)) _ takes
      (subst (λ w. Each HasLane (map (lane_turn i w) (members kept.lanes))) is (lanes_have_lanes i kept.lanes))
  takes_lane (EachValue v e) is takes =
      first_each HasLane (map (value_turn v kept.lanes kept.values) (distinct [] (map (at kept.values) (members kept.lanes)))) _ takes (values_have_lanes v kept.lanes kept.values)

-- ---- its lanes declare the index variables

-- the words of lanes by their slots are 0 where a lane takes none
slots_each : (j m : ℕ) (slots : Slots) (f : ℕ → ℕ) → ((i : ℕ) → i < length slots → f (m + i) ≡ at (map (slot_word j) slots) i) → words_from m (map is_some slots) f ≡ map (slot_word j) slots
slots_each j m [] f h = refl
slots_each j m (None ∷ slots) f h = ap (λ ws. 0 ∷ ws) (slots_each j (suc m) slots f (λ i within. ap f (omega arith) ∙ h (suc i) (omega (arith, within))))
slots_each j m (Some values ∷ slots) f h =
    ap (λ x. x ∷ words_from (suc m) (map is_some slots) f) (ap f (omega arith) ∙ h 0 (omega arith))
    ∙ ap (λ ws. slot_word j (Some values) ∷ ws) (slots_each j (suc m) slots f (λ i within. ap f (omega arith) ∙ h (suc i) (omega (arith, within))))

abbrev first_words : Store → List ℕ
first_words [] = []
first_words (entry ∷ store) = entry.1

abbrev later_words : Store → Store
later_words [] = []
later_words (entry ∷ store) = store

-- varying variables whose words are those of the slots
module _ (slots : Slots) (lanes : Lanes) (are : lanes ≡ map is_some slots) where
  declared_varying : (j : ℕ) (x : Var) (ws : List ℕ) → x.rate ≡ Varying → ws ≡ map (slot_word j) slots → declared_words x.rate lanes ws ≡ ws
  declared_varying j x ws rate is =
      ap (λ r. declared_words r lanes ws) rate ∙ ap (λ ls. each ls (λ k. at ws k)) are
      ∙ slots_each j 0 slots (λ k. at ws k) (λ i within. ap (at ws) (omega arith) ∙ ap (λ vs. at vs i) is) ∙ sym is

  stored_declared : (j : ℕ) (ds : List Dimension) (lists : List (List ℕ)) → All (λ d. d.index.rate ≡ Varying) ds → index_words j ds slots ≡ stored ds lists
      → stored ds lists ≡ declared_store lanes (zip (map (λ d. d.index) ds) lists)
  stored_declared j [] lists varying e = refl
  stored_declared j (d ∷ ds) [] varying e = absurd (none (sym e))
    where
      none : [] ≡ (d.index.id, map (slot_word j) slots) ∷ index_words (suc j) ds slots → ⊥
      none e = cc
  stored_declared j (d ∷ ds) (ws ∷ lists) varying e =
      ap (λ vs. (d.index.id, vs) ∷ stored ds lists) (sym (declared_varying j d.index ws (All-head (λ d. d.index.rate ≡ Varying) d ds varying) (sym (ap first_words e))))
      ∙ ap (λ more. (d.index.id, declared_words d.index.rate lanes ws) ∷ more)
      (stored_declared (suc j) ds lists (All-tail (λ d. d.index.rate ≡ Varying) d ds varying) (ap later_words e))

pub all_varying : (variables : Variables) (n : ℕ) (ds : List Dimension) → All (DimensionWellScoped variables n) ds → All (λ d. d.index.rate ≡ Varying) ds
all_varying variables n ds all = λ k d within. (all k d within).1

-- a uniform variable
at_replicate : (word n k : ℕ) → k < n → at (replicate n word) k ≡ word
at_replicate word zero k within = absurd (omega (arith, within))
at_replicate word (suc n) zero within = refl
at_replicate word (suc n) (suc k) within = at_replicate word n k (omega (arith, within))

declared_uniform : (lanes : Lanes) (width : ℕ) (x : Var) (word : ℕ) → x.rate ≡ Uniform → no_lane lanes ≡ false → length lanes ≡ width
    → (x.id, word ∷ []) ∷ [] ≡ declared_store lanes (round_indices width (x ∷ []) (words.Uniform word))
declared_uniform lanes width x word rate some long =
    sym (ap (λ ws. (x.id, ws) ∷ []) (ap (λ r. declared_words r lanes (replicate width word)) rate ∙ ap (λ w. w ∷ []) (at_replicate word width (lowest lanes) (omega (arith, lowest-lt lanes some, long)))))

first_mapped : {A B : Type 0} (g : A → B) (xs : List A) (y : B) (ys : List B) → map g xs ≡ y ∷ ys → (x : A) × (g x ≡ y)
first_mapped g [] y ys e = absurd cc
first_mapped g (x ∷ xs) y ys e = (x, same_first (g x) y (map g xs) ys e)

module _ (variables : Variables) (n width : ℕ) (some : 0 < width) (kept after : Kept) (lanes : Lanes) (long : length lanes ≡ width) (indices : Indices width) where
  abbrev taken : RoundsOf → Turn
  taken form = record { lanes = lanes; indices = index_store width form indices }

  by_slots : (ds : List Dimension) (slots : Slots) → All (DimensionWellScoped variables n) ds → turn ds slots ≡ record { lanes = lanes; indices = index_store width (Rows ds) indices }
      → index_store width (Rows ds) indices ≡ declared_store lanes (round_indices width (map (λ d. d.index) ds) indices)
  by_slots ds slots all e = by_indices indices (ap (λ t. t.indices) e)
    where
      by_indices : (indices : Indices width) → index_words 0 ds slots ≡ index_store width (Rows ds) indices → index_store width (Rows ds) indices ≡ declared_store lanes (round_indices width (map (λ d. d.index) ds) indices)
      by_indices (words.Varying lists) h = stored_declared slots lanes (sym (ap (λ t. t.lanes) e)) 0 ds lists (all_varying variables n ds all) h
      by_indices (words.Uniform word) h = none ds h
        where
          none : (ds : List Dimension) → index_words 0 ds slots ≡ [] → [] ≡ declared_store lanes (round_indices width (map (λ d. d.index) ds) (words.Uniform word))
          none [] h = refl
          none (d ∷ ds) h = absurd cc

  -- the words of the index variables are those that the lanes declare
  pub takes_indices : (form : RoundsOf) → FormWellScoped variables n form → IsKept form width kept → Takes form width kept (record { lanes = lanes; indices = index_store width form indices }) after
      → index_store width form indices ≡ declared_store lanes (round_indices width (indices_of form) indices)
  takes_indices (Rows ds) well_scoped is takes = let at = first_mapped (turn ds) _ _ _ takes in by_slots ds at.0 well_scoped.1 at.1
  takes_indices (Tiles ds) well_scoped is takes = let at = first_mapped (turn ds) _ _ _ takes in by_slots ds at.0 well_scoped.1 at.1
  takes_indices (EachLane i) well_scoped is takes =
      let first = first_mapped (lane_turn i width) _ _ _ takes in
      by_indices first.0 indices (ap (λ t. t.indices) first.1) (takes_lane width some kept after (taken (EachLane i)) (EachLane i) is takes)
    where
      by_indices : (word : ℕ) (indices : Indices width) → (i.id, word ∷ []) ∷ [] ≡ index_store width (EachLane i) indices → no_lane lanes ≡ false → index_store width (EachLane i) indices ≡ declared_store lanes (round_indices width (i ∷ []) indices)
      by_indices k (words.Varying lists) h lane = absurd cc
      by_indices k (words.Uniform word) h lane = declared_uniform lanes width i word well_scoped.1 lane long
  takes_indices (EachValue v e) well_scoped is takes =
      let first = first_mapped (value_turn v kept.lanes kept.values) _ _ _ takes in
      by_indices first.0 indices (ap (λ t. t.indices) first.1) (takes_lane width some kept after (taken (EachValue v e)) (EachValue v e) is takes)
    where
      by_indices : (word : ℕ) (indices : Indices width) → (v.id, word ∷ []) ∷ [] ≡ index_store width (EachValue v e) indices → no_lane lanes ≡ false → index_store width (EachValue v e) indices ≡ declared_store lanes (round_indices width (v ∷ []) indices)
      by_indices k (words.Varying lists) h lane = absurd cc
      by_indices k (words.Uniform word) h lane = declared_uniform lanes width v word well_scoped.1 lane long
