-- The rounds of foreach forms are counted.
use Rattle.std.proofs.Common.{◌≡◌, refl, sym, ap, ◌∙◌, subst, ℕ, zero, suc, ◌<◌, ◌≤◌, List, [], ◌∷◌, map, length, ℤ, Result, Ok, Err, IfOk, Some, slice_get, arith, inl, inr}
use Rattle.gang_types.specs.Lanes.{Lanes}
use Rattle.gang_types.specs.Masks.{IsGangWidth}
use Rattle.gang_model.specs.Running.Lanes.{Fault, ◌>>=◌, at, members}
use Rattle.gang_model.specs.Running.Rounds.{Turn, row_slots, tile_slots, turn, bounds_of, distinct, rounds}
use Rattle.gang_model.specs.Running.State.{State}
use Rattle.gang_model.specs.Running.Value.{value}
use Rattle.gang_model.specs.Types.Tree.{Dimension, RoundsOf, Rows, Tiles, EachLane, EachValue}
use Rattle.gang_model.proofs.LaneWords.{if_ok_bind, if_ok_after, length-value}
use Rattle.gang_model.proofs.StandingLaws.{Each}
use Rattle.mask_states.specs.Masked.{turns_taken}
use Rattle.foreach_lowering.specs.Grids.{Grid}
use Rattle.foreach_lowering.specs.Domains.{row_grid, row_place, tile_grid, tile_place}
use Rattle.foreach_lowering.specs.Kept.{Kept, lane_turn, value_turn, turns_left, kept_of, kept_lanes}
use Rattle.foreach_lowering.specs.Law.{HasDimensions, first_kept, IsKept, IsNth, CountsRounds}
use Rattle.foreach_lowering.proofs.Grids.{all_is_left}
use Rattle.foreach_lowering.proofs.KeptRounds.{IsDomain, rows_listed, tiles_listed, rows_kept, tiles_kept}
use Rattle.foreach_lowering.proofs.TakenRounds.{HasLane, all_taken, row_has_lane, tile_has_lane, rounds_have_lanes, lanes_have_lanes, values_have_lanes}

-- ---- domains

pub domain_of : (bounds : List (ℤ × ℤ)) → (1 ≤ length bounds) × (length bounds ≤ 3) → IsDomain bounds
domain_of [] few = absurd (omega (arith, few.0))
domain_of (a ∷ []) few = tt
domain_of (a ∷ b ∷ []) few = tt
domain_of (a ∷ b ∷ c ∷ []) few = tt
domain_of (a ∷ b ∷ c ∷ e ∷ more) few = absurd (omega (arith, few.1))

length-bounds : (ds : List Dimension) (lanes : Lanes) (state : State) → IfOk (bounds_of ds lanes state) (λ bounds. length bounds ≡ length ds)
length-bounds [] lanes state = refl
length-bounds (d ∷ ds) lanes state =
    if_ok_after _ (value d.low lanes state) _
    (λ low. if_ok_after _ (value d.high lanes state) _
    (λ high. if_ok_bind (λ bounds. length bounds ≡ length ds) _ (bounds_of ds lanes state) _ (length-bounds ds lanes state) (λ rest e. ap suc e)))

-- two chains over one result, which go on alike
same_chains : {A B C D : Type 0} (P : A → Type 0) (r : Result A Fault) (f : A → B) (g : A → C) (x : B → D) (y : C → D) → IfOk r P → ((a : A) → P a → x (f a) ≡ y (g a))
    → ((r >>= λ a. Ok (f a)) >>= λ b. Ok (x b)) ≡ ((r >>= λ a. Ok (g a)) >>= λ c. Ok (y c))
same_chains P (Ok a) f g x y h e = ap Ok (e a h)
same_chains P (Err fault) f g x y h e = refl

module _ (ds : List Dimension) (size : ℕ) (bounds : List (ℤ × ℤ)) (some : 0 < size) (domain : IsDomain bounds) where
  rows_taken : turns_taken (map (turn ds) (row_slots size bounds)) ≡ map (turn ds) (row_slots size bounds)
  rows_taken =
      all_taken (map (turn ds) (row_slots size bounds))
      (subst (λ slots. Each HasLane (map (turn ds) slots)) (sym (rows_listed size bounds domain))
      (rounds_have_lanes ds (row_place size bounds) (row_grid size bounds) (λ place is. row_has_lane ds size bounds place some is)))

  tiles_taken : turns_taken (map (turn ds) (tile_slots size bounds)) ≡ map (turn ds) (tile_slots size bounds)
  tiles_taken =
      all_taken (map (turn ds) (tile_slots size bounds))
      (subst (λ slots. Each HasLane (map (turn ds) slots)) (sym (tiles_listed size bounds domain))
      (rounds_have_lanes ds (tile_place size bounds) (tile_grid size bounds) (λ place is. tile_has_lane ds size bounds place some is)))

few_bounds : (ds : List Dimension) (bounds : List (ℤ × ℤ)) → length bounds ≡ length ds → (1 ≤ length ds) × (length ds ≤ 3) → IsDomain bounds
few_bounds ds bounds e few = domain_of bounds (omega (arith, e, few.0), omega (arith, e, few.1))

-- ---- when a form begins

all_rounds : (form : RoundsOf) → HasDimensions form → (lanes : Lanes) → 0 < length lanes → (state : State) → IfOk (rounds form lanes state) (λ turns. turns_taken turns ≡ turns)
all_rounds (Rows ds) few lanes some state =
    if_ok_bind (λ bounds. length bounds ≡ length ds) _ (bounds_of ds lanes state) _ (length-bounds ds lanes state)
    (λ bounds e. rows_taken ds (length lanes) bounds some (few_bounds ds bounds e few))
all_rounds (Tiles ds) few lanes some state =
    if_ok_bind (λ bounds. length bounds ≡ length ds) _ (bounds_of ds lanes state) _ (length-bounds ds lanes state)
    (λ bounds e. tiles_taken ds (length lanes) bounds some (few_bounds ds bounds e few))
all_rounds (EachLane i) few lanes some state = all_taken (map (lane_turn i (length lanes)) (members lanes)) (lanes_have_lanes i lanes)
all_rounds (EachValue v e) few lanes some state =
    if_ok_after _ (value e lanes state) _ (λ x. all_taken (map (value_turn v lanes x) (distinct [] (map (at x) (members lanes)))) (values_have_lanes v lanes x))

rounds_begin : (form : RoundsOf) → HasDimensions form → (lanes : Lanes) → 0 < length lanes → (state : State)
    → (rounds form lanes state >>= λ turns. Ok (turns_taken turns)) ≡ (first_kept form lanes state >>= λ kept. Ok (turns_left form (length lanes) kept))
rounds_begin (Rows ds) few lanes some state =
    same_chains (λ bounds. length bounds ≡ length ds) (bounds_of ds lanes state) (λ bounds. map (turn ds) (row_slots (length lanes) bounds))
    (λ bounds. kept_of bounds (row_grid (length lanes) bounds)) turns_taken (turns_left (Rows ds) (length lanes)) (length-bounds ds lanes state)
    (λ bounds e. rows_taken ds (length lanes) bounds some (few_bounds ds bounds e few) ∙ rows_kept ds (length lanes) bounds (few_bounds ds bounds e few))
rounds_begin (Tiles ds) few lanes some state =
    same_chains (λ bounds. length bounds ≡ length ds) (bounds_of ds lanes state) (λ bounds. map (turn ds) (tile_slots (length lanes) bounds))
    (λ bounds. kept_of bounds (tile_grid (length lanes) bounds)) turns_taken (turns_left (Tiles ds) (length lanes)) (length-bounds ds lanes state)
    (λ bounds e. tiles_taken ds (length lanes) bounds some (few_bounds ds bounds e few) ∙ tiles_kept ds (length lanes) bounds (few_bounds ds bounds e few))
rounds_begin (EachLane i) few lanes some state = ap Ok (all_taken (map (lane_turn i (length lanes)) (members lanes)) (lanes_have_lanes i lanes))
rounds_begin (EachValue v e) few lanes some state =
    same_chains (λ x. length x ≡ length lanes) (value e lanes state) (λ x. map (value_turn v lanes x) (distinct [] (map (at x) (members lanes)))) (λ x. kept_lanes lanes x) turns_taken (turns_left (EachValue v e) (length lanes))
    (length-value e lanes state) (λ x long. all_taken (map (value_turn v lanes x) (distinct [] (map (at x) (members lanes)))) (values_have_lanes v lanes x))

kept_begin : (form : RoundsOf) (lanes : Lanes) (state : State) → IfOk (first_kept form lanes state) (IsKept form (length lanes))
kept_begin (Rows ds) lanes state =
    if_ok_bind (λ bounds. length bounds ≡ length ds) _ (bounds_of ds lanes state) _ (length-bounds ds lanes state)
    (λ bounds e. (e, let all : Grid = row_grid (length lanes) bounds in all_is_left all.leads all.rows all.columns))
kept_begin (Tiles ds) lanes state =
    if_ok_bind (λ bounds. length bounds ≡ length ds) _ (bounds_of ds lanes state) _ (length-bounds ds lanes state)
    (λ bounds e. (e, let all : Grid = tile_grid (length lanes) bounds in all_is_left all.leads all.rows all.columns))
kept_begin (EachLane i) lanes state = refl
kept_begin (EachValue v e) lanes state = if_ok_after _ (value e lanes state) _ (λ x. refl)

-- ---- after n rounds

nth_left : (form : RoundsOf) (width : ℕ) (kept : Kept) (n : ℕ) (next : Turn) → IsNth form width kept n next → slice_get (turns_left form width kept) n ≡ Some next
nth_left form width kept zero next h = ap (λ turns. slice_get turns 0) h.1
nth_left form width kept (suc n) next h = ap (λ turns. slice_get turns (suc n)) h.2 ∙ nth_left form width h.1 n next h.3

same_turns : (form : RoundsOf) (turns : List Turn) (kept : Kept) (width : ℕ) (r : Result (List Turn) Fault) (q : Result Kept Fault) → r ≡ Ok turns → q ≡ Ok kept
    → (r >>= λ ts. Ok (turns_taken ts)) ≡ (q >>= λ k. Ok (turns_left form width k)) → turns_taken turns ≡ turns_left form width kept
same_turns form turns kept width (Ok ts) (Ok k) e f h = cc
same_turns form turns kept width (Ok ts) (Err fault) e f h = absurd cc
same_turns form turns kept width (Err fault) q e f h = absurd cc

taken_of : (r : Result (List Turn) Fault) (turns : List Turn) → r ≡ Ok turns → IfOk r (λ ts. turns_taken ts ≡ ts) → turns_taken turns ≡ turns
taken_of r turns e h = subst (λ q. IfOk q (λ ts. turns_taken ts ≡ ts)) e h

some_lanes : (width : ℕ) → IsGangWidth width → 0 < width
some_lanes width (inl e) = omega (arith, e)
some_lanes width (inr (inl e)) = omega (arith, e)
some_lanes width (inr (inr e)) = omega (arith, e)

-- the law, whatever the width of the gang
pub counts_rounds : (width : ℕ) → IsGangWidth width → CountsRounds width
counts_rounds width is =
    let begins = λ (form : RoundsOf) (few : HasDimensions form) (lanes : Lanes) (e : length lanes ≡ width) (state : State).
    subst (λ n. (rounds form lanes state >>= λ turns. Ok (turns_taken turns)) ≡ (first_kept form lanes state >>= λ kept. Ok (turns_left form n kept))) e
    (rounds_begin form few lanes (subst (λ n. 0 < n) (sym e) (some_lanes width is)) state) in
    let taken = λ (form : RoundsOf) (few : HasDimensions form) (lanes : Lanes) (e : length lanes ≡ width) (state : State). all_rounds form few lanes (subst (λ n. 0 < n) (sym e) (some_lanes width is)) state in
    record {
      begins = begins;
      taken = taken;
      kept = λ form lanes e state. subst (λ n. IfOk (first_kept form lanes state) (IsKept form n)) e (kept_begin form lanes state);
      nth = λ form few lanes e state turns kept n next r q h.
          ap (λ ts. slice_get ts n)
          (sym (taken_of (rounds form lanes state) turns r (taken form few lanes e state)) ∙ same_turns form turns kept width (rounds form lanes state) (first_kept form lanes state) r q (begins form few lanes e state))
          ∙ nth_left form width kept n next h;
    }
