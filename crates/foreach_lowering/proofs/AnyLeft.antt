-- Whether a round is left is told by the counters, and by the lanes still to come.
use Rattle.std.proofs.Common.{◌≡◌, refl, sym, ap, ◌∙◌, ℕ, Bool, true, false, ℤ, List, [], map, length, replicate, slice_set, Option, Some, None, is_some}
use Rattle.std.specs.Prelude.{not, ◌==◌}
use Rattle.gang_types.specs.Lanes.{Lanes, no_lane, lowest, without, lanes_where}
use Rattle.gang_model.specs.Running.Lanes.{at}
use Rattle.gang_model.specs.Running.Rounds.{Slots, Turn, turn}
use Rattle.gang_model.specs.Types.Tree.{Dimension, Expr, Var, RoundsOf, EachLane, EachValue}
use Rattle.mask_states.specs.Masked.{no_turn}
use Rattle.foreach_lowering.specs.declared.bounds.Order.{Order}
use Rattle.foreach_lowering.specs.declared.bounds.Order.TheVariants.{Rows as ByRows, Tiles as ByTiles}
use Rattle.foreach_lowering.specs.Grids.{Grid, to_come, next, Taken, IsLeft, TakesFirst}
use Rattle.foreach_lowering.specs.Domains.{row_place, tile_place}
use Rattle.foreach_lowering.specs.Kept.{turns_left, kept_lanes}
use Rattle.foreach_lowering.specs.DomainViews.{form_by, grid_by}
use Rattle.foreach_lowering.proofs.DomainRounds.{kept_by}
use Rattle.foreach_lowering.proofs.Grids.{takes_first}
use Rattle.foreach_lowering.proofs.NextLanes.{no_lane_left, no_value_left, lane_next, value_next}

-- a grid has a next place where one is to come
places_left : (f : Grid → Slots) (g : Slots → Turn) (all left : Grid) → IsLeft all left → is_some (next all left) ≡ not (no_turn (map g (to_come f all left)))
places_left f g all left is = by_case f g all (next all left) (to_come f all left) (takes_first f all.leads all.rows all.columns left.leads left.rows left.columns is)
  where
    by_case : (f : Grid → Slots) (g : Slots → Turn) (all : Grid) (t : Option Taken) (places : List Slots) → TakesFirst f all t places → is_some t ≡ not (no_turn (map g places))
    by_case f g all None places h = sym (ap (λ ps. not (no_turn (map g ps))) h)
    by_case f g all (Some t) places h = sym (ap (λ ps. not (no_turn (map g ps))) h.0)

pub domain_left : (order : Order) (bounds : List (ℤ × ℤ)) (width : ℕ) (left : Grid) (said : Bool) (form : RoundsOf) (ds : List Dimension) → IsLeft (grid_by order width bounds) left
    → ((all : Grid) → said ≡ is_some (next all left)) → form ≡ form_by order ds → said ≡ not (no_turn (turns_left form width (kept_by bounds left)))
domain_left ByRows bounds width left said form ds is says e =
    says (grid_by ByRows width bounds) ∙ (places_left (row_place width bounds) (turn ds) (grid_by ByRows width bounds) left is ∙ sym (ap (λ f. not (no_turn (turns_left f width (kept_by bounds left)))) e))
domain_left ByTiles bounds width left said form ds is says e =
    says (grid_by ByTiles width bounds) ∙ (places_left (tile_place width bounds) (turn ds) (grid_by ByTiles width bounds) left is ∙ sym (ap (λ f. not (no_turn (turns_left f width (kept_by bounds left)))) e))

-- a lane is to come where the set is not empty
pub lanes_left : (form : RoundsOf) (i : Var) (width : ℕ) (lanes : Lanes) → form ≡ EachLane i → length lanes ≡ width
    → not (no_lane lanes) ≡ not (no_turn (turns_left form width (kept_lanes lanes [])))
lanes_left form i width lanes e long = by_case (no_lane lanes) refl ∙ sym (ap (λ f. not (no_turn (turns_left f width (kept_lanes lanes [])))) e)
  where
    by_case : (none : Bool) → no_lane lanes ≡ none → not (no_lane lanes) ≡ not (no_turn (turns_left (EachLane i) width (kept_lanes lanes [])))
    by_case true h = ap not h ∙ sym (ap (λ turns. not (no_turn turns)) (no_lane_left i width lanes h))
    by_case false h =
        ap not h ∙ sym (ap (λ turns. not (no_turn turns)) (lane_next i width lanes (without lanes (slice_set (replicate width false) (lowest lanes) true)) long h refl))

pub values_left : (form : RoundsOf) (v : Var) (x : Expr) (width : ℕ) (lanes : Lanes) (values : List ℕ) → form ≡ EachValue v x
    → not (no_lane lanes) ≡ not (no_turn (turns_left form width (kept_lanes lanes values)))
values_left form v x width lanes values e = by_case (no_lane lanes) refl ∙ sym (ap (λ f. not (no_turn (turns_left f width (kept_lanes lanes values)))) e)
  where
    equal : Lanes
    equal = lanes_where lanes (λ k. at values k == at values (lowest lanes))

    by_case : (none : Bool) → no_lane lanes ≡ none → not (no_lane lanes) ≡ not (no_turn (turns_left (EachValue v x) width (kept_lanes lanes values)))
    by_case true h = ap not h ∙ sym (ap (λ turns. not (no_turn turns)) (no_value_left v x width lanes values h))
    by_case false h =
        ap not h ∙ sym (ap (λ turns. not (no_turn turns)) (value_next v x width lanes equal (without lanes equal) values (at values (lowest lanes)) h refl refl refl))
