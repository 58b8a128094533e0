-- The next round of a domain, by the lanes and the words of the next place.
use Rattle.std.proofs.Common.{◌≡◌, refl, sym, ap, ap₂, ◌∙◌, ℕ, ◌≤◌, ℤ, List, [], ◌∷◌, map, length, Option, Some, None, is_some, arith}
use Rattle.gang_types.specs.Lanes.{Lanes}
use Rattle.gang_model.specs.Running.Rounds.{Slots, counted, slot_word, index_words, turn}
use Rattle.gang_model.specs.Types.Tree.{Dimension}
use Rattle.foreach_lowering.specs.declared.bounds.Order.{Order}
use Rattle.foreach_lowering.specs.declared.bounds.Order.TheVariants.{Rows as ByRows, Tiles as ByTiles}
use Rattle.foreach_lowering.specs.declared.bounds.Bounds.{Bounds}
use Rattle.foreach_lowering.specs.declared.bounds.Bounds.TheVariants.{One, Two, Three}
use Rattle.foreach_lowering.specs.declared.bounds.IndexValues.{IndexValues}
use Rattle.foreach_lowering.specs.Grids.{Grid, Taken, to_come, TakesFirst}
use Rattle.foreach_lowering.specs.Domains.{row_place, tile_place}
use Rattle.foreach_lowering.specs.Kept.{Kept, turns_left, Takes}
use Rattle.foreach_lowering.specs.Views.{bounds_view, slot_view}
use Rattle.foreach_lowering.specs.DomainViews.{form_by, grid_by, slot_by, stored}

pub slot_some : (slot : Option IndexValues) → is_some (slot_view slot) ≡ is_some slot
slot_some None = refl
slot_some (Some values) = refl

few_bounds : (bounds : Bounds) → length (bounds_view bounds) ≤ 3
few_bounds (One a) = omega arith
few_bounds (Two a b) = omega arith
few_bounds (Three a b c) = omega arith

-- the words of three dimensions hold those of the index variables
stored_is : (ds : List Dimension) (slots : Slots) → length ds ≤ 3
    → index_words 0 ds slots ≡ stored ds (map (slot_word 0) slots ∷ map (slot_word 1) slots ∷ map (slot_word 2) slots ∷ [])
stored_is [] slots few = refl
stored_is (a ∷ []) slots few = refl
stored_is (a ∷ b ∷ []) slots few = refl
stored_is (a ∷ b ∷ c ∷ []) slots few = refl
stored_is (a ∷ b ∷ c ∷ d ∷ more) slots few = absurd (omega (arith, few))

turn_is : (ds : List Dimension) (slots : Slots) (lanes : Lanes) (first second third : List ℕ) → length ds ≤ 3 → lanes ≡ map is_some slots
    → first ≡ map (slot_word 0) slots → second ≡ map (slot_word 1) slots → third ≡ map (slot_word 2) slots
    → turn ds slots ≡ record { lanes = lanes; indices = stored ds (first ∷ second ∷ third ∷ []) }
turn_is ds slots lanes first second third few l p q r =
    ap₂ (λ ls store. record { lanes = ls; indices = store }) (sym l)
    (stored_is ds slots few
    ∙ (ap (λ ws. stored ds (ws ∷ map (slot_word 1) slots ∷ map (slot_word 2) slots ∷ [])) (sym p)
    ∙ ap₂ (λ us ws. stored ds (first ∷ us ∷ ws ∷ [])) (sym q) (sym r)))

abbrev pub kept_by : List (ℤ × ℤ) → Grid → Kept
kept_by bounds left = record { bounds = bounds; left = left; lanes = []; values = [] }

-- the round of the next place is the next of those that are left
pub domain_takes : (order : Order) (bounds : Bounds) (width : ℕ) (left : Grid) (t : Taken)
    → ((f : Grid → Slots) → TakesFirst f (grid_by order width (bounds_view bounds)) (Some t) (to_come f (grid_by order width (bounds_view bounds)) left))
    → (lanes : Lanes) (first second third : List ℕ) → lanes ≡ map is_some (map (slot_by order width (bounds_view bounds) t.place) (counted 0 width))
    → first ≡ map (slot_word 0) (map (slot_by order width (bounds_view bounds) t.place) (counted 0 width))
    → second ≡ map (slot_word 1) (map (slot_by order width (bounds_view bounds) t.place) (counted 0 width))
    → third ≡ map (slot_word 2) (map (slot_by order width (bounds_view bounds) t.place) (counted 0 width))
    → (ds : List Dimension) → length ds ≡ length (bounds_view bounds)
    → Takes (form_by order ds) width (kept_by (bounds_view bounds) left) (record { lanes = lanes; indices = stored ds (first ∷ second ∷ third ∷ []) }) (kept_by (bounds_view bounds) t.left)
domain_takes ByRows bounds width left t h lanes first second third l p q r ds e =
    ap (map (turn ds)) (h (row_place width (bounds_view bounds))).0
    ∙ ap (λ next. next ∷ turns_left (form_by ByRows ds) width (kept_by (bounds_view bounds) t.left))
    (turn_is ds (row_place width (bounds_view bounds) t.place) lanes first second third (omega (arith, e, few_bounds bounds)) l p q r)
domain_takes ByTiles bounds width left t h lanes first second third l p q r ds e =
    ap (map (turn ds)) (h (tile_place width (bounds_view bounds))).0
    ∙ ap (λ next. next ∷ turns_left (form_by ByTiles ds) width (kept_by (bounds_view bounds) t.left))
    (turn_is ds (tile_place width (bounds_view bounds) t.place) lanes first second third (omega (arith, e, few_bounds bounds)) l p q r)
