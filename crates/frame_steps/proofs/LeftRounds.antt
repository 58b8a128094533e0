-- What is left of a foreach form, by the words that its level keeps.
use Rattle.std.proofs.Common.{ℕ, ◌+◌, ◌*◌, ◌≤◌, ◌≡◌, refl, sym, ◌∙◌, ap, ap₂, subst, arith, List, [], ◌∷◌, length, map, Vec, Global}
use Rattle.std.specs.Prelude.{drop, ℤ}
use Rattle.std.proofs.lemmas.List.{get_or-drop, length-map}
use Rattle.gang_types.specs.declared.types.IntType.TheVariants.{Int32}
use Rattle.gang_types.specs.declared.masks.Mask.{Mask}
use Rattle.gang_types.specs.Masks.{lanes_of, lanes_of_word}
use Rattle.gang_types.specs.Values.{value_of}
use Rattle.gang_model.specs.Running.Lanes.{at}
use Rattle.gang_model.specs.Types.Tree.{Dimension, RoundsOf, Rows, Tiles, EachLane, EachValue}
use Rattle.typed_tree.specs.declared.expressions.Var.{Var}
use Rattle.typed_tree.specs.Views.{var_view}
use Rattle.foreach_lowering.specs.declared.bounds.Bounds.{Bounds}
use Rattle.foreach_lowering.specs.declared.bounds.Order.{Order}
use Rattle.foreach_lowering.specs.declared.bounds.Order.TheVariants as by
use Rattle.foreach_lowering.specs.declared.grid.Grid.{Grid}
use Rattle.foreach_lowering.specs.declared.rounds.RoundsLeft.{RoundsLeft}
use Rattle.foreach_lowering.specs.declared.rounds.RoundsLeft.TheVariants.{Domain as DomainLeft, EachLane as LanesLeft, EachValue as ValuesLeft}
use Rattle.foreach_lowering.specs.DomainViews.{form_by, grid_by}
use Rattle.foreach_lowering.specs.Grids.{IsLeft}
use Rattle.foreach_lowering.specs.Kept.{kept_lanes}
use Rattle.foreach_lowering.specs.RoundViews.{AreLeft, IsFormOf, kept_view}
use Rattle.foreach_lowering.specs.Views.{bounds_view, grid_view}
use Rattle.machine_states.specs.Levels.{bounds_in, kept_domain, left_in}
use Rattle.machine_states.specs.Regions.{CountersOf, OfLevel, Regions, ValuesOf}
use Rattle.codegen.specs.declared.code.IndexCode.TheVariants as index
use Rattle.frame_steps.specs.Rounds.{AreRoundsOf, KeepsRounds}

-- ---- bounds

-- the bounds of a dimension
abbrev pub pair_at : List ℕ → (dimension : ℕ) → ℤ × ℤ
pair_at counters dimension = (value_of Int32 (at counters (2 * dimension)), value_of Int32 (at counters (2 * dimension + 1)))

index_count : (indices : Vec Var Global) (ds : List Dimension) → map var_view indices.items ≡ map (λ d. d.index) ds → length ds ≡ length indices.items
index_count indices ds e = sym (length-map ds (λ d. d.index)) ∙ sym (ap length e) ∙ length-map indices.items var_view

module _ (counters : List ℕ) where
  second_pair : (value_of Int32 (at (drop 2 counters) 0), value_of Int32 (at (drop 2 counters) 1)) ≡ pair_at counters 1
  second_pair = ap₂ (λ a b. (value_of Int32 a, value_of Int32 b)) (get_or-drop 2 counters 0 0) (get_or-drop 2 counters 1 0)

  third_pair : (value_of Int32 (at (drop 2 (drop 2 counters)) 0), value_of Int32 (at (drop 2 (drop 2 counters)) 1)) ≡ pair_at counters 2
  third_pair =
      ap₂ (λ a b. (value_of Int32 a, value_of Int32 b))
      (get_or-drop 2 (drop 2 counters) 0 0 ∙ get_or-drop 2 counters 2 0)
      (get_or-drop 2 (drop 2 counters) 1 0 ∙ get_or-drop 2 counters 3 0)

  pub one_bound : (ds : List Dimension) → length ds ≡ 1 → (first : ℤ × ℤ) → first ≡ pair_at counters 0 → first ∷ [] ≡ bounds_in ds counters
  one_bound [] e first is = absurd (omega (arith, e))
  one_bound (d ∷ []) e first is = ap (λ b. b ∷ []) is
  one_bound (d ∷ other ∷ ds) e first is = absurd (omega (arith, e))

  pub two_bounds : (ds : List Dimension) → length ds ≡ 2 → (first second : ℤ × ℤ) → first ≡ pair_at counters 0 → second ≡ pair_at counters 1 → first ∷ second ∷ [] ≡ bounds_in ds counters
  two_bounds [] e first second is more = absurd (omega (arith, e))
  two_bounds (d ∷ []) e first second is more = absurd (omega (arith, e))
  two_bounds (d ∷ other ∷ []) e first second is more = ap₂ (λ a b. a ∷ b ∷ []) is (more ∙ sym second_pair)
  two_bounds (d ∷ other ∷ another ∷ ds) e first second is more = absurd (omega (arith, e))

  pub three_bounds : (ds : List Dimension) → length ds ≡ 3 → (first second third : ℤ × ℤ) → first ≡ pair_at counters 0 → second ≡ pair_at counters 1 → third ≡ pair_at counters 2
      → first ∷ second ∷ third ∷ [] ≡ bounds_in ds counters
  three_bounds [] e first second third is more last = absurd (omega (arith, e))
  three_bounds (d ∷ []) e first second third is more last = absurd (omega (arith, e))
  three_bounds (d ∷ other ∷ []) e first second third is more last = absurd (omega (arith, e))
  three_bounds (d ∷ other ∷ another ∷ []) e first second third is more last =
      ap₂ (λ a bs. a ∷ bs) is (ap₂ (λ b c. b ∷ c ∷ []) (more ∙ sym second_pair) (last ∙ sym third_pair))
  three_bounds (d ∷ other ∷ another ∷ more_of ∷ ds) e first second third is more last = absurd (omega (arith, e))

-- the bounds of at most three dimensions lie in the first six words
abbrev pub first_six : (words : List ℕ) → (rest : List ℕ) → List ℕ
first_six words rest = at words 0 ∷ at words 1 ∷ at words 2 ∷ at words 3 ∷ at words 4 ∷ at words 5 ∷ rest

pub same_bounds : (ds : List Dimension) (words rest : List ℕ) → (1 ≤ length ds) × (length ds ≤ 3) → bounds_in ds (first_six words rest) ≡ bounds_in ds words
same_bounds [] words rest few = absurd (omega (arith, few.0))
same_bounds (a ∷ []) words rest few = one_bound words (a ∷ []) refl (pair_at (first_six words rest) 0) refl
same_bounds (a ∷ b ∷ []) words rest few =
    two_bounds words (a ∷ b ∷ []) refl (pair_at (first_six words rest) 0) (pair_at (first_six words rest) 1) refl refl
same_bounds (a ∷ b ∷ c ∷ []) words rest few =
    three_bounds words (a ∷ b ∷ c ∷ []) refl (pair_at (first_six words rest) 0) (pair_at (first_six words rest) 1) (pair_at (first_six words rest) 2) refl refl refl
same_bounds (a ∷ b ∷ c ∷ d ∷ more) words rest few = absurd (omega (arith, few.1))

pub six_bounds : (words : List ℕ) (a b c d e f : ℕ) → a ≡ at words 0 → b ≡ at words 1 → c ≡ at words 2 → d ≡ at words 3 → e ≡ at words 4 → f ≡ at words 5
    → (ds : List Dimension) → (1 ≤ length ds) × (length ds ≤ 3) → bounds_in ds (a ∷ b ∷ c ∷ d ∷ e ∷ f ∷ []) ≡ bounds_in ds words
six_bounds words a b c d e f first second third fourth fifth sixth ds few =
    let same : (a ∷ b ∷ c ∷ d ∷ e ∷ f ∷ []) ≡ first_six words [] = cc in
    ap (bounds_in ds) same ∙ same_bounds ds words [] few

-- ---- forms

module _ (w : ℕ) (regions : Regions) (frame level : ℕ) where
  abbrev counters_of : List ℕ
  counters_of = regions (OfLevel frame level CountersOf)

  module _ (order : Order) (indices : Vec Var Global) (bounds : Bounds) (left : Grid) where
    abbrev domain : RoundsLeft w
    domain = DomainLeft (record { order = order; bounds = bounds }) left

    module _ (ds : List Dimension) (bounds_are : bounds_view bounds ≡ bounds_in ds (regions (OfLevel frame level CountersOf)))
        (left_is : grid_view left ≡ left_in (regions (OfLevel frame level CountersOf))) (long : length (bounds_in ds (regions (OfLevel frame level CountersOf))) ≡ length ds) where
      same_kept : kept_view w domain ≡ kept_domain ds counters_of
      same_kept = ap₂ (λ b l. record { bounds = b; left = l; lanes = []; values = [] }) bounds_are left_is

      of_order : (is : Order) → order ≡ is → IsFormOf w (form_by is ds) domain
      of_order is same = (ds, ap (λ o. form_by o ds) (sym same), sym (ap length bounds_are ∙ long))

      left_of_grid : (is : Order) → order ≡ is → IsLeft (grid_by is w (bounds_in ds counters_of)) (left_in counters_of) → AreLeft w domain
      left_of_grid is same kept =
          subst (λ o. IsLeft (grid_by o w (bounds_view bounds)) (grid_view left)) (sym same)
          (subst (λ b. IsLeft (grid_by is w b) (grid_view left)) (sym bounds_are)
          (subst (λ l. IsLeft (grid_by is w (bounds_in ds counters_of)) l) (sym left_is) kept))

    pub domain_rounds : ((ds : List Dimension) → length ds ≡ length indices.items → (1 ≤ length ds) × (length ds ≤ 3) → bounds_view bounds ≡ bounds_in ds (regions (OfLevel frame level CountersOf)))
        → grid_view left ≡ left_in (regions (OfLevel frame level CountersOf)) → (form : RoundsOf) → KeepsRounds w regions frame level (index.Domain order indices) form
        → AreRoundsOf w regions frame level form (DomainLeft (record { order = order; bounds = bounds }) left)
    domain_rounds bounds_are left_is (Rows ds) keeps =
        let are = bounds_are ds (index_count indices ds keeps.indexes.1) keeps.dimensions in
        record {
          kept = same_kept ds are left_is keeps.kept.0;
          of_form = of_order ds are left_is keeps.kept.0 by.Rows keeps.indexes.0;
          are_left = left_of_grid ds are left_is keeps.kept.0 by.Rows keeps.indexes.0 keeps.kept.1;
        }
    domain_rounds bounds_are left_is (Tiles ds) keeps =
        let are = bounds_are ds (index_count indices ds keeps.indexes.1) keeps.dimensions in
        record {
          kept = same_kept ds are left_is keeps.kept.0;
          of_form = of_order ds are left_is keeps.kept.0 by.Tiles keeps.indexes.0;
          are_left = left_of_grid ds are left_is keeps.kept.0 by.Tiles keeps.indexes.0 keeps.kept.1;
        }
    domain_rounds bounds_are left_is (EachLane x) keeps = absurd keeps.indexes
    domain_rounds bounds_are left_is (EachValue x e) keeps = absurd keeps.indexes

    -- as many dimensions as index variables: one to three
    pub some_indices : (form : RoundsOf) → KeepsRounds w regions frame level (index.Domain order indices) form → (1 ≤ length indices.items) × (length indices.items ≤ 3)
    some_indices (Rows ds) keeps = let e = index_count indices ds keeps.indexes.1 in (omega (arith, e, keeps.dimensions.0), omega (arith, e, keeps.dimensions.1))
    some_indices (Tiles ds) keeps = let e = index_count indices ds keeps.indexes.1 in (omega (arith, e, keeps.dimensions.0), omega (arith, e, keeps.dimensions.1))
    some_indices (EachLane x) keeps = absurd keeps.indexes
    some_indices (EachValue x e) keeps = absurd keeps.indexes

  pub lane_rounds : (x : Var) (lanes : Mask) → lanes_of w lanes ≡ lanes_of_word w (at (regions (OfLevel frame level CountersOf)) 0) → (form : RoundsOf)
      → KeepsRounds w regions frame level (index.EachLane x) form → AreRoundsOf w regions frame level form (LanesLeft lanes)
  lane_rounds x lanes is (Rows ds) keeps = absurd keeps.indexes
  lane_rounds x lanes is (Tiles ds) keeps = absurd keeps.indexes
  lane_rounds x lanes is (EachLane y) keeps = record { kept = ap (λ ls. kept_lanes ls []) is; of_form = (y, refl); are_left = tt }
  lane_rounds x lanes is (EachValue y e) keeps = absurd keeps.indexes

  pub value_rounds : (x : Var) (lanes : Mask) (values : List ℕ) → lanes_of w lanes ≡ lanes_of_word w (at (regions (OfLevel frame level CountersOf)) 0)
      → values ≡ regions (OfLevel frame level ValuesOf) → (form : RoundsOf) → KeepsRounds w regions frame level (index.EachValue x) form
      → AreRoundsOf w regions frame level form (ValuesLeft lanes values)
  value_rounds x lanes values is same (Rows ds) keeps = absurd keeps.indexes
  value_rounds x lanes values is same (Tiles ds) keeps = absurd keeps.indexes
  value_rounds x lanes values is same (EachLane y) keeps = absurd keeps.indexes
  value_rounds x lanes values is same (EachValue y e) keeps = record { kept = ap₂ kept_lanes is same; of_form = (y, e, refl); are_left = tt }
