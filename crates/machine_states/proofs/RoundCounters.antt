-- What a form keeps behind a round, once it is counted.
use Rattle.std.proofs.Common.{◌≡◌, refl, sym, ap, ap₂, ◌∙◌, subst, ℕ, zero, suc, ◌*◌, ◌<◌, ◌≤◌, List, [], ◌∷◌, length, slice_set, arith}
use Rattle.std.specs.Prelude.{ℤ, drop}
use Rattle.std.proofs.lemmas.List.{get_or-set_same, get_or-set_other, length-set}
use Rattle.gang_types.specs.declared.types.IntType.TheVariants.{Int32}
use Rattle.gang_types.specs.Lanes.{Lanes}
use Rattle.gang_types.specs.Masks.{lanes_of, lanes_of_word, word_of_lanes}
use Rattle.gang_types.specs.MaskLaws.{lanes_of_word_of_lanes, length-lanes_of_word}
use Rattle.gang_types.specs.Values.{value_of}
use Rattle.gang_model.specs.Running.Lanes.{at}
use Rattle.gang_model.specs.Types.Tree.{Dimension, RoundsOf}
use Rattle.foreach_lowering.specs.declared.bounds.Order.{Order}
use Rattle.foreach_lowering.specs.declared.bounds.Order.TheVariants.{Rows as ByRows, Tiles as ByTiles}
use Rattle.foreach_lowering.specs.declared.rounds.RoundsLeft.{RoundsLeft}
use Rattle.foreach_lowering.specs.declared.rounds.RoundsLeft.TheVariants.{Domain as DomainLeft, EachLane as LanesLeft, EachValue as ValuesLeft}
use Rattle.foreach_lowering.specs.DomainViews.{form_by, grid_by}
use Rattle.foreach_lowering.specs.Grids.{Grid, IsLeft}
use Rattle.foreach_lowering.specs.Kept.{kept_lanes}
use Rattle.foreach_lowering.specs.Law.{HasDimensions, IsKept}
use Rattle.foreach_lowering.specs.RoundViews.{AreLeft, GoesOn, IsFormOf, kept_view}
use Rattle.foreach_lowering.specs.Views.{bounds_view, grid_view}
use Rattle.machine_states.specs.Levels.{LevelWords, bounds_in, kept_domain, kept_in, left_in}
use Rattle.machine_states.specs.Rounds.{counters_behind}

-- ---- counters

at_drop : (xs : List ℕ) (k : ℕ) → at (drop 2 xs) k ≡ at xs (suc (suc k))
at_drop [] k = refl
at_drop (x ∷ []) k = refl
at_drop (x ∷ y ∷ xs) k = refl

-- the bounds of so many dimensions stand in the first counters
bounds_same : (ds : List Dimension) (many : ℕ) (xs ys : List ℕ) → length ds ≤ many → ((k : ℕ) → k < 2 * many → at xs k ≡ at ys k) → bounds_in ds xs ≡ bounds_in ds ys
bounds_same [] many xs ys few same = refl
bounds_same (d ∷ ds) zero xs ys few same = absurd (omega (arith, few))
bounds_same (d ∷ ds) (suc many) xs ys few same =
    ap₂ (λ a b. (value_of Int32 a, value_of Int32 b) ∷ bounds_in ds (drop 2 xs)) (same 0 (omega arith)) (same 1 (omega arith))
    ∙ ap (λ rest. (value_of Int32 (at ys 0), value_of Int32 (at ys 1)) ∷ rest)
    (bounds_same ds many (drop 2 xs) (drop 2 ys) (omega (arith, few)) (λ k within. at_drop xs k ∙ same (suc (suc k)) (omega (arith, within)) ∙ sym (at_drop ys k)))

module _ (counters : List ℕ) (counted : length counters ≡ 9) (leads rows columns : ℕ) where
  abbrev behind : List ℕ
  behind = slice_set (slice_set (slice_set counters 6 leads) 7 rows) 8 columns

  first_kept : (k : ℕ) → k < 6 → at behind k ≡ at counters k
  first_kept k within =
      get_or-set_other (slice_set (slice_set counters 6 leads) 7 rows) 8 k columns 0 (λ e. omega (arith, e, within))
      ∙ get_or-set_other (slice_set counters 6 leads) 7 k rows 0 (λ e. omega (arith, e, within))
      ∙ get_or-set_other counters 6 k leads 0 (λ e. omega (arith, e, within))

  left_behind : left_in behind ≡ record { leads = leads; rows = rows; columns = columns }
  left_behind =
      let first : List ℕ = slice_set counters 6 leads in
      let second : List ℕ = slice_set first 7 rows in
      let long : length first ≡ 9 = length-set counters 6 leads ∙ counted in
      let longer : length second ≡ 9 = length-set first 7 rows ∙ long in
      ap (λ n. record { leads = n; rows = at behind 7; columns = at behind 8 })
      (get_or-set_other second 8 6 columns 0 (λ e. omega (arith, e)) ∙ get_or-set_other first 7 6 rows 0 (λ e. omega (arith, e)) ∙ get_or-set_same counters 6 leads 0 (omega (arith, counted)))
      ∙ ap (λ n. record { leads = leads; rows = n; columns = at behind 8 })
      (get_or-set_other second 8 7 columns 0 (λ e. omega (arith, e)) ∙ get_or-set_same first 7 rows 0 (omega (arith, long)))
      ∙ ap (λ n. record { leads = leads; rows = rows; columns = n }) (get_or-set_same second 8 columns 0 (omega (arith, longer)))

pub counters_long : (width : ℕ) (left : RoundsLeft width) (counters : List ℕ) → length (counters_behind width left counters) ≡ length counters
counters_long width (DomainLeft domain left) counters =
    length-set (slice_set (slice_set counters 6 left.leads) 7 left.rows) 8 left.columns ∙ length-set (slice_set counters 6 left.leads) 7 left.rows ∙ length-set counters 6 left.leads
counters_long width (LanesLeft lanes) counters = length-set counters 0 (word_of_lanes (lanes_of width lanes))
counters_long width (ValuesLeft lanes values) counters = length-set counters 0 (word_of_lanes (lanes_of width lanes))

-- ---- what is kept

-- of a domain
module _ (width : ℕ) (words : LevelWords) (counted : length words.counters ≡ 9) (bounds : List (ℤ × ℤ)) (left later : Grid) where
  abbrev now : LevelWords
  now = record words { counters = slice_set (slice_set (slice_set words.counters 6 later.leads) 7 later.rows) 8 later.columns }

  domain_kept_behind : (ds : List Dimension) → length ds ≤ 3 → kept_domain ds words.counters ≡ record { bounds = bounds; left = left; lanes = []; values = [] }
      → kept_domain ds now.counters ≡ record { bounds = bounds; left = later; lanes = []; values = [] }
  domain_kept_behind ds few was =
      ap₂ (λ b l. record { bounds = b; left = l; lanes = []; values = [] })
      (bounds_same ds 3 now.counters words.counters few (first_kept words.counters counted later.leads later.rows later.columns) ∙ ap (λ k. k.bounds) was)
      (left_behind words.counters counted later.leads later.rows later.columns)

  of_order : (order : Order) (form : RoundsOf) (ds : List Dimension) → form ≡ form_by order ds → HasDimensions form → kept_in width form words ≡ record { bounds = bounds; left = left; lanes = []; values = [] }
      → kept_in width form now ≡ record { bounds = bounds; left = later; lanes = []; values = [] }
  of_order ByRows form ds e dimensions was =
      ap (λ f. kept_in width f now) e ∙ domain_kept_behind ds (subst HasDimensions e dimensions).1 (sym (ap (λ f. kept_in width f words) e) ∙ was)
  of_order ByTiles form ds e dimensions was =
      ap (λ f. kept_in width f now) e ∙ domain_kept_behind ds (subst HasDimensions e dimensions).1 (sym (ap (λ f. kept_in width f words) e) ∙ was)

domain_is_kept : (width : ℕ) (order : Order) (form : RoundsOf) (ds : List Dimension) (bounds : List (ℤ × ℤ)) (left : Grid) → form ≡ form_by order ds → length ds ≡ length bounds
    → IsLeft (grid_by order width bounds) left → IsKept form width (record { bounds = bounds; left = left; lanes = []; values = [] })
domain_is_kept width ByRows form ds bounds left e long is = subst (λ f. IsKept f width (record { bounds = bounds; left = left; lanes = []; values = [] })) (sym e) (sym long, is)
domain_is_kept width ByTiles form ds bounds left e long is = subst (λ f. IsKept f width (record { bounds = bounds; left = left; lanes = []; values = [] })) (sym e) (sym long, is)

-- what is kept of a form is kept by it
pub left_is_kept : (width : ℕ) (form : RoundsOf) (left : RoundsLeft width) → IsFormOf width form left → AreLeft width left → IsKept form width (kept_view width left)
left_is_kept width form (DomainLeft domain left) of are = domain_is_kept width domain.order form of.0 (bounds_view domain.bounds) (grid_view left) of.1 of.2 are
left_is_kept width form (LanesLeft lanes) of are = subst (λ f. IsKept f width (kept_lanes (lanes_of width lanes) [])) (sym of.1) (length-lanes_of_word width lanes.word)
left_is_kept width form (ValuesLeft lanes values) of are = subst (λ f. IsKept f width (kept_lanes (lanes_of width lanes) values)) (sym of.2) (length-lanes_of_word width lanes.word)

-- the first counter keeps the lanes still to come
lanes_behind : (width : ℕ) (lanes : Lanes) (counters : List ℕ) → length lanes ≡ width → 0 < length counters → lanes_of_word width (at (slice_set counters 0 (word_of_lanes lanes)) 0) ≡ lanes
lanes_behind width lanes counters long some = ap (lanes_of_word width) (get_or-set_same counters 0 (word_of_lanes lanes) 0 some) ∙ lanes_of_word_of_lanes width lanes long

-- counted so, the words of the level keep what is left behind a round
pub kept_behind : (width : ℕ) (form : RoundsOf) (words : LevelWords) → length words.counters ≡ 9 → HasDimensions form → (left later : RoundsLeft width) → kept_view width left ≡ kept_in width form words
    → IsFormOf width form left → GoesOn width left later → kept_in width form (record words { counters = counters_behind width later words.counters }) ≡ kept_view width later
kept_behind width form words counted dimensions (DomainLeft domain left) (DomainLeft other later) was of on =
    of_order width words counted (bounds_view domain.bounds) (grid_view left) (grid_view later) domain.order form of.0 of.1 dimensions (sym was)
    ∙ ap (λ d. record { bounds = bounds_view d.bounds; left = grid_view later; lanes = []; values = [] }) (sym on)
kept_behind width form words counted dimensions (DomainLeft domain left) (LanesLeft lanes) was of on = absurd on
kept_behind width form words counted dimensions (DomainLeft domain left) (ValuesLeft lanes values) was of on = absurd on
kept_behind width form words counted dimensions (LanesLeft lanes) (DomainLeft other later) was of on = absurd on
kept_behind width form words counted dimensions (LanesLeft lanes) (LanesLeft later) was of on =
    ap (λ f. kept_in width f (record words { counters = counters_behind width (LanesLeft later) words.counters })) of.1
    ∙ ap (λ ls. kept_lanes ls []) (lanes_behind width (lanes_of width later) words.counters (length-lanes_of_word width later.word) (omega (arith, counted)))
kept_behind width form words counted dimensions (LanesLeft lanes) (ValuesLeft later values) was of on = absurd on
kept_behind width form words counted dimensions (ValuesLeft lanes values) (DomainLeft other later) was of on = absurd on
kept_behind width form words counted dimensions (ValuesLeft lanes values) (LanesLeft later) was of on = absurd on
kept_behind width form words counted dimensions (ValuesLeft lanes values) (ValuesLeft later others) was of on =
    ap (λ f. kept_in width f (record words { counters = counters_behind width (ValuesLeft later others) words.counters })) of.2
    ∙ ap (λ ls. kept_lanes ls words.values) (lanes_behind width (lanes_of width later) words.counters (length-lanes_of_word width later.word) (omega (arith, counted)))
    ∙ ap (kept_lanes (lanes_of width later)) (sym (ap (λ k. k.values) (was ∙ ap (λ f. kept_in width f words) of.2)) ∙ sym on)
