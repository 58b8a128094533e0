-- What a foreach form keeps when it begins, by the words that the code computes.
use Rattle.std.proofs.Common.{◌≡◌, refl, sym, ap, ◌∙◌, subst, ℕ, ◌≤◌, List, [], ◌∷◌, length, ℤ, Some, arith}
use Rattle.std.specs.Prelude.{Result, Ok, Err}
use Rattle.gang_types.specs.declared.types.IntType.TheVariants.{Int32}
use Rattle.gang_types.specs.Lanes.{Lanes, lowest}
use Rattle.gang_types.specs.Masks.{lanes_of_word}
use Rattle.gang_types.specs.Values.{value_of}
use Rattle.gang_model.specs.Types.Tree.{Dimension, RoundsOf, Rows, Tiles, EachLane, EachValue}
use Rattle.gang_model.specs.Running.Lanes.{Fault as ModelFault, ◌>>=◌, at}
use Rattle.gang_model.specs.Running.Rounds.{bounds_of}
use Rattle.gang_model.specs.Running.State.{State}
use Rattle.gang_model.specs.Running.Value.{value}
use Rattle.foreach_lowering.specs.declared.bounds.Order.{Order}
use Rattle.foreach_lowering.specs.declared.bounds.Order.TheVariants.{Rows as ByRows, Tiles as ByTiles}
use Rattle.foreach_lowering.specs.declared.bounds.Bounds.{Bounds}
use Rattle.foreach_lowering.specs.declared.grid.Grid.{Grid}
use Rattle.foreach_lowering.specs.DomainViews.{domain_grid, form_by, grid_by}
use Rattle.foreach_lowering.specs.Grids.{all_left}
use Rattle.foreach_lowering.specs.Views.{bounds_view, grid_view}
use Rattle.foreach_lowering.specs.Kept.{Kept, kept_of, kept_lanes}
use Rattle.foreach_lowering.specs.Law.{first_kept}
use Rattle.machine_states.specs.Levels.{LevelWords, bounds_in, kept_domain, kept_in, left_in}
use Rattle.frame_steps.proofs.LeftRounds.{first_six, same_bounds}
use Rattle.machine_rounds.specs.Beginning.{KeepsDomain, bounds_at, bounds_words}

-- ---- bounds

abbrev answered : {A B : Type 0} → Result A ModelFault → (A → B) → Result B ModelFault
answered r f = r >>= λ a. Ok (f a)

-- the bounds of a dimension by its words
abbrev pair_of : ℕ × ℕ → ℤ × ℤ
pair_of words = (value_of Int32 words.0, value_of Int32 words.1)

both_bounds : {B : Type 0} (lane : ℕ) (r q : Result (List ℕ) ModelFault) (f : ℕ × ℕ → Result B ModelFault)
    → (r >>= λ low. q >>= λ high. f (at low lane, at high lane)) ≡ ((r >>= λ low. q >>= λ high. Ok (at low lane, at high lane)) >>= f)
both_bounds lane (Ok low) (Ok high) f = refl
both_bounds lane (Ok low) (Err fault) f = refl
both_bounds lane (Err fault) q f = refl

module _ (lanes : Lanes) (state : State) where
  more_bounds : (d : Dimension) (ds : List Dimension)
      → bounds_of (d ∷ ds) lanes state ≡ (bounds_at (Some d) lanes state >>= λ both. bounds_of ds lanes state >>= λ rest. Ok (pair_of both ∷ rest))
  more_bounds d ds = both_bounds (lowest lanes) (value d.low lanes state) (value d.high lanes state) (λ both. bounds_of ds lanes state >>= λ rest. Ok (pair_of both ∷ rest))

  one_of : (a : Dimension) (p : Result (ℕ × ℕ) ModelFault)
      → (p >>= λ x. Ok (pair_of x ∷ [])) ≡ answered (p >>= λ x. Ok (x.0 ∷ x.1 ∷ 0 ∷ 0 ∷ 0 ∷ 0 ∷ [])) (bounds_in (a ∷ []))
  one_of a (Ok x) = refl
  one_of a (Err fault) = refl

  two_of : (a b : Dimension) (p q : Result (ℕ × ℕ) ModelFault) (r : Result (List (ℤ × ℤ)) ModelFault) → r ≡ (q >>= λ y. Ok (pair_of y ∷ []))
      → (p >>= λ x. r >>= λ rest. Ok (pair_of x ∷ rest))
      ≡ answered (p >>= λ x. q >>= λ y. Ok (x.0 ∷ x.1 ∷ y.0 ∷ y.1 ∷ 0 ∷ 0 ∷ [])) (bounds_in (a ∷ b ∷ []))
  two_of a b (Ok x) (Ok y) r e = ap (λ s. s >>= λ rest. Ok (pair_of x ∷ rest)) e
  two_of a b (Ok x) (Err fault) r e = ap (λ s. s >>= λ rest. Ok (pair_of x ∷ rest)) e
  two_of a b (Err fault) q r e = refl

  three_of : (a b c : Dimension) (p q s : Result (ℕ × ℕ) ModelFault) (r : Result (List (ℤ × ℤ)) ModelFault)
      → r ≡ (q >>= λ y. (s >>= λ z. Ok (pair_of z ∷ [])) >>= λ rest. Ok (pair_of y ∷ rest))
      → (p >>= λ x. r >>= λ rest. Ok (pair_of x ∷ rest))
      ≡ answered (p >>= λ x. q >>= λ y. s >>= λ z. Ok (x.0 ∷ x.1 ∷ y.0 ∷ y.1 ∷ z.0 ∷ z.1 ∷ [])) (bounds_in (a ∷ b ∷ c ∷ []))
  three_of a b c (Ok x) (Ok y) (Ok z) r e = ap (λ s. s >>= λ rest. Ok (pair_of x ∷ rest)) e
  three_of a b c (Ok x) (Ok y) (Err fault) r e = ap (λ s. s >>= λ rest. Ok (pair_of x ∷ rest)) e
  three_of a b c (Ok x) (Err fault) s r e = ap (λ s. s >>= λ rest. Ok (pair_of x ∷ rest)) e
  three_of a b c (Err fault) q s r e = refl

  -- the bounds of one to three dimensions by their words
  pub bounds_by_words : (ds : List Dimension) → (1 ≤ length ds) × (length ds ≤ 3)
      → bounds_of ds lanes state ≡ (bounds_words ds lanes state >>= λ words. Ok (bounds_in ds words))
  bounds_by_words [] few = absurd (omega (arith, few.0))
  bounds_by_words (a ∷ []) few = more_bounds a [] ∙ one_of a (bounds_at (Some a) lanes state)
  bounds_by_words (a ∷ b ∷ []) few =
      more_bounds a (b ∷ []) ∙ two_of a b (bounds_at (Some a) lanes state) (bounds_at (Some b) lanes state) (bounds_of (b ∷ []) lanes state) (more_bounds b [])
  bounds_by_words (a ∷ b ∷ c ∷ []) few =
      more_bounds a (b ∷ c ∷ [])
      ∙ three_of a b c (bounds_at (Some a) lanes state) (bounds_at (Some b) lanes state) (bounds_at (Some c) lanes state) (bounds_of (b ∷ c ∷ []) lanes state)
      (more_bounds b (c ∷ []) ∙ ap (λ r. bounds_at (Some b) lanes state >>= λ both. r >>= λ rest. Ok (pair_of both ∷ rest)) (more_bounds c []))
  bounds_by_words (a ∷ b ∷ c ∷ d ∷ more) few = absurd (omega (arith, few.1))

-- ---- what a form keeps first

-- what a form keeps is kept by what it counts and by its values
pub kept_alike : (w : ℕ) (form : RoundsOf) (a b : LevelWords) → a.counters ≡ b.counters → a.values ≡ b.values → kept_in w form a ≡ kept_in w form b
kept_alike w (Rows ds) a b counters values = ap (kept_domain ds) counters
kept_alike w (Tiles ds) a b counters values = ap (kept_domain ds) counters
kept_alike w (EachLane x) a b counters values = ap (λ cs. kept_lanes (lanes_of_word w (at cs 0)) []) counters
kept_alike w (EachValue x e) a b counters values =
    ap (λ cs. kept_lanes (lanes_of_word w (at cs 0)) a.values) counters ∙ ap (kept_lanes (lanes_of_word w (at b.counters 0))) values

-- what a domain keeps first, by its bounds
first_by : (w : ℕ) (order : Order) (ds : List Dimension) (lanes : Lanes) (state : State) → length lanes ≡ w
    → first_kept (form_by order ds) lanes state ≡ (bounds_of ds lanes state >>= λ bounds. Ok (kept_of bounds (grid_by order w bounds)))
first_by w ByRows ds lanes state long = ap (λ n. bounds_of ds lanes state >>= λ bounds. Ok (kept_of bounds (grid_by ByRows n bounds))) long
first_by w ByTiles ds lanes state long = ap (λ n. bounds_of ds lanes state >>= λ bounds. Ok (kept_of bounds (grid_by ByTiles n bounds))) long

module _ (w : ℕ) (order : Order) (ds : List Dimension) (lanes : Lanes) (state : State) (long : length lanes ≡ w) (few : (1 ≤ length ds) × (length ds ≤ 3)) where
  abbrev kept_by : Result (List (ℤ × ℤ)) ModelFault → Result Kept ModelFault
  kept_by r = r >>= λ bounds. Ok (kept_of bounds (grid_by order w bounds))

  by_words : (r : Result (List ℕ) ModelFault) → bounds_words ds lanes state ≡ r → first_kept (form_by order ds) lanes state ≡ kept_by (r >>= λ words. Ok (bounds_in ds words))
  by_words r e =
      first_by w order ds lanes state long ∙ ap kept_by (bounds_by_words lanes state ds few) ∙ ap (λ r. kept_by (r >>= λ words. Ok (bounds_in ds words))) e

  pub domain_first : (bounds counters : List ℕ) → bounds_words ds lanes state ≡ Ok bounds → KeepsDomain w order ds bounds counters
      → first_kept (form_by order ds) lanes state ≡ Ok (kept_domain ds counters)
  domain_first bounds counters is keeps = by_words (Ok bounds) is ∙ ap Ok (sym keeps)

  pub domain_fails : (fault : ModelFault) → bounds_words ds lanes state ≡ Err fault → first_kept (form_by order ds) lanes state ≡ Err fault
  domain_fails fault is = by_words (Err fault) is

-- the words keep what a domain keeps first
pub domain_words : (w : ℕ) (order : Order) (ds : List Dimension) (counters values : List ℕ)
    → kept_in w (form_by order ds) (record { end = []; numbers = []; counters = counters; values = values }) ≡ kept_domain ds counters
domain_words w ByRows ds counters values = refl
domain_words w ByTiles ds counters values = refl

pub domain_answer : (w : ℕ) (order : Order) (ds : List Dimension) (form : RoundsOf) → form ≡ form_by order ds → (lanes : Lanes) (state : State) → length lanes ≡ w → (1 ≤ length ds) × (length ds ≤ 3)
    → (bounds counters values : List ℕ) → bounds_words ds lanes state ≡ Ok bounds → KeepsDomain w order ds bounds counters
    → first_kept form lanes state ≡ Ok (kept_in w form (record { end = []; numbers = []; counters = counters; values = values }))
domain_answer w order ds form form_is lanes state long few bounds counters values is keeps =
    subst (λ f. first_kept f lanes state ≡ Ok (kept_in w f (record { end = []; numbers = []; counters = counters; values = values }))) (sym form_is)
    (domain_first w order ds lanes state long few bounds counters is keeps ∙ ap Ok (sym (domain_words w order ds counters values)))

-- ---- the counters of a domain

-- the bounds, then how much of the grid is left: all of it
pub keeps_domain : (w : ℕ) (order : Order) (ds : List Dimension) (words : List ℕ) → (1 ≤ length ds) × (length ds ≤ 3) → (bounds : Bounds) (left : Grid) → bounds_view bounds ≡ bounds_in ds words
    → grid_view left ≡ all_left (domain_grid w (record { order = order; bounds = bounds }))
    → KeepsDomain w order ds words (at words 0 ∷ at words 1 ∷ at words 2 ∷ at words 3 ∷ at words 4 ∷ at words 5 ∷ left.leads ∷ left.rows ∷ left.columns ∷ [])
keeps_domain w order ds words few bounds left are all =
    let rest : List ℕ = left.leads ∷ left.rows ∷ left.columns ∷ [] in
    ap (λ bs. record { bounds = bs; left = left_in (first_six words rest); lanes = []; values = [] }) (same_bounds ds words rest few)
    ∙ ap (λ g. record { bounds = bounds_in ds words; left = g; lanes = []; values = [] }) (all ∙ ap (λ bs. all_left (grid_by order w bs)) are)
