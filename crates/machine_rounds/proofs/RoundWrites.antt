-- Words of one region are set one after another, and variables of a frame are declared one after another.
use Rattle.std.proofs.Common.{ℕ, zero, suc, ◌+◌, ◌*◌, ◌<◌, ◌≤◌, Bool, true, false, cond, ◌≡◌, refl, sym, ◌∙◌, ap, ap₂, subst, arith, lit<, List, [], ◌∷◌, ◌++◌, length, map, take}
use Rattle.std.specs.Prelude.{max, slice_get, slice_index_or, slice_set, zip, Some}
use prog.Memory.{up}
use Rattle.std.proofs.lemmas.List.{take_all}
use Rattle.gang_types.specs.declared.masks.Mask.{Mask}
use Rattle.gang_types.specs.Lanes.{Lanes, no_lane}
use Rattle.gang_types.specs.Masks.{IsGangWidth, lanes_of}
use Rattle.gang_types.specs.MaskLaws.{gang_width-le, length-lanes_of_word}
use Rattle.gang_model.specs.Types.Tree.{Var as ModelVar}
use Rattle.undo_log.specs.History.{History}
use Rattle.typed_tree.specs.declared.expressions.Var.{Var}
use Rattle.typed_tree.specs.Views.{var_view}
use Rattle.machine_states.specs.Effects.{all_declared_in, declared_in, declared_region, region_of}
use Rattle.machine_states.specs.Regions.{Region, Regions, same_region, with_region}
use Rattle.machine_states.proofs.AllDeclared.{all_declared_then, declared_long}
use Rattle.machine_states.proofs.ChangedRegions.{lengths_all, region_here}
use Rattle.machine_words.specs.declared.words.MachineWords.{MachineWords}
use Rattle.machine_words.specs.Ranges.{regions_of}
use Rattle.machine_words.specs.Words.{AreLaid, Writes, left_of, regions_in, words_of}
use Rattle.frame_steps.proofs.GangLanes.{each_width, rounds_bytes, words_few}
use Rattle.frame_steps.proofs.SentSteps.{MayPut}
use Rattle.machine_rounds.specs.Taking.{DeclaresAll}

module _ {T : Type 0} (history : T → History) (left : T → ℕ) (width : ℕ) (region : Region) where
  -- a region's words are those that were written
  pub written : (after : List ℕ) (writes : ℕ) (old new : MachineWords T) → Writes history left width region after writes old new → regions_in history width new region ≡ after
  written after writes old new made =
      ap (λ l. regions_of width l (words_of history new) region) made.layout ∙ made.changes region ∙ region_here after (regions_in history width old) region

  twice : (b : Bool) (first second rest : List ℕ) → cond b second (cond b first rest) ≡ cond b second rest
  twice true first second rest = refl
  twice false first second rest = refl

  -- of two writes to one region the second stays
  pub writes_again : (first second : List ℕ) (m n : ℕ) (old mid new : MachineWords T) → Writes history left width region first m old mid → Writes history left width region second n mid new
      → Writes history left width region second (m + n) old new
  writes_again first second m n old mid new made then = record {
    changes = λ r.
        ap (λ l. regions_of width l (words_of history new) r) (sym made.layout) ∙ then.changes r
        ∙ ap (λ rest. cond (same_region region r) second rest) (ap (λ l. regions_of width l (words_of history mid) r) made.layout ∙ made.changes r)
        ∙ twice (same_region region r) first second (regions_in history width old r);
    layout = then.layout ∙ made.layout;
    laid = then.laid;
    rest = then.rest ∙ made.rest;
    few = omega (arith, made.few, then.few);
  }

  -- so do three
  pub sets_three : (a b c x y z : ℕ) (old first second new : MachineWords T)
      → Writes history left width region (slice_set (regions_in history width old region) a x) 1 old first
      → Writes history left width region (slice_set (regions_in history width first region) b y) 1 first second
      → Writes history left width region (slice_set (regions_in history width second region) c z) 1 second new
      → Writes history left width region (slice_set (slice_set (slice_set (regions_in history width old region) a x) b y) c z) 3 old new
  sets_three a b c x y z old first second new one two three =
      let at_first : regions_in history width first region ≡ slice_set (regions_in history width old region) a x = written _ 1 old first one in
      let then = subst (λ ws. Writes history left width region (slice_set ws b y) 1 first second) at_first two in
      let both = writes_again (slice_set (regions_in history width old region) a x) (slice_set (slice_set (regions_in history width old region) a x) b y) 1 1 old first second one then in
      let at_second : regions_in history width second region ≡ slice_set (slice_set (regions_in history width old region) a x) b y = written _ 2 old second both in
      writes_again (slice_set (slice_set (regions_in history width old region) a x) b y) (slice_set (slice_set (slice_set (regions_in history width old region) a x) b y) c z) 2 1 old second new both
      (subst (λ ws. Writes history left width region (slice_set ws c z) 1 second new) at_second three)

-- ---- variables

-- the first variables, each with its words
abbrev pub first_given : List Var → (lists : List (List ℕ)) → ℕ → List (ModelVar × List ℕ)
first_given variables lists k = zip (map var_view (take k variables)) lists

one_more : (variables : List Var) (lists : List (List ℕ)) (k : ℕ) (d : Var) (ws : List ℕ) → k < length variables → slice_get lists k ≡ Some ws
    → first_given variables lists (suc k) ≡ first_given variables lists k ++ (var_view (slice_index_or variables k d), ws) ∷ []
one_more [] lists k d ws within is = absurd (omega (arith, within))
one_more (x ∷ variables) [] k d ws within is = absurd cc
one_more (x ∷ variables) (list ∷ lists) zero d ws within is = ap (λ l. (var_view x, l) ∷ []) (same_some list ws is)
  where
    same_some : (a b : List ℕ) → Some a ≡ Some b → a ≡ b
    same_some a b e = cc
one_more (x ∷ variables) (list ∷ lists) (suc k) d ws within is = ap (λ given. (var_view x, list) ∷ given) (one_more variables lists k d ws (omega (arith, within)) is)

few_left : (k width : ℕ) → k < 3 → k * width + width ≤ 3 * width
few_left zero width below = omega arith
few_left (suc zero) width below = omega arith
few_left (suc (suc zero)) width below = omega arith
few_left (suc (suc (suc k))) width below = absurd (omega (arith, below))

module _ {T : Type 0} (history : T → History) (left : T → ℕ) (width frame : ℕ) (gang : IsGangWidth width) (lanes : Mask) (variables : List Var) (lists : List (List ℕ)) (old : MachineWords T) where
  -- so many of the variables are declared
  abbrev pub SoFar : ℕ → MachineWords T → Type 0
  SoFar k mid = DeclaresAll history left width frame (lanes_of width lanes) (first_given variables lists k) (k * width) old mid

  pub none_declared : AreLaid history width old → DeclaresAll history left width frame (lanes_of width lanes) (first_given variables lists 0) (0 * width) old old
  none_declared laid = record { regions = λ r. refl; long = λ r. refl; layout = refl; laid = laid; rest = refl; few = omega arith }

  module _ (k : ℕ) (d : Var) (within : k < length variables) (sized : length (regions_in history width old (region_of frame (slice_index_or variables k d).id)) ≡ width)
      (mid : MachineWords T) (so_far : DeclaresAll history left width frame (lanes_of width lanes) (first_given variables lists k) (k * width) old mid)
      (region : Region) (region_is : region ≡ region_of frame (slice_index_or variables k d).id) where
    abbrev here : Var
    here = slice_index_or variables k d

    region_long : length (regions_in history width mid region) ≡ width
    region_long = so_far.long region ∙ ap (λ r. length (regions_in history width old r)) region_is ∙ sized

    pub may_declare : length variables ≤ 3 → no_lane (lanes_of width lanes) ≡ false → 3 * width ≤ left_of history left old → MayPut history left width (slice_index_or variables k d).rate region lanes mid
    may_declare few some room =
        let small = gang_width-le width gang in
        let place = words_few width gang here.rate in
        let still = few_left k width (omega (arith, within, few)) in
        (omega (arith, small), (gang, (so_far.laid, (omega (arith, region_long, place), (omega (arith, region_long), (some, omega (arith, room, so_far.few, still)))))))

    module _ (ws : List ℕ) (listed : slice_get lists k ≡ Some ws) (new : MachineWords T)
        (made : Writes history left width region (declared_region (slice_index_or variables k d).rate (lanes_of width lanes) ws (regions_in history width mid region)) width mid new) where
      given_is : first_given variables lists (k + 1) ≡ first_given variables lists k ++ (var_view here, ws) ∷ []
      given_is = let next : k + 1 ≡ suc k = omega arith in ap (first_given variables lists) next ∙ one_more variables lists k d ws within listed

      abbrev words_now : List ℕ
      words_now = declared_region here.rate (lanes_of width lanes) ws (regions_in history width mid region)

      abbrev before : Regions
      before = all_declared_in frame (lanes_of width lanes) (first_given variables lists k) (regions_in history width old)

      new_is : (r : Region) → regions_in history width new r ≡ with_region region words_now (regions_in history width mid) r
      new_is r = ap (λ l. regions_of width l (words_of history new) r) made.layout ∙ made.changes r

      changed : (r : Region) → regions_in history width new r ≡ declared_in frame here.id here.rate (lanes_of width lanes) ws before r
      changed r =
          new_is r
          ∙ ap₂ (λ ws others. cond (same_region region r) ws others) (ap (declared_region here.rate (lanes_of width lanes) ws) (so_far.regions region)) (so_far.regions r)
          ∙ ap (λ place. with_region place (declared_region here.rate (lanes_of width lanes) ws (before place)) before r) region_is

      pub one_declared : DeclaresAll history left width frame (lanes_of width lanes) (first_given variables lists (k + 1)) ((k + 1) * width) old new
      one_declared = record {
        regions = λ r. changed r ∙ sym (ap (λ given. all_declared_in frame (lanes_of width lanes) given (regions_in history width old) r) given_is
            ∙ ap (λ regions. regions r) (all_declared_then frame (lanes_of width lanes) (first_given variables lists k) (var_view here, ws) (regions_in history width old)));
        long = λ r. ap length (new_is r)
            ∙ lengths_all region words_now (regions_in history width mid)
            (declared_long width (lanes_of width lanes) (length-lanes_of_word width lanes.word) here.rate ws (regions_in history width mid region) region_long) r
            ∙ so_far.long r;
        layout = made.layout ∙ so_far.layout;
        laid = made.laid;
        rest = made.rest ∙ so_far.rest;
        few = omega (arith, made.few, so_far.few);
      }

few_all : (k width : ℕ) → k ≤ 3 → k * width ≤ 3 * width
few_all zero width most = omega arith
few_all (suc zero) width most = omega arith
few_all (suc (suc zero)) width most = omega arith
few_all (suc (suc (suc zero))) width most = omega arith
few_all (suc (suc (suc (suc k)))) width most = absurd (omega (arith, most))

-- all of them
pub all_declared : {T : Type 0} (history : T → History) (left : T → ℕ) (width frame : ℕ) (lanes : Lanes) (variables : List Var) (lists : List (List ℕ)) (old new : MachineWords T) (k : ℕ) → k ≡ length variables → k ≤ 3
    → DeclaresAll history left width frame lanes (first_given variables lists k) (k * width) old new → DeclaresAll history left width frame lanes (zip (map var_view variables) lists) (3 * width) old new
all_declared history left width frame lanes variables lists old new k last few made = record {
  regions = λ r. made.regions r ∙ ap (λ vs. all_declared_in frame lanes (zip (map var_view vs) lists) (regions_in history width old) r) (take_all k variables (omega (arith, last)));
  long = made.long;
  layout = made.layout;
  laid = made.laid;
  rest = made.rest;
  few = omega (arith, made.few, few_all k width few);
}

-- ---- what fits in memory

-- the words of the index variables of a round
abbrev pub indices_bytes : ℕ → ℕ
indices_bytes w = up 8 (max (8 + 3 * (w * 8)) 16)

pub indices_small : (w : ℕ) → IsGangWidth w → indices_bytes w < 9223372036854775808
indices_small w gang = each_width (λ n. indices_bytes n < 9223372036854775808) (lit< tt) (lit< tt) (lit< tt) w gang

-- a round, with what is left behind it
abbrev pub round_bytes : ℕ → ℕ
round_bytes w = up 8 (up 8 (8 + indices_bytes w) + rounds_bytes w)

pub round_small : (w : ℕ) → IsGangWidth w → round_bytes w < 9223372036854775808
round_small w gang = each_width (λ n. round_bytes n < 9223372036854775808) (lit< tt) (lit< tt) (lit< tt) w gang
