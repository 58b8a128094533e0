-- The levels of a frame from its innermost one on: what its words say of them.
use Rattle.std.proofs.Common.{◌≡◌, refl, sym, ap, ◌∙◌, subst, ℕ, zero, suc, ◌<◌, ◌≤◌, Bool, true, false, List, [], ◌∷◌, length, arith, ⊎_elim}
use Rattle.std.specs.Prelude.{slice_get, Some, None, drop, if◌then◌else◌}
use Rattle.std.proofs.lemmas.Bool.{cases_lt, eq-eqb}
use Rattle.std.proofs.lemmas.Option.{slice_get-get_or}
use Rattle.gang_model.specs.Running.Rounds.{Turn}
use Rattle.gang_model.specs.Types.Tree.{RoundsOf, Function}
use Rattle.mask_states.specs.Points.{Point, Go, closing_number, function_ways, points_in}
use Rattle.mask_states.specs.Placed.{HasPoint}
use Rattle.mask_states.specs.Masked.{Level, next_in, is_over, closed}
use Rattle.mask_states.proofs.LaneNumbers.{least_at_most}
use Rattle.mask_states.proofs.PlacedPoints.{length-points_of}
use Rattle.foreach_lowering.specs.Kept.{turns_left}
use Rattle.machine_states.specs.Regions.{OpenOf, NumbersOf, OfHead, OfLevel, Regions}
use Rattle.machine_states.specs.Levels.{Forms, LevelsWords, levels_in, kept_in, IsForm, AreForms, ShowsLevels, Innermost}
use Rattle.machine_states.specs.Shows.{level_words}
use Rattle.machine_states.specs.Steps.{IsInnermost, end_in}
use Rattle.machine_states.proofs.AwaitedLevels.{IsNoTurn, is_inside, no_turn}
use Rattle.machine_states.proofs.BeginLevels.{forms_kept}
use Rattle.machine_states.proofs.InnermostLevels.{live_levels, levels_long, live_sized}

-- a level of a frame, by its words and the rounds still to come
abbrev pub level_of : Regions → (index : ℕ) → Function → (level : ℕ) → List Turn → Level
level_of regions index f level turns = record { end = end_in regions index f level; turns = turns; numbers = regions (OfLevel index level NumbersOf) }

-- this level of a frame that runs f is the innermost one, and these are below it
pub record IsTop (w : ℕ) (regions : Regions) (index : ℕ) (f : Function) (level : ℕ) (turns : List Turn) (below : List Level) : Type 0 where
  pub shown : ShowsLevels (points_in f) w (level_words regions index) (regions (OfHead index OpenOf)) (closing_number f) (level_of regions index f level turns ∷ below)
  pub inner : Innermost w (level_words regions index) (closing_number f) shown.forms
  pub height : length inner.live ≡ level

-- it is that of the first of these forms, and those below are those of the others and of the body
pub record IsTopForm (w : ℕ) (regions : Regions) (index : ℕ) (f : Function) (level : ℕ) (turns : List Turn) (below : List Level) (live : Forms) : Type 0 where
  pub form : RoundsOf
  pub forms : Forms
  pub live_is : live ≡ form ∷ forms
  pub long : length forms ≡ level
  pub is : IsForm (points_in f) w (level_words regions index (suc level)) form
  pub are : AreForms (points_in f) w (level_words regions index) forms
  pub turns_are : turns ≡ turns_left form w (kept_in w form (level_words regions index (suc level)))
  pub below_are : below ≡ levels_in w (level_words regions index) (closing_number f) forms

abbrev first_turns : List Level → List Turn
first_turns [] = []
first_turns (level ∷ below) = level.turns

closed_short : (levels : List Level) → length (closed levels) ≤ length levels
closed_short [] = omega arith
closed_short (level ∷ []) = omega arith
closed_short (level ∷ next ∷ below) = by_over (is_over level) (closed_short (next ∷ below))
  where
    by_over : (b : Bool) → length (closed (next ∷ below)) ≤ length (next ∷ below) → length (if b then closed (next ∷ below) else level ∷ next ∷ below) ≤ length (level ∷ next ∷ below)
    by_over true short = omega (arith, short)
    by_over false short = omega arith

module _ (w : ℕ) (regions : Regions) (index : ℕ) (f : Function) where
  none_within : (number : ℕ) → number < length (points_in f) → slice_get (points_in f) number ≡ None → ⊥
  none_within number within none = none_some _ (sym none ∙ slice_get-get_or (points_in f) number (Go 0) within)
    where
      none_some : (point : Point) → None ≡ Some point → ⊥
      none_some point e = cc

  abbrev words : LevelsWords
  words = level_words regions index

  -- the levels that words show
  pub top_is : (level : ℕ) (levels : List Level) → ShowsLevels (points_in f) w (level_words regions index) (regions (OfHead index OpenOf)) (closing_number f) levels → IsInnermost w regions index f level
      → (turns : List Turn) × (below : List Level) × (levels ≡ level_of regions index f level turns ∷ below) × IsTop w regions index f level turns below
  top_is level levels shown innermost =
      let at = innermost shown.forms shown.are shown.counted in
      let first = first_of at.0.live in
      let same : levels ≡ level_of regions index f (length at.0.live) first.0 ∷ first.1 =
      shown.levels_are ∙ live_levels w words (closing_number f) shown.forms at.0 ∙ first.2 in
      subst (λ l. (turns : List Turn) × (below : List Level) × (levels ≡ level_of regions index f l turns ∷ below) × IsTop w regions index f l turns below) at.1 (
        first.0,
        first.1,
        same,
        record {
          shown = record { forms = shown.forms; are = shown.are; counted = shown.counted; body_sized = shown.body_sized; levels_are = sym same ∙ shown.levels_are };
          inner = at.0;
          height = refl;
        },
      )
    where
      first_of : (live : Forms) → (turns : List Turn) × (below : List Level) × (levels_in w words (closing_number f) live ≡ level_of regions index f (length live) turns ∷ below)
      first_of [] = ([], [], refl)
      first_of (form ∷ forms) = (turns_left form w (kept_in w form (words (suc (length forms)))), levels_in w words (closing_number f) forms, refl)

  module _ (level : ℕ) (turns : List Turn) (below : List Level) (top : IsTop w regions index f level turns below) where
    -- the forms that are not over
    pub live_are : AreForms (points_in f) w (level_words regions index) top.inner.live
    live_are = forms_kept (points_in f) w words top.inner.over top.inner.live (subst (AreForms (points_in f) w words) top.inner.parts top.shown.are)

    pub live_is : level_of regions index f level turns ∷ below ≡ levels_in w (level_words regions index) (closing_number f) top.inner.live
    live_is = top.shown.levels_are ∙ live_levels w words (closing_number f) top.shown.forms top.inner

    -- there are as many below it as its number says
    pub below_long : length below ≡ level
    below_long = omega (arith, ap length live_is, levels_long w words (closing_number f) top.inner.live, top.height)

    -- a number for each lane
    pub numbers_long : length (regions (OfLevel index level NumbersOf)) ≡ w
    numbers_long = subst (λ l. length (regions (OfLevel index l NumbersOf)) ≡ w) top.height (live_sized (points_in f) w words top.inner.live live_are top.shown.body_sized)

  -- the innermost one is that of a form that is not over
  module _ (level : ℕ) (turns : List Turn) (below : List Level) (top : IsTop w regions index f (suc level) turns below) where
    pub top_form : IsTopForm w regions index f level turns below top.inner.live
    top_form = by_live top.inner.live top.height (live_are (suc level) turns below top) (live_is (suc level) turns below top)
      where
        by_live : (live : Forms) → length live ≡ suc level → AreForms (points_in f) w words live
            → level_of regions index f (suc level) turns ∷ below ≡ levels_in w words (closing_number f) live → IsTopForm w regions index f level turns below live
        by_live [] e are same = absurd (omega (arith, e))
        by_live (form ∷ forms) e are same =
            let long : length forms ≡ level = omega (arith, e) in
            record {
              form = form;
              forms = forms;
              live_is = refl;
              long = long;
              is = subst (λ l. IsForm (points_in f) w (words (suc l)) form) long are.0;
              are = are.1;
              turns_are = ap first_turns same ∙ ap (λ l. turns_left form w (kept_in w form (words (suc l)))) long;
              below_are = ap (drop 1) same;
            }

    pub not_over : is_over (level_of regions index f (suc level) turns) ≡ false
    not_over =
        let same = live_is (suc level) turns below top in
        by_over below (below_long (suc level) turns below top) (ap closed same ∙ top.inner.closed_is ∙ sym same) (is_over (level_of regions index f (suc level) turns)) refl
      where
        by_over : (under : List Level) → length under ≡ suc level → closed (level_of regions index f (suc level) turns ∷ under) ≡ level_of regions index f (suc level) turns ∷ under
            → (b : Bool) → is_over (level_of regions index f (suc level) turns) ≡ b → is_over (level_of regions index f (suc level) turns) ≡ false
        by_over [] long same b e = absurd (omega (arith, long))
        by_over (next ∷ under) long same true e =
            let over : closed (next ∷ under) ≡ level_of regions index f (suc level) turns ∷ next ∷ under =
            sym (ap (λ b. if b then closed (next ∷ under) else level_of regions index f (suc level) turns ∷ next ∷ under) e) ∙ same in
            absurd (omega (arith, ap length over, closed_short (next ∷ under)))
        by_over (next ∷ under) long same false e = e

    -- where no lane is in a round, there is one to come
    pub some_turn : next_in (level_of regions index f (suc level) turns) ≡ end_in regions index f (suc level) → (turn : Turn) × (later : List Turn) × (turns ≡ turn ∷ later)
    some_turn at_end = by_turns turns at_end not_over
      where
        by_turns : (left : List Turn) → next_in (level_of regions index f (suc level) left) ≡ end_in regions index f (suc level) → is_over (level_of regions index f (suc level) left) ≡ false
            → (turn : Turn) × (later : List Turn) × (left ≡ turn ∷ later)
        by_turns [] at_end live =
            let over : is_over (level_of regions index f (suc level) []) ≡ true = eq-eqb (next_in (level_of regions index f (suc level) [])) (end_in regions index f (suc level)) at_end in
            absurd cc
        by_turns (turn ∷ later) at_end live = (turn, later, refl)

  -- the function's body alone
  pub body_alone : (turns : List Turn) (below : List Level) → IsTop w regions index f 0 turns below → (turns ≡ []) × (below ≡ [])
  body_alone turns below top = by_live top.inner.live top.height (live_is 0 turns below top)
    where
      by_live : (live : Forms) → length live ≡ 0 → level_of regions index f 0 turns ∷ below ≡ levels_in w words (closing_number f) live → (turns ≡ []) × (below ≡ [])
      by_live [] e same = (ap first_turns same, ap (drop 1) same)
      by_live (form ∷ forms) e same = absurd (omega (arith, e))

  -- a point that is no round of a form stands below the level's end
  pub below_end : (level : ℕ) (turns : List Turn) (below : List Level) → IsTop w regions index f level turns below → (point : Point) → IsNoTurn point
      → HasPoint (points_in f) (next_in (level_of regions index f level turns)) point → next_in (level_of regions index f level turns) < end_in regions index f level
  below_end zero turns below top point unturned is =
      omega (arith, is_inside (points_in f) (next_in (level_of regions index f 0 turns)) point is, length-points_of f.body (function_ways f))
  below_end (suc level) turns below top point unturned is = ⊎_elim
      (λ less. less)
      (λ past.
      let t = top_form level turns below top in
      let at_end : next_in (level_of regions index f (suc level) turns) ≡ end_in regions index f (suc level) =
      omega (arith, past, least_at_most (end_in regions index f (suc level)) (regions (OfLevel index (suc level) NumbersOf))) in
      absurd (no_turn point t.is.body unturned (sym is ∙ ap (slice_get (points_in f)) at_end ∙ t.is.turns)))
      (cases_lt (next_in (level_of regions index f (suc level) turns)) (end_in regions index f (suc level)))

  -- past the last point there is the function's body alone
  within_last : (level : ℕ) (turns : List Turn) (below : List Level) → IsTop w regions index f (suc level) turns below
      → slice_get (points_in f) (next_in (level_of regions index f (suc level) turns)) ≡ None → ⊥
  within_last level turns below top none =
      let t = top_form level turns below top in
      none_within (next_in (level_of regions index f (suc level) turns))
      (omega (arith, is_inside (points_in f) _ _ t.is.turns, least_at_most (end_in regions index f (suc level)) (regions (OfLevel index (suc level) NumbersOf)))) none

  pub at_brace : (level : ℕ) (turns : List Turn) (below : List Level) → IsTop w regions index f level turns below
      → slice_get (points_in f) (next_in (level_of regions index f level turns)) ≡ None → level ≡ 0
  at_brace zero turns below top none = refl
  at_brace (suc level) turns below top none = absurd (within_last level turns below top none)

  pub brace_turns : (level : ℕ) (turns : List Turn) (below : List Level) → IsTop w regions index f level turns below
      → slice_get (points_in f) (next_in (level_of regions index f level turns)) ≡ None → turns ≡ []
  brace_turns zero turns below top none = (body_alone turns below top).0
  brace_turns (suc level) turns below top none = absurd (within_last level turns below top none)

  pub brace_end : (level : ℕ) (turns : List Turn) (below : List Level) → IsTop w regions index f level turns below
      → slice_get (points_in f) (next_in (level_of regions index f level turns)) ≡ None → next_in (level_of regions index f level turns) ≡ end_in regions index f level
  brace_end zero turns below top none = ⊎_elim
      (λ less. absurd (none_within (next_in (level_of regions index f 0 turns)) (omega (arith, less, length-points_of f.body (function_ways f))) none))
      (λ past. omega (arith, past, least_at_most (closing_number f) (regions (OfLevel index 0 NumbersOf))))
      (cases_lt (next_in (level_of regions index f 0 turns)) (closing_number f))
  brace_end (suc level) turns below top none = absurd (within_last level turns below top none)
