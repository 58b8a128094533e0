-- A form begins in the level above the innermost one: what a frame's words show then. A form that is over and had begun there is forgotten.
use Rattle.std.proofs.Common.{◌≡◌, refl, ap, ◌∙◌, subst, ℕ, suc, ◌<◌, ◌≤◌, List, [], ◌∷◌, ◌++◌, length, arith, sym}
use Rattle.gang_model.specs.Types.Tree.{StepNumber, RoundsOf, Rows, Tiles, EachLane, EachValue}
use Rattle.mask_states.specs.Points.{Point}
use Rattle.mask_states.specs.Masked.{Level, closed}
use Rattle.foreach_lowering.specs.Law.{IsKept}
use Rattle.machine_states.specs.Levels.{LevelWords, LevelsWords, Forms, body_level, form_level, kept_in, levels_in, IsForm, AreForms, ShowsLevels, Innermost}
use Rattle.machine_states.proofs.InnermostLevels.{innermost_changed, live_levels, same_levels}

-- a level with other numbers
abbrev pub with_numbers : List ℕ → Level → Level
with_numbers numbers level = record level { numbers = numbers }

abbrev pub words_with : List ℕ → LevelWords → LevelWords
words_with numbers words = record words { numbers = numbers }

-- the innermost one of levels with other numbers
abbrev pub top_with : List ℕ → List Level → List Level
top_with numbers [] = []
top_with numbers (level ∷ below) = with_numbers numbers level ∷ below

-- what a form keeps is in its other words
pub kept_with : (w : ℕ) (form : RoundsOf) (words : LevelWords) (numbers : List ℕ) → kept_in w form (words_with numbers words) ≡ kept_in w form words
kept_with w (Rows ds) words numbers = refl
kept_with w (Tiles ds) words numbers = refl
kept_with w (EachLane x) words numbers = refl
kept_with w (EachValue x e) words numbers = refl

level_with : (w : ℕ) (form : RoundsOf) (words : LevelWords) (numbers : List ℕ) → form_level w form (words_with numbers words) ≡ with_numbers numbers (form_level w form words)
level_with w (Rows ds) words numbers = refl
level_with w (Tiles ds) words numbers = refl
level_with w (EachLane x) words numbers = refl
level_with w (EachValue x e) words numbers = refl

-- forms that are forgotten
pub forms_kept : (points : List Point) (w : ℕ) (words : LevelsWords) (over live : Forms) → AreForms points w words (over ++ live) → AreForms points w words live
forms_kept points w words [] live are = are
forms_kept points w words (form ∷ over) live are = forms_kept points w words over live are.1

module _ (points : List Point) (w : ℕ) (old new : LevelsWords) (end : StepNumber) (numbers : List ℕ) (sized : length numbers ≡ w) where
  pub forms_same : (forms : Forms) → ((level : ℕ) → level ≤ length forms → new level ≡ old level) → AreForms points w old forms → AreForms points w new forms
  forms_same [] same are = tt
  forms_same (form ∷ forms) same are = (
    subst (λ words. IsForm points w words form) (sym (same (suc (length forms)) (omega arith))) are.0,
    forms_same forms (λ level within. same level (omega (arith, within))) are.1,
  )

  pub form_with : (form : RoundsOf) (words : LevelWords) → IsForm points w words form → IsForm points w (words_with numbers words) form
  form_with form words is = record {
    head = is.head;
    next = is.next;
    body = is.body;
    begins = is.begins;
    turns = is.turns;
    sized = sized;
    counted = is.counted;
    valued = is.valued;
    kept = subst (IsKept form w) (sym (kept_with w form words numbers)) is.kept;
  }

  -- the innermost level has other numbers, and those below it the words that they had
  abbrev pub IsOutside : Forms → Type 0
  IsOutside live = (new (length live) ≡ words_with numbers (old (length live))) × ((level : ℕ) → level < length live → new level ≡ old level)

  pub live_are : (live : Forms) → IsOutside live → AreForms points w old live → AreForms points w new live
  live_are [] outside are = tt
  live_are (form ∷ forms) outside are = (
    subst (λ words. IsForm points w words form) (sym outside.0) (form_with form (old (suc (length forms))) are.0),
    forms_same forms (λ level within. outside.1 level (omega (arith, within))) are.1,
  )

  pub live_with : (live : Forms) → IsOutside live → levels_in w new end live ≡ top_with numbers (levels_in w old end live)
  live_with [] outside = ap (λ words. body_level end words.numbers ∷ []) outside.0
  live_with (form ∷ forms) outside =
      ap (λ words. form_level w form words ∷ levels_in w new end forms) outside.0
      ∙ ap (λ level. level ∷ levels_in w new end forms) (level_with w form (old (suc (length forms))) numbers)
      ∙ ap (λ levels. with_numbers numbers (form_level w form (old (suc (length forms)))) ∷ levels)
      (same_levels w old new end forms (λ level within. outside.1 level (omega (arith, within))))

  pub body_with : (live : Forms) → IsOutside live → length (old 0).numbers ≡ w → length (new 0).numbers ≡ w
  body_with [] outside is = ap (λ words. length words.numbers) outside.0 ∙ sized
  body_with (form ∷ forms) outside is = ap (λ words. length words.numbers) (outside.1 0 (omega arith)) ∙ is

  -- the levels, where those above the innermost one are over and have the words that they had
  pub top_changed : (begun now : List ℕ) (levels : List Level) (shown : ShowsLevels points w old begun end levels) (i : Innermost w old end shown.forms)
      → IsOutside i.live → ((level : ℕ) → length i.live < level → new level ≡ old level) → now ≡ begun → ShowsLevels points w new now end (closed (top_with numbers levels))
  top_changed begun now levels shown i outside above count =
      let same : levels_in w new end i.live ≡ top_with numbers levels =
      live_with i.live outside ∙ ap (top_with numbers) (sym (shown.levels_are ∙ live_levels w old end shown.forms i)) in
      subst (λ ls. ShowsLevels points w new now end (closed ls)) same
      (innermost_changed points w old new begun now end levels shown i above
      (live_are i.live outside (forms_kept points w old i.over i.live (subst (AreForms points w old) i.parts shown.are)))
      (body_with i.live outside shown.body_sized) count)

  -- the form stands over those that are not over
  pub begun_shown : (begun now : List ℕ) (levels : List Level) (shown : ShowsLevels points w old begun end levels) (i : Innermost w old end shown.forms)
      → IsOutside i.live → (form : RoundsOf) → IsForm points w (new (suc (length i.live))) form → now ≡ suc (length i.live) ∷ []
      → ShowsLevels points w new now end (closed (form_level w form (new (suc (length i.live))) ∷ top_with numbers levels))
  begun_shown begun now levels shown i outside form is count = record {
    forms = form ∷ i.live;
    are = (is, live_are i.live outside (forms_kept points w old i.over i.live (subst (AreForms points w old) i.parts shown.are)));
    counted = count;
    body_sized = body_with i.live outside shown.body_sized;
    levels_are = ap (λ below. closed (form_level w form (new (suc (length i.live))) ∷ below))
        (ap (top_with numbers) (shown.levels_are ∙ live_levels w old end shown.forms i) ∙ sym (live_with i.live outside));
  }
