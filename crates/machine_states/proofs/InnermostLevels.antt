-- The innermost form that is not over, and what a change of its level leaves.
use Rattle.std.proofs.Common.{◌≡◌, refl, ap, ◌∙◌, subst, ℕ, suc, ◌<◌, ◌≤◌, Bool, true, false, List, [], ◌∷◌, ◌++◌, length, length-append, arith, sym}
use Rattle.std.specs.Prelude.{if◌then◌else◌}
use Rattle.gang_model.specs.Types.Tree.{StepNumber, RoundsOf}
use Rattle.mask_states.specs.Points.{Point}
use Rattle.mask_states.specs.Masked.{Level, closed, is_over}
use Rattle.machine_states.specs.Levels.{LevelsWords, Forms, body_level, form_level, levels_in, IsForm, AreForms, ShowsLevels, AreOver, Innermost}

module _ (w : ℕ) (words : LevelsWords) (end : StepNumber) where
  -- the levels are those without the innermost form, if it is over, and all of them, if it is not
  pub closed_over : (form : RoundsOf) (forms : Forms) → is_over (form_level w form (words (suc (length forms)))) ≡ true
      → closed (levels_in w words end (form ∷ forms)) ≡ closed (levels_in w words end forms)
  closed_over form [] over = ap (λ b. if b then closed (levels_in w words end []) else levels_in w words end (form ∷ [])) over
  closed_over form (next ∷ forms) over = ap (λ b. if b then closed (levels_in w words end (next ∷ forms)) else levels_in w words end (form ∷ next ∷ forms)) over

  pub closed_live : (form : RoundsOf) (forms : Forms) → is_over (form_level w form (words (suc (length forms)))) ≡ false
      → closed (levels_in w words end (form ∷ forms)) ≡ levels_in w words end (form ∷ forms)
  closed_live form [] live = ap (λ b. if b then closed (levels_in w words end []) else levels_in w words end (form ∷ [])) live
  closed_live form (next ∷ forms) live = ap (λ b. if b then closed (levels_in w words end (next ∷ forms)) else levels_in w words end (form ∷ next ∷ forms)) live

  -- forms that are over count for nothing
  pub over_dropped : (over live : Forms) → AreOver w words over live → closed (levels_in w words end (over ++ live)) ≡ closed (levels_in w words end live)
  over_dropped [] live h = refl
  over_dropped (form ∷ over) live h = closed_over form (over ++ live) h.0 ∙ over_dropped over live h.1

  innermost_by : (form : RoundsOf) (forms : Forms) → Innermost w words end forms → (b : Bool) → is_over (form_level w form (words (suc (length forms)))) ≡ b → Innermost w words end (form ∷ forms)
  innermost_by form forms i true e = record {
    over = form ∷ i.over;
    live = i.live;
    parts = ap (λ fs. form ∷ fs) i.parts;
    are_over = (subst (λ fs. is_over (form_level w form (words (suc (length fs)))) ≡ true) i.parts e, i.are_over);
    closed_is = i.closed_is;
  }
  innermost_by form forms i false e = record { over = []; live = form ∷ forms; parts = refl; are_over = tt; closed_is = closed_live form forms e }

  pub innermost : (forms : Forms) → Innermost w words end forms
  innermost [] = record { over = []; live = []; parts = refl; are_over = tt; closed_is = refl }
  innermost (form ∷ forms) = innermost_by form forms (innermost forms) (is_over (form_level w form (words (suc (length forms))))) refl

  -- so the levels are those of the forms that are not over
  pub live_levels : (forms : Forms) (i : Innermost w words end forms) → closed (levels_in w words end forms) ≡ levels_in w words end i.live
  live_levels forms i = ap (λ fs. closed (levels_in w words end fs)) i.parts ∙ over_dropped i.over i.live i.are_over ∙ i.closed_is

  pub levels_long : (forms : Forms) → length (levels_in w words end forms) ≡ suc (length forms)
  levels_long [] = refl
  levels_long (form ∷ forms) = ap suc (levels_long forms)

  -- one level for each form that is not over, and one for the body
  pub live_long : (levels : List Level) (forms : Forms) → levels ≡ closed (levels_in w words end forms) → (i : Innermost w words end forms) → length levels ≡ suc (length i.live)
  live_long levels forms e i = ap length (e ∙ live_levels forms i) ∙ levels_long i.live

-- a change that leaves the levels of the forms that are over: the levels are those of the others after it
module _ (w : ℕ) (old new : LevelsWords) (end : StepNumber) (live : Forms) (same : (level : ℕ) → length live < level → new level ≡ old level) where
  over_kept : (over : Forms) → AreOver w old over live → AreOver w new over live
  over_kept [] h = tt
  over_kept (form ∷ over) h =
      let above : length live < suc (length (over ++ live)) = omega (arith, length-append over live) in
      (ap (λ words. is_over (form_level w form words)) (same (suc (length (over ++ live))) above) ∙ h.0, over_kept over h.1)

  pub changed_levels : (over : Forms) → AreOver w old over live → closed (levels_in w new end (over ++ live)) ≡ closed (levels_in w new end live)
  changed_levels over h = over_dropped w new end over live (over_kept over h)

-- levels with the words that they had are the same
pub same_levels : (w : ℕ) (old new : LevelsWords) (end : StepNumber) (forms : Forms) → ((level : ℕ) → level ≤ length forms → new level ≡ old level)
    → levels_in w new end forms ≡ levels_in w old end forms
same_levels w old new end [] same = ap (λ words. body_level end words.numbers ∷ []) (same 0 (omega arith))
same_levels w old new end (form ∷ forms) same =
    ap (λ words. form_level w form words ∷ levels_in w new end forms) (same (suc (length forms)) (omega arith))
    ∙ ap (λ levels. form_level w form (old (suc (length forms))) ∷ levels) (same_levels w old new end forms (λ level within. same level (omega (arith, within))))

-- ---- what words show

module _ (points : List Point) (w : ℕ) where
  forms_same : (old new : LevelsWords) → ((level : ℕ) → new (suc level) ≡ old (suc level)) → (forms : Forms) → AreForms points w old forms → AreForms points w new forms
  forms_same old new same [] are = tt
  forms_same old new same (form ∷ forms) are = (subst (λ words. IsForm points w words form) (sym (same (length forms))) are.0, forms_same old new same forms are.1)

  -- words that are the same show the same levels
  pub levels_shown_same : (old new : LevelsWords) (begun now : List ℕ) (end : StepNumber) (levels : List Level) → ((level : ℕ) → new level ≡ old level) → now ≡ begun
      → ShowsLevels points w old begun end levels → ShowsLevels points w new now end levels
  levels_shown_same old new begun now end levels same count shown = record {
    forms = shown.forms;
    are = forms_same old new (λ level. same (suc level)) shown.forms shown.are;
    counted = count ∙ shown.counted;
    body_sized = ap (λ words. length words.numbers) (same 0) ∙ shown.body_sized;
    levels_are = shown.levels_are ∙ ap closed (sym (same_levels w old new end shown.forms (λ level within. same level)));
  }

  -- the innermost of forms has a number for each lane
  pub live_sized : (words : LevelsWords) (live : Forms) → AreForms points w words live → length (words 0).numbers ≡ w → length (words (length live)).numbers ≡ w
  live_sized words [] are sized = sized
  live_sized words (form ∷ forms) are sized = are.0.sized

  forms_over : (old new : LevelsWords) (live : Forms) → ((level : ℕ) → length live < level → new level ≡ old level) → (over : Forms) → AreForms points w old (over ++ live)
      → AreForms points w new live → AreForms points w new (over ++ live)
  forms_over old new live same [] old_are are = are
  forms_over old new live same (form ∷ over) old_are are =
      let above : length live < suc (length (over ++ live)) = omega (arith, length-append over live) in (
        subst (λ words. IsForm points w words form) (sym (same (suc (length (over ++ live))) above)) old_are.0,
        forms_over old new live same over old_are.1 are,
      )

  -- what is not over may change, while forms that are over have the words that they had
  pub innermost_changed : (old new : LevelsWords) (begun now : List ℕ) (end : StepNumber) (levels : List Level) (shown : ShowsLevels points w old begun end levels)
      (i : Innermost w old end shown.forms) → ((level : ℕ) → length i.live < level → new level ≡ old level) → AreForms points w new i.live → length (new 0).numbers ≡ w → now ≡ begun
      → ShowsLevels points w new now end (closed (levels_in w new end i.live))
  innermost_changed old new begun now end levels shown i same are sized count = record {
    forms = shown.forms;
    are = subst (AreForms points w new) (sym i.parts) (forms_over old new i.live same i.over (subst (AreForms points w old) i.parts shown.are) are);
    counted = count ∙ shown.counted;
    body_sized = sized;
    levels_are = sym (ap (λ forms. closed (levels_in w new end forms)) i.parts ∙ changed_levels w old new end i.live same i.over i.are_over);
  }

-- where no form has begun, there is the body alone
pub no_form_shown : (points : List Point) (w : ℕ) (words : LevelsWords) (begun : List ℕ) (end : StepNumber) → begun ≡ 0 ∷ [] → length (words 0).numbers ≡ w
    → ShowsLevels points w words begun end (body_level end (words 0).numbers ∷ [])
no_form_shown points w words begun end count sized = record { forms = []; are = tt; counted = count; body_sized = sized; levels_are = refl }
