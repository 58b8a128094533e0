-- The words of an assignment: a target, `=` and a value.
use Rattle.std.proofs.Common.{◌≡◌, ℕ, suc, ◌-◌, ◌<◌, ◌≤◌, List, [], ◌∷◌, length, take, get_or, Option, None, Bool, true, false, refl, sym, ap, ◌∙◌, arith}
use Rattle.std.specs.Prelude.{ℤ, codes, if◌then◌else◌}
use Rattle.std.specs.Borrow.{Bor}
use Rattle.gang_model.specs.Source.Names.{same_text}
use Rattle.gang_model.specs.Debugger.Debugger.{Target, Command}
use Rattle.gang_model.specs.Texts.CommandText.{with_value, target_of, set_of, value_word}
use Rattle.debug_commands.specs.LineWords.{texts}

abbrev nothing : Option Command
nothing = None

none_both : (t : Bool) → nothing ≡ (if t then nothing else nothing)
none_both true = refl
none_both false = refl

module _ (unused : Bor (List ℕ)) where
  -- the command that the last two words and the ones before them spell
  abbrev by_last : (ws : List (Bor (List ℕ))) → ℕ → Option Command
  by_last ws n = if same_text (get_or ws n unused).now (codes "=") then with_value (target_of (texts (take n ws))) (value_word (get_or ws (suc n) unused).now) else None

  set_by_last : (ws : List (Bor (List ℕ))) (n : ℕ) → length ws ≡ suc (suc n) → set_of (texts ws) ≡ by_last ws n
  set_by_last [] n e = absurd (omega arith)
  set_by_last (a ∷ []) n e = absurd (omega arith)
  set_by_last (a ∷ b ∷ []) n e = let is : n ≡ 0 = omega arith in rw is (none_both (same_text a.now (codes "=")))
  set_by_last (a ∷ b ∷ c ∷ []) n e = let is : n ≡ 1 = omega arith in rw is refl
  set_by_last (a ∷ b ∷ c ∷ d ∷ []) n e = let is : n ≡ 2 = omega arith in rw is (none_both (same_text c.now (codes "=")))
  set_by_last (a ∷ b ∷ c ∷ d ∷ f ∷ []) n e = let is : n ≡ 3 = omega arith in rw is (none_both (same_text d.now (codes "=")))
  set_by_last (a ∷ b ∷ c ∷ d ∷ f ∷ g ∷ []) n e = let is : n ≡ 4 = omega arith in rw is refl
  set_by_last (a ∷ b ∷ c ∷ d ∷ f ∷ g ∷ h ∷ ws) n e =
      let is : n ≡ suc (suc (suc (suc (suc (length ws))))) = omega arith in
      rw is (none_both (same_text (get_or (g ∷ h ∷ ws) (length ws) unused).now (codes "=")))

  set_last : (ws : List (Bor (List ℕ))) → 2 ≤ length ws → set_of (texts ws)
      ≡ (if same_text (get_or ws (length ws - 2) unused).now (codes "=") then with_value (target_of (texts (take (length ws - 2) ws))) (value_word (get_or ws (length ws - 1) unused).now) else None)
  set_last ws le =
      let at : suc (length ws - 2) ≡ length ws - 1 = omega arith in
      set_by_last ws (length ws - 2) (omega arith)
      ∙ ap (λ k. if same_text (get_or ws (length ws - 2) unused).now (codes "=") then with_value (target_of (texts (take (length ws - 2) ws))) (value_word (get_or ws k unused).now) else None) at

  pub not_assigned : (ws : List (Bor (List ℕ))) → 2 ≤ length ws → same_text (get_or ws (length ws - 2) unused).now (codes "=") ≡ false → None ≡ set_of (texts ws)
  not_assigned ws le e = sym (set_last ws le
      ∙ ap (λ t. if t then with_value (target_of (texts (take (length ws - 2) ws))) (value_word (get_or ws (length ws - 1) unused).now) else None) e)

  pub assigned : (ws : List (Bor (List ℕ))) (target : Option Target) (value : Option ℤ) → 2 ≤ length ws → same_text (get_or ws (length ws - 2) unused).now (codes "=") ≡ true
      → target ≡ target_of (texts (take (length ws - 2) ws)) → value ≡ value_word (get_or ws (length ws - 1) unused).now → with_value target value ≡ set_of (texts ws)
  assigned ws target value le e is to = sym (set_last ws le
      ∙ ap (λ t. if t then with_value (target_of (texts (take (length ws - 2) ws))) (value_word (get_or ws (length ws - 1) unused).now) else None) e
      ∙ ap (λ t. with_value t (value_word (get_or ws (length ws - 1) unused).now)) (sym is) ∙ ap (with_value target) (sym to))

pub too_few : (ws : List (Bor (List ℕ))) → length ws < 2 → None ≡ set_of (texts ws)
too_few [] lt = refl
too_few (a ∷ []) lt = refl
too_few (a ∷ b ∷ ws) lt = absurd (omega arith)
