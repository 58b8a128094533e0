-- Where the way back within a frame leads.
use Rattle.std.proofs.Common.{◌≡◌, ◌≤◌, ◌<◌, ◌-◌, ℕ, suc, true, false, List, [], ◌∷◌, ◌++◌, refl, sym, ap, ◌∙◌, arith}
use Rattle.std.specs.Prelude.{Option, if◌then◌else◌}
use Rattle.gang_model.specs.Debugger.Debugger.{Command, Debugger, DoReverseStep, Setting, do_command, kept_steps}
use Rattle.conditional_stops.specs.declared.sights.FrameWatch.{FrameWatch}
use Rattle.conditional_stops.specs.Sights.{differ, sight}
use Rattle.prompt_moves.specs.Moments.{led, steps_on}
use Rattle.prompt_past.specs.FramePast.{back_in_frame, back_to_change, changes_back, goes_on, into_frame, to_change, told_in_frame}

-- a list of commands, and then another
pub led_on : (s : Setting) (cs ds : List Command) (d : Debugger) → led s (cs ++ ds) d ≡ led s ds (led s cs d)
led_on s [] ds d = refl
led_on s (c ∷ cs) ds d = led_on s cs ds (do_command s c d).next

-- ---- single steps back to a change

module _ (s : Setting) (w : FrameWatch) (shown : Option (List ℕ)) where
  -- one from where the way goes on, and others; the last one; none
  pub led_back : (n : ℕ) (d : Debugger) → 0 < n → goes_on s w shown (do_command s (DoReverseStep 1) d).next ≡ true
      → led s (to_change n s w shown d) d ≡ led s (to_change (n - 1) s w shown (do_command s (DoReverseStep 1) d).next) (do_command s (DoReverseStep 1) d).next
  led_back n d some on =
      let more : n ≡ suc (n - 1) = omega (arith, some) in
      let r = do_command s (DoReverseStep 1) d in
      ap (λ k. led s (to_change k s w shown d) d) more ∙ ap (λ b. led s (if b then to_change (n - 1) s w shown r.next else []) r.next) on

  pub led_last_back : (n : ℕ) (d : Debugger) → 0 < n → goes_on s w shown (do_command s (DoReverseStep 1) d).next ≡ false
      → led s (to_change n s w shown d) d ≡ (do_command s (DoReverseStep 1) d).next
  led_last_back n d some on =
      let more : n ≡ suc (n - 1) = omega (arith, some) in
      let r = do_command s (DoReverseStep 1) d in
      ap (λ k. led s (to_change k s w shown d) d) more ∙ ap (λ b. led s (if b then to_change (n - 1) s w shown r.next else []) r.next) on

  pub led_no_back : (n : ℕ) (d : Debugger) → n ≤ 0 → led s (to_change n s w shown d) d ≡ d
  led_no_back n d none = let no : n ≡ 0 = omega (arith, none) in ap (λ k. led s (to_change k s w shown d) d) no

-- ---- from change to change

module _ (s : Setting) (w : FrameWatch) where
  -- one that is found, and others; the end of the way; none
  pub led_change : (n : ℕ) (d e : Debugger) → 0 < n → e ≡ led s (back_to_change s w d) d → differ (sight s d w) (sight s e w) ≡ true
      → led s (changes_back n s w d) d ≡ led s (changes_back (n - 1) s w e) e
  led_change n d e some is found =
      let more : n ≡ suc (n - 1) = omega (arith, some) in
      let back = back_to_change s w d in
      let at = led s back d in
      ap (λ k. led s (changes_back k s w d) d) more
      ∙ led_on s back (if differ (sight s d w) (sight s at w) then changes_back (n - 1) s w at else []) d
      ∙ ap (λ b. led s (if b then changes_back (n - 1) s w at else []) at) (ap (λ x. differ (sight s d w) (sight s x w)) (sym is) ∙ found)
      ∙ ap (λ x. led s (changes_back (n - 1) s w x) x) (sym is)

  pub led_last_change : (n : ℕ) (d e : Debugger) → 0 < n → e ≡ led s (back_to_change s w d) d → differ (sight s d w) (sight s e w) ≡ false
      → led s (changes_back n s w d) d ≡ e
  led_last_change n d e some is found =
      let more : n ≡ suc (n - 1) = omega (arith, some) in
      let back = back_to_change s w d in
      let at = led s back d in
      ap (λ k. led s (changes_back k s w d) d) more
      ∙ led_on s back (if differ (sight s d w) (sight s at w) then changes_back (n - 1) s w at else []) d
      ∙ ap (λ b. led s (if b then changes_back (n - 1) s w at else []) at) (ap (λ x. differ (sight s d w) (sight s x w)) (sym is) ∙ found)
      ∙ sym is

  pub led_no_change : (n : ℕ) (d : Debugger) → n ≤ 0 → led s (changes_back n s w d) d ≡ d
  led_no_change n d none = let no : n ≡ 0 = omega (arith, none) in ap (λ k. led s (changes_back k s w d) d) no

  -- back to a change, and into the frame again
  pub led_in_frame : (d : Debugger) → led s (back_in_frame s w d) d ≡ led s (into_frame s w (led s (back_to_change s w d) d)) (led s (back_to_change s w d) d)
  led_in_frame d = led_on s (back_to_change s w d) (into_frame s w (led s (back_to_change s w d) d)) d

  -- back over changes, and on again
  pub led_told : (most : ℕ) (d : Debugger) → led s (told_in_frame most s w d) d
      ≡ led s (steps_on (kept_steps d - kept_steps (led s (changes_back most s w d) d)) s (led s (changes_back most s w d) d)) (led s (changes_back most s w d) d)
  led_told most d =
      let e = led s (changes_back most s w d) d in
      led_on s (changes_back most s w d) (steps_on (kept_steps d - kept_steps e) s e) d
