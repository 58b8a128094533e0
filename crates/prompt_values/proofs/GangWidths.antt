-- The test tells how many lanes a gang has.
use Rattle.std.proofs.Common.{◌≡◌, ℕ, true, inl, inr, refl, subst, sym, ap, ◌∙◌}
use Rattle.std.specs.Prelude.{◌==◌, ◌||◌}
use Rattle.std.proofs.lemmas.Bool.{cases_Bool, eqb-true}
use Rattle.gang_types.specs.Masks.{IsGangWidth}
use Rattle.prompt_values.specs.Widths.{is_gang_width}

pub narrow : (w : ℕ) → IsGangWidth w → is_gang_width w ≡ true
narrow w (inl four) = subst (λ k. is_gang_width k ≡ true) (sym four) refl
narrow w (inr (inl eight)) = subst (λ k. is_gang_width k ≡ true) (sym eight) refl
narrow w (inr (inr sixteen)) = subst (λ k. is_gang_width k ≡ true) (sym sixteen) refl

pub wide : (w : ℕ) → is_gang_width w ≡ true → IsGangWidth w
wide w given = elim (cases_Bool (w == 4)) [
  | inl four ↦ inl (eqb-true w 4 four)
  | inr not_four ↦ elim (cases_Bool (w == 8)) [
    | inl eight ↦ inr (inl (eqb-true w 8 eight))
    | inr not_eight ↦ inr (inr (eqb-true w 16 (sym (ap (λ b. b || ((w == 8) || (w == 16))) not_four ∙ ap (λ b. b || (w == 16)) not_eight) ∙ given)))
  ]
]
