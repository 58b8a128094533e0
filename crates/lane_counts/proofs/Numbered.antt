-- The form of a number.
use Rattle.std.proofs.Common.{◌≡◌, ◌∙◌, ap, ℕ, zero, suc, true, List, [], ◌∷◌, length, Some, arith}
use Rattle.std.specs.Prelude.{◌&&◌, nat_lt, slice_get}
use Rattle.std.proofs.lemmas.Bool.Decides.{nat_tests}
use Rattle.gang_types.specs.declared.places.Spot.{Spot}
use Rattle.foreach_forms.specs.declared.forms.Form.{Form}
use Rattle.lane_counts.specs.declared.forms.Part.{Part}
use Rattle.lane_counts.specs.Formed.{has_part, is_part}

-- a form that is there is one of so many
pub part_of : (which : Part) (forms : List Form) (number : ℕ) (form : Form) (spot : Spot) → slice_get forms number ≡ Some form
    → (nat_lt number (length forms) && has_part which (slice_get forms number) spot) ≡ is_part which form spot
part_of which [] number form spot is = absurd (cc is)
part_of which (first ∷ forms) zero form spot is =
    let there : nat_lt 0 (suc (length forms)) ≡ true = grind (arith, nat_tests) in
    ap (λ b. b && has_part which (Some first) spot) there ∙ ap (λ f. has_part which f spot) is
part_of which (first ∷ forms) (suc number) form spot is =
    let same : nat_lt (suc number) (suc (length forms)) ≡ nat_lt number (length forms) = grind (arith, nat_tests) in
    ap (λ b. b && has_part which (slice_get forms number) spot) same ∙ part_of which forms number form spot is
