use Rattle.std.proofs.Common.{◌∙◌, ap₂, rules}
use Rattle.std.proofs.lemmas.Int.{to_z-of_z}
use Rattle.std.specs.Prelude.{FitsSigned}
use Rattle.std.specs.Int.{w64}
use Rattle.gang_types.specs.Values as values
use Rattle.frame_steps.proofs.rounds_left.range.Goals as goal

pub returns : goal.returns
unfolding values.value_of
returns c =
    let low : FitsSigned w64 c.cast_signed.result = search rules in
    let high : FitsSigned w64 c.cast_signed-2.result = search rules in
    ap₂ (λ a b. (a, b)) (to_z-of_z w64 c.cast_signed.result low ∙ c.cast_signed.ensures) (to_z-of_z w64 c.cast_signed-2.result high ∙ c.cast_signed-2.ensures)
