use Rattle.std.proofs.Common.{◌≡◌, ◌+◌, ◌-◌, ◌*◌, ◌^◌, min, get_or, ap₂, ◌∙◌, arith}
use Rattle.adapter_frames.proofs.DigitValues.{digit_more}
use Rattle.adapter_frames.proofs.heads.value.Goals as goal

pub loop-digit-preserved : goal.loop-digit-preserved
loop-digit-preserved c =
    let digit = get_or c.args.digits.now c.loop-digit.digit-index 0 in
    let value = c.loop-digit.value in
    let next : c.saturating_add-value.result ≡ min (min (value * 10) (2 ^ 64 - 1) + (digit - 48)) (2 ^ 64 - 1) =
    c.saturating_add-value.ensures ∙ ap₂ (λ a b. min (a + b) (2 ^ 64 - 1)) c.saturating_mul.ensures (c.from.ensures ∙ c.saturating_sub.ensures) in
    (omega arith, digit_more c.args.digits.now c.loop-digit.digit-index value _ _ c.loop-digit-test.true next c.loop-digit.invariant.1)
