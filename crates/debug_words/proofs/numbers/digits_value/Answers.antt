use Rattle.std.proofs.Common.{◌+◌, ◌*◌, get_or, refl, ◌∙◌, sym, ap, subst, ◌≤◌, ◌≡◌, min}
use Rattle.std.proofs.Math.Nat.{min-le_right}
use Rattle.gang_model.specs.Texts.Spellings.{digit_value}
use Rattle.debug_words.specs.Digits.{base}
use Rattle.debug_words.proofs.DigitRuns.{one_more, past}
use Rattle.debug_words.proofs.numbers.digits_value.Goals as goal

pub loop-digit-preserved : goal.loop-digit-preserved
loop-digit-preserved c =
    let digit = get_or c.args.digits.now c.loop-digit.digit-index 0 in
    let value = c.loop-digit.value in
    let longer = value * base c.args.radix + digit_value digit in
    let kept : c.limited-value.result ≡ min longer past =
    c.limited-value.ensures
    ∙ (ap (λ b. min (value * b + c.from.result) past) c.base-base.ensures
    ∙ ap (λ d. min (value * base c.args.radix + d) past) (c.from.ensures ∙ c.digit_value.ensures)) in (
      subst (λ n. n ≤ past) (sym kept) (min-le_right longer past),
      one_more c.args.radix c.args.digits.now c.loop-digit.digit-index value longer c.limited-value.result _ digit c.loop-digit-test.true refl refl kept c.loop-digit.invariant.1,
    )
