use Rattle.std.proofs.Common.{◌≡◌, ◌*◌, ◌+◌, get_or, arith, sym, refl, ◌∙◌}
use Rattle.gang_model.specs.Source.Spelling.{base, digit_value}
use Rattle.ispc_lexer.specs.Numbers.{radix_view}
use Rattle.ispc_lexer.proofs.Digits.{value_step, too_large}
use Rattle.ispc_lexer.proofs.numbers.digits_value.Goals as goal

pub returns-in_err-shifted : goal.returns-in_err-shifted
returns-in_err-shifted c =
    let no_room = rw c.base-base.ensures at c.in_err-shifted.ensures in
    rw c.from_residual.ensures (too_large (radix_view c.args.radix) c.args.digits.now c.loop-digit.digit-index c.loop-digit.value (get_or c.args.digits.now c.loop-digit.digit-index 0) _ c.loop-digit-test.true refl (omega (arith, no_room)) c.loop-digit.invariant.1)

pub returns-in_err-value : goal.returns-in_err-value
returns-in_err-value c =
    let shifted = rw c.base-base.ensures at c.in_ok-shifted.ensures in
    let digit = c.digit_value.ensures in
    let wide = c.from.ensures in
    let no_room = c.in_err-value.ensures in
    rw c.from_residual-in_err-value.ensures (too_large (radix_view c.args.radix) c.args.digits.now c.loop-digit.digit-index c.loop-digit.value (get_or c.args.digits.now c.loop-digit.digit-index 0) _ c.loop-digit-test.true refl (omega (arith, shifted, digit, wide, no_room)) c.loop-digit.invariant.1)

pub loop-digit-preserved : goal.loop-digit-preserved
loop-digit-preserved c =
    let shifted = rw c.base-base.ensures at c.in_ok-shifted.ensures in
    let digit = c.digit_value.ensures in
    let wide = c.from.ensures in
    let next = c.in_ok-value.ensures in
    let next_is : c.in_ok-value.value ≡ c.loop-digit.value * base (radix_view c.args.radix) + digit_value (get_or c.args.digits.now c.loop-digit.digit-index 0) = omega (arith, shifted, digit, wide, next) in
    (omega (arith, next), rw next_is (sym (value_step (radix_view c.args.radix) c.args.digits.now c.loop-digit.digit-index c.loop-digit.value (get_or c.args.digits.now c.loop-digit.digit-index 0) c.loop-digit-test.true refl) ∙ c.loop-digit.invariant.1))
