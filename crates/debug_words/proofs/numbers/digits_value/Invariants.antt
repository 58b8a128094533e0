use Rattle.std.proofs.Common.{◌≡◌, ◌≤◌, ◌^◌, drop, min}
use Rattle.gang_model.specs.Texts.Spellings.{number_after}
use Rattle.debug_words.specs.Digits.{base}
use Rattle.debug_words.proofs.numbers.digits_value.Given as goal

abbrev pub invariant-loop-digit : goal.invariant-loop-digit
invariant-loop-digit l =
    (l.value ≤ 2 ^ 64)
    × (min (2 ^ 64) (number_after (base l.fn.radix) l.value (drop l.digit-index l.digits)) ≡ min (2 ^ 64) (number_after (base l.fn.radix) 0 l.digits))
