-- The digits that a letter asks for.
use Rattle.std.specs.Prelude.{ℕ, ◌==◌, Option, Some, None, if◌then◌else◌}
use Rattle.value_digits.specs.declared.digits.Digits.{Digits}
use Rattle.value_digits.specs.declared.digits.Digits.TheVariants as in_digits

-- the digits of a letter: `d`, `x`, `o`, `t`, `u` or `c`
abbrev pub digits_of : (letter : ℕ) → Option Digits
digits_of letter =
    if letter == 100 then Some in_digits.Decimal else if letter == 120 then Some in_digits.Hexadecimal else if letter == 111 then Some in_digits.Octal
    else if letter == 116 then Some in_digits.Binary else if letter == 117 then Some in_digits.Unsigned else if letter == 99 then Some in_digits.Character else None
