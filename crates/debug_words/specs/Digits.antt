-- The digits of a radix.
use Rattle.std.specs.Prelude.{ℕ, Bool}
use Rattle.gang_model.specs.Texts.Spellings as spelling
use Rattle.debug_words.specs.declared.numbers.Radix.{Radix}
use Rattle.debug_words.specs.declared.numbers.Radix.TheVariants.{Decimal, Hexadecimal}

-- the base of a radix
abbrev pub base : Radix → ℕ
base Decimal = 10
base Hexadecimal = 16

-- whether a byte is a digit of a radix
abbrev pub is_digit_in : Radix → ℕ → Bool
is_digit_in Decimal = spelling.is_digit
is_digit_in Hexadecimal = spelling.is_hexadecimal
