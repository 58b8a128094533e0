-- Words in digits, computed.
use Rattle.std.proofs.Common.{◌≡◌, Some, None, refl}
use Rattle.std.specs.Prelude.{codes}
use Rattle.std.specs.Fmt.{digits}
use Rattle.gang_types.specs.Values.{value_of}
use Rattle.gang_types.specs.declared.types.IntType.TheVariants.{Bool, Int8, Int16, Int32, Uint8}
use Rattle.value_digits.specs.declared.digits.Digits.TheVariants.{Binary, Decimal, Hexadecimal, Octal, Unsigned}
use Rattle.value_digits.specs.Digits.{digits_of}
use Rattle.value_digits.specs.Words.{character, form_text, octal_escape, quoted}

-- ---- letters

-- `x` and `d`, and a letter that asks for nothing
of_x : digits_of 120 ≡ Some Hexadecimal
of_x = refl

of_d : digits_of 100 ≡ Some Decimal
of_d = refl

of_z : digits_of 122 ≡ None
of_z = refl

-- ---- words

-- 300 has no bits in an 8-bit type but the lowest eight
unsigned_row : form_text Unsigned Uint8 300 ≡ codes "44"
unfolding digits
unsigned_row = refl

hexadecimal_row : form_text Hexadecimal Int16 48879 ≡ codes "0xbeef"
unfolding digits
hexadecimal_row = refl

-- -1: its word has 64 bits, of which the type has 8
negative_row : form_text Hexadecimal Int8 18446744073709551615 ≡ codes "0xff"
unfolding digits
negative_row = refl

octal_row : form_text Octal Int32 8 ≡ codes "010"
unfolding digits
octal_row = refl

octal_zero_row : form_text Octal Int32 0 ≡ codes "0"
octal_zero_row = refl

binary_row : form_text Binary Int32 10 ≡ codes "1010"
unfolding digits
binary_row = refl

binary_bool_row : form_text Binary Bool 1 ≡ codes "1"
unfolding digits
binary_bool_row = refl

bool_row : form_text Decimal Bool 1 ≡ codes "true"
bool_row = refl

quoted_row : quoted Uint8 65 ≡ codes "65 'A'"
unfolding digits value_of
quoted_row = refl

-- ---- characters

line_feed_row : character 10 ≡ codes "\\n"
line_feed_row = refl

quote_row : character 39 ≡ codes "\\'"
quote_row = refl

octal_escape_row : octal_escape 200 ≡ codes "\\310"
octal_escape_row = refl

last_row : character 127 ≡ codes "\\177"
last_row = refl
