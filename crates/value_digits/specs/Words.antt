-- Words in the digits that people ask for.
use Rattle.std.specs.Prelude.{ℕ, ◌+◌, ◌/◌, ◌%◌, ◌^◌, ◌==◌, false, [], ◌∷◌, ◌++◌, codes, decimal, if◌then◌else◌}
use Rattle.std.specs.Fmt.{digits, signed_decimal}
use Rattle.gang_types.specs.declared.types.IntType.{IntType}
use Rattle.gang_types.specs.declared.types.IntType.TheVariants as t
use Rattle.gang_types.specs.Values.{converted, is_signed, value_of, width}
use Rattle.gang_model.specs.Texts.Spellings.{is_between}
use Rattle.gang_model.specs.Texts.Text.{Bytes, word_text}
use Rattle.value_digits.specs.declared.digits.Digits.{Digits}
use Rattle.value_digits.specs.declared.digits.Digits.TheVariants as in_digits

-- the bits of a word, as many as its type has, as a number
abbrev pub bits_of : IntType → ℕ → ℕ
bits_of type word = word % 2 ^ width type

-- octal digits, behind a 0, which stands alone for the number 0
abbrev pub octal : ℕ → Bytes
octal n = if n == 0 then codes "0" else codes "0" ++ digits 8 false n

-- ---- characters

-- the letter that stands for a byte behind `\`, or 0 where there is none: those of C
abbrev pub letter_of : (byte : ℕ) → ℕ
letter_of byte =
    if byte == 7 then 97 else if byte == 8 then 98 else if byte == 9 then 116 else if byte == 10 then 110 else if byte == 11 then 118
    else if byte == 12 then 102 else if byte == 13 then 114 else if byte == 39 then 39 else if byte == 92 then 92 else 0

-- `\` and the three octal digits of a byte
abbrev pub octal_escape : (byte : ℕ) → Bytes
octal_escape byte = 92 ∷ (48 + byte / 64) ∷ (48 + byte / 8 % 8) ∷ (48 + byte % 8) ∷ []

-- a byte that has no letter: one that is printed, or its octal digits
abbrev pub plain : (byte : ℕ) → Bytes
plain byte = if is_between 32 126 byte then byte ∷ [] else octal_escape byte

-- a byte as C spells a character
abbrev pub character : (byte : ℕ) → Bytes
character byte = if letter_of byte == 0 then plain byte else 92 ∷ letter_of byte ∷ []

-- the type of 8 bits that has values below 0 where this one has
abbrev pub byte_type : IntType → IntType
byte_type type = if is_signed type then t.Int8 else t.Uint8

-- a word of a type of 8 bits: its value, and the character between single quotes
abbrev pub quoted : IntType → ℕ → Bytes
quoted type word = signed_decimal (value_of type word) ++ codes " '" ++ character (bits_of type word) ++ codes "'"

-- ---- words

-- a word: its value, or its bits, or the character that a cast to 8 bits gives
abbrev pub form_text : Digits → IntType → ℕ → Bytes
form_text in_digits.Decimal type word = word_text type word
form_text in_digits.Unsigned type word = decimal (bits_of type word)
form_text in_digits.Hexadecimal type word = codes "0x" ++ digits 16 false (bits_of type word)
form_text in_digits.Octal type word = octal (bits_of type word)
form_text in_digits.Binary type word = digits 2 false (bits_of type word)
form_text in_digits.Character type word = quoted (byte_type type) (converted type (byte_type type) word)
