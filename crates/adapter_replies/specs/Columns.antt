-- Columns of a text, which count its units of UTF-16.
use Rattle.std.specs.Prelude.{ℕ, ◌-◌, [], ◌∷◌, if◌then◌else◌, nat_lt}
use Rattle.std.specs.List.{sum_by}
use Rattle.gang_model.specs.Texts.Text.{Bytes}

-- how many units the character has that a byte begins: two where it is one of four bytes; a byte inside a character begins none
abbrev pub units_of : (byte : ℕ) → ℕ
units_of byte = if nat_lt byte 128 then 1 else (if nat_lt byte 192 then 0 else (if nat_lt byte 240 then 1 else 2))

-- how many units a text has
abbrev pub utf16_length : Bytes → ℕ
utf16_length text = sum_by units_of text

-- the first characters of a text that have at most so many units together
abbrev pub first_units : (units : ℕ) → Bytes → Bytes
first_units units [] = []
first_units units (byte ∷ text) = if nat_lt units (units_of byte) then [] else byte ∷ first_units (units - units_of byte) text

-- the text before a column; columns count from 1
abbrev pub front : Bytes → (column : ℕ) → Bytes
front text column = first_units (column - 1) text
