-- JSON as a page may have it: in a string no `<` stands, and a number is one that JavaScript tells from those beside it.
use Rattle.std.specs.Prelude.{ℕ, zero, suc, ◌==◌, ◌&&◌, ◌||◌, ◌^◌, ◌-◌, not, Bool, ℤ, pos, neg_ℤ, int_le, List, [], ◌∷◌, ◌++◌, Option, Some, None, codes, decimal, flat_map, if◌then◌else◌, nat_lt, unwrap_or}
use Rattle.std.specs.List.{list_all}
use Rattle.std.specs.Fmt.{signed_decimal}
use Rattle.std.specs.Str.{is_utf8}
use Rattle.gang_model.specs.Texts.Text.{Bytes}
use Rattle.json_texts.specs.declared.parts.Part.{Part}
use Rattle.json_texts.specs.declared.parts.Part.TheVariants.{Text, Number, Whole, Any}

-- ---- lists

-- the items of a list behind its first one, and its end
abbrev pub rest_text : List Bytes → Bytes
rest_text [] = codes "]"
rest_text (item ∷ items) = codes "," ++ (item ++ rest_text items)

-- a list of items
abbrev pub list_text : List Bytes → Bytes
list_text [] = codes "[]"
list_text (item ∷ items) = codes "[" ++ (item ++ rest_text items)

-- what stands before an item: nothing before the first one, which is that of 0
abbrev pub comma_before : ℕ → Bytes
comma_before zero = []
comma_before (suc n) = codes ","

-- ---- numbers

-- a number that JavaScript tells from those beside it: below 2 ^ 53, also with a sign
abbrev pub is_exact : ℤ → Bool
is_exact n = int_le (neg_ℤ (pos (2 ^ 53 - 1))) n && int_le n (pos (2 ^ 53 - 1))

-- a text in quotes
abbrev pub quoted : Bytes → Bytes
quoted text = codes "\"" ++ text ++ codes "\""

-- a whole number, in quotes where JavaScript has it not
abbrev pub whole_text : ℤ → Bytes
whole_text n = if is_exact n then signed_decimal n else quoted (signed_decimal n)

-- ---- strings

-- a byte that no reader is shown: a control of ASCII, and where the bytes are no text also one outside ASCII
abbrev pub is_hidden : (is_text : Bool) → (byte : ℕ) → Bool
is_hidden is_text byte = nat_lt byte 32 || (byte == 127) || (nat_lt 127 byte && not is_text)

-- the bytes of U+FFFD
abbrev pub replaced : Bytes
replaced = 0xEF ∷ 0xBF ∷ 0xBD ∷ []

-- what a byte is spelled by that JSON or HTML could take for something else
abbrev pub spelling : (byte : ℕ) → Option Bytes
spelling byte = if byte == 34 then Some (codes "\\\"") else (if byte == 92 then Some (codes "\\\\") else (if byte == 10 then Some (codes "\\n") else (if byte == 9 then Some (codes "\\t")
    else (if byte == 60 then Some (codes "\\u003c") else (if byte == 62 then Some (codes "\\u003e") else (if byte == 38 then Some (codes "\\u0026") else None))))))

-- a byte of a string: by its spelling, if it has one; else replaced where it is hidden, and as it is where not
abbrev pub byte_text : (is_text : Bool) → (byte : ℕ) → Bytes
byte_text is_text byte = unwrap_or (spelling byte) (if is_hidden is_text byte then replaced else byte ∷ [])

-- bytes as a string
abbrev pub string_text : Bytes → Bytes
string_text bytes = quoted (flat_map (byte_text (is_utf8 bytes)) bytes)

-- no `<` stands in a text
abbrev pub is_plain : Bytes → Bool
is_plain text = list_all (λ byte. not (byte == 60)) text

-- ---- parts

abbrev pub part_text : Part → Bytes
part_text (Text bytes) = bytes.now
part_text (Number n) = decimal n
part_text (Whole n) = whole_text n
part_text (Any bytes) = string_text bytes.now
