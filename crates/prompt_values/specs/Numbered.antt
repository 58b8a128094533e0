-- The values that were printed, by their numbers (GDB manual, "Value History"; how many are kept is a choice of this project).
use Rattle.std.specs.Prelude.{◌≡◌, ℕ, false, suc, ◌+◌, ◌-◌, ◌==◌, ◌||◌, max, min, nat_le, nat_lt, List, [], ◌∷◌, ◌++◌, codes, flat_map, Option, Some, None, option_and_then, option_map, slice_get, take, if◌then◌else◌}
use Rattle.std.specs.Prelude.{pos}
use Rattle.std.specs.Fmt.{signed_decimal}
use Rattle.std.specs.List.{range_with_len}
use Rattle.gang_model.specs.Texts.CommandText.{index}
use Rattle.gang_model.specs.Texts.Spellings.{behind}
use Rattle.gang_model.specs.Texts.Text.{Bytes}
use Rattle.frame_values.specs.declared.values.ExpressionValue.{ExpressionValue}
use Rattle.prompt_lines.specs.Heads.{stripped}
use Rattle.value_digits.specs.declared.digits.Digits.{Digits}
use Rattle.value_digits.specs.declared.digits.Digits.TheVariants as in_digits
use Rattle.prompt_texts.specs.Forms.{expression_line}
use Rattle.prompt_texts.specs.Items.{told_text}
use Rattle.prompt_values.specs.Widths.{is_gang_width}
use Rattle.prompt_values.specs.declared.numbered.NumberedValue.{NumberedValue}
use Rattle.prompt_values.specs.declared.numbered.Printed.{Printed}
use Rattle.prompt_values.specs.declared.numbered.Printed.TheVariants as printed
use Rattle.prompt_values.specs.declared.numbered.ValueName.{ValueName}
use Rattle.prompt_values.specs.declared.numbered.ValueName.TheVariants as name
use Rattle.prompt_values.specs.declared.numbered.Values.{Values}

-- what is kept: the last values that were printed, the newest first, and the number of the next one
pub record Kept : Type 0 where
  pub values : List NumberedValue
  pub next : ℕ

-- nothing was printed
abbrev pub none : Kept
none = record { values = []; next = 1 }

-- a value that is printed gets the next number, while there are numbers; of more than 100 the newest are kept
abbrev pub noted : Printed → Kept → Kept
noted value k = if nat_lt k.next 10000000 then record { values = record { number = k.next; value = value } ∷ take 99 k.values; next = suc k.next } else k

-- the same where a value was printed
abbrev pub noted_if : Option Printed → Kept → Kept
noted_if None k = k
noted_if (Some value) k = noted value k

-- at which place a value stands that a name stands for
abbrev pub place_of : ValueName → Kept → Option ℕ
place_of (name.Number n) k = if nat_lt n 1 || nat_le k.next n then None else Some (k.next - 1 - n)
place_of (name.Behind places) k = Some places

-- the value of a name
abbrev pub named : ValueName → Kept → Option NumberedValue
named name k = option_and_then (slice_get k.values) (place_of name k)

-- ---- names

-- what `$$` and a text behind it name
abbrev pub places_behind : List ℕ → Option ValueName
places_behind [] = Some (name.Behind 1)
places_behind (byte ∷ bytes) = option_map name.Behind (index (byte ∷ bytes))

-- what `$` and a text behind it name: the last value, one before it, or that of a number
abbrev pub name_behind : List ℕ → Option ValueName
name_behind [] = Some (name.Behind 0)
name_behind (byte ∷ bytes) = if byte == 36 then places_behind bytes else option_map name.Number (index (byte ∷ bytes))

-- the value that a text names, blanks around it left out
abbrev pub value_name : List ℕ → Option ValueName
value_name text = option_and_then name_behind (behind (codes "$") (stripped text))

-- ---- texts

-- a line's end: the value
abbrev pub printed_line : Digits → Printed → Bytes
printed_line given (printed.Told told) = codes " =" ++ told_text given told
printed_line given (printed.Expression value) = expression_line given [] value.value

-- a line: the value behind its number
abbrev pub numbered_line : Digits → NumberedValue → Bytes
numbered_line given value = codes "$" ++ signed_decimal (pos value.number) ++ printed_line given value.value

abbrev pub name_text : ValueName → Bytes
name_text (name.Number n) = codes "$" ++ signed_decimal (pos n)
name_text (name.Behind places) = codes "$$" ++ signed_decimal (pos places)

-- how many values were printed, and how many are kept
abbrev pub count_text : (count : ℕ) → Bytes
count_text count = codes ": values printed so far: " ++ signed_decimal (pos count) ++ codes ", and the last 100 are kept.\n"

-- why a name has no value, where the next one gets this number: it was never printed, or is kept no more
abbrev pub none_text : ValueName → (next : ℕ) → Bytes
none_text name next =
    if nat_le next 1 then codes "No value was printed yet: `print T` shows one, and gives it a number.\n"
    else codes "There is no value " ++ name_text name ++ count_text (next - 1)

abbrev pub value_or_none : Digits → ValueName → (next : ℕ) → Option NumberedValue → Bytes
value_or_none given name next None = none_text name next
value_or_none given name next (Some value) = numbered_line given value

-- a line: the value of a name behind its number, or why there is none
abbrev pub named_text : Digits → ValueName → Kept → Bytes
named_text given name k = value_or_none given name k.next (named name k)

-- 5 below a number that is named, else 10 below the next one
abbrev pub below : Option ℕ → Kept → ℕ
below None k = k.next - 10
below (Some n) k = n - 5

-- the number of the first value that is listed: it is one that a value can have
abbrev pub first_listed : Option ℕ → Kept → ℕ
first_listed number k = min (max (below number k) 1) 10000000

-- a line for a value, if there is one
abbrev pub line_if : Option NumberedValue → Bytes
line_if None = []
line_if (Some value) = numbered_line in_digits.Decimal value

abbrev pub listed_line : Kept → (number : ℕ) → Bytes
listed_line k number = line_if (named (name.Number number) k)

-- a line for each of ten numbers from one on that a value has
abbrev pub listed_lines : Kept → (first : ℕ) → Bytes
listed_lines k first = flat_map (λ place. listed_line k (first + place)) (range_with_len 0 10)

-- that none was printed, where the next one gets this number
abbrev pub empty_text : (next : ℕ) → Bytes
empty_text next = if nat_le next 1 then codes "No value was printed yet.\n" else []

-- ten values, the last ones, or those around a number
abbrev pub listed_text : Option ℕ → Kept → Bytes
listed_text number k = empty_text k.next ++ listed_lines k (first_listed number k)

-- ---- values of expressions

-- what was printed is the value of an expression
abbrev pub IsExpression : ExpressionValue → Printed → Type 0
IsExpression value (printed.Told told) = ⊥
IsExpression value (printed.Expression given) = given.value ≡ value

-- it has a word for each lane of a gang, or nothing was printed
abbrev pub IsExpressionOrNone : ExpressionValue → Option Printed → Type 0
IsExpressionOrNone value None = is_gang_width value.lanes.width ≡ false
IsExpressionOrNone value (Some given) = IsExpression value given

-- ---- values as they are kept

abbrev pub kept : Values → Kept
kept values = record { values = values.values.items; next = values.next }
