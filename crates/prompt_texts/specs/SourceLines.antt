-- The lines of a source, as they are listed (GDB manual: list).
use Rattle.std.specs.Prelude.{ℕ, zero, suc, ◌+◌, ◌-◌, ◌==◌, Bool, false, not, List, [], ◌∷◌, ◌++◌, codes, count_by, decimal, drop, flat_map, get_or, length, min, nat_lt, Option, Some, None, option_and_then, option_map, pos, take, if◌then◌else◌}
use Rattle.std.specs.Borrow.{Bor}
use Rattle.std.specs.Fmt.{signed_decimal}
use Rattle.std.specs.List.{prefix_len, range_with_len}
use Rattle.gang_model.specs.Texts.Text.{Bytes}
use Rattle.prompt_texts.specs.LaneShares.{right}
use Rattle.prompt_texts.specs.Shown.{masked}

-- how many bytes stand before the first line feed
abbrev pub line_len : Bytes → ℕ
line_len text = prefix_len (λ byte. not (byte == 10)) text

-- what stands behind the first line feed, if there is one
abbrev pub after_line : Bytes → Option Bytes
after_line text = if nat_lt (line_len text) (length text) then Some (drop (line_len text + 1) text) else None

-- a line without a carriage return at its end
abbrev pub without_return : Bytes → Bytes
without_return line = if get_or line (length line - 1) 0 == 13 then take (length line - 1) line else line

-- the first line of a text, if it has a byte
abbrev pub first_line : Bytes → Option Bytes
first_line [] = None
first_line (byte ∷ bytes) = Some (without_return (take (line_len (byte ∷ bytes)) (byte ∷ bytes)))

-- what stands behind so many lines
abbrev pub behind_lines : (count : ℕ) → Bytes → Option Bytes
behind_lines zero text = Some text
behind_lines (suc count) text = option_and_then (behind_lines count) (after_line text)

-- the line of a number from 1 on, if there is one
abbrev pub line_of : Bytes → (number : ℕ) → Option Bytes
line_of text number = option_and_then first_line (behind_lines (number - 1) text)

-- whether a text ends within a line
abbrev pub is_open : Bytes → Bool
is_open [] = false
is_open (byte ∷ bytes) = not (get_or (byte ∷ bytes) (length (byte ∷ bytes) - 1) 0 == 10)

-- how many lines there are, as far as 32 bits number them
abbrev pub line_count : Bytes → ℕ
line_count text = min (count_by (λ byte. byte == 10) text + (if is_open text then 1 else 0)) 4294967295

-- ---- texts

-- the mark before the line where the program stands, and before another one
abbrev pub line_mark : (here number : ℕ) → Bytes
line_mark here number = if number == here then codes "-> " else codes "   "

-- a line behind a mark and its number, if there is one
abbrev pub line_text : (number : ℕ) → (mark : Bytes) → Option Bytes → Bytes
line_text number mark None = []
line_text number mark (Some line) = mark ++ right 5 (decimal number) ++ codes "  " ++ masked line ++ codes "\n"

-- so many lines from one on
abbrev pub lines_text : (text : Bytes) → (here first count : ℕ) → Bytes
lines_text text here first count = flat_map (λ number. line_text number (line_mark here number) (line_of text number)) (range_with_len first count)

-- how many lines a source has
abbrev pub count_text : (count : ℕ) → Bytes
count_text count = codes ": the source has " ++ signed_decimal (pos count) ++ codes " lines\n"

-- that there is no line of a number
abbrev pub past_text : (text : Bytes) → (number : ℕ) → Bytes
past_text text number = codes "there is no line " ++ signed_decimal (pos number) ++ count_text (line_count text)

-- the lines from one on up to another one or the last, where there is the first of them
abbrev pub lines_or_past : (text : Bytes) → (here first next : ℕ) → Option Bytes → Bytes
lines_or_past text here first next None = past_text text first
lines_or_past text here first next (Some line) = lines_text text here first (suc (min (next - 1) (line_count text)) - first)

-- the lines from one on up to another one, that of the place with a mark
abbrev pub listed_text : (text : Bytes) → (here first next : ℕ) → Bytes
listed_text text here first next = if nat_lt first next then lines_or_past text here first next (line_of text first) else codes "line 1 is the first one\n"

-- ---- lines as they are given

abbrev pub line_view : Option (Bor (List ℕ)) → Option Bytes
line_view line = option_map (λ line. line.now) line
