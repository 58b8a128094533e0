-- The heads of functions, as a source has them.
use Rattle.std.specs.Prelude.{ℕ, zero, suc, ◌-◌, ◌==◌, ◌||◌, Bool, false, true, not, List, Option, Some, None, drop, get_or, length, option_map, take, if◌then◌else◌}
use Rattle.std.specs.Char.{is_ascii_whitespace}
use Rattle.std.specs.List.{prefix_len, suffix_len}
use Rattle.gang_model.specs.Texts.Spellings.{behind}
use Rattle.prompt_lines.specs.declared.heads.Head as declared
use Rattle.prompt_lines.specs.Sources.{first_place, function_place, line_at}

-- the number of a line, and the head of a function on it
pub record Head : Type 0 where
  pub line : ℕ
  pub text : List ℕ

-- whether a function's head can begin behind a byte: behind a line's end, a body or a declaration
abbrev pub comes_before : (byte : ℕ) → Bool
comes_before byte = (byte == 10) || (byte == 125) || (byte == 59)

-- where the head begins in which a place is: behind the last such byte before it
abbrev pub head_start : List ℕ → (place : ℕ) → ℕ
head_start text zero = zero
head_start text (suc place) = if comes_before (get_or text place 0) then suc place else head_start text place

-- whether a head ends before a byte: its body begins there, or another line
abbrev pub ends_head : (byte : ℕ) → Bool
ends_head byte = (byte == 123) || (byte == 10)

-- a text without the blanks at its end
abbrev pub stripped_end : List ℕ → List ℕ
stripped_end text = take (length text - suffix_len is_ascii_whitespace text) text

-- a text without the blanks around it
abbrev pub stripped : List ℕ → List ℕ
stripped text = stripped_end (drop (prefix_len is_ascii_whitespace text) text)

-- what a text begins with, up to where a head ends
abbrev pub head_front : List ℕ → List ℕ
head_front text = stripped (take (prefix_len (λ byte. not (ends_head byte)) text) text)

-- the head in which a place is, and its line
abbrev pub head_at : List ℕ → (place : ℕ) → Head
head_at text place = record { line = line_at text place; text = head_front (drop (head_start text place) text) }

-- the head of the function of a name that is declared first
abbrev pub function_head : (text name : List ℕ) → Option Head
function_head text name = option_map (head_at text) (function_place text name)

-- ---- parts of names

abbrev pub is_there : Option (List ℕ) → Bool
is_there None = false
is_there (Some rest) = true

-- whether a part stands at a place of a name
abbrev pub stands_at : (part name : List ℕ) → (place : ℕ) → Bool
stands_at part name place = is_there (behind part (drop place name))

abbrev pub is_found : Option ℕ → Bool
is_found None = false
is_found (Some place) = true

-- whether a part stands anywhere in a name
abbrev pub has_part : (part name : List ℕ) → Bool
has_part part name = is_found (first_place (stands_at part name) (suc (length name)) 0)

-- ---- heads as they are given

abbrev pub head_view : declared.Head → Head
head_view head = record { line = head.line; text = head.text.now }

abbrev pub head_option : Option declared.Head → Option Head
head_option head = option_map head_view head
