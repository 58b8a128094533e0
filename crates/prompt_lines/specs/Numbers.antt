-- The numbers of breakpoints and watches that a command line names: `delete 2 5-7` names 2, 5, 6 and 7, and `disable` alone all of them.
use Rattle.std.specs.Prelude.{ℕ, ◌+◌, ◌==◌, ◌&&◌, ◌||◌, Bool, false, not, nat_le, nat_lt, List, [], ◌∷◌, drop, length, take, Option, Some, None, is_none, if◌then◌else◌}
use Rattle.std.specs.List.{list_any, prefix_len}
use Rattle.gang_model.specs.Texts.CommandText.{index, is_mark}
use Rattle.gang_model.specs.Texts.Spellings.{Word, words_of_line}
use Rattle.prompt_lines.specs.declared.numbers.NumberRange.{NumberRange}
use Rattle.prompt_lines.specs.Words.{is_alone}

-- how many bytes stand before the first `-`
abbrev pub dash_place : Word → ℕ
dash_place word = prefix_len (λ byte. not (byte == 45)) word

-- the number behind it, and of a word without one the word's own
abbrev pub last_of : Word → Option ℕ
last_of word = if dash_place word == length word then index word else index (drop (dash_place word + 1) word)

-- the numbers from the first to the last, unless they stand upside down
abbrev pub in_order : (first last : Option ℕ) → Option NumberRange
in_order None last = None
in_order (Some first) None = None
in_order (Some first) (Some last) = if nat_le first last then Some (record { first = first; last = last }) else None

-- the numbers that a word stands for: one alone is a range too
abbrev pub range_of : Word → Option NumberRange
range_of word = in_order (index (take (dash_place word) word)) (last_of word)

-- whether a number is one of a range
abbrev pub is_within : ℕ → Option NumberRange → Bool
is_within number None = false
is_within number (Some range) = nat_le range.first number && nat_le number range.last

-- whether one of these words stands for a number
abbrev pub is_named : ℕ → List Word → Bool
is_named number words = list_any (λ word. is_within number (range_of word)) words

-- whether one of these words stands for none
abbrev pub has_other : List Word → Bool
has_other words = list_any (λ word. is_none (range_of word)) words

abbrev pub behind_one : List Word → List Word
behind_one [] = []
behind_one (word ∷ words) = words

-- the words behind the first one
abbrev pub arguments : (text : List ℕ) → List Word
arguments text = behind_one (words_of_line is_mark text)

-- whether all that stands behind the first word are numbers and ranges; a command line that was cut, since it is too long, is none of them
abbrev pub are_numbers : (text : List ℕ) → Bool
are_numbers text = nat_lt (length text) 257 && not (has_other (arguments text))

-- whether a command line names a number: one word alone names all
abbrev pub names_number : ℕ → (text : List ℕ) → Bool
names_number number text = is_alone text || is_named number (arguments text)
