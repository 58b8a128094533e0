-- How names and numbers are spelt in command lines and in the input text (choices of this project).
use Rattle.std.specs.Prelude.{ℕ, ◌+◌, ◌-◌, ◌*◌, ◌==◌, Bool, true, false, ◌&&◌, ◌||◌, nat_le, List, [], ◌∷◌, ◌++◌, Option, Some, None, ℤ, pos, neg_ℤ, codes, if◌then◌else◌}
use Rattle.gang_model.specs.Source.Names.{same_text}

-- the bytes of a word or a mark
abbrev pub Word : Type 0
Word = List ℕ

-- whether a byte lies from the first to the last one
abbrev pub is_between : (first last byte : ℕ) → Bool
is_between first last byte = nat_le first byte && nat_le byte last

-- space, tab and CR
abbrev pub is_blank : ℕ → Bool
is_blank byte = (byte == 32) || (byte == 9) || (byte == 13)

-- 0 to 9
abbrev pub is_digit : ℕ → Bool
is_digit byte = is_between 48 57 byte

-- 0 to 9, a to f or A to F
abbrev pub is_hexadecimal : ℕ → Bool
is_hexadecimal byte = is_digit byte || is_between 97 102 byte || is_between 65 70 byte

-- a letter or `_`
abbrev pub is_letter : ℕ → Bool
is_letter byte = is_between 97 122 byte || is_between 65 90 byte || (byte == 95)

-- whether each byte passes the test
abbrev pub all_are : (ℕ → Bool) → List ℕ → Bool
all_are test [] = true
all_are test (byte ∷ bytes) = if test byte then all_are test bytes else false

-- a letter or `_`, then letters, digits and `_`: a reserved word too
abbrev pub is_name : Word → Bool
is_name [] = false
is_name (byte ∷ bytes) = is_letter byte && all_are (λ b. is_letter b || is_digit b) bytes

-- ---- words

-- a word, unless it is empty, before others
abbrev pub before : Word → List Word → List Word
before [] words = words
before (byte ∷ bytes) words = (byte ∷ bytes) ∷ words

-- the words behind one that has begun
abbrev pub words_after : (is_mark : ℕ → Bool) → Word → List ℕ → List Word
words_after is_mark word [] = before word []
words_after is_mark word (byte ∷ bytes) =
    if is_blank byte then before word (words_after is_mark [] bytes)
    else (if is_mark byte then before word ((byte ∷ []) ∷ words_after is_mark [] bytes)
    else words_after is_mark (word ++ byte ∷ []) bytes)

-- the words of a line: marks by themselves, and the longest words without blanks and marks
abbrev pub words_of_line : (is_mark : ℕ → Bool) → List ℕ → List Word
words_of_line is_mark bytes = words_after is_mark [] bytes

-- what follows a prefix, where the word begins with it
abbrev pub behind : (prefix : List ℕ) → Word → Option Word
behind [] word = Some word
behind (p ∷ prefix) [] = None
behind (p ∷ prefix) (byte ∷ bytes) = if p == byte then behind prefix bytes else None

-- ---- numbers

-- the value of a digit
abbrev pub digit_value : ℕ → ℕ
digit_value byte = if is_digit byte then byte - 48 else (if is_between 97 102 byte then byte - 87 else byte - 55)

-- the number that further digits make of a number
abbrev pub number_after : (base : ℕ) → ℕ → List ℕ → ℕ
number_after base n [] = n
number_after base n (byte ∷ bytes) = number_after base (n * base + digit_value byte) bytes

-- one or more digits as a number
abbrev pub digits_number : (test : ℕ → Bool) → (base : ℕ) → Word → Option ℕ
digits_number test base [] = None
digits_number test base (byte ∷ bytes) = if all_are test (byte ∷ bytes) then Some (number_after base 0 (byte ∷ bytes)) else None

-- decimal digits as a number
abbrev pub decimal_number : Word → Option ℕ
decimal_number word = digits_number is_digit 10 word

-- hexadecimal digits where they stand behind `0x`, else decimal digits, as a number
abbrev pub hexadecimal_or : (behind_prefix : Option Word) → Word → Option ℕ
hexadecimal_or (Some digits) word = digits_number is_hexadecimal 16 digits
hexadecimal_or None word = decimal_number word

-- `0x` and hexadecimal digits, or decimal digits, as a number
abbrev pub number_of_word : Word → Option ℕ
number_of_word word = hexadecimal_or (behind (codes "0x") word) word

-- the number, where there is one and it lies from the least to the most
abbrev pub in_range : (least most : ℕ) → Option ℕ → Option ℕ
in_range least most None = None
in_range least most (Some n) = if is_between least most n then Some n else None

-- the number as a whole number
abbrev pub positive : Option ℕ → Option ℤ
positive None = None
positive (Some n) = Some (pos n)

-- the number with a minus
abbrev pub negative : Option ℕ → Option ℤ
negative None = None
negative (Some n) = Some (neg_ℤ (pos n))

-- a number behind a minus, if there is one, else a number without
abbrev pub signed_or : (signed unsigned : Word → Option ℕ) → (behind_minus : Option Word) → Word → Option ℤ
signed_or signed unsigned (Some digits) word = negative (signed digits)
signed_or signed unsigned None word = positive (unsigned word)

-- `true` as 1, `false` as 0, a minus and what may follow one, or a number without
abbrev pub value_of_word : (signed unsigned : Word → Option ℕ) → Word → Option ℤ
value_of_word signed unsigned word =
    if same_text word (codes "true") then Some (pos 1)
    else (if same_text word (codes "false") then Some (pos 0)
    else signed_or signed unsigned (behind (codes "-") word) word)
