-- Conditions in the lines that people type: what stands behind the word `if`. And the number that a line begins with.
use Rattle.std.specs.Prelude.{ℕ, ◌+◌, ◌&&◌, Bool, false, not, nat_lt, List, [], ◌∷◌, drop, length, take, Option, Some, None, codes, option_map, if◌then◌else◌}
use Rattle.std.specs.List.{prefix_len}
use Rattle.gang_model.specs.Texts.Spellings.{Word, behind, is_blank}
use Rattle.prompt_lines.specs.Sources.{begins_word, first_place, is_in_name}
use Rattle.prompt_lines.specs.Words.{unblanked}

-- whether a condition stands behind the word `if`: the word ends there, and something else than blanks follows
abbrev pub begins_by : List ℕ → Bool
begins_by [] = false
begins_by (byte ∷ bytes) = not (is_in_name byte) && nat_lt 0 (length (unblanked (byte ∷ bytes)))

abbrev pub begins : Option (List ℕ) → Bool
begins None = false
begins (Some rest) = begins_by rest

-- whether the word `if` stands at a place, with a condition behind it
abbrev pub is_if : List ℕ → (place : ℕ) → Bool
is_if text place = begins_word text place && begins (behind (codes "if") (drop place text))

-- where the first one stands; a command line that was cut, since it is too long, has none
abbrev pub if_place : List ℕ → Option ℕ
if_place text = if nat_lt (length text) 257 then first_place (is_if text) (length text) 0 else None

-- what stands before it
abbrev pub before_place : List ℕ → Option ℕ → List ℕ
before_place text None = text
before_place text (Some place) = take place text

abbrev pub before_if : List ℕ → List ℕ
before_if text = before_place text (if_place text)

-- the condition behind it, without the blanks before that
abbrev pub condition_in : List ℕ → Option (List ℕ)
condition_in text = option_map (λ place. unblanked (drop (place + 2) text)) (if_place text)

-- how many bytes stand before the first blank
abbrev pub word_len : List ℕ → ℕ
word_len text = prefix_len (λ byte. not (is_blank byte)) text

-- the first word of a text by its blanks
abbrev pub first_word : List ℕ → Word
first_word text = take (word_len (unblanked text)) (unblanked text)

-- what follows it, without the blanks before that
abbrev pub behind_first : List ℕ → List ℕ
behind_first text = unblanked (drop (word_len (unblanked text)) (unblanked text))
