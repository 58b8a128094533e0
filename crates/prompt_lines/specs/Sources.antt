-- The source that a prompt shows, and the lines of its functions.
use Rattle.std.specs.Prelude.{ℕ, zero, suc, ◌==◌, ◌&&◌, ◌||◌, Bool, true, false, not, List, [], ◌∷◌, count_by, drop, get_or, length, take, Option, Some, None, option_and_then, option_map, if◌then◌else◌}
use Rattle.std.specs.Option.{option_or}
use Rattle.gang_model.specs.Debugger.Debugger.{Command, DoBreak}
use Rattle.gang_model.specs.Texts.CommandText.{command_of}
use Rattle.gang_model.specs.Texts.Spellings.{behind, in_range, is_digit, is_letter}
use Rattle.prompt_lines.specs.Words.{argument_of, breaking_text, unblanked}

-- the name of a source's file, and its text
pub record Sheet : Type 0 where
  pub name : List ℕ
  pub text : List ℕ

-- whether a name goes on with this byte
abbrev pub is_in_name : ℕ → Bool
is_in_name byte = is_letter byte || is_digit byte

-- how often a byte stands before a place
abbrev pub count_before : (byte : ℕ) → List ℕ → (place : ℕ) → ℕ
count_before byte text place = count_by (λ b. b == byte) (take place text)

-- whether no name goes on at a place
abbrev pub begins_word : List ℕ → (place : ℕ) → Bool
begins_word text zero = true
begins_word text (suc place) = not (is_in_name (get_or text place 32))

-- whether a text opens a list of parameters, blanks before it left out
abbrev pub opens_by : List ℕ → Bool
opens_by [] = false
opens_by (byte ∷ bytes) = byte == 40

abbrev pub opens : Option (List ℕ) → Bool
opens None = false
opens (Some rest) = opens_by (unblanked rest)

-- whether a name stands at a place as a word, with `(` behind it
abbrev pub begins_function : (text name : List ℕ) → (place : ℕ) → Bool
begins_function text name place = begins_word text place && opens (behind name (drop place text))

-- whether a function of a name is declared at a place: as many braces are opened before it as are closed
abbrev pub declares : (text name : List ℕ) → (place : ℕ) → Bool
declares text name place = (count_before 123 text place == count_before 125 text place) && begins_function text name place

-- the first of so many places that passes a test
abbrev pub first_place : (ℕ → Bool) → (count from : ℕ) → Option ℕ
first_place test zero from = None
first_place test (suc count) from = if test from then Some from else first_place test count (suc from)

-- the line of a place
abbrev pub line_at : List ℕ → (place : ℕ) → ℕ
line_at text place = suc (count_before 10 text place)

-- the place at which a function of a name is declared first
abbrev pub function_place : (text name : List ℕ) → Option ℕ
function_place text name = first_place (declares text name) (length text) 0

-- the line of this, if 32 bits hold it
abbrev pub function_line : (text name : List ℕ) → Option ℕ
function_line text name = in_range 0 4294967295 (option_map (line_at text) (function_place text name))

-- the line of a breakpoint that a command makes
abbrev pub break_of : Option Command → Option ℕ
break_of (Some (DoBreak n)) = Some n
break_of command = None

-- what follows the name of the source and `:`
abbrev pub behind_file : (name word : List ℕ) → Option (List ℕ)
behind_file name word = option_and_then (behind (58 ∷ [])) (behind name word)

-- the line of a number, or of a function, behind the source's name
abbrev pub line_in_file : (text word : List ℕ) → Option ℕ
line_in_file text word = option_or (break_of (command_of (breaking_text word))) (function_line text word)

-- the line of a function, or what follows the source's name
abbrev pub named_or_function : Sheet → (word : List ℕ) → (rest : Option (List ℕ)) → Option ℕ
named_or_function sheet word None = function_line sheet.text word
named_or_function sheet word (Some rest) = line_in_file sheet.text rest

-- the line that a word names
abbrev pub line_of_word : Sheet → List ℕ → Option ℕ
line_of_word sheet word = named_or_function sheet word (behind_file sheet.name word)

-- the line that a command line which begins with `break` names: by its number or by a function's name, with
-- the source's name and `:` before it or without
abbrev pub line_named : Sheet → (text : List ℕ) → Option ℕ
line_named sheet text = option_or (break_of (command_of text)) (option_and_then (line_of_word sheet) (argument_of text))
