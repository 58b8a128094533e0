-- What is written where a line prints, and of the values that were printed.
use Rattle.std.specs.Prelude.{◌≡◌, ⊤, ℕ, ◌&&◌, Bool, true, false, bytes_eq, List, [], ◌∷◌, ◌++◌, codes, drop, Option, Some, None, option_map, if◌then◌else◌}
use Rattle.gang_model.specs.Debugger.Debugger.{Target}
use Rattle.gang_model.specs.Texts.CommandText.{index}
use Rattle.gang_model.specs.Texts.Text.{Bytes, target_text}
use Rattle.prompt_lines.specs.Conditions.{behind_first, first_word}
use Rattle.prompt_lines.specs.Heads.{stripped}
use Rattle.value_digits.specs.declared.digits.Digits.TheVariants as in_digits
use Rattle.prompt_values.specs.declared.numbered.Printed.{Printed}
use Rattle.prompt_values.specs.FormsPrinted.{IsWrittenOf}
use Rattle.prompt_values.specs.Numbered.{Kept, listed_text, printed_line, value_name}
use Rattle.prompt_values.specs.Printed.{WritesNamed, names_something}

-- ---- lines that print

-- what was printed of a target is written behind it
abbrev pub WritesTarget : (puts : Bytes → Type 0) → Target → Option Printed → Type 0
WritesTarget puts target None = ⊤
WritesTarget puts target (Some value) = puts (target_text target ++ printed_line in_digits.Decimal value)

-- what a line prints behind its first word: a numbered value, or what is printed behind what was typed; nothing of a line that is too long, or a word alone
abbrev pub WritesTyped : (names_something : Bool) → (puts : Bytes → Type 0) → (typed : Bytes) → Kept → Option Printed → Type 0
WritesTyped true puts typed k value = WritesNamed puts (value_name typed) typed in_digits.Decimal k value
WritesTyped false puts typed k value = value ≡ None

-- the same of a line that may set a value: such a one prints none
abbrev pub WritesUnlessSet : (sets : Bool) → (puts : Bytes → Type 0) → (text : List ℕ) → Kept → Option Printed → Type 0
WritesUnlessSet true puts text k value = value ≡ None
WritesUnlessSet false puts text k value = WritesTyped (names_something text) puts (drop 5 text) k value

-- what a line prints: its target, or what that is as an expression; where it has none, what is typed behind its first word
abbrev pub WritesPrint : (puts : Bytes → Type 0) → Option Target → (sets : Bool) → (text : List ℕ) → Kept → Option Printed → Type 0
WritesPrint puts (Some target) sets text k value = IsWrittenOf puts (Some target) (drop 5 text) in_digits.Decimal value
WritesPrint puts None sets text k value = WritesUnlessSet sets puts text k value

-- ---- the values that were printed

-- around which number values are listed: none where no number stands there
abbrev pub around_named : (text : List ℕ) → Option (Option ℕ)
around_named [] = Some None
around_named (byte ∷ bytes) = option_map Some (index (byte ∷ bytes))

-- the same by a command line that asks for them
abbrev pub values_asked : (text : List ℕ) → Option (Option ℕ)
values_asked text =
    if bytes_eq (first_word text) (codes "show") && bytes_eq (first_word (behind_first text)) (codes "values") then around_named (stripped (behind_first (behind_first text)))
    else None

-- ten values are listed, where a command line asks for them
abbrev pub ListsBy : (puts : Bytes → Type 0) → Option (Option ℕ) → Kept → Type 0
ListsBy puts None k = ⊤
ListsBy puts (Some number) k = puts (listed_text number k)

abbrev pub ListsValues : (puts : Bytes → Type 0) → (text : List ℕ) → Kept → Type 0
ListsValues puts text k = ListsBy puts (values_asked text) k
