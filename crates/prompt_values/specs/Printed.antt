-- What is written where a value is printed, and what is printed.
use Rattle.std.specs.Prelude.{◌≡◌, ◌⊎◌, ⊤, ℕ, zero, suc, ◌&&◌, Bool, not, nat_lt, List, ◌++◌, codes, length, Option, Some, None}
use Rattle.gang_model.specs.Debugger.Debugger.{Debugger, Setting, Target}
use Rattle.gang_model.specs.Texts.Text.{Bytes, target_text}
use Rattle.debug_answers.specs.declared.answer.Answer.{Answer}
use Rattle.debug_answers.specs.declared.answer.Answer.TheVariants as answer
use Rattle.debug_commands.specs.Views.{target_view}
use Rattle.frame_values.specs.declared.values.NoValue.{NoValue}
use Rattle.frame_values.specs.Values.{HasNoValue, IsValueOf}
use Rattle.prompt_lines.specs.Heads.{stripped}
use Rattle.prompt_lines.specs.Parts.{count_place}
use Rattle.prompt_lines.specs.Words.{is_alone}
use Rattle.value_digits.specs.declared.digits.Digits.{Digits}
use Rattle.value_digits.specs.declared.digits.Digits.TheVariants as in_digits
use Rattle.prompt_texts.specs.Shown.{masked}
use Rattle.prompt_values.specs.declared.numbered.Printed.{Printed}
use Rattle.prompt_values.specs.declared.numbered.Printed.TheVariants as printed
use Rattle.prompt_values.specs.declared.numbered.ValueName.{ValueName}
use Rattle.prompt_values.specs.Numbered.{Kept, named_text, printed_line}

-- what is written where memory runs out
abbrev pub no_memory : Bytes
no_memory = codes "C12 Memory: there is no memory to show this.\n"

-- a line: what was printed behind a front, or that there is no memory
abbrev pub line_or_none : (front : Bytes) → Digits → Option Printed → Bytes
line_or_none front given None = no_memory
line_or_none front given (Some value) = front ++ printed_line given value

-- the value that was printed of an expression in the frame at a depth, or that it has none
abbrev pub IsPrintedOf : (text : List ℕ) → Setting → Debugger → (depth : ℕ) → Option Printed → Type 0
IsPrintedOf text s d deep None = (why : NoValue) × HasNoValue text s d deep why
IsPrintedOf text s d deep (Some (printed.Told told)) = ⊥
IsPrintedOf text s d deep (Some (printed.Expression value)) = IsValueOf text s d deep value.value

-- an answer that shows a target is written by that and what was printed, or by that there is no memory; of another one nothing was printed
abbrev pub TellsAnswer : (puts : Bytes → Type 0) → Answer → Option Printed → Type 0
TellsAnswer puts (answer.Shows target shown) value = puts (line_or_none (target_text (target_view target)) in_digits.Decimal value)
TellsAnswer puts other value = value ≡ None

-- what a target has that was set is written behind it, or nothing was printed; where the answer is another one nothing was
abbrev pub TellsSet : (puts : Bytes → Type 0) → Target → Answer → Option Printed → Type 0
TellsSet puts target answer.Silent value = (value ≡ None) ⊎ puts (line_or_none (target_text target) in_digits.Decimal value)
TellsSet puts target other value = value ≡ None

-- what was printed is written behind a front
abbrev pub IsLineOf : (puts : Bytes → Type 0) → (front : Bytes) → Digits → Option Printed → Type 0
IsLineOf puts front given None = ⊤
IsLineOf puts front given (Some value) = puts (masked front ++ printed_line given value)

-- what was printed is written behind what was typed, blanks around it left out
abbrev pub IsWritten : (puts : Bytes → Type 0) → (typed : Bytes) → Digits → Option Printed → Type 0
IsWritten puts typed given value = IsLineOf puts (stripped typed) given value

-- a text without `@` is printed as an expression of the frame at a depth
abbrev pub PrintsBy : (place : ℕ) → (text : List ℕ) → Setting → Debugger → (depth : ℕ) → Option Printed → Type 0
PrintsBy zero text s d deep value = IsPrintedOf text s d deep value
PrintsBy (suc place) text s d deep value = ⊤

abbrev pub Prints : (text : List ℕ) → Setting → Debugger → (depth : ℕ) → Option Printed → Type 0
Prints text s d deep value = PrintsBy (count_place text) text s d deep value

-- where a text names a numbered value, that is written and nothing is printed; else what is printed is written behind the text
abbrev pub WritesNamed : (puts : Bytes → Type 0) → (name : Option ValueName) → (typed : Bytes) → Digits → Kept → Option Printed → Type 0
WritesNamed puts (Some name) typed given k value = puts (named_text given name k) × (value ≡ None)
WritesNamed puts None typed given k value = IsWritten puts typed given value

-- the same of what is printed: none of a numbered value
abbrev pub PrintsNamed : (name : Option ValueName) → (text : List ℕ) → Setting → Debugger → (depth : ℕ) → Option Printed → Type 0
PrintsNamed (Some name) text s d deep value = ⊤
PrintsNamed None text s d deep value = Prints text s d deep value

-- whether all of a command line is held, and something stands behind its first word
abbrev pub names_something : (text : List ℕ) → Bool
names_something text = nat_lt (length text) 257 && not (is_alone text)
