-- What is written where a value is printed in the digits that a command line names.
use Rattle.std.specs.Prelude.{◌≡◌, ⊤, ◌⊎◌, ℕ, List, ◌++◌, Option, Some, None, if◌then◌else◌}
use Rattle.gang_model.specs.Debugger.Debugger.{Target}
use Rattle.gang_model.specs.Texts.CommandText.{command_of}
use Rattle.gang_model.specs.Texts.Text.{Bytes, target_text}
use Rattle.prompt_lines.specs.Words.{printing_text}
use Rattle.prompt_scenes.specs.Readings.{print_of}
use Rattle.value_digits.specs.declared.digits.Digits.{Digits}
use Rattle.prompt_values.specs.declared.numbered.Printed.{Printed}
use Rattle.prompt_values.specs.declared.numbered.ValueName.{ValueName}
use Rattle.prompt_values.specs.Forms.{Form, form_of}
use Rattle.prompt_values.specs.Numbered.{Kept, named_text, printed_line, value_name}
use Rattle.prompt_values.specs.Printed.{IsWritten, names_something}

-- what a command line names, where something stands behind its first word
abbrev pub form_named : (text : List ℕ) → Option Form
form_named text = if names_something text then form_of text else None

-- the target that a text is, if it is one
abbrev pub target_of : (text : List ℕ) → Option Target
target_of text = print_of (command_of (printing_text text))

-- what was printed of a target is written behind that, or behind its name where it is an expression
abbrev pub IsWrittenOf : (puts : Bytes → Type 0) → Option Target → (typed : Bytes) → Digits → Option Printed → Type 0
IsWrittenOf puts target typed given None = ⊤
IsWrittenOf puts None typed given (Some value) = IsWritten puts typed given (Some value)
IsWrittenOf puts (Some target) typed given (Some value) = puts (target_text target ++ printed_line given value) ⊎ IsWritten puts typed given (Some value)

-- a numbered value is written, and nothing is printed
abbrev pub WritesBy : (puts : Bytes → Type 0) → Option ValueName → Form → Kept → Option Printed → Type 0
WritesBy puts (Some name) form k value = puts (named_text form.digits name k) × (value ≡ None)
WritesBy puts None form k value = IsWrittenOf puts (target_of form.text) form.text form.digits value

-- the same by what a command line names: of nothing, nothing is printed
abbrev pub WritesForm : (puts : Bytes → Type 0) → Option Form → Kept → Option Printed → Type 0
WritesForm puts None k value = value ≡ None
WritesForm puts (Some form) k value = WritesBy puts (value_name form.text) form k value
