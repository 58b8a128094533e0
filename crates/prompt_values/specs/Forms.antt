-- What a command line names that prints: a text, and the digits in which it is shown.
use Rattle.std.specs.Prelude.{ℕ, ◌==◌, List, [], ◌∷◌, Option, Some, None, codes, option_and_then, option_map, if◌then◌else◌}
use Rattle.gang_model.specs.Texts.Spellings.{behind}
use Rattle.value_digits.specs.declared.digits.Digits.{Digits}
use Rattle.value_digits.specs.declared.digits.Digits.TheVariants as in_digits
use Rattle.value_digits.specs.Digits.{digits_of}
use Rattle.prompt_values.specs.declared.forms.Form as declared

-- digits, and the text that is shown in them
pub record Form : Type 0 where
  pub digits : Digits
  pub text : List ℕ

-- a text in digits, if there are any
abbrev pub form_in : Option Digits → (text : List ℕ) → Option Form
form_in digits text = option_map (λ (given : Digits). record { digits = given; text = text }) digits

-- behind `/` and a letter a text in the digits of that, else the whole in decimal digits
abbrev pub form_behind : (text : List ℕ) → Option Form
form_behind [] = form_in (Some in_digits.Decimal) []
form_behind (first ∷ []) = form_in (Some in_digits.Decimal) (first ∷ [])
form_behind (first ∷ letter ∷ rest) = if first == 47 then form_in (digits_of letter) rest else form_in (Some in_digits.Decimal) (first ∷ letter ∷ rest)

-- what a command line names that begins with `print`
abbrev pub form_of : (text : List ℕ) → Option Form
form_of text = option_and_then form_behind (behind (codes "print") text)

-- ---- forms as they are given

abbrev pub form_view : declared.Form → Form
form_view form = record { digits = form.digits; text = form.text.now }

abbrev pub form_option : Option declared.Form → Option Form
form_option form = option_map form_view form
