-- The digits in which an editor is told values.
use Rattle.std.specs.Prelude.{Bool, true, false, Option, Some, None}
use Rattle.gang_types.specs.declared.types.IntType.{IntType}
use Rattle.gang_types.specs.declared.types.IntType.TheVariants as t
use Rattle.value_digits.specs.declared.digits.Digits.{Digits}
use Rattle.value_digits.specs.declared.digits.Digits.TheVariants as in_digits
use Rattle.adapter_replies.specs.declared.forms.Form.{Form}
use Rattle.adapter_replies.specs.declared.forms.Form.TheVariants as form

-- the digits of the values of a type: where an editor asks for hexadecimal numbers, a bool stays a word
abbrev pub digits_for : Form → IntType → Digits
digits_for form.Value type = in_digits.Decimal
digits_for form.Hexadecimal t.Bool = in_digits.Decimal
digits_for form.Hexadecimal other = in_digits.Hexadecimal
digits_for (form.In digits) type = digits

-- the form that an editor asks for
abbrev pub form_if : (is_hexadecimal : Bool) → Form
form_if false = form.Value
form_if true = form.Hexadecimal

-- the same where a line of the console asks for digits, or for none
abbrev pub asked_form : (is_hexadecimal : Bool) → Option Digits → Form
asked_form is_hexadecimal None = form_if is_hexadecimal
asked_form is_hexadecimal (Some digits) = form.In digits
