-- What is asked for by a text that stands where an expression does.
use Rattle.std.specs.Prelude.{ℕ, ◌==◌, Bool, List, [], ◌∷◌, Option, Some, None, codes, option_map, if◌then◌else◌}
use Rattle.gang_model.specs.Texts.CommandText.{begins_blank}
use Rattle.gang_model.specs.Texts.Spellings.{behind, is_blank}
use Rattle.gang_model.specs.Texts.Text.{Bytes}
use Rattle.value_digits.specs.declared.digits.Digits.{Digits}
use Rattle.value_digits.specs.Digits.{digits_of}
use Rattle.adapter_requests.specs.declared.request.Context.{Context}
use Rattle.adapter_requests.specs.declared.request.Context.TheVariants.{Console}
use Rattle.adapter_replies.specs.declared.asking.Asking as declared_asking
use Rattle.adapter_replies.specs.declared.asking.Printed as declared_printed
use Rattle.adapter_replies.specs.declared.console.Asked.{Asked}
use Rattle.adapter_replies.specs.declared.forms.Form.{Form}
use Rattle.adapter_replies.specs.Console.{asked_in}
use Rattle.adapter_replies.specs.Forms.{asked_form}

-- a text whose value is asked for, and the digits, where it asks for some
pub record Printed : Type 0 where
  pub digits : Option Digits
  pub text : Bytes

-- a text as it stands
abbrev pub plain : Bytes → Printed
plain text = record { digits = None; text = text }

-- a text in digits, where there are some and it begins with a blank
abbrev pub in_digits : Option Digits → Bytes → Option Printed
in_digits None text = None
in_digits (Some digits) text = if begins_blank text then Some (record { digits = Some digits; text = text }) else None

-- a text in the digits of a letter before it
abbrev pub behind_slash : Bytes → Option Printed
behind_slash [] = None
behind_slash (letter ∷ text) = in_digits (digits_of letter) text

-- the same behind `/`
abbrev pub slashed : Bytes → Option Printed
slashed [] = None
slashed (first ∷ rest) = if first == 47 then behind_slash rest else None

-- what was read, else a text as it stands
abbrev pub or_plain : Option Printed → Bytes → Printed
or_plain None text = plain text
or_plain (Some printed) text = printed

-- what follows the word that prints: `/` and the letter of digits, or a blank, and a text
abbrev pub printed_behind : Bytes → Option Printed
printed_behind [] = None
printed_behind (first ∷ rest) = if first == 47 then behind_slash rest else (if is_blank first then Some (or_plain (slashed rest) rest) else None)

-- a text behind `p`
abbrev pub behind_p : Option Bytes → Option Printed
behind_p None = None
behind_p (Some rest) = printed_behind rest

-- a text behind `print`, else behind `p`
abbrev pub behind_print : Option Bytes → Bytes → Option Printed
behind_print None text = behind_p (behind (codes "p") text)
behind_print (Some rest) text = printed_behind rest

-- what a text asks for: in the console what stands behind `print` or `p`, and else the whole
abbrev pub printed_in : Context → Bytes → Printed
printed_in Console text = or_plain (behind_print (behind (codes "print") text) text) text
printed_in other text = plain text

-- what is asked for in a context: a text whose value it may be, and the form of that
pub record Asking : Type 0 where
  pub context : Context
  pub asked : Asked
  pub text : Bytes
  pub form : Form

-- what a text asks for in a context, and whether it asks for hexadecimal numbers
abbrev pub asking_of : Context → Bytes → (is_hexadecimal : Bool) → Asking
asking_of context text is_hexadecimal =
    record { context = context; asked = asked_in context text; text = (printed_in context text).text; form = asked_form is_hexadecimal (printed_in context text).digits }

-- ---- as they are given

abbrev pub printed_view : declared_printed.Printed → Printed
printed_view given = record { digits = given.digits; text = given.text.now }

abbrev pub printed_option : Option declared_printed.Printed → Option Printed
printed_option given = option_map printed_view given

abbrev pub asking_view : declared_asking.Asking → Asking
asking_view given = record { context = given.context; asked = given.asked; text = given.text.now; form = given.form }
