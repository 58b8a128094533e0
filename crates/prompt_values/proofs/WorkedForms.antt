-- What some command lines name.
use Rattle.std.proofs.Common.{◌≡◌, Some, None, refl}
use Rattle.std.specs.Prelude.{codes}
use Rattle.value_digits.specs.declared.digits.Digits.TheVariants as in_digits
use Rattle.prompt_values.specs.Forms.{form_of}

decimal : form_of (codes "print w + 1") ≡ Some (record { digits = in_digits.Decimal; text = codes " w + 1" })
decimal = refl

hexadecimal : form_of (codes "print/x w") ≡ Some (record { digits = in_digits.Hexadecimal; text = codes " w" })
hexadecimal = refl

character : form_of (codes "print/c table[3]@8") ≡ Some (record { digits = in_digits.Character; text = codes " table[3]@8" })
character = refl

no_letter : form_of (codes "print/") ≡ Some (record { digits = in_digits.Decimal; text = codes "/" })
no_letter = refl

unknown_letter : form_of (codes "print/z w") ≡ None
unknown_letter = refl

another_word : form_of (codes "prin w") ≡ None
another_word = refl
