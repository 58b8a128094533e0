-- The labels of a `switch`, by descent.
use Rattle.std.specs.Prelude.{Bool, true, false, ◌||◌, List, Option, Some, None, if◌then◌else◌}
use Rattle.gang_types.specs.declared.places.Place.{Place}
use Rattle.gang_model.specs.declared.marks.Mark.TheVariants as mark
use Rattle.gang_model.specs.declared.forms.Label.{Label}
use Rattle.gang_model.specs.Source.Tokens.{Lexeme}
use Rattle.ispc_lexer.specs.Options.{◌>>=◌, if_some}
use Rattle.ispc_parser_words.specs.Front.{begins, take}
use Rattle.ispc_parser_shared.specs.Front.{Reader, take_at, number_of}

-- a number behind a minus or none
unfoldable pub signed_of : (is_negative : Bool) → Reader Label
signed_of is_negative ts = number_of ts >>= λ n. Some (record { is_negative = is_negative; value = n.0.value }, n.1)

-- the whole number behind `case`
unfoldable pub whole_of : Reader Label
whole_of ts = if_some (take mark.Minus ts) (signed_of true) (signed_of false ts)

unfoldable pub case_of : Reader (Place × Option Label)
case_of ts = take_at mark.Case ts >>= λ w. whole_of w.1 >>= λ n. take mark.Colon n.1 >>= λ rest. Some ((w.0, Some n.0), rest)

unfoldable pub default_of : Reader (Place × Option Label)
default_of ts = take_at mark.Default ts >>= λ w. take mark.Colon w.1 >>= λ rest. Some ((w.0, None), rest)

unfoldable pub label_of : Reader (Place × Option Label)
label_of ts = if begins mark.Default ts then default_of ts else case_of ts

abbrev pub begins_label : List Lexeme → Bool
begins_label ts = begins mark.Case ts || begins mark.Default ts
