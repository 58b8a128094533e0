-- Operations on operands that are judged each by itself.
use Rattle.gang_model.specs.declared.forms.Infix.{Infix}
use Rattle.gang_model.specs.Types.Conversions.{Typed, infixed, chosen_by}
use Rattle.gang_model.specs.Source.Judged.{Judged, Sound, both, ◌>>=◌}

-- two operands with what stands between them
abbrev pub infixed_both : Infix → (left right : Judged Typed) → Judged Typed
infixed_both op left right = do
  operands ← both left right
  Sound (infixed op operands.0 operands.1)

-- `test ? first : second`
abbrev pub chosen_of : (test first second : Judged Typed) → Judged Typed
chosen_of test first second = do
  parts ← both test (both first second)
  Sound (chosen_by parts.0 parts.1.0 parts.1.1)
