-- Values of expressions, and how they are written, computed.
use Rattle.std.proofs.Common.{◌≡◌, [], ◌∷◌, true, false, refl}
use Rattle.std.specs.Prelude.{codes}
use Rattle.std.specs.Fmt.{digits}
use Rattle.gang_types.specs.Values.{value_of}
use Rattle.gang_types.specs.declared.types.IntType.TheVariants.{Int32, Uint32}
use Rattle.value_digits.specs.declared.digits.Digits.TheVariants.{Binary, Decimal}
use Rattle.prompt_texts.specs.Forms.{lanes_text, one_text}

-- the second lane waits
lanes_row : lanes_text Decimal Uint32 (true ∷ false ∷ true ∷ []) (7 ∷ 8 ∷ 9 ∷ []) 3 ≡ codes " 7 . 9"
unfolding digits value_of
lanes_row = refl

one_row : one_text Binary Int32 (false ∷ true ∷ true ∷ []) (4 ∷ 5 ∷ 5 ∷ []) ≡ codes " 101"
unfolding digits
one_row = refl

no_lane_row : one_text Binary Int32 (false ∷ false ∷ []) (4 ∷ 5 ∷ []) ≡ codes " ."
no_lane_row = refl
