-- Lanes run on through later labels, and `break` ends the switch.
use Rattle.std.specs.Prelude.{◌≡◌, refl, [], ◌∷◌, codes}
use Rattle.std.specs.Fmt.{digits}
use Rattle.gang_types.specs.Values.{value_of, residue, word_of, value_in, wrapped, binary_of}
use Rattle.tests_transcripts.proofs.Switch.{source}
use Rattle.tests_masks.proofs.MaskedRuns.{places, stands}

row_1 : places source 4 (2 ∷ 1 ∷ 1 ∷ 1 ∷ 1 ∷ 1 ∷ [])
    ≡ stands 4 9 (codes "1000") ∷ stands 5 9 (codes "1010") ∷ stands 5 18 (codes "1010") ∷ stands 6 10 (codes "0101") ∷ stands 8 1 (codes "1111") ∷ stands 9 1 (codes "1111") ∷ []
unfolding digits value_of residue word_of value_in wrapped binary_of
row_1 = refl
