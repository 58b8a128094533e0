-- Two dimensions by tiles of 2 by 4 lanes.
use Rattle.std.specs.Prelude.{◌≡◌, refl, [], ◌∷◌, codes}
use Rattle.std.specs.Fmt.{digits}
use Rattle.gang_types.specs.Values.{value_of, residue, word_of, value_in, wrapped, binary_of}
use Rattle.tests_transcripts.proofs.TilesOfEight.{source}
use Rattle.tests_masks.proofs.MaskedRuns.{places, stands}

row_1 : places source 8 (1 ∷ 2 ∷ 2 ∷ [])
    ≡ stands 3 1 (codes "11101110") ∷ stands 3 1 (codes "11100000") ∷ stands 5 1 (codes "11111111") ∷ []
unfolding digits value_of residue word_of value_in wrapped binary_of
row_1 = refl
