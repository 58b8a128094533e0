-- Two dimensions by tiles of 2 by 2 lanes.
use Rattle.std.specs.Prelude.{◌≡◌, refl, [], ◌∷◌, codes}
use Rattle.std.specs.Fmt.{digits}
use Rattle.gang_types.specs.Values.{value_of, residue, word_of, value_in, wrapped, binary_of}
use Rattle.tests_transcripts.proofs.Tiles.{source}
use Rattle.tests_masks.proofs.MaskedRuns.{places, stands}

row_1 : places source 4 (3 ∷ 2 ∷ 2 ∷ 2 ∷ [])
    ≡ stands 3 1 (codes "1010") ∷ stands 3 1 (codes "1100") ∷ stands 3 1 (codes "1000") ∷ stands 5 1 (codes "1111") ∷ []
unfolding digits value_of residue word_of value_in wrapped binary_of
row_1 = refl
