-- Three dimensions: the first one value at a time, the last two by tiles.
use Rattle.std.specs.Prelude.{◌≡◌, refl, [], ◌∷◌, codes}
use Rattle.std.specs.Fmt.{digits}
use Rattle.gang_types.specs.Values.{value_of, residue, word_of, value_in, wrapped, binary_of}
use Rattle.tests_transcripts.proofs.TilesOfThree.{source}
use Rattle.tests_masks.proofs.MaskedRuns.{places, stands}

row_1 : places source 4 (1 ∷ 3 ∷ 3 ∷ 3 ∷ 1 ∷ 2 ∷ [])
    ≡ stands 4 1 (codes "1100") ∷ stands 4 1 (codes "1000") ∷ stands 4 1 (codes "1100") ∷ stands 4 1 (codes "1000") ∷ stands 5 1 (codes "1000") ∷ stands 8 1 (codes "1111") ∷ []
unfolding digits value_of residue word_of value_in wrapped binary_of
row_1 = refl
