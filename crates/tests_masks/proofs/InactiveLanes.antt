-- In calls across lanes an inactive lane counts as 0.
use Rattle.std.specs.Prelude.{◌≡◌, refl, [], ◌∷◌, codes}
use Rattle.std.specs.Fmt.{digits}
use Rattle.gang_types.specs.Values.{value_of, residue, word_of, value_in, wrapped, binary_of}
use Rattle.tests_transcripts.proofs.InactiveLanes.{source}
use Rattle.tests_masks.proofs.MaskedRuns.{places, stands}

row_1 : places source 4 (4 ∷ 1 ∷ 1 ∷ 1 ∷ 1 ∷ 1 ∷ 1 ∷ 1 ∷ 1 ∷ 1 ∷ [])
    ≡ stands 6 1 (codes "0101") ∷ stands 7 1 (codes "0101") ∷ stands 8 1 (codes "0101") ∷ stands 9 1 (codes "0101") ∷ stands 10 1 (codes "0101") ∷ stands 11 1 (codes "0101") ∷ stands 12 1 (codes "0101") ∷ stands 13 1 (codes "0101") ∷ stands 14 1 (codes "0101") ∷ stands 16 1 (codes "1111") ∷ []
unfolding digits value_of residue word_of value_in wrapped binary_of
row_1 = refl
