-- A call by the lanes of a round; its `return` ends nothing of the round.
use Rattle.std.specs.Prelude.{◌≡◌, refl, [], ◌∷◌, codes}
use Rattle.std.specs.Fmt.{digits}
use Rattle.gang_types.specs.Values.{value_of, residue, word_of, value_in, wrapped, binary_of}
use Rattle.tests_transcripts.proofs.CallInForeach.{source}
use Rattle.tests_masks.proofs.MaskedRuns.{places, stands}

row_1 : places source 4 (3 ∷ 1 ∷ 1 ∷ 1 ∷ 1 ∷ 4 ∷ 1 ∷ 1 ∷ [])
    ≡ stands 3 1 (codes "1111") ∷ stands 3 12 (codes "0101") ∷ stands 4 1 (codes "1010") ∷ stands 5 1 (codes "1111") ∷ stands 7 1 (codes "1100") ∷ stands 4 1 (codes "1000") ∷ stands 5 1 (codes "1100") ∷ stands 9 1 (codes "1111") ∷ []
unfolding digits value_of residue word_of value_in wrapped binary_of
row_1 = refl
