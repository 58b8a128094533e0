-- One lane at a time within a round, without the lanes whose round has ended.
use Rattle.std.specs.Prelude.{◌≡◌, refl, [], ◌∷◌, codes}
use Rattle.std.specs.Fmt.{digits}
use Rattle.gang_types.specs.Values.{value_of, residue, word_of, value_in, wrapped, binary_of}
use Rattle.tests_transcripts.proofs.ActiveInForeach.{source}
use Rattle.tests_masks.proofs.MaskedRuns.{places, stands}

row_1 : places source 4 (1 ∷ 2 ∷ 1 ∷ 1 ∷ 2 ∷ 1 ∷ 1 ∷ [])
    ≡ stands 3 1 (codes "1110") ∷ stands 4 13 (codes "0100") ∷ stands 5 1 (codes "1010") ∷ stands 5 1 (codes "1000") ∷ stands 5 1 (codes "0010") ∷ stands 6 1 (codes "0010") ∷ stands 9 1 (codes "1111") ∷ []
unfolding digits value_of residue word_of value_in wrapped binary_of
row_1 = refl
