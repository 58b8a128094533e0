-- Rounds by distinct values, and one lane at a time.
use Rattle.std.specs.Prelude.{◌≡◌, refl, [], ◌∷◌, codes}
use Rattle.std.specs.Fmt.{digits}
use Rattle.gang_types.specs.Values.{value_of, residue, word_of, value_in, wrapped, binary_of}
use Rattle.tests_transcripts.proofs.UniqueAndActive.{source}
use Rattle.tests_masks.proofs.MaskedRuns.{places, stands}

row_1 : places source 4 (2 ∷ 2 ∷ 1 ∷ 3 ∷ [])
    ≡ stands 4 1 (codes "1010") ∷ stands 4 1 (codes "0101") ∷ stands 6 1 (codes "1111") ∷ stands 6 1 (codes "0100") ∷ []
unfolding digits value_of residue word_of value_in wrapped binary_of
row_1 = refl
