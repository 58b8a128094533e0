-- A foreach runs over all lanes of the gang, also those that returned. Refuses returned lanes that stay out of its body.
use Rattle.std.specs.Prelude.{◌≡◌, refl, [], ◌∷◌, codes}
use Rattle.std.specs.Fmt.{digits}
use Rattle.gang_types.specs.Values.{value_of, residue, word_of, value_in, wrapped, binary_of}
use Rattle.tests_transcripts.proofs.ReturnedLanesInForeach.{source}
use Rattle.tests_masks.proofs.MaskedRuns.{places, stands}

row_1 : places source 4 (3 ∷ 1 ∷ 2 ∷ 6 ∷ 1 ∷ [])
    ≡ stands 5 1 (codes "0111") ∷ stands 5 1 (codes "1111") ∷ stands 6 12 (codes "0111") ∷ stands 9 1 (codes "0111") ∷ stands 10 1 (codes "1111") ∷ []
unfolding digits value_of residue word_of value_in wrapped binary_of
row_1 = refl
