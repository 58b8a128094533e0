-- A `do` without a step in its body goes straight to its test.
use Rattle.std.specs.Prelude.{◌≡◌, refl, [], ◌∷◌, codes}
use Rattle.std.specs.Fmt.{digits}
use Rattle.gang_types.specs.Values.{value_of, residue, word_of, value_in, wrapped, binary_of}
use Rattle.tests_transcripts.proofs.DoEmptyBody.{source}
use Rattle.tests_masks.proofs.MaskedRuns.{places, stands}

row_1 : places source 4 (1 ∷ 1 ∷ 1 ∷ 1 ∷ [])
    ≡ stands 3 10 (codes "1111") ∷ stands 4 1 (codes "1111") ∷ stands 5 6 (codes "1111") ∷ stands 6 1 (codes "1111") ∷ []
unfolding digits value_of residue word_of value_in wrapped binary_of
row_1 = refl
