-- `continue` in a `for` without update goes to its test.
use Rattle.std.specs.Prelude.{◌≡◌, refl, [], ◌∷◌, codes}
use Rattle.std.specs.Fmt.{digits}
use Rattle.gang_types.specs.Values.{value_of, residue, word_of, value_in, wrapped, binary_of}
use Rattle.tests_transcripts.proofs.ContinueWithoutUpdate.{source}
use Rattle.tests_masks.proofs.MaskedRuns.{places, stands}

row_1 : places source 4 (1 ∷ 1 ∷ 3 ∷ 1 ∷ 1 ∷ 3 ∷ 1 ∷ 2 ∷ 1 ∷ [])
    ≡ stands 3 6 (codes "1111") ∷ stands 3 1 (codes "1111") ∷ stands 5 23 (codes "1000") ∷ stands 6 1 (codes "0111") ∷ stands 3 1 (codes "1111") ∷ stands 5 23 (codes "1100") ∷ stands 6 1 (codes "0011") ∷ stands 8 1 (codes "1111") ∷ stands 9 1 (codes "1111") ∷ []
unfolding digits value_of residue word_of value_in wrapped binary_of
row_1 = refl
