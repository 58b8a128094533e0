-- `continue` in a `do` goes to its test.
use Rattle.std.specs.Prelude.{◌≡◌, refl, [], ◌∷◌, codes}
use Rattle.std.specs.Fmt.{digits}
use Rattle.gang_types.specs.Values.{value_of, residue, word_of, value_in, wrapped, binary_of}
use Rattle.tests_transcripts.proofs.ContinueInDo.{source}
use Rattle.tests_masks.proofs.MaskedRuns.{places, stands}

row_1 : places source 4 (3 ∷ 1 ∷ 1 ∷ 1 ∷ 3 ∷ 1 ∷ [])
    ≡ stands 5 24 (codes "1000") ∷ stands 6 1 (codes "0111") ∷ stands 7 3 (codes "1111") ∷ stands 4 1 (codes "1000") ∷ stands 7 3 (codes "1000") ∷ stands 8 1 (codes "1111") ∷ []
unfolding digits value_of residue word_of value_in wrapped binary_of
row_1 = refl
