-- `continue` goes to the update. Refuses a `continue` that skips the update.
use Rattle.std.specs.Prelude.{◌≡◌, refl, [], ◌∷◌, codes}
use Rattle.std.specs.Fmt.{digits}
use Rattle.gang_types.specs.Values.{value_of, residue, word_of, value_in, wrapped, binary_of}
use Rattle.tests_transcripts.proofs.ContinueInFor.{source}
use Rattle.tests_masks.proofs.MaskedRuns.{places, stands}

row_1 : places source 4 (4 ∷ 1 ∷ 1 ∷ 7 ∷ [])
    ≡ stands 4 24 (codes "1000") ∷ stands 5 1 (codes "0111") ∷ stands 3 24 (codes "1111") ∷ stands 7 1 (codes "1111") ∷ []
unfolding digits value_of residue word_of value_in wrapped binary_of
row_1 = refl
