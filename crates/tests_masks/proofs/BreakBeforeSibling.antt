-- `break` leaves its own loop alone: not the loop around it, nor the one after it.
use Rattle.std.specs.Prelude.{◌≡◌, refl, [], ◌∷◌, codes}
use Rattle.std.specs.Fmt.{digits}
use Rattle.gang_types.specs.Values.{value_of, residue, word_of, value_in, wrapped, binary_of}
use Rattle.tests_transcripts.proofs.BreakBeforeSibling.{source}
use Rattle.tests_masks.proofs.MaskedRuns.{places, stands}

row_1 : places source 4 (6 ∷ 1 ∷ 10 ∷ 1 ∷ 2 ∷ 5 ∷ 1 ∷ 2 ∷ 3 ∷ [])
    ≡ stands 6 23 (codes "0111") ∷ stands 7 1 (codes "1000") ∷ stands 9 1 (codes "1111") ∷ stands 9 15 (codes "0111") ∷ stands 3 24 (codes "1111") ∷ stands 6 23 (codes "0011") ∷ stands 7 1 (codes "0100") ∷ stands 9 1 (codes "1111") ∷ stands 11 1 (codes "1111") ∷ []
unfolding digits value_of residue word_of value_in wrapped binary_of
row_1 = refl
