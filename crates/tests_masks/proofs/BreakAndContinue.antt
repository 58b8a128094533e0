-- Lanes that broke out wait behind the loop, lanes that continued at its test. Refuses a lane that broke out and rejoins at the next inner join.
use Rattle.std.specs.Prelude.{◌≡◌, refl, [], ◌∷◌, codes}
use Rattle.std.specs.Fmt.{digits}
use Rattle.gang_types.specs.Values.{value_of, residue, word_of, value_in, wrapped, binary_of}
use Rattle.tests_transcripts.proofs.BreakAndContinue.{source}
use Rattle.tests_masks.proofs.MaskedRuns.{places, stands}

row_1 : places source 4 (4 ∷ 1 ∷ 2 ∷ 1 ∷ 1 ∷ 6 ∷ [])
    ≡ stands 5 24 (codes "0100") ∷ stands 6 1 (codes "1011") ∷ stands 7 1 (codes "1001") ∷ stands 3 1 (codes "1011") ∷ stands 4 1 (codes "1010") ∷ stands 9 1 (codes "1111") ∷ []
unfolding digits value_of residue word_of value_in wrapped binary_of
row_1 = refl
