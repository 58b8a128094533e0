-- `return` leaves all loops of its function, and no loop of another.
use Rattle.std.specs.Prelude.{◌≡◌, refl, [], ◌∷◌, codes}
use Rattle.std.specs.Fmt.{digits}
use Rattle.gang_types.specs.Values.{value_of, residue, word_of, value_in, wrapped, binary_of}
use Rattle.tests_transcripts.proofs.ReturnInLoops.{source}
use Rattle.tests_masks.proofs.MaskedRuns.{places, stands}

row_1 : places source 4 (6 ∷ 1 ∷ 4 ∷ 1 ∷ 1 ∷ [])
    ≡ stands 5 1 (codes "0011") ∷ stands 2 19 (codes "0011") ∷ stands 4 13 (codes "0011") ∷ stands 8 1 (codes "1111") ∷ stands 11 1 (codes "1111") ∷ []
unfolding digits value_of residue word_of value_in wrapped binary_of
row_1 = refl
