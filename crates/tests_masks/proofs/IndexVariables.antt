-- Index variables are in scope in their body alone, and are listed among the locals.
use Rattle.std.specs.Prelude.{◌≡◌, refl, [], ◌∷◌, codes}
use Rattle.std.specs.Fmt.{digits}
use Rattle.gang_types.specs.Values.{value_of, residue, word_of, value_in, wrapped, binary_of}
use Rattle.tests_transcripts.proofs.IndexVariables.{source}
use Rattle.tests_masks.proofs.MaskedRuns.{places, stands}

row_1 : places source 4 (2 ∷ 1 ∷ 1 ∷ 3 ∷ 1 ∷ 2 ∷ [])
    ≡ stands 3 1 (codes "1100") ∷ stands 4 1 (codes "1100") ∷ stands 6 1 (codes "1111") ∷ stands 7 1 (codes "1000") ∷ stands 6 1 (codes "0100") ∷ stands 7 1 (codes "0100") ∷ []
unfolding digits value_of residue word_of value_in wrapped binary_of
row_1 = refl
