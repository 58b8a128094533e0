-- Each part of an `if` runs with its own lanes; a uniform assignment happens once in each. Refuses an else part with the lanes of the whole `if`.
use Rattle.std.specs.Prelude.{◌≡◌, refl, [], ◌∷◌, codes}
use Rattle.std.specs.Fmt.{digits}
use Rattle.gang_types.specs.Values.{value_of, residue, word_of, value_in, wrapped, binary_of}
use Rattle.tests_transcripts.proofs.ElseLanes.{source}
use Rattle.tests_masks.proofs.MaskedRuns.{places, stands}

row_1 : places source 4 (2 ∷ 1 ∷ 1 ∷ [])
    ≡ stands 4 1 (codes "0101") ∷ stands 6 1 (codes "1010") ∷ stands 7 1 (codes "1111") ∷ []
unfolding digits value_of residue word_of value_in wrapped binary_of
row_1 = refl
