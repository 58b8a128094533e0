-- Rows of the first words of file-scope variables.
use Rattle.std.specs.Prelude.{◌≡◌, refl, true, false, [], ◌∷◌, Some, None, codes}
use Rattle.gang_types.specs.Values.{value_of, residue, word_of, value_in, wrapped, binary_of}
use Rattle.gang_types.specs.declared.types.IntType.TheVariants as t
use Rattle.gang_model.specs.declared.forms.GlobalForm.TheVariants.{Plain, Initial}
use Rattle.gang_model.specs.declared.forms.Literal.TheVariants.{Number, Truth}
use Rattle.tests_transcripts.proofs.Forms.{at, spec, file_variable}
use Rattle.tests_refusals.proofs.Wanted.{first_words}

-- int64 v = -5u;
row_0 : first_words (
    (file_variable (at 1 7) (codes "v") (spec false false false false None (Some t.Int64)) (Initial (Number true 5 true false))) ∷ []) ≡ 4294967291 ∷ []
unfolding value_of residue word_of value_in wrapped binary_of
row_0 = refl

-- int8 v = 300;
row_1 : first_words (
    (file_variable (at 1 6) (codes "v") (spec false false false false None (Some t.Int8)) (Initial (Number false 300 false false))) ∷ []) ≡ 44 ∷ []
unfolding value_of residue word_of value_in wrapped binary_of
row_1 = refl

-- int v = -1;
row_2 : first_words (
    (file_variable (at 1 5) (codes "v") (spec false false false false None (Some t.Int32)) (Initial (Number true 1 false false))) ∷ []) ≡ 18446744073709551615 ∷ []
unfolding value_of residue word_of value_in wrapped binary_of
row_2 = refl

-- uint8 v = -1;
row_3 : first_words (
    (file_variable (at 1 7) (codes "v") (spec false false false false None (Some t.Uint8)) (Initial (Number true 1 false false))) ∷ []) ≡ 255 ∷ []
unfolding value_of residue word_of value_in wrapped binary_of
row_3 = refl

-- bool v = 7;
row_4 : first_words (
    (file_variable (at 1 6) (codes "v") (spec false false false false None (Some t.Bool)) (Initial (Number false 7 false false))) ∷ []) ≡ 1 ∷ []
unfolding value_of residue word_of value_in wrapped binary_of
row_4 = refl

-- bool v = true;
row_5 : first_words (
    (file_variable (at 1 6) (codes "v") (spec false false false false None (Some t.Bool)) (Initial (Truth true))) ∷ []) ≡ 1 ∷ []
unfolding value_of residue word_of value_in wrapped binary_of
row_5 = refl

-- uint v = true;
row_6 : first_words (
    (file_variable (at 1 6) (codes "v") (spec false false false false None (Some t.Uint32)) (Initial (Truth true))) ∷ []) ≡ 1 ∷ []
unfolding value_of residue word_of value_in wrapped binary_of
row_6 = refl

-- int v = -2147483648;
row_7 : first_words (
    (file_variable (at 1 5) (codes "v") (spec false false false false None (Some t.Int32)) (Initial (Number true 2147483648 false false))) ∷ []) ≡ 18446744071562067968 ∷ []
unfolding value_of residue word_of value_in wrapped binary_of
row_7 = refl

-- int64 v = 2147483648;
row_8 : first_words (
    (file_variable (at 1 7) (codes "v") (spec false false false false None (Some t.Int64)) (Initial (Number false 2147483648 false false))) ∷ []) ≡ 2147483648 ∷ []
unfolding value_of residue word_of value_in wrapped binary_of
row_8 = refl

-- uint64 v = -1u;
row_9 : first_words (
    (file_variable (at 1 8) (codes "v") (spec false false false false None (Some t.Uint64)) (Initial (Number true 1 true false))) ∷ []) ≡ 4294967295 ∷ []
unfolding value_of residue word_of value_in wrapped binary_of
row_9 = refl

-- uint64 v = -1;
row_10 : first_words (
    (file_variable (at 1 8) (codes "v") (spec false false false false None (Some t.Uint64)) (Initial (Number true 1 false false))) ∷ []) ≡ 18446744073709551615 ∷ []
unfolding value_of residue word_of value_in wrapped binary_of
row_10 = refl

-- int v;
row_11 : first_words (
    (file_variable (at 1 5) (codes "v") (spec false false false false None (Some t.Int32)) Plain) ∷ []) ≡ 0 ∷ []
unfolding value_of residue word_of value_in wrapped binary_of
row_11 = refl

-- int64 v = -1ul;
row_12 : first_words (
    (file_variable (at 1 7) (codes "v") (spec false false false false None (Some t.Int64)) (Initial (Number true 1 true true))) ∷ []) ≡ 18446744073709551615 ∷ []
unfolding value_of residue word_of value_in wrapped binary_of
row_12 = refl
