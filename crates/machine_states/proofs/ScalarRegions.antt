-- What lanes see of the words of a scalar's region, and what they leave in it.
use Rattle.std.proofs.Common.{◌≡◌, refl, sym, ap, ◌∙◌, ℕ, ◌<◌, List, [], ◌∷◌, length, arith}
use Rattle.std.specs.Prelude.{take, slice_set, if◌then◌else◌}
use Rattle.std.proofs.lemmas.List.{take_all, get_or-take, length-set}
use Rattle.gang_types.specs.declared.types.Rate.{Rate}
use Rattle.gang_types.specs.declared.types.Rate.TheVariants.{Uniform, Varying}
use Rattle.gang_types.specs.Lanes.{Lanes, lowest}
use Rattle.gang_model.specs.Running.Lanes.{at, each, merged}
use Rattle.gang_model.specs.Running.State.{seen, declared_words, assigned_words, words_for}
use Rattle.gang_model.proofs.LaneWords.{length-each}
use Rattle.gang_model.proofs.LaneWords.{length-merged}
use Rattle.machine_states.specs.Shows.{IsScalarIn}
use Rattle.machine_states.specs.Effects.{declared_region, assigned_region}
use Rattle.machine_states.proofs.EachLane.{each_same}

-- words behind the last lane are not written
merged_front : (lanes : Lanes) (values old : List ℕ) → merged lanes values (take (length lanes) old) ≡ merged lanes values old
merged_front [] values old = refl
merged_front (b ∷ lanes) [] old = refl
merged_front (b ∷ lanes) (x ∷ values) [] = refl
merged_front (b ∷ lanes) (x ∷ values) (y ∷ old) = ap (λ xs. (if b then x else y) ∷ xs) (merged_front lanes values old)

one_word : (words region : List ℕ) (x : ℕ) → length words ≡ 1 → words ≡ take 1 region → x ∷ [] ≡ take 1 (slice_set region 0 x)
one_word words [] x long is = absurd (omega (arith, long, ap length is))
one_word words (y ∷ region) x long is = refl

module _ (w : ℕ) (lanes : Lanes) (long : length lanes ≡ w) where
  -- the scalar's words as lanes see them are those of its region
  pub seen_same : (rate : Rate) (words region : List ℕ) → IsScalarIn w rate words region → seen rate lanes words ≡ seen rate lanes region
  seen_same Uniform words region is =
      ap (λ x. each lanes (λ k. x)) (ap (λ ws. at ws 0) is.stands ∙ get_or-take 1 region 0 0 (omega arith))
  seen_same Varying words region is =
      each_same lanes (at words) (at region) (λ k within. ap (λ ws. at ws k) is.stands ∙ get_or-take w region k 0 (omega (arith, within, long)))

  module _ (values : List ℕ) where
    -- a declaration
    pub declared_stands : (rate : Rate) (old : List ℕ) → 0 < length old → IsScalarIn w rate (declared_words rate lanes values) (declared_region rate lanes values old)
    declared_stands Uniform [] some = absurd (omega (arith, some))
    declared_stands Uniform (x ∷ old) some = record { long = refl; stands = refl }
    declared_stands Varying old some =
        let size : length (each lanes (λ k. at values k)) ≡ w = length-each lanes (λ k. at values k) ∙ long in
        record { long = size; stands = sym (take_all w (each lanes (λ k. at values k)) (omega (arith, size))) }

    module _ (given : length values ≡ w) where
      -- an assignment
      pub assigned_stands : (rate : Rate) (words region : List ℕ) → IsScalarIn w rate words region → IsScalarIn w rate (assigned_words rate lanes values words) (assigned_region rate lanes values region)
      assigned_stands Uniform words region is = record { long = refl; stands = one_word words region (at values (lowest lanes)) is.long is.stands }
      assigned_stands Varying words region is =
          let size : length (merged lanes values words) ≡ w = length-merged lanes values words (given ∙ sym long) (is.long ∙ sym long) ∙ long in
          let same : merged lanes values words ≡ merged lanes values region =
          ap (merged lanes values) (is.stands ∙ ap (λ n. take n region) (sym long)) ∙ merged_front lanes values region in
          record { long = size; stands = sym (take_all w (merged lanes values words) (omega (arith, size))) ∙ ap (take w) same }

-- a region that has only the scalar's words
pub assigned_same : (w : ℕ) (rate : Rate) (lanes : Lanes) (values region : List ℕ) → length region ≡ words_for w rate → assigned_words rate lanes values region ≡ assigned_region rate lanes values region
assigned_same w Uniform lanes values [] long = absurd (omega (arith, long))
assigned_same w Uniform lanes values (x ∷ []) long = refl
assigned_same w Uniform lanes values (x ∷ y ∷ region) long = absurd (omega (arith, long))
assigned_same w Varying lanes values region long = refl

-- an assignment leaves as many words
module _ (w : ℕ) (lanes : Lanes) (long : length lanes ≡ w) (values : List ℕ) (given : length values ≡ w) where
  pub assigned_long : (rate : Rate) (region : List ℕ) → length region ≡ words_for w rate → length (assigned_region rate lanes values region) ≡ length region
  assigned_long Uniform region size = length-set region 0 (at values (lowest lanes))
  assigned_long Varying region size = length-merged lanes values region (given ∙ sym long) (size ∙ sym long) ∙ long ∙ sym size
