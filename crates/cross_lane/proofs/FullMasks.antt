-- The words of all lanes of a gang.
use Rattle.std.proofs.Common.{ℕ, ◌-◌, ◌^◌, ◌≡◌, sym, ◌∙◌, ap, true, false, cond, List, length, slice_index}
use Rattle.std.specs.Prelude.{replicate}
use Rattle.std.proofs.lemmas.List.{get_or-replicate}
use Rattle.gang_types.specs.Lanes.{Lanes, has}
use Rattle.gang_types.specs.Masks.{word_of_lanes}
use Rattle.gang_types.specs.MaskLaws.{lanes_of_word_of_lanes}
use Rattle.gang_types.proofs.MaskWords.{all_lanes}
use Rattle.gang_model.specs.Running.Lanes.{each}
use Rattle.cross_lane.specs.EachLaws.{each_is}

-- the word of a set of all lanes has no other
pub every_lane : (w : ℕ) (lanes : Lanes) → length lanes ≡ w → word_of_lanes lanes ≡ 2 ^ w - 1 → lanes ≡ replicate w true
every_lane w lanes long full = sym (lanes_of_word_of_lanes w lanes long) ∙ all_lanes w (word_of_lanes lanes) full

-- where all lanes take part, each has its word
pub every_word : (w : ℕ) (lanes : Lanes) (words : List ℕ) → length lanes ≡ w → length words ≡ w → word_of_lanes lanes ≡ 2 ^ w - 1 → words ≡ each lanes (slice_index words)
every_word w lanes words long wide full =
    each_is w lanes (slice_index words) words long wide
    (λ i within. sym (ap (λ b. cond b (slice_index words i) 0) (ap (λ ls. has ls i) (every_lane w lanes long full) ∙ get_or-replicate w i true false within)))
