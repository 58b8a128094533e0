-- What a mask stands for: a set of lanes of a gang.
use Rattle.std.specs.Prelude.{ℕ, ◌≡◌, ◌⊎◌, ◌==◌}
use Rattle.std.specs.Int.{bit_at}
use Rattle.gang_types.specs.declared.masks.Mask.{Mask}
use Rattle.gang_types.specs.Lanes.{Lanes, lanes_from}
use lib.Lanes.{mask_l}

-- a gang has 4, 8 or 16 lanes
abbrev pub IsGangWidth : ℕ → Type 0
IsGangWidth w = (w ≡ 4) ⊎ ((w ≡ 8) ⊎ (w ≡ 16))

-- of a gang of w lanes, those whose bit of the word is 1
unfoldable pub lanes_of_word : ℕ → ℕ → Lanes
lanes_of_word w word = lanes_from 0 w (λ k. bit_at word k == 1)

-- of a gang of w lanes, those of the mask
abbrev pub lanes_of : ℕ → Mask → Lanes
lanes_of w mask = lanes_of_word w mask.word

-- the number whose bit k is 1 for each lane k of the set, and that has no other bit
unfoldable pub word_of_lanes : Lanes → ℕ
word_of_lanes lanes = mask_l lanes
