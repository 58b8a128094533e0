-- The digits of a set of lanes, lane by lane.
use Rattle.std.proofs.Common.{◌≡◌, refl, sym, ap, ◌∙◌, ℕ, ◌+◌, ◌<◌, Bool, false, List, [], ◌∷◌, ◌++◌, length, take, drop, get_or, arith}
use Rattle.std.specs.Prelude.{flat_map}
use Rattle.gang_types.specs.declared.masks.Mask.{Mask}
use Rattle.gang_types.specs.Lanes.{Lanes, has}
use Rattle.gang_types.specs.Masks.{IsGangWidth, lanes_of}
use Rattle.gang_types.specs.MaskLaws.{gang_width-le, has-lanes_of_word}
use Rattle.gang_model.specs.Texts.Text.{bits}
use Rattle.debug_texts.proofs.Pieces.{flat_more, flat_at}

-- the digit of one lane
abbrev digit : Bool → List ℕ
digit b = bits (b ∷ [])

bits_flat : (lanes : Lanes) → bits lanes ≡ flat_map digit lanes
bits_flat [] = refl
bits_flat (b ∷ lanes) = ap (λ l. digit b ++ l) (bits_flat lanes)

-- the digits up to and with one lane's
pub bits_more : (lanes : Lanes) (i : ℕ) → i < length lanes → bits (take (i + 1) lanes) ≡ bits (take i lanes) ++ bits (has lanes i ∷ [])
bits_more lanes i h =
    bits_flat (take (i + 1) lanes) ∙ flat_more digit lanes i false h ∙ ap (λ l. l ++ digit (get_or lanes i false)) (sym (bits_flat (take i lanes)))

-- all digits, at one lane's
pub bits_at : (lanes : Lanes) (i : ℕ) → i < length lanes → bits lanes ≡ bits (take i lanes) ++ (bits (has lanes i ∷ []) ++ bits (drop (i + 1) lanes))
bits_at lanes i h =
    bits_flat lanes ∙ flat_at digit lanes i false h
    ∙ ap (λ l. l ++ (digit (get_or lanes i false) ++ flat_map digit (drop (i + 1) lanes))) (sym (bits_flat (take i lanes)))
    ∙ ap (λ l. bits (take i lanes) ++ (digit (get_or lanes i false) ++ l)) (sym (bits_flat (drop (i + 1) lanes)))

-- a lane is in the set of a gang where it is in that of the widest gang
pub in_widest : (w : ℕ) (mask : Mask) (k : ℕ) → IsGangWidth w → k < w → has (lanes_of 16 mask) k ≡ has (lanes_of w mask) k
in_widest w mask k gang h =
    let wide = gang_width-le w gang in
    has-lanes_of_word 16 mask.word k (omega arith) ∙ sym (has-lanes_of_word w mask.word k h)
