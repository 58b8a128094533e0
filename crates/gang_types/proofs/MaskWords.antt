-- The words of masks, and the sets of lanes that they stand for.
use Rattle.std.proofs.Common.{ℕ, zero, suc, ◌+◌, ◌-◌, ◌*◌, ◌%◌, ◌^◌, ◌<◌, ◌≤◌, Bool, true, false, cond, ◌≡◌, refl, sym, ◌∙◌, ap, arith, List, [], ◌∷◌, length, map, inl, inr, w64}
use Rattle.std.specs.Prelude.{count_ones, not, nat_eq, ◌&&◌, ◌||◌, bit_and, bit_or, min, max, replicate, slice_set, slice_index, ◌==◌}
use Rattle.std.specs.Int.{bit_at, bit_not}
use Rattle.std.specs.List.{count_by}
use lib.Lanes.{mask_l, top, zip2}
use lib.Count.{count_trailing_zeros}
use Rattle.std.proofs.lemmas.Bool.{cases_lt, cases_eq}
use Rattle.std.proofs.lemmas.Bool.Decides.{nat_tests}
use Rattle.std.proofs.lemmas.List.{length-replicate, get_or-replicate, length-set, get_or-set_same, get_or-set_other, get_or-map}
use Rattle.std.proofs.lemmas.List.Sums.{count_by-le-length}
use Rattle.std.proofs.lemmas.Simd.{bit_mask_l, bitmask_splat, ones-mask_l}
use Rattle.std.proofs.lemmas.Nat.Bits.{bit_at-lt, bit_at-zero, bit_at_and, bit_at_or, bit_at_ones, bit_at_above, bit_at_not, bit_at-pow_same, bit_at-pow_other, bit_at-trailing_zeros}
use Rattle.gang_types.specs.Lanes.{Lanes, has, no_lane, lowest, without, and, lanes_where}
use Rattle.gang_types.specs.LaneLaws.{length-and, has-and, length-without, has-without, length-lanes_where, has-lanes_where, lowest-lt, lowest_has, below_lowest}
use Rattle.gang_types.specs.Masks.{lanes_of_word, word_of_lanes}
use Rattle.gang_types.specs.MaskLaws.{length-lanes_of_word, has-lanes_of_word, lanes_of_word_is}

pub none_lanes : (w : ℕ) → lanes_of_word w 0 ≡ replicate w false
none_lanes w =
    lanes_of_word_is w 0 (replicate w false) (length-replicate w false)
    (λ k h. ap (λ b. nat_eq b 1) (bit_at-zero k) ∙ sym (get_or-replicate w k false false h))

pub all_lanes : (w n : ℕ) → n ≡ 2 ^ w - 1 → lanes_of_word w n ≡ replicate w true
all_lanes w n e =
    lanes_of_word_is w n (replicate w true) (length-replicate w true)
    (λ k h. ap (λ i. nat_eq (bit_at i k) 1) e ∙ ap (λ b. nat_eq b 1) (bit_at_ones w k h) ∙ sym (get_or-replicate w k true false h))

low_bit : (a b : ℕ) → a < 2 → b ≡ 1 → min a b ≡ a
low_bit a b h e = omega arith

pub kept_lanes : (w word n : ℕ) → n ≡ 2 ^ w - 1 → lanes_of_word w (bit_and word n) ≡ lanes_of_word w word
kept_lanes w word n e =
    lanes_of_word_is w (bit_and word n) (lanes_of_word w word) (length-lanes_of_word w word)
    (λ k h. ap (λ b. nat_eq b 1) (bit_at_and word n k ∙ low_bit (bit_at word k) (bit_at n k) (bit_at-lt word k) (ap (λ i. bit_at i k) e ∙ bit_at_ones w k h))
    ∙ sym (has-lanes_of_word w word k h))

both_bits : (a b : ℕ) → a < 2 → b < 2 → nat_eq (min a b) 1 ≡ (nat_eq a 1 && nat_eq b 1)
both_bits a b h k = grind (arith, nat_tests)

pub and_lanes : (w a b : ℕ) → lanes_of_word w (bit_and a b) ≡ and (lanes_of_word w a) (lanes_of_word w b)
and_lanes w a b =
    lanes_of_word_is w (bit_and a b) (and (lanes_of_word w a) (lanes_of_word w b))
    (length-and (lanes_of_word w a) (lanes_of_word w b) (length-lanes_of_word w a ∙ sym (length-lanes_of_word w b)) ∙ length-lanes_of_word w a)
    (λ k h. ap (λ i. nat_eq i 1) (bit_at_and a b k)
    ∙ both_bits (bit_at a k) (bit_at b k) (bit_at-lt a k) (bit_at-lt b k)
    ∙ sym (has-and (lanes_of_word w a) (lanes_of_word w b) k
    ∙ ap (λ t. t && has (lanes_of_word w b) k) (has-lanes_of_word w a k h)
    ∙ ap (λ t. nat_eq (bit_at a k) 1 && t) (has-lanes_of_word w b k h)))

either_bit : (a b : ℕ) → a < 2 → b < 2 → nat_eq (max a b) 1 ≡ (nat_eq a 1 || nat_eq b 1)
either_bit a b h k = grind (arith, nat_tests)

pub or_lanes : (w a b k : ℕ) → k < w → has (lanes_of_word w (bit_or a b)) k ≡ (has (lanes_of_word w a) k || has (lanes_of_word w b) k)
or_lanes w a b k h =
    has-lanes_of_word w (bit_or a b) k h
    ∙ ap (λ i. nat_eq i 1) (bit_at_or a b k)
    ∙ either_bit (bit_at a k) (bit_at b k) (bit_at-lt a k) (bit_at-lt b k)
    ∙ sym (ap (λ t. t || has (lanes_of_word w b) k) (has-lanes_of_word w a k h)
    ∙ ap (λ t. nat_eq (bit_at a k) 1 || t) (has-lanes_of_word w b k h))

one_not_other : (a b : ℕ) → a < 2 → b < 2 → nat_eq (min a (1 - b)) 1 ≡ (nat_eq a 1 && not (nat_eq b 1))
one_not_other a b h k = grind (arith, nat_tests)

no_bit : (a b c : ℕ) → a ≡ 0 → nat_eq (min a b) 1 ≡ (nat_eq a 1 && not (nat_eq c 1))
no_bit a b c e = grind (arith, nat_tests)

-- also of the bits that no word has
left_bit : (a b k : ℕ) → a < 2 ^ 64 → b < 2 ^ 64 → nat_eq (bit_at (bit_and a (bit_not w64 b)) k) 1 ≡ (nat_eq (bit_at a k) 1 && not (nat_eq (bit_at b k) 1))
left_bit a b k h l =
    elim (cases_lt k 64) [
      | inl below ↦
          ap (λ i. nat_eq i 1) (bit_at_and a (bit_not w64 b) k)
          ∙ ap (λ i. nat_eq (min (bit_at a k) i) 1) (bit_at_not w64 b k l below)
          ∙ one_not_other (bit_at a k) (bit_at b k) (bit_at-lt a k) (bit_at-lt b k)
      | inr past ↦
          ap (λ i. nat_eq i 1) (bit_at_and a (bit_not w64 b) k)
          ∙ no_bit (bit_at a k) (bit_at (bit_not w64 b) k) (bit_at b k) (bit_at_above a 64 k h past)
    ]

pub without_lanes : (w a b : ℕ) → a < 2 ^ 64 → b < 2 ^ 64 → lanes_of_word w (bit_and a (bit_not w64 b)) ≡ without (lanes_of_word w a) (lanes_of_word w b)
without_lanes w a b fa fb =
    lanes_of_word_is w (bit_and a (bit_not w64 b)) (without (lanes_of_word w a) (lanes_of_word w b))
    (length-without (lanes_of_word w a) (lanes_of_word w b) ∙ length-lanes_of_word w a)
    (λ k h. left_bit a b k fa fb
    ∙ sym (has-without (lanes_of_word w a) (lanes_of_word w b) k
    ∙ ap (λ t. t && not (has (lanes_of_word w b) k)) (has-lanes_of_word w a k h)
    ∙ ap (λ t. nat_eq (bit_at a k) 1 && not t) (has-lanes_of_word w b k h)))

with_zero : (a b : ℕ) → b ≡ 0 → max a b ≡ a
with_zero a b e = omega arith

with_one : (a b : ℕ) → a < 2 → b ≡ 1 → max a b ≡ 1
with_one a b h e = omega arith

-- a bit more in the word is a lane more in the set
pub with_lane : (w word n lane : ℕ) → n ≡ 2 ^ lane → lane < w → lanes_of_word w (bit_or word n) ≡ slice_set (lanes_of_word w word) lane true
with_lane w word n lane e h =
    lanes_of_word_is w (bit_or word n) (slice_set (lanes_of_word w word) lane true)
    (length-set (lanes_of_word w word) lane true ∙ length-lanes_of_word w word)
    (λ k l. ap (λ i. nat_eq (bit_at (bit_or word i) k) 1) e ∙ ap (λ i. nat_eq i 1) (bit_at_or word (2 ^ lane) k) ∙ elim (cases_eq k lane) [
      | inl same ↦
          let long : lane < length (lanes_of_word w word) = omega (arith, length-lanes_of_word w word) in
          ap (λ i. nat_eq i 1) (with_one (bit_at word k) (bit_at (2 ^ lane) k) (bit_at-lt word k) (ap (bit_at (2 ^ lane)) same ∙ bit_at-pow_same lane))
          ∙ sym (ap (has (slice_set (lanes_of_word w word) lane true)) same ∙ get_or-set_same (lanes_of_word w word) lane true false long)
      | inr other ↦
          ap (λ i. nat_eq i 1) (with_zero (bit_at word k) (bit_at (2 ^ lane) k) (bit_at-pow_other lane k other))
          ∙ sym (get_or-set_other (lanes_of_word w word) lane k true false other ∙ has-lanes_of_word w word k l)
    ])

pub only_lane : (w n lane : ℕ) → n ≡ 2 ^ lane → lane < w → lanes_of_word w n ≡ slice_set (replicate w false) lane true
only_lane w n lane e h =
    lanes_of_word_is w n (slice_set (replicate w false) lane true)
    (length-set (replicate w false) lane true ∙ length-replicate w false)
    (λ k l. ap (λ i. nat_eq (bit_at i k) 1) e ∙ elim (cases_eq k lane) [
      | inl same ↦
          let long : lane < length (replicate w false) = omega (arith, length-replicate w false) in
          ap (λ i. nat_eq i 1) (ap (bit_at (2 ^ lane)) same ∙ bit_at-pow_same lane)
          ∙ sym (ap (has (slice_set (replicate w false) lane true)) same ∙ get_or-set_same (replicate w false) lane true false long)
      | inr other ↦
          ap (λ i. nat_eq i 1) (bit_at-pow_other lane k other)
          ∙ sym (get_or-set_other (replicate w false) lane k true false other ∙ get_or-replicate w k false false l)
    ])

word_empty : (lanes : Lanes) → nat_eq (mask_l lanes) 0 ≡ no_lane lanes
word_empty [] = refl
word_empty (true ∷ lanes) = odd (mask_l lanes)
  where
    odd : (n : ℕ) → nat_eq (1 + 2 * n) 0 ≡ false
    odd n = grind (arith, nat_tests)
word_empty (false ∷ lanes) = double (mask_l lanes) ∙ word_empty lanes
  where
    double : (n : ℕ) → nat_eq (0 + 2 * n) 0 ≡ nat_eq n 0
    double n = grind (arith, nat_tests)

pub empty_word : (lanes : Lanes) (n : ℕ) → n ≡ word_of_lanes lanes → nat_eq n 0 ≡ no_lane lanes
unfolding word_of_lanes
empty_word lanes n e = ap (λ i. nat_eq i 0) e ∙ word_empty lanes

map_same : (lanes : Lanes) → map (λ b. b) lanes ≡ lanes
map_same [] = refl
map_same (b ∷ lanes) = ap (λ t. b ∷ t) (map_same lanes)

ones_of_lanes : (lanes : Lanes) → count_ones (mask_l lanes) ≡ count_by (λ b. b) lanes
ones_of_lanes lanes =
    let same : Bool → Bool = λ b. b in
    ap (λ t. count_ones (mask_l t)) (sym (map_same lanes)) ∙ ones-mask_l same lanes

pub counted : (lanes : Lanes) (n : ℕ) → n ≡ word_of_lanes lanes → count_ones n ≡ count_by (λ b. b) lanes
unfolding word_of_lanes
counted lanes n e = ap count_ones e ∙ ones_of_lanes lanes

pub counted-le : (w word n : ℕ) → n ≡ word_of_lanes (lanes_of_word w word) → count_ones n ≤ w
counted-le w word n e =
    let e : count_ones n ≡ count_by (λ b. b) (lanes_of_word w word) = counted (lanes_of_word w word) n e in
    omega (arith, e, count_by-le-length (λ b. b) (lanes_of_word w word), length-lanes_of_word w word)

is_one : (b : ℕ) → nat_eq b 1 ≡ true → b ≡ 1
is_one b e = grind (arith, nat_tests)

not_zero : (n : ℕ) → (n ≡ 0 → ⊥) → 0 < n
not_zero zero h = absurd (h refl)
not_zero (suc n) h = omega arith

-- the lowest bit of the word is the lowest lane
pub lowest_lane : (w word : ℕ) → word < 2 ^ 64 → no_lane (lanes_of_word w word) ≡ false → count_trailing_zeros 64 word ≡ lowest (lanes_of_word w word)
lowest_lane w word h some =
    let lane : ℕ = lowest (lanes_of_word w word) in
    let within : lowest (lanes_of_word w word) < w = omega (arith, lowest-lt (lanes_of_word w word) some, length-lanes_of_word w word) in
    let bit : bit_at word (lowest (lanes_of_word w word)) ≡ 1 =
    is_one (bit_at word (lowest (lanes_of_word w word))) (sym (has-lanes_of_word w word (lowest (lanes_of_word w word)) within) ∙ lowest_has (lanes_of_word w word) some) in
    let above : 0 < word = not_zero word (λ e. absurd (omega (arith, sym bit ∙ ap (λ n. bit_at n (lowest (lanes_of_word w word))) e ∙ bit_at-zero (lowest (lanes_of_word w word))))) in
    let zeros = bit_at-trailing_zeros w64 word above h in
    elim (cases_lt (count_trailing_zeros 64 word) (lowest (lanes_of_word w word))) [
      | inl below ↦
          let there : has (lanes_of_word w word) (count_trailing_zeros 64 word) ≡ true =
          has-lanes_of_word w word (count_trailing_zeros 64 word) (omega arith) ∙ ap (λ b. nat_eq b 1) zeros.1 in
          let none : has (lanes_of_word w word) (count_trailing_zeros 64 word) ≡ false = below_lowest (lanes_of_word w word) (count_trailing_zeros 64 word) below in
          cc
      | inr at_least ↦
          elim (cases_lt (lowest (lanes_of_word w word)) (count_trailing_zeros 64 word)) [
            | inl passed ↦ absurd (omega (arith, bit, zeros.2 (lowest (lanes_of_word w word)) passed))
            | inr at_most ↦ omega arith
          ]
    ]

pub lowest_within : (w word : ℕ) → word < 2 ^ 64 → no_lane (lanes_of_word w word) ≡ false → count_trailing_zeros 64 word < w
lowest_within w word h some =
    omega (arith, lowest_lane w word h some, lowest-lt (lanes_of_word w word) some, length-lanes_of_word w word)

chosen_bit : (t : Bool) (b : ℕ) → b < 2 → nat_eq (min b (cond t 1 0)) 1 ≡ (nat_eq b 1 && t)
chosen_bit true zero h = refl
chosen_bit true (suc zero) h = refl
chosen_bit true (suc (suc b)) h = absurd (omega arith)
chosen_bit false zero h = refl
chosen_bit false (suc zero) h = refl
chosen_bit false (suc (suc b)) h = absurd (omega arith)

pub true_lanes : (w word : ℕ) (words : List ℕ) → length words ≡ w → w ≤ 64
    → lanes_of_word w (bit_and word (mask_l (map (top 63) (zip2 (λ a b. cond (not (nat_eq a b)) (2 ^ 64 - 1) 0) words (replicate w 0))) % 2 ^ 64))
    ≡ lanes_where (lanes_of_word w word) (λ k. not (slice_index words k == 0))
true_lanes w word words long le =
    ap (λ m. lanes_of_word w (bit_and word m)) (bitmask_splat w64 (λ a b. not (nat_eq a b)) words w 0 long le)
    ∙ lanes_of_word_is w (bit_and word (mask_l (map (λ x. not (nat_eq x 0)) words))) (lanes_where (lanes_of_word w word) (λ k. not (slice_index words k == 0)))
    (length-lanes_where (lanes_of_word w word) (λ k. not (slice_index words k == 0)) ∙ length-lanes_of_word w word)
    (λ k h.
    let bit : bit_at (mask_l (map (λ x. not (nat_eq x 0)) words)) k ≡ cond (not (nat_eq (slice_index words k) 0)) 1 0 =
    bit_mask_l (map (λ x. not (nat_eq x 0)) words) k
    ∙ ap (λ t. cond t 1 0) (get_or-map (λ x. not (nat_eq x 0)) words k 0 false (omega arith)) in
    ap (λ b. nat_eq b 1) (bit_at_and word (mask_l (map (λ x. not (nat_eq x 0)) words)) k)
    ∙ ap (λ b. nat_eq (min (bit_at word k) b) 1) bit
    ∙ chosen_bit (not (nat_eq (slice_index words k) 0)) (bit_at word k) (bit_at-lt word k)
    ∙ sym (has-lanes_where (lanes_of_word w word) (λ k. not (slice_index words k == 0)) k
    ∙ ap (λ t. t && not (nat_eq (slice_index words k) 0)) (has-lanes_of_word w word k h)))
