-- Lanes of vectors that comparisons and the mask's bits choose.
use Rattle.std.proofs.Common.{ℕ, zero, suc, ◌-◌, ◌/◌, ◌^◌, ◌<◌, ◌≤◌, cond, ◌≡◌, sym, ◌∙◌, ap, arith, List, [], ◌∷◌, length, map, slice_index}
use Rattle.std.specs.Prelude.{nat_eq, replicate, bit_and}
use Rattle.std.specs.Int.{bit_at}
use lib.Lanes.{zip2, sel_l, top, Each2}
use Rattle.std.proofs.lemmas.Nat.Bits.{shr_and_one}
use Rattle.std.proofs.lemmas.List.{length-replicate}
use Rattle.std.proofs.lemmas.Simd.{get_or-zip2, length-zip2}
use Rattle.gang_types.specs.Lanes.{Lanes, has}
use Rattle.gang_types.specs.Masks.{lanes_of_word, word_of_lanes}
use Rattle.gang_types.specs.MaskLaws.{has-lanes_of_word, lanes_of_word_of_lanes}
use Rattle.lane_kernels.proofs.VectorLanes.{lane_chosen, lane_splat}

pub lane_zip2 : (f : ℕ → ℕ → ℕ) (n : ℕ) (xs ys : List ℕ) → length xs ≡ n → length ys ≡ n → (i : ℕ) → i < n → slice_index (zip2 f xs ys) i ≡ f (slice_index xs i) (slice_index ys i)
lane_zip2 f n xs ys lx ly i h = get_or-zip2 f xs ys i 0 0 0 (omega arith) (omega arith)

-- the words of the lanes of a set, and a fill in the others, by the bits of the set's word
pub active_lane : (bits w fill : ℕ) (lanes : Lanes) (numbers words : List ℕ) → length numbers ≡ w → length words ≡ w → length lanes ≡ w → bits ≡ word_of_lanes lanes
    → ((i : ℕ) → i < w → slice_index numbers i ≡ i)
    → (i : ℕ) → i < w
    → slice_index (sel_l (map (top 63) (zip2 (λ x y. cond (nat_eq x y) (2 ^ 64 - 1) 0) (zip2 bit_and (zip2 (λ x y. x / 2 ^ y) (replicate w bits) numbers) (replicate w 1)) (replicate w 1))) words (replicate w fill)) i
    ≡ cond (has lanes i) (slice_index words i) fill
active_lane bits w fill lanes numbers words ln lw ll same en i h =
    let ls : length (replicate w bits) ≡ w = length-replicate w bits in
    let l1 : length (replicate {A = ℕ} w 1) ≡ w = length-replicate w 1 in
    let l0 : length (replicate w fill) ≡ w = length-replicate w fill in
    let lq : length (zip2 (λ x y. x / 2 ^ y) (replicate w bits) numbers) ≡ w = length-zip2 (λ x y. x / 2 ^ y) (replicate w bits) numbers (ls ∙ sym ln) ∙ ls in
    let lb : length (zip2 bit_and (zip2 (λ x y. x / 2 ^ y) (replicate w bits) numbers) (replicate w 1)) ≡ w = length-zip2 bit_and (zip2 (λ x y. x / 2 ^ y) (replicate w bits) numbers) (replicate w 1) (lq ∙ sym l1) ∙ lq in
    let quotient : slice_index (zip2 (λ x y. x / 2 ^ y) (replicate w bits) numbers) i ≡ bits / 2 ^ i =
    lane_zip2 (λ x y. x / 2 ^ y) w (replicate w bits) numbers ls ln i h
    ∙ ap (λ x. x / 2 ^ slice_index numbers i) (lane_splat w i bits h)
    ∙ ap (λ y. bits / 2 ^ y) (en i h) in
    let bit : slice_index (zip2 bit_and (zip2 (λ x y. x / 2 ^ y) (replicate w bits) numbers) (replicate w 1)) i ≡ bit_at bits i =
    lane_zip2 bit_and w (zip2 (λ x y. x / 2 ^ y) (replicate w bits) numbers) (replicate w 1) lq l1 i h
    ∙ ap (λ x. bit_and x (slice_index (replicate w 1) i)) quotient
    ∙ ap (bit_and (bits / 2 ^ i)) (lane_splat w i 1 h)
    ∙ shr_and_one bits i in
    let set : nat_eq (bit_at bits i) 1 ≡ has lanes i =
    sym (has-lanes_of_word w bits i h) ∙ ap (λ b. has (lanes_of_word w b) i) same ∙ ap (λ l. has l i) (lanes_of_word_of_lanes w lanes ll) in
    lane_chosen w nat_eq (zip2 bit_and (zip2 (λ x y. x / 2 ^ y) (replicate w bits) numbers) (replicate w 1)) (replicate w 1) words (replicate w fill) lb l1 lw l0 i h
    ∙ ap (λ x. cond (nat_eq x (slice_index (replicate w 1) i)) (slice_index words i) (slice_index (replicate w fill) i)) bit
    ∙ ap (λ y. cond (nat_eq (bit_at bits i) y) (slice_index words i) (slice_index (replicate w fill) i)) (lane_splat w i 1 h)
    ∙ ap (λ d. cond (nat_eq (bit_at bits i) 1) (slice_index words i) d) (lane_splat w i fill h)
    ∙ ap (λ b. cond b (slice_index words i) fill) set

numbers_fit_from : (bits n : ℕ) (numbers : List ℕ) → ((i : ℕ) → i < length numbers → slice_index numbers i < 64) → Each2 (λ (x y : ℕ). y < 64) (replicate n bits) numbers
numbers_fit_from bits zero numbers f = tt
numbers_fit_from bits (suc n) [] f = tt
numbers_fit_from bits (suc n) (y ∷ ys) f = (f 0 (omega arith), numbers_fit_from bits n ys (λ i h. f (suc i) (omega arith)))

pub numbers_fit : (bits w : ℕ) (numbers : List ℕ) → w ≤ 16 → length numbers ≡ w → ((i : ℕ) → i < w → slice_index numbers i ≡ i) → Each2 (λ (x y : ℕ). y < 64) (replicate w bits) numbers
numbers_fit bits w numbers le ln en = numbers_fit_from bits w numbers (λ i h. let e : slice_index numbers i ≡ i = en i (omega arith) in omega arith)
