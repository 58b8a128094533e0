-- The least of some numbers, and the lanes that wait for it.
use Rattle.std.proofs.Common.{ℕ, ◌+◌, ◌-◌, ◌%◌, ◌^◌, ◌<◌, ◌≤◌, Bool, true, false, cond, ◌≡◌, refl, sym, ◌∙◌, ap, arith, List, [], ◌∷◌, ◌++◌, drop, length, map, take, slice_index, w64}
use Rattle.std.specs.Prelude.{min, nat_eq, replicate}
use lib.Lanes.{mask_l, top, zip2}
use Rattle.std.proofs.lemmas.Bool.{eqb-true}
use Rattle.std.proofs.lemmas.List.{get_or-map, take_more}
use Rattle.std.proofs.lemmas.Simd.{bit_mask_l, bitmask_splat}
use Rattle.gang_types.specs.Lanes.{has}
use Rattle.gang_types.specs.Masks.{lanes_of_word}
use Rattle.gang_types.specs.MaskLaws.{lanes_of_word_is}
use Rattle.mask_states.specs.Masked.{least, waiting_for}
use Rattle.mask_states.proofs.LaneNumbers.{has-waiting_for, length-waiting_for}

least_behind : (end : ℕ) (xs : List ℕ) (x : ℕ) → least end (xs ++ x ∷ []) ≡ min (least end xs) x
least_behind end [] x = omega arith
least_behind end (y ∷ xs) x = let rest = least_behind end xs x in omega (arith, rest)

-- one more number
pub least_more : (end : ℕ) (xs : List ℕ) (i : ℕ) → i < length xs → least end (take (i + 1) xs) ≡ min (least end (take i xs)) (slice_index xs i)
least_more end xs i h = ap (least end) (take_more xs i 0 h) ∙ least_behind end (take i xs) (slice_index xs i)

-- where all numbers are the same, it is the least
pub least_of_same : (end first : ℕ) (numbers : List ℕ) → 0 < length numbers → first ≤ end → waiting_for first numbers ≡ replicate (length numbers) true → least end numbers ≡ first
least_of_same end first [] some below same = absurd (omega (arith, some))
least_of_same end first (n ∷ []) some below same =
    let is : n ≡ first = eqb-true n first (ap (λ ls. has ls 0) same) in
    omega (arith, is, below)
least_of_same end first (n ∷ m ∷ ms) some below same =
    let is : n ≡ first = eqb-true n first (ap (λ ls. has ls 0) same) in
    let rest : least end (m ∷ ms) ≡ first = least_of_same end first (m ∷ ms) (omega arith) below (ap (drop 1) same) in
    omega (arith, is, rest)

one_is : (b : Bool) → nat_eq (cond b 1 0) 1 ≡ b
one_is true = refl
one_is false = refl

-- the word that a comparison of all lanes makes
pub equal_lanes : (w number : ℕ) (numbers : List ℕ) → length numbers ≡ w → w ≤ 64
    → lanes_of_word w (mask_l (map (top 63) (zip2 (λ a b. cond (nat_eq a b) (2 ^ 64 - 1) 0) numbers (replicate w number))) % 2 ^ 64) ≡ waiting_for number numbers
equal_lanes w number numbers long le =
    ap (lanes_of_word w) (bitmask_splat w64 (λ a b. nat_eq a b) numbers w number long le)
    ∙ lanes_of_word_is w (mask_l (map (λ x. nat_eq x number) numbers)) (waiting_for number numbers) (length-waiting_for number numbers ∙ long)
    (λ k h.
    ap (λ b. nat_eq b 1) (bit_mask_l (map (λ x. nat_eq x number) numbers) k ∙ ap (λ t. cond t 1 0) (get_or-map (λ x. nat_eq x number) numbers k 0 false (omega (arith, h, long))))
    ∙ (one_is (nat_eq (slice_index numbers k) number) ∙ sym (has-waiting_for number numbers k (omega (arith, h, long)))))
