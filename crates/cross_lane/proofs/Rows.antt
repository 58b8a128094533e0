-- Lanes placed in a row of words.
use Rattle.std.proofs.Common.{ℕ, zero, suc, refl, [], ◌∷◌, ◌++◌, take, ◌+◌, ◌-◌, ◌*◌, ◌%◌, ◌<◌, ◌≤◌, false, cond, ◌≡◌, sym, ◌∙◌, ap, arith, add_comm, List, length, slice_index, get_or, inl, inr}
use Rattle.std.specs.Prelude.{nat_le, replicate}
use lib.Lanes.{chunk, put_chunk}
use Rattle.std.proofs.lemmas.Bool.{cases_lt, le-leb}
use Rattle.std.proofs.lemmas.Bool.Decides.{nat_tests}
use Rattle.std.proofs.lemmas.List.{get_or-replicate, get_or_past, get_or-take, get_or_append_left, get_or-append_right, length-append, length-take-le}
use Rattle.std.proofs.lemmas.Simd.{get_or-chunk, get_or-put_chunk_below, get_or-put_chunk_at, get_or-put_chunk_above, length-put_chunk}
use Rattle.cross_lane.specs.EachLaws.{same_words}
use Rattle.std.proofs.Math.Nat.{mod-eq_of_lt, mod-eq-sub-mod}
use Rattle.cross_lane.specs.Folds.{windowed}

pub not_le : (a b : ℕ) → b < a → nat_le a b ≡ false
not_le a b h = grind (arith, nat_tests)

pub filled_lane : (fill i : ℕ) → i < 48 → slice_index (replicate 48 fill) i ≡ fill
filled_lane fill i h = get_or-replicate 48 i fill 0 h

-- a lane of the list, by either word for a lane past its end
get_or-any : (xs : List ℕ) (i d : ℕ) → i < length xs → get_or xs i 0 ≡ get_or xs i d
get_or-any [] i d h = absurd (omega arith)
get_or-any (x ∷ xs) zero d h = refl
get_or-any (x ∷ xs) (suc i) d h = get_or-any xs i d (omega arith)

pub window_lane : (fill : ℕ) (row words : List ℕ) (w from : ℕ) → length row ≡ 48 → length words ≡ w → w ≤ 16 → from ≤ 32 → ((k : ℕ) → k < 48 → slice_index row k ≡ fill)
    → (i : ℕ) → i < w → slice_index (chunk from w (put_chunk 16 row words)) i ≡ windowed fill words (i + from)
window_lane fill row words w from long lw le near same i h =
    get_or-chunk from w (put_chunk 16 row words) i 0 h
    ∙ ap (λ k. get_or (put_chunk 16 row words) k 0) (add_comm from i)
    ∙ at (i + from) (omega arith)
  where
    at : (k : ℕ) → k < 48 → get_or (put_chunk 16 row words) k 0 ≡ windowed fill words k
    at k within =
        elim (cases_lt k 16) [
          | inl low ↦ get_or-put_chunk_below 16 row words k 0 low ∙ same k within ∙ sym (ap (λ b. cond b (get_or words (k - 16) fill) fill) (not_le 16 k low))
          | inr high ↦
              elim (cases_lt k (16 + w)) [
                | inl inside ↦
                    let e : k ≡ 16 + (k - 16) = omega arith in
                    ap (λ j. get_or (put_chunk 16 row words) j 0) e
                    ∙ get_or-put_chunk_at 16 row words (k - 16) 0 (omega arith) (omega arith)
                    ∙ get_or-any words (k - 16) fill (omega arith)
                    ∙ sym (ap (λ b. cond b (get_or words (k - 16) fill) fill) (le-leb 16 k high))
                | inr above ↦
                    get_or-put_chunk_above 16 row words k 0 (omega arith)
                    ∙ same k within
                    ∙ sym (ap (λ b. cond b (get_or words (k - 16) fill) fill) (le-leb 16 k high) ∙ get_or_past words (k - 16) fill (omega arith))
              ]
        ]

pub windowed_below : (fill : ℕ) (words : List ℕ) (by i : ℕ) → by ≤ 16 → i < length words → windowed fill words (i + (16 - by)) ≡ cond (nat_le by i) (slice_index words (i - by)) fill
windowed_below fill words by i le h =
    elim (cases_lt i by) [
      | inl low ↦
          ap (λ b. cond b (get_or words (i + (16 - by) - 16) fill) fill) (not_le 16 (i + (16 - by)) (omega arith))
          ∙ sym (ap (λ b. cond b (slice_index words (i - by)) fill) (not_le by i low))
      | inr high ↦
          let e : i + (16 - by) - 16 ≡ i - by = omega arith in
          ap (λ b. cond b (get_or words (i + (16 - by) - 16) fill) fill) (le-leb 16 (i + (16 - by)) (omega arith))
          ∙ ap (λ j. get_or words j fill) e
          ∙ sym (get_or-any words (i - by) fill (omega arith))
          ∙ sym (ap (λ b. cond b (slice_index words (i - by)) fill) (le-leb by i high))
    ]

-- the lane below, or `fill` below the first
pub windowed_one : (fill : ℕ) (words : List ℕ) (i : ℕ) → i < length words → windowed fill words (suc i + 15) ≡ slice_index words i
windowed_one fill words i h =
    let e : suc i + 15 - 16 ≡ i = omega arith in
    ap (λ b. cond b (get_or words (suc i + 15 - 16) fill) fill) (le-leb 16 (suc i + 15) (omega arith))
    ∙ ap (λ j. get_or words j fill) e
    ∙ sym (get_or-any words i fill h)

-- the first words and then the second, at the start of a row
pub side_by_side_is : (row first second : List ℕ) (w : ℕ) → length row ≡ 48 → length first ≡ w → length second ≡ w → w ≤ 16
    → take (2 * w) (put_chunk w (put_chunk 0 row first) second) ≡ first ++ second
side_by_side_is row first second w long lf ls le =
    same_words (take (2 * w) (put_chunk w (put_chunk 0 row first) second)) (first ++ second) (length-taken ∙ sym (length-append first second)) at
  where
    once : length (put_chunk 0 row first) ≡ 48
    once = length-put_chunk 0 row first ∙ long

    length-taken : length (take (2 * w) (put_chunk w (put_chunk 0 row first) second)) ≡ length first + length second
    length-taken =
        let twice : length (put_chunk w (put_chunk 0 row first) second) ≡ 48 = length-put_chunk w (put_chunk 0 row first) second ∙ once in
        length-take-le (2 * w) (put_chunk w (put_chunk 0 row first) second) (omega arith) ∙ omega arith

    at : (i : ℕ) → i < length (take (2 * w) (put_chunk w (put_chunk 0 row first) second)) → get_or (take (2 * w) (put_chunk w (put_chunk 0 row first) second)) i 0 ≡ get_or (first ++ second) i 0
    at i h =
        let within : i < 2 * w = omega (arith, length-taken) in
        get_or-take (2 * w) (put_chunk w (put_chunk 0 row first) second) i 0 within
        ∙ elim (cases_lt i w) [
          | inl low ↦
              let e : i ≡ 0 + i = omega arith in
              get_or-put_chunk_below w (put_chunk 0 row first) second i 0 low
              ∙ ap (λ k. get_or (put_chunk 0 row first) k 0) e
              ∙ get_or-put_chunk_at 0 row first i 0 (omega arith) (omega arith)
              ∙ sym (get_or_append_left first second 0 i (omega arith))
          | inr high ↦
              let e : i ≡ w + (i - w) = omega arith in
              ap (λ k. get_or (put_chunk w (put_chunk 0 row first) second) k 0) e
              ∙ get_or-put_chunk_at w (put_chunk 0 row first) second (i - w) 0 (omega arith) (omega (arith, once))
              ∙ sym (get_or-append_right first second w i 0 lf high)
        ]

-- a lane of two copies, from a place on
pub turned_from : (row words : List ℕ) (w places : ℕ) → length words ≡ w → places < w → take (2 * w) row ≡ words ++ words
    → (i : ℕ) → i < w → slice_index (chunk places w row) i ≡ slice_index words ((i + places) % w)
turned_from row words w places lw near twice i h =
    get_or-chunk places w row i 0 h
    ∙ sym (get_or-take (2 * w) row (places + i) 0 (omega arith))
    ∙ ap (λ l. get_or l (places + i) 0) twice
    ∙ ap (λ k. get_or (words ++ words) k 0) (add_comm places i)
    ∙ elim (cases_lt (i + places) w) [
      | inl low ↦ get_or_append_left words words 0 (i + places) (omega arith) ∙ ap (slice_index words) (sym (mod-eq_of_lt low))
      | inr high ↦ get_or-append_right words words w (i + places) 0 lw high ∙ ap (slice_index words) (sym (over (i + places) high (omega arith)))
    ]
  where
    over : (k : ℕ) → w ≤ k → k < w + w → k % w ≡ k - w
    over k low high = mod-eq-sub-mod low ∙ mod-eq_of_lt (omega arith)
