-- Folds of the last n numbers below k, which the steps of doubling join.
use Rattle.std.proofs.Common.{ℕ, zero, suc, ◌+◌, ◌-◌, ◌^◌, ◌<◌, ◌≤◌, false, cond, ◌≡◌, refl, sym, ◌∙◌, ap, arith, List, length, slice_index, inl, inr}
use Rattle.std.specs.Prelude.{nat_le, nat_lt, bit_or, max}
use Rattle.std.specs.Int.{bit_at}
use Rattle.std.proofs.lemmas.Nat.Bits.{same_from_bits, bit_at_or}
use Rattle.std.proofs.lemmas.Bool.{cases_lt, le-leb}
use Rattle.std.proofs.lemmas.Bool.Decides.{nat_tests}
use Rattle.std.proofs.lemmas.Nat.{mod_below, and_le_l, or_lt, and_mask, and_comm, or_comm, and_assoc}
use lib.Lanes.{Each1}
use Rattle.std.proofs.Common.{Fits, w64}
use Rattle.std.proofs.lemmas.List.{get_or_past}
use Rattle.std.proofs.lemmas.Simd.{Each1-get_or}
use Rattle.cross_lane.specs.declared.folds.Fold.{Fold}
use Rattle.cross_lane.specs.declared.folds.Fold.TheVariants.{Add, And, Or, Min, Max}
use Rattle.cross_lane.proofs.Rows.{windowed_one}
use Rattle.cross_lane.specs.Folds.{combined, neutral, fold_below, windowed}

-- f joins words, in any grouping, and e changes none
pub record IsJoin (f : ℕ → ℕ → ℕ) (e : ℕ) : Type 0 where
  pub small : e < 2 ^ 64
  pub closed : (x y : ℕ) → x < 2 ^ 64 → y < 2 ^ 64 → f x y < 2 ^ 64
  pub grouped : (x y z : ℕ) → x < 2 ^ 64 → y < 2 ^ 64 → z < 2 ^ 64 → f (f x y) z ≡ f x (f y z)
  pub left : (x : ℕ) → x < 2 ^ 64 → f e x ≡ x
  pub right : (x : ℕ) → x < 2 ^ 64 → f x e ≡ x

abbrev pub span : (ℕ → ℕ → ℕ) → ℕ → (ℕ → ℕ) → ℕ → ℕ → ℕ
span f e m k zero = e
span f e m zero (suc n) = e
span f e m (suc k) (suc n) = f (span f e m k n) (m k)

module _ (f : ℕ → ℕ → ℕ) (e : ℕ) (join : IsJoin f e) (m : ℕ → ℕ) (fits : (j : ℕ) → m j < 2 ^ 64) where
  span-zero : (n : ℕ) → span f e m 0 n ≡ e
  span-zero zero = refl
  span-zero (suc n) = refl

  span_fits : (k n : ℕ) → span f e m k n < 2 ^ 64
  span_fits k zero = join.small
  span_fits zero (suc n) = join.small
  span_fits (suc k) (suc n) = join.closed (span f e m k n) (m k) (span_fits k n) (fits k)

  span-more : (k n p : ℕ) → span f e m k (n + p) ≡ f (span f e m (k - n) p) (span f e m k n)
  span-more k zero p =
      let d : zero + p ≡ p = omega arith in
      let s : k ≡ k - zero = omega arith in
      ap (span f e m k) d ∙ ap (λ j. span f e m j p) s ∙ sym (join.right (span f e m (k - zero) p) (span_fits (k - zero) p))
  span-more zero (suc n) p =
      let s : zero - suc n ≡ 0 = omega arith in
      let rest : span f e m (zero - suc n) p ≡ e = ap (λ j. span f e m j p) s ∙ span-zero p in
      span-zero (suc n + p) ∙ sym (ap (λ x. f x e) rest ∙ join.right e join.small)
  span-more (suc k) (suc n) p =
      let d : suc n + p ≡ suc (n + p) = omega arith in
      let s : k - n ≡ suc k - suc n = omega arith in
      ap (span f e m (suc k)) d
      ∙ ap (λ x. f x (m k)) (span-more k n p)
      ∙ join.grouped (span f e m (k - n) p) (span f e m k n) (m k) (span_fits (k - n) p) (span_fits k n) (fits k)
      ∙ ap (λ j. f (span f e m j p) (f (span f e m k n) (m k))) s

  pub span-whole : (k n : ℕ) → k ≤ n → span f e m k n ≡ fold_below f e m k
  span-whole zero zero h = refl
  span-whole zero (suc n) h = refl
  span-whole (suc k) zero h = absurd (omega arith)
  span-whole (suc k) (suc n) h = ap (λ x. f x (m k)) (span-whole k n (omega arith))

  -- one step of doubling, at lanes that are folds of the n before lane j + o
  pub step : (o w n : ℕ) (xs ys : List ℕ)
      → ((j : ℕ) → j < w → slice_index xs j ≡ span f e m (j + o) n)
      → ((j : ℕ) → j < w → slice_index ys j ≡ f (cond (nat_le n j) (slice_index xs (j - n)) e) (slice_index xs j))
      → (o ≤ 1) × (o ≤ n)
      → (i : ℕ) → i < w → slice_index ys i ≡ span f e m (i + o) (n + n)
  step o w n xs ys ex ey small i h =
      elim (cases_lt i n) [
        | inl low ↦
            let d : i + o - n ≡ 0 = omega arith in
            let none : span f e m (i + o - n) n ≡ e = ap (λ j. span f e m j n) d ∙ span-zero n in
            ey i h
            ∙ ap (λ b. f (cond b (slice_index xs (i - n)) e) (slice_index xs i)) (below n i low)
            ∙ ap (f e) (ex i h)
            ∙ ap (λ y. f y (span f e m (i + o) n)) (sym none)
            ∙ sym (span-more (i + o) n n)
        | inr high ↦
            let d : i - n + o ≡ i + o - n = omega arith in
            ey i h
            ∙ ap (λ b. f (cond b (slice_index xs (i - n)) e) (slice_index xs i)) (le-leb n i high)
            ∙ ap (λ y. f y (slice_index xs i)) (ex (i - n) (omega arith))
            ∙ ap (f (span f e m (i - n + o) n)) (ex i h)
            ∙ ap (λ j. f (span f e m j n) (span f e m (i + o) n)) d
            ∙ sym (span-more (i + o) n n)
      ]
    where
      below : (a b : ℕ) → b < a → nat_le a b ≡ false
      below a b h = grind (arith, nat_tests)

  -- each lane alone
  pub alone : (i : ℕ) → m i ≡ span f e m (i + 1) 1
  alone i =
      let s : i + 1 ≡ suc i = omega arith in
      sym (ap (λ j. span f e m j 1) s ∙ join.left (m i) (fits i))

or_grouped : (x y z : ℕ) → bit_or (bit_or x y) z ≡ bit_or x (bit_or y z)
or_grouped x y z =
    same_from_bits (bit_or (bit_or x y) z) (bit_or x (bit_or y z))
    (λ i.
    let same : max (max (bit_at x i) (bit_at y i)) (bit_at z i) ≡ max (bit_at x i) (max (bit_at y i) (bit_at z i)) = omega arith in
    bit_at_or (bit_or x y) z i
    ∙ ap (λ t. max t (bit_at z i)) (bit_at_or x y i)
    ∙ same
    ∙ sym (bit_at_or x (bit_or y z) i ∙ ap (max (bit_at x i)) (bit_at_or y z i)))

min_closed : (x y : ℕ) → x < 2 ^ 64 → y < 2 ^ 64 → cond (nat_lt y x) y x < 2 ^ 64
min_closed x y h k = grind (arith, nat_tests)

min_grouped : (x y z : ℕ) → combined Min (combined Min x y) z ≡ combined Min x (combined Min y z)
min_grouped x y z = grind (arith, nat_tests)

min_left : (x : ℕ) → x < 2 ^ 64 → cond (nat_lt x (2 ^ 64 - 1)) x (2 ^ 64 - 1) ≡ x
min_left x h = grind (arith, nat_tests)

min_right : (x : ℕ) → x < 2 ^ 64 → cond (nat_lt (2 ^ 64 - 1) x) (2 ^ 64 - 1) x ≡ x
min_right x h = grind (arith, nat_tests)

max_closed : (x y : ℕ) → x < 2 ^ 64 → y < 2 ^ 64 → cond (nat_lt x y) y x < 2 ^ 64
max_closed x y h k = grind (arith, nat_tests)

max_grouped : (x y z : ℕ) → combined Max (combined Max x y) z ≡ combined Max x (combined Max y z)
max_grouped x y z = grind (arith, nat_tests)

max_left : (x : ℕ) → cond (nat_lt 0 x) x 0 ≡ x
max_left x = grind (arith, nat_tests)

max_right : (x : ℕ) → cond (nat_lt x 0) 0 x ≡ x
max_right x = grind (arith, nat_tests)

pub joins : (op : Fold) → IsJoin (combined op) (neutral op)
joins Add = record {
  small = omega arith;
  closed = λ x y h k. mod_below (x + y) (2 ^ 64) (omega arith);
  grouped = λ x y z h k l. omega arith;
  left = λ x h. omega arith;
  right = λ x h. omega arith;
}
joins And = record {
  small = omega arith;
  closed = λ x y h k. omega (arith, and_le_l x y);
  grouped = λ x y z h k l. and_assoc z x y;
  left = λ x h. and_comm (2 ^ 64 - 1) x ∙ and_mask x 64 ∙ omega arith;
  right = λ x h. and_mask x 64 ∙ omega arith;
}
joins Or = record {
  small = omega arith;
  closed = λ x y h k. or_lt 64 x y h k;
  grouped = λ x y z h k l. or_grouped x y z;
  left = λ x h. refl;
  right = λ x h. or_comm x 0;
}
joins Min = record {
  small = omega arith;
  closed = λ x y h k. min_closed x y h k;
  grouped = λ x y z h k l. min_grouped x y z;
  left = λ x h. min_left x h;
  right = λ x h. min_right x h;
}
joins Max = record {
  small = omega arith;
  closed = λ x y h k. max_closed x y h k;
  grouped = λ x y z h k l. max_grouped x y z;
  left = λ x h. max_left x;
  right = λ x h. max_right x;
}

-- the folds, each one lane further on
pub after_shift : (f : ℕ → ℕ → ℕ) (e w : ℕ) (m : ℕ → ℕ) (xs ys : List ℕ) → length xs ≡ w
    → ((j : ℕ) → j < w → slice_index xs j ≡ fold_below f e m (j + 1))
    → ((j : ℕ) → j < w → slice_index ys j ≡ windowed e xs (j + 15))
    → (i : ℕ) → i < w → slice_index ys i ≡ fold_below f e m i
after_shift f e w m xs ys long ex ey zero h = ey 0 h
after_shift f e w m xs ys long ex ey (suc i) h =
    let s : i + 1 ≡ suc i = omega arith in
    ey (suc i) h ∙ windowed_one e xs i (omega arith) ∙ ex i (omega arith) ∙ ap (fold_below f e m) s

pub lane_fits : (xs : List ℕ) → Each1 (Fits w64) xs → (k : ℕ) → slice_index xs k < 2 ^ 64
lane_fits xs f k =
    elim (cases_lt k (length xs)) [
      | inl low ↦ let fit = Each1-get_or (Fits w64) xs k 0 low f in fit.fits
      | inr high ↦ let e = get_or_past xs k 0 high in omega arith
    ]
