-- Reductions of the values of a set's lanes, by sets of lanes.
use Rattle.std.proofs.Common.{ℕ, zero, suc, ◌+◌, ◌-◌, ◌*◌, ◌%◌, ◌^◌, ◌<◌, Bool, true, false, cond, ◌≡◌, refl, sym, ◌∙◌, ap, arith, eq-eqb, [], ◌∷◌, length}
use Rattle.std.specs.Prelude.{not, ◌&&◌, ◌==◌, nat_eq}
use Rattle.std.specs.List.{count_by}
use Rattle.std.proofs.lemmas.Bool.Decides.{nat_tests}
use Rattle.std.proofs.lemmas.List.Sums.{sum_by-cons}
use Rattle.std.proofs.Math.Nat.{pow-succ'}
use lib.Lanes.{mask_l}
use Rattle.gang_types.specs.Lanes.{Lanes, has, no_lane, lowest, without, lanes_where}
use Rattle.gang_types.specs.LaneLaws.{same_lanes, length-lanes_where, has-lanes_where}
use Rattle.gang_types.specs.Masks.{word_of_lanes}
use Rattle.gang_model.specs.Running.Lanes.{words_from, each}
use Rattle.gang_model.specs.Running.Library.{active, each_is as passes, all_same, bits_from, count}

-- ---- the lanes of a set that pass a test
abbrev tested : ℕ → Lanes → (ℕ → Bool) → Lanes
tested k [] test = []
tested k (b ∷ lanes) test = (b && test k) ∷ tested (suc k) lanes test

length-tested : (k : ℕ) (lanes : Lanes) (test : ℕ → Bool) → length (tested k lanes test) ≡ length lanes
length-tested k [] test = refl
length-tested k (b ∷ lanes) test = ap suc (length-tested (suc k) lanes test)

has-tested : (k : ℕ) (lanes : Lanes) (test : ℕ → Bool) (i : ℕ) → has (tested k lanes test) i ≡ (has lanes i && test (k + i))
has-tested k [] test i = refl
has-tested k (b ∷ lanes) test zero = ap (λ j. b && test j) (omega arith)
has-tested k (b ∷ lanes) test (suc i) = has-tested (suc k) lanes test i ∙ ap (λ j. has lanes i && test j) (omega arith)

where_is : (lanes : Lanes) (test : ℕ → Bool) → lanes_where lanes test ≡ tested 0 lanes test
where_is lanes test =
    same_lanes (lanes_where lanes test) (tested 0 lanes test) (length-lanes_where lanes test ∙ sym (length-tested 0 lanes test))
    (λ i. has-lanes_where lanes test i ∙ sym (has-tested 0 lanes test i ∙ ap (λ j. has lanes i && test j) (omega arith)))

-- whether a value is not 0
abbrev holding : (ℕ → ℕ) → ℕ → Bool
holding f k = not (f k == 0)

none_from : (k : ℕ) (lanes : Lanes) (f : ℕ → ℕ) → no_lane (tested k lanes (holding f)) ≡ passes (λ x. x == 0) (active lanes (words_from k lanes f))
none_from k [] f = refl
none_from k (false ∷ lanes) f = none_from (suc k) lanes f
none_from k (true ∷ lanes) f = by_test (nat_eq (f k) 0) (none_from (suc k) lanes f)
  where
    by_test : (b : Bool) → no_lane (tested (suc k) lanes (holding f)) ≡ passes (λ x. x == 0) (active lanes (words_from (suc k) lanes f)) → (not (not b) && no_lane (tested (suc k) lanes (holding f))) ≡ cond b (passes (λ x. x == 0) (active lanes (words_from (suc k) lanes f))) false
    by_test true rest = rest
    by_test false rest = refl

pub none_holds : (lanes : Lanes) (f : ℕ → ℕ) → no_lane (lanes_where lanes (λ k. not (f k == 0))) ≡ passes (λ x. x == 0) (active lanes (each lanes f))
none_holds lanes f = ap no_lane (where_is lanes (holding f)) ∙ none_from 0 lanes f

all_from : (k : ℕ) (lanes : Lanes) (f : ℕ → ℕ) → no_lane (without lanes (tested k lanes (holding f))) ≡ passes (λ x. not (x == 0)) (active lanes (words_from k lanes f))
all_from k [] f = refl
all_from k (false ∷ lanes) f = all_from (suc k) lanes f
all_from k (true ∷ lanes) f = by_test (nat_eq (f k) 0) (all_from (suc k) lanes f)
  where
    by_test : (b : Bool) → no_lane (without lanes (tested (suc k) lanes (holding f))) ≡ passes (λ x. not (x == 0)) (active lanes (words_from (suc k) lanes f)) → (not (not (not b)) && no_lane (without lanes (tested (suc k) lanes (holding f)))) ≡ cond (not b) (passes (λ x. not (x == 0)) (active lanes (words_from (suc k) lanes f))) false
    by_test true rest = refl
    by_test false rest = rest

pub all_hold : (lanes : Lanes) (f : ℕ → ℕ) → no_lane (without lanes (lanes_where lanes (λ k. not (f k == 0)))) ≡ passes (λ x. not (x == 0)) (active lanes (each lanes f))
all_hold lanes f = ap (λ t. no_lane (without lanes t)) (where_is lanes (holding f)) ∙ all_from 0 lanes f

none : (n : ℕ) → n ≡ 0 + n
none n = omega arith

count_from : (k : ℕ) (lanes : Lanes) (f : ℕ → ℕ) → count_by (λ b. b) (tested k lanes (holding f)) ≡ count (words_from k lanes f)
count_from k [] f = refl
count_from k (false ∷ lanes) f = count_from (suc k) lanes f ∙ none (count (words_from (suc k) lanes f))
count_from k (true ∷ lanes) f = by_test (nat_eq (f k) 0) (count_from (suc k) lanes f)
  where
    by_test : (b : Bool) → count_by (λ b. b) (tested (suc k) lanes (holding f)) ≡ count (words_from (suc k) lanes f) → count_by (λ b. b) (not b ∷ tested (suc k) lanes (holding f)) ≡ cond b 0 1 + count (words_from (suc k) lanes f)
    by_test true rest = rest ∙ none (count (words_from (suc k) lanes f))
    by_test false rest = sum_by-cons (λ b. cond b 1 0) true (tested (suc k) lanes (holding f)) ∙ ap (λ n. 1 + n) rest

pub count_holds : (lanes : Lanes) (f : ℕ → ℕ) → count_by (λ b. b) (lanes_where lanes (λ k. not (f k == 0))) ≡ count (each lanes f)
count_holds lanes f = ap (count_by (λ b. b)) (where_is lanes (holding f)) ∙ count_from 0 lanes f

twice : (k m r : ℕ) → 2 ^ suc k * m ≡ r → 2 ^ k * (0 + 2 * m) ≡ 0 + r
twice k m r e =
    let p : 2 * 2 ^ k * m ≡ r = ap (λ q. q * m) (sym (pow-succ' 2 k)) ∙ e in
    from (2 ^ k) p
  where
    from : (p : ℕ) → 2 * p * m ≡ r → p * (0 + 2 * m) ≡ 0 + r
    from p e = grind arith

twice_one : (k m r : ℕ) → 2 ^ suc k * m ≡ r → 2 ^ k * (1 + 2 * m) ≡ 2 ^ k + r
twice_one k m r e =
    let p : 2 * 2 ^ k * m ≡ r = ap (λ q. q * m) (sym (pow-succ' 2 k)) ∙ e in
    from (2 ^ k) p
  where
    from : (p : ℕ) → 2 * p * m ≡ r → p * (1 + 2 * m) ≡ p + r
    from p e = grind arith

bits_times : (k : ℕ) (lanes : Lanes) (f : ℕ → ℕ) → 2 ^ k * mask_l (tested k lanes (holding f)) ≡ bits_from k (words_from k lanes f)
bits_times k [] f = omega arith
bits_times k (b ∷ lanes) f = by_lane b (nat_eq (f k) 0) refl (bits_times (suc k) lanes f)
  where
    by_lane : (b t : Bool) → nat_eq (f k) 0 ≡ t → 2 ^ suc k * mask_l (tested (suc k) lanes (holding f)) ≡ bits_from (suc k) (words_from (suc k) lanes f)
        → 2 ^ k * mask_l ((b && not (nat_eq (f k) 0)) ∷ tested (suc k) lanes (holding f)) ≡ cond (nat_eq (cond b (f k) 0) 0) 0 (2 ^ k) + bits_from (suc k) (words_from (suc k) lanes f)
    by_lane false t e rest = twice k (mask_l (tested (suc k) lanes (holding f))) (bits_from (suc k) (words_from (suc k) lanes f)) rest
    by_lane true true e rest =
        ap (λ t. 2 ^ k * mask_l (not t ∷ tested (suc k) lanes (holding f))) e
        ∙ twice k (mask_l (tested (suc k) lanes (holding f))) (bits_from (suc k) (words_from (suc k) lanes f)) rest
        ∙ sym (ap (λ t. cond t 0 (2 ^ k) + bits_from (suc k) (words_from (suc k) lanes f)) e)
    by_lane true false e rest =
        ap (λ t. 2 ^ k * mask_l (not t ∷ tested (suc k) lanes (holding f))) e
        ∙ twice_one k (mask_l (tested (suc k) lanes (holding f))) (bits_from (suc k) (words_from (suc k) lanes f)) rest
        ∙ sym (ap (λ t. cond t 0 (2 ^ k) + bits_from (suc k) (words_from (suc k) lanes f)) e)

pub packed_bits : (lanes : Lanes) (f : ℕ → ℕ) → word_of_lanes (lanes_where lanes (λ k. not (f k == 0))) ≡ bits_from 0 (each lanes f)
unfolding word_of_lanes
packed_bits lanes f =
    let once : 1 * mask_l (tested 0 lanes (holding f)) ≡ mask_l (tested 0 lanes (holding f)) = omega arith in
    ap mask_l (where_is lanes (holding f)) ∙ sym once ∙ bits_times 0 lanes f

tested_all : (k : ℕ) (lanes : Lanes) → tested k lanes (holding (λ j. 1)) ≡ lanes
tested_all k [] = refl
tested_all k (true ∷ lanes) = ap (λ t. true ∷ t) (tested_all (suc k) lanes)
tested_all k (false ∷ lanes) = ap (λ t. false ∷ t) (tested_all (suc k) lanes)

pub set_bits_of : (lanes : Lanes) → word_of_lanes lanes ≡ bits_from 0 (each lanes (λ k. 1))
set_bits_of lanes = ap word_of_lanes (sym (tested_all 0 lanes) ∙ sym (where_is lanes (holding (λ j. 1)))) ∙ packed_bits lanes (λ j. 1)

-- ---- whether all values are that of the lowest lane
same_from : (k first : ℕ) (lanes : Lanes) (f g : ℕ → ℕ) → ((i : ℕ) → i < length lanes → (g (k + i) == 0) ≡ (f (k + i) == first))
    → no_lane (tested k lanes (holding g)) ≡ passes (λ y. y == first) (active lanes (words_from k lanes f))
same_from k first [] f g h = refl
same_from k first (b ∷ lanes) f g h =
    by_lane b (same_from (suc k) first lanes f g (λ i l. let e : k + suc i ≡ suc k + i = omega arith in ap (λ j. nat_eq (g j) 0) (sym e) ∙ h (suc i) (omega arith) ∙ ap (λ j. nat_eq (f j) first) e))
  where
    here : nat_eq (g k) 0 ≡ nat_eq (f k) first
    here =
        let e : k + 0 ≡ k = omega arith in
        ap (λ i. nat_eq (g i) 0) (sym e) ∙ h 0 (omega arith) ∙ ap (λ i. nat_eq (f i) first) e

    by_test : (t : Bool) → no_lane (tested (suc k) lanes (holding g)) ≡ passes (λ y. y == first) (active lanes (words_from (suc k) lanes f))
        → (not (not t) && no_lane (tested (suc k) lanes (holding g))) ≡ cond t (passes (λ y. y == first) (active lanes (words_from (suc k) lanes f))) false
    by_test true rest = rest
    by_test false rest = refl

    by_lane : (b : Bool) → no_lane (tested (suc k) lanes (holding g)) ≡ passes (λ y. y == first) (active lanes (words_from (suc k) lanes f))
        → no_lane (tested k (b ∷ lanes) (holding g)) ≡ passes (λ y. y == first) (active (b ∷ lanes) (words_from k (b ∷ lanes) f))
    by_lane false rest = rest
    by_lane true rest = ap (λ t. not (not t) && no_lane (tested (suc k) lanes (holding g))) here ∙ by_test (nat_eq (f k) first) rest

first_same : (k : ℕ) (lanes : Lanes) (f : ℕ → ℕ) → no_lane lanes ≡ false → passes (λ y. y == f (k + lowest lanes)) (active lanes (words_from k lanes f)) ≡ all_same (active lanes (words_from k lanes f))
first_same k [] f e = cc
first_same k (true ∷ lanes) f e =
    let s : k + 0 ≡ k = omega arith in
    ap (λ i. passes (λ y. y == f i) (f k ∷ active lanes (words_from (suc k) lanes f))) s
    ∙ ap (λ t. cond t (passes (λ y. y == f k) (active lanes (words_from (suc k) lanes f))) false) (eq-eqb (f k) (f k) refl)
first_same k (false ∷ lanes) f e =
    let s : k + suc (lowest lanes) ≡ suc k + lowest lanes = omega arith in
    ap (λ i. passes (λ y. y == f i) (active lanes (words_from (suc k) lanes f))) s ∙ first_same (suc k) lanes f e

pub all_equal : (lanes : Lanes) (f g : ℕ → ℕ) → no_lane lanes ≡ false → ((i : ℕ) → i < length lanes → (g i == 0) ≡ (f i == f (lowest lanes)))
    → no_lane (lanes_where lanes (λ k. not (g k == 0))) ≡ all_same (active lanes (each lanes f))
all_equal lanes f g some h =
    ap no_lane (where_is lanes (holding g))
    ∙ same_from 0 (f (lowest lanes)) lanes f g (λ i l. let e : 0 + i ≡ i = omega arith in ap (λ j. nat_eq (g j) 0) e ∙ h i l ∙ ap (λ j. nat_eq (f j) (f (lowest lanes))) (sym e))
    ∙ ap (λ j. passes (λ y. y == f j) (active lanes (each lanes f))) (omega arith)
    ∙ first_same 0 lanes f some

pub difference_zero : (a b : ℕ) → a < 2 ^ 64 → b < 2 ^ 64 → nat_eq ((a + (2 ^ 64 - b)) % 2 ^ 64) 0 ≡ nat_eq a b
difference_zero a b h k = grind (arith, nat_tests)
