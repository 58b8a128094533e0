-- What follows from the definitions of `Lanes`.
use Rattle.std.proofs.Common.{ℕ, zero, suc, ◌+◌, ◌<◌, ◌≤◌, Bool, true, false, ◌≡◌, refl, sym, ◌∙◌, ap, arith, [], ◌∷◌, length, inl, inr}
use Rattle.std.specs.Prelude.{not, ◌&&◌}
use Rattle.std.proofs.lemmas.List.{get_or_past}
use Rattle.std.proofs.lemmas.Bool.{cases_lt}
use Rattle.gang_types.specs.Lanes.{Lanes, has, no_lane, lowest, without, and, lanes_from, lanes_where}

and-true : (b : Bool) → (b && true) ≡ b
and-true true = refl
and-true false = refl

and-false : (b : Bool) → (b && false) ≡ false
and-false true = refl
and-false false = refl

-- ---- two sets with the same lanes
pub same_lanes : (a b : Lanes) → length a ≡ length b → ((k : ℕ) → has a k ≡ has b k) → a ≡ b
same_lanes [] [] e h = refl
same_lanes [] (c ∷ b) e h = absurd (omega arith)
same_lanes (c ∷ a) [] e h = absurd (omega arith)
same_lanes (c ∷ a) (d ∷ b) e h = ap (λ t. t ∷ a) (h 0) ∙ ap (λ t. d ∷ t) (same_lanes a b (omega arith) (λ k. h (suc k)))

pub has_past : (lanes : Lanes) (k : ℕ) → length lanes ≤ k → has lanes k ≡ false
has_past lanes k h = get_or_past lanes k false h

-- ---- the lanes that pass a test
pub length-lanes_from : (k n : ℕ) (test : ℕ → Bool) → length (lanes_from k n test) ≡ n
length-lanes_from k zero test = refl
length-lanes_from k (suc n) test = ap suc (length-lanes_from (suc k) n test)

pub has-lanes_from : (k n : ℕ) (test : ℕ → Bool) (i : ℕ) → i < n → has (lanes_from k n test) i ≡ test (k + i)
has-lanes_from k zero test i h = absurd (omega arith)
has-lanes_from k (suc n) test zero h = ap test (omega arith)
has-lanes_from k (suc n) test (suc i) h = has-lanes_from (suc k) n test i (omega arith) ∙ ap test (omega arith)

pub lanes_from_same : (k n : ℕ) (f g : ℕ → Bool) → ((i : ℕ) → k ≤ i → i < k + n → f i ≡ g i) → lanes_from k n f ≡ lanes_from k n g
lanes_from_same k zero f g h = refl
lanes_from_same k (suc n) f g h =
    ap (λ b. b ∷ lanes_from (suc k) n f) (h k (omega arith) (omega arith))
    ∙ ap (λ t. g k ∷ t) (lanes_from_same (suc k) n f g (λ i low high. h i (omega arith) (omega arith)))

pub length-lanes_where : (lanes : Lanes) (test : ℕ → Bool) → length (lanes_where lanes test) ≡ length lanes
length-lanes_where lanes test = length-lanes_from 0 (length lanes) (λ k. has lanes k && test k)

pub has-lanes_where : (lanes : Lanes) (test : ℕ → Bool) (k : ℕ) → has (lanes_where lanes test) k ≡ (has lanes k && test k)
has-lanes_where lanes test k =
    elim (cases_lt k (length lanes)) [
      | inl within ↦ has-lanes_from 0 (length lanes) (λ k. has lanes k && test k) k within ∙ ap (λ i. has lanes i && test i) (omega arith)
      | inr past ↦
          let none : has lanes k ≡ false = has_past lanes k past in
          has_past (lanes_where lanes test) k (omega (arith, length-lanes_where lanes test)) ∙ sym (ap (λ b. b && test k) none)
    ]

-- ---- differences and intersections
pub length-without : (lanes out : Lanes) → length (without lanes out) ≡ length lanes
length-without [] out = refl
length-without (b ∷ lanes) [] = refl
length-without (b ∷ lanes) (c ∷ out) = ap suc (length-without lanes out)

pub has-without : (lanes out : Lanes) (k : ℕ) → has (without lanes out) k ≡ (has lanes k && not (has out k))
has-without [] out k = refl
has-without (b ∷ lanes) [] k = sym (and-true (has (b ∷ lanes) k))
has-without (b ∷ lanes) (c ∷ out) zero = refl
has-without (b ∷ lanes) (c ∷ out) (suc k) = has-without lanes out k

pub length-and : (lanes others : Lanes) → length lanes ≡ length others → length (and lanes others) ≡ length lanes
length-and [] others e = refl
length-and (b ∷ lanes) [] e = absurd (omega arith)
length-and (b ∷ lanes) (c ∷ others) e = ap suc (length-and lanes others (omega arith))

pub has-and : (lanes others : Lanes) (k : ℕ) → has (and lanes others) k ≡ (has lanes k && has others k)
has-and [] others k = refl
has-and (b ∷ lanes) [] k = sym (and-false (has (b ∷ lanes) k))
has-and (b ∷ lanes) (c ∷ others) zero = refl
has-and (b ∷ lanes) (c ∷ others) (suc k) = has-and lanes others k

-- ---- the lowest lane
pub no_lane_has : (lanes : Lanes) → no_lane lanes ≡ true → (k : ℕ) → has lanes k ≡ false
no_lane_has [] e k = refl
no_lane_has (true ∷ lanes) e k = cc
no_lane_has (false ∷ lanes) e zero = refl
no_lane_has (false ∷ lanes) e (suc k) = no_lane_has lanes e k

pub some_lane : (lanes : Lanes) (k : ℕ) → has lanes k ≡ true → no_lane lanes ≡ false
some_lane [] k e = cc
some_lane (true ∷ lanes) k e = refl
some_lane (false ∷ lanes) zero e = cc
some_lane (false ∷ lanes) (suc k) e = some_lane lanes k e

pub lowest_has : (lanes : Lanes) → no_lane lanes ≡ false → has lanes (lowest lanes) ≡ true
lowest_has [] e = cc
lowest_has (true ∷ lanes) e = refl
lowest_has (false ∷ lanes) e = lowest_has lanes e

pub lowest-lt : (lanes : Lanes) → no_lane lanes ≡ false → lowest lanes < length lanes
lowest-lt [] e = cc
lowest-lt (true ∷ lanes) e = omega arith
lowest-lt (false ∷ lanes) e = omega (arith, lowest-lt lanes e)

pub below_lowest : (lanes : Lanes) (k : ℕ) → k < lowest lanes → has lanes k ≡ false
below_lowest [] k h = refl
below_lowest (true ∷ lanes) k h = absurd (omega arith)
below_lowest (false ∷ lanes) zero h = refl
below_lowest (false ∷ lanes) (suc k) h = below_lowest lanes k (omega arith)

-- the lowest lane is the only one with no other below it
pub lowest_is : (lanes : Lanes) (k : ℕ) → has lanes k ≡ true → ((i : ℕ) → i < k → has lanes i ≡ false) → lowest lanes ≡ k
lowest_is [] k e h = cc
lowest_is (true ∷ lanes) zero e h = refl
lowest_is (true ∷ lanes) (suc k) e h = cc (h 0 (omega arith))
lowest_is (false ∷ lanes) zero e h = cc
lowest_is (false ∷ lanes) (suc k) e h = ap suc (lowest_is lanes k e (λ i below. h (suc i) (omega arith)))
