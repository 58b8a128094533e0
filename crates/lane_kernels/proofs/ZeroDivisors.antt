-- The lanes of a set whose divisor is 0.
use Rattle.std.proofs.Common.{ℕ, ◌<◌, Bool, true, false, cond, ◌≡◌, refl, sym, ◌∙◌, ap, arith, List, length, slice_index}
use Rattle.std.specs.Prelude.{not, nat_eq, ◌&&◌, ◌==◌}
use Rattle.gang_types.specs.Lanes.{Lanes, has, no_lane, lanes_where}
use Rattle.gang_types.specs.LaneLaws.{lanes_from_same, has-lanes_where, no_lane_has}
use Rattle.lane_kernels.specs.Lanes.{zero_divisors}
use Rattle.gang_types.proofs.Wide.{positive_from}

back_to_test : (b : Bool) → not (nat_eq (cond b 1 0) 0) ≡ b
back_to_test true = refl
back_to_test false = refl

-- the test by a word that is 1 where the divisor is 0
pub zero_divisors_are : (w : ℕ) (lanes : Lanes) (b words : List ℕ) → length lanes ≡ w
    → ((i : ℕ) → i < w → slice_index words i ≡ cond (nat_eq (slice_index b i) 0) 1 0)
    → lanes_where lanes (λ k. not (slice_index words k == 0)) ≡ zero_divisors lanes b
zero_divisors_are w lanes b words long each =
    lanes_from_same 0 (length lanes) (λ k. has lanes k && not (slice_index words k == 0)) (λ k. has lanes k && (slice_index b k == 0))
    (λ i low high. ap (λ n. has lanes i && not (nat_eq n 0)) (each i (omega arith)) ∙ ap (λ t. has lanes i && t) (back_to_test (nat_eq (slice_index b i) 0)))

pub divisor-pos : (lanes : Lanes) (b : List ℕ) (i : ℕ) → no_lane (zero_divisors lanes b) ≡ true → has lanes i ≡ true → 0 < slice_index b i
divisor-pos lanes b i none here =
    let test : (has lanes i && nat_eq (slice_index b i) 0) ≡ false =
    sym (has-lanes_where lanes (λ k. slice_index b k == 0) i) ∙ no_lane_has (zero_divisors lanes b) none i in
    positive_from (slice_index b i) (ap (λ t. t && nat_eq (slice_index b i) 0) (sym here) ∙ test)
