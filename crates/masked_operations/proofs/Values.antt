-- The values of operations in the lanes of a set, from those of all lanes.
use Rattle.std.proofs.Common.{ℕ, Bool, true, false, cond, ◌≡◌, refl, sym, ◌∙◌, ap, List, length, slice_index}
use Rattle.std.specs.Prelude.{nat_eq, ◌&&◌, ◌==◌, Ok, Err}
use Rattle.gang_types.specs.declared.types.IntType.{IntType}
use Rattle.gang_types.specs.declared.operators.BinaryOp.{BinaryOp}
use Rattle.gang_types.specs.declared.operators.BinaryOp.TheVariants.{Div, Rem}
use Rattle.gang_types.specs.declared.faults.FaultName.{FaultName}
use Rattle.gang_types.specs.declared.faults.FaultName.TheVariants.{DivideByZero}
use Rattle.gang_types.specs.Values.{binary_of, binary_result, divides}
use Rattle.gang_types.specs.Lanes.{Lanes, has, lowest}
use Rattle.gang_types.specs.LaneLaws.{has-lanes_where, no_lane_has, lowest_has, below_lowest}
use Rattle.gang_model.specs.Running.Lanes.{at, try_each}
use Rattle.lane_kernels.specs.Lanes.{Divided, Faulted, zero_divisors}
use Rattle.cross_lane.specs.Calls.{fault_of}
use Rattle.cross_lane.specs.EachLaws.{each_is}
use Rattle.cross_lane.specs.AttemptLaws.{all_ok, first_err, fault_at}

-- an operation that has a value for all words
pub total_result : (op : BinaryOp) (ty : IntType) (a b : ℕ) → divides op ≡ false → binary_result op ty a b ≡ Ok (binary_of op ty a b)
total_result op ty a b p = ap (λ s. cond s (cond (nat_eq b 0) (Err DivideByZero) (Ok (binary_of op ty a b))) (Ok (binary_of op ty a b))) p

-- each operation but the divisions has a value for all words
pub divides_not : (op : BinaryOp) → (op ≡ Div → ⊥) → (op ≡ Rem → ⊥) → divides op ≡ false
divides_not Div d r = absurd (d refl)
divides_not Rem d r = absurd (r refl)
divides_not _ d r = refl

divided_result : (op : BinaryOp) (ty : IntType) (a b : ℕ) (zero : Bool) → divides op ≡ true → nat_eq b 0 ≡ zero → binary_result op ty a b ≡ cond zero (Err DivideByZero) (Ok (binary_of op ty a b))
divided_result op ty a b zero p e =
    ap (λ s. cond s (cond (nat_eq b 0) (Err DivideByZero) (Ok (binary_of op ty a b))) (Ok (binary_of op ty a b))) p
    ∙ ap (λ z. cond z (Err DivideByZero) (Ok (binary_of op ty a b))) e

test_of : (b t v : Bool) → b ≡ true → (b && t) ≡ v → t ≡ v
test_of b t v p e = sym (ap (λ c. c && t) p) ∙ e

-- a lane of the set divides by 0 or does not, as the set of zero divisors says
divisor_test : (lanes : Lanes) (y : List ℕ) (i : ℕ) (zero : Bool) → has lanes i ≡ true → has (zero_divisors lanes y) i ≡ zero → nat_eq (slice_index y i) 0 ≡ zero
divisor_test lanes y i zero here e =
    test_of (has lanes i) (nat_eq (slice_index y i) 0) zero here (sym (has-lanes_where lanes (λ k. slice_index y k == 0) i) ∙ e)

left_of : (b t : Bool) → (b && t) ≡ true → b ≡ true
left_of true t e = refl
left_of false t e = e

module _ (w : ℕ) (lanes : Lanes) (op : BinaryOp) (ty : IntType) (x y : List ℕ) (long : length lanes ≡ w) (division : divides op ≡ true) where
  pub values_divided : (words : List ℕ) → length words ≡ w → Divided w lanes (binary_of op ty) x y words → Ok words ≡ try_each lanes (λ k. binary_result op ty (at x k) (at y k))
  values_divided words all (none, lane_values) =
      ap Ok (each_is w lanes (λ k. binary_of op ty (at x k) (at y k)) words long all lane_values)
      ∙ sym (all_ok w lanes (λ k. binary_result op ty (at x k) (at y k)) (λ k. binary_of op ty (at x k) (at y k)) long
      (λ i h e. divided_result op ty (at x i) (at y i) false division (divisor_test lanes y i false e (no_lane_has (zero_divisors lanes y) none i))))

  pub division_faulted : (found : ℕ × FaultName) → Faulted lanes y found → Err (fault_of found) ≡ try_each lanes (λ k. binary_result op ty (at x k) (at y k))
  division_faulted found (some, lane_is, name_is) =
      let n : ℕ = lowest (zero_divisors lanes y) in
      let zero : has (zero_divisors lanes y) n ≡ true = lowest_has (zero_divisors lanes y) some in
      let here : has lanes n ≡ true = left_of (has lanes n) (nat_eq (at y n) 0) (sym (has-lanes_where lanes (λ k. slice_index y k == 0) n) ∙ zero) in
      ap (λ k. Err (fault_at k found.1)) lane_is
      ∙ ap (λ name. Err (fault_at n name)) name_is
      ∙ sym (first_err lanes (λ k. binary_result op ty (at x k) (at y k)) (λ k. binary_of op ty (at x k) (at y k)) n DivideByZero here
      (divided_result op ty (at x n) (at y n) true division (divisor_test lanes y n true here zero))
      (λ i h e. divided_result op ty (at x i) (at y i) false division (divisor_test lanes y i false e (below_lowest (zero_divisors lanes y) i h))))
