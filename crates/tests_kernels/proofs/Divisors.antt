-- The lowest lane of a set whose divisor is 0.
use Rattle.std.proofs.Common.{ℕ, suc, ◌<◌, Bool, true, false, cond, ◌≡◌, refl, sym, ◌∙◌, ap, arith, List, [], ◌∷◌, length, slice_index, inl, inr}
use Rattle.std.specs.Prelude.{not, nat_eq, ◌&&◌, ◌==◌, Result, Ok, Err}
use Rattle.std.proofs.lemmas.Bool.{cases_lt}
use Rattle.std.proofs.lemmas.Bool.Decides.{nat_tests}
use Rattle.gang_types.specs.declared.faults.FaultName.{FaultName}
use Rattle.gang_types.specs.declared.faults.FaultName.TheVariants.{DivideByZero}
use Rattle.gang_types.specs.declared.types.IntType.{IntType}
use Rattle.gang_types.specs.declared.operators.BinaryOp.{BinaryOp}
use Rattle.gang_types.specs.Values.{divides, binary_of, binary_result}
use Rattle.gang_types.specs.Lanes.{Lanes, has, no_lane}
use Rattle.gang_types.specs.LaneLaws.{has_past, has-lanes_where, some_lane, lowest_is}
use Rattle.lane_kernels.specs.Lanes.{zero_divisors, Faulted}
use Rattle.tests_kernels.specs.Plain.{NoZeroBelow}

no_lane_is : (lanes : Lanes) → ((k : ℕ) → has lanes k ≡ false) → no_lane lanes ≡ true
no_lane_is [] h = refl
no_lane_is (b ∷ lanes) h = ap (λ t. not t && no_lane lanes) (h 0) ∙ no_lane_is lanes (λ k. h (suc k))

not_zero : (n : ℕ) → 0 < n → nat_eq n 0 ≡ false
not_zero n h = grind (arith, nat_tests)

-- a lane below k has no zero divisor
no_zero_at : (lanes : Lanes) (b : List ℕ) (i : ℕ) (t : Bool) → has lanes i ≡ t → (has lanes i ≡ true → 0 < slice_index b i) → (t && nat_eq (slice_index b i) 0) ≡ false
no_zero_at lanes b i true e h = not_zero (slice_index b i) (h e)
no_zero_at lanes b i false e h = refl

no_zero_has : (lanes : Lanes) (b : List ℕ) (i : ℕ) → (has lanes i ≡ true → 0 < slice_index b i) → has (zero_divisors lanes b) i ≡ false
no_zero_has lanes b i h = has-lanes_where lanes (λ k. slice_index b k == 0) i ∙ no_zero_at lanes b i (has lanes i) refl h

pub none_zero : (w : ℕ) (lanes : Lanes) (b : List ℕ) → length lanes ≡ w → NoZeroBelow w lanes b → no_lane (zero_divisors lanes b) ≡ true
none_zero w lanes b long below =
    no_lane_is (zero_divisors lanes b)
    (λ k. elim (cases_lt k w) [
      | inl within ↦ no_zero_has lanes b k (below k within)
      | inr past ↦
          let out : has lanes k ≡ false = has_past lanes k (omega arith) in
          has-lanes_where lanes (λ k. slice_index b k == 0) k ∙ ap (λ t. t && nat_eq (slice_index b k) 0) out
    ])

zero_has : (lanes : Lanes) (b : List ℕ) (i : ℕ) → has lanes i ≡ true → slice_index b i ≡ 0 → has (zero_divisors lanes b) i ≡ true
zero_has lanes b i here zero_divisor =
    has-lanes_where lanes (λ k. slice_index b k == 0) i
    ∙ ap (λ t. t && nat_eq (slice_index b i) 0) here
    ∙ ap (λ n. nat_eq n 0) zero_divisor

pub faulted : (lanes : Lanes) (b : List ℕ) (i : ℕ) (name : FaultName) → has lanes i ≡ true → slice_index b i ≡ 0 → NoZeroBelow i lanes b → name ≡ DivideByZero → Faulted lanes b (i, name)
faulted lanes b i name here zero_divisor below named =
    let it : has (zero_divisors lanes b) i ≡ true = zero_has lanes b i here zero_divisor in
    (some_lane (zero_divisors lanes b) i it, sym (lowest_is (zero_divisors lanes b) i it (λ k less. no_zero_has lanes b k (below k less))), named)

is_zero : (n : ℕ) → nat_eq n 0 ≡ true → n ≡ 0
is_zero n e = grind (arith, nat_tests)

fault_of : (s t : Bool) (word : ℕ) (fault : FaultName) → ◌≡◌ {A = Result ℕ FaultName} (Err fault) (cond s (cond t (Err DivideByZero) (Ok word)) (Ok word)) → (t ≡ true) × (fault ≡ DivideByZero)
fault_of true true word fault e = (refl, cc)
fault_of true false word fault e = cc
fault_of false t word fault e = cc

-- an operation cannot be done only where it divides by 0
pub only_divisions_fault : (op : BinaryOp) (ty : IntType) (a b : ℕ) (fault : FaultName) → Err fault ≡ binary_result op ty a b → (b ≡ 0) × (fault ≡ DivideByZero)
only_divisions_fault op ty a b fault e =
    let (t, named) = fault_of (divides op) (nat_eq b 0) (binary_of op ty a b) fault e in
    (is_zero b t, named)
