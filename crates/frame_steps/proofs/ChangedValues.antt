-- What an operation makes of old values, which the lanes convert before.
use Rattle.std.proofs.Common.{ℕ, ◌≡◌, ◌∙◌, ap, List, length}
use Rattle.std.specs.Prelude.{Result, Ok, Err}
use Rattle.gang_types.specs.declared.faults.FaultName.{FaultName}
use Rattle.gang_types.specs.Lanes.{Lanes}
use Rattle.gang_types.specs.Values.{binary_result, converted}
use Rattle.gang_model.specs.Running.Lanes.{Fault, ◌>>=◌, each, try_each, at}
use Rattle.cross_lane.specs.Calls.{fault_of}
use Rattle.cross_lane.specs.EachLaws.{lane_kept}
use Rattle.cross_lane.specs.AttemptLaws.{attempts_same}
use Rattle.codegen.specs.declared.code.Change.{Change}
use Rattle.frame_steps.specs.Results.{changed}

module _ (w : ℕ) (lanes : Lanes) (change : Change) (old operands : List ℕ) (long : length lanes ≡ w) where
  -- the operation in each lane, by these values of the first operand
  abbrev operated : List ℕ → Result (List ℕ) Fault
  operated left = try_each lanes (λ k. binary_result change.operator change.value_type (at left k) (at operands k))

  abbrev old_converted : ℕ → ℕ
  old_converted k = converted change.target_type change.value_type (at old k)

  abbrev tried : Result (List ℕ) Fault
  tried = try_each lanes (λ k. binary_result change.operator change.value_type (old_converted k) (at operands k))

  abbrev back : List ℕ → Result (List ℕ) Fault
  back x = Ok (each lanes (λ k. converted change.value_type change.target_type (at x k)))

  operated_is : (left : List ℕ) → left ≡ each lanes old_converted → operated left ≡ tried
  operated_is left is =
      ap operated is
      ∙ attempts_same w lanes _ _ long
      (λ i h e. ap (λ x. binary_result change.operator change.value_type x (at operands i)) (lane_kept lanes old_converted i e))

  pub changed_values : (left words result : List ℕ) → left ≡ each lanes (λ k. converted change.target_type change.value_type (at old k))
      → Ok words ≡ try_each lanes (λ k. binary_result change.operator change.value_type (at left k) (at operands k))
      → result ≡ each lanes (λ k. converted change.value_type change.target_type (at words k)) → Ok result ≡ changed change lanes old operands
  changed_values left words result is made back_is = ap Ok back_is ∙ ap (λ r. r >>= back) (made ∙ operated_is left is)

  pub changed_fault : (left : List ℕ) (found : ℕ × FaultName) → left ≡ each lanes (λ k. converted change.target_type change.value_type (at old k))
      → Err (fault_of found) ≡ try_each lanes (λ k. binary_result change.operator change.value_type (at left k) (at operands k))
      → Err (fault_of found) ≡ changed change lanes old operands
  changed_fault left found is made = ap (λ r. r >>= back) (made ∙ operated_is left is)
