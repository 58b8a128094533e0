-- `target op= value` works on the old words of its target, which stand in a region: in its lanes they are those that the words read there say.
use Rattle.std.proofs.Common.{◌≡◌, refl, sym, ap, ◌∙◌, ℕ, ◌<◌, true, List, length, slice_index, Ok, Err, Result}
use Rattle.gang_types.specs.declared.types.Rate.{Rate}
use Rattle.gang_types.specs.declared.types.Rate.TheVariants.{Uniform, Varying}
use Rattle.gang_types.specs.Lanes.{Lanes, has}
use Rattle.gang_types.specs.Values.{binary_result, converted}
use Rattle.gang_model.specs.Running.Lanes.{Fault, ◌>>=◌, at}
use Rattle.gang_model.specs.Running.State.{seen}
use Rattle.cross_lane.specs.AttemptLaws.{attempts_same}
use Rattle.cross_lane.specs.EachLaws.{lane_kept}
use Rattle.expression_instructions.specs.Read.{place_in}
use Rattle.codegen.specs.declared.code.Change.{Change}
use Rattle.machine_states.proofs.PutSteps.{operated, result_words}
use Rattle.frame_steps.specs.Results.{changed}

lane_seen : (rate : Rate) (lanes : Lanes) (region : List ℕ) (k : ℕ) → has lanes k ≡ true → at (seen rate lanes region) k ≡ at region (place_in rate k)
lane_seen Uniform lanes region k e = lane_kept lanes (λ j. at region 0) k e
lane_seen Varying lanes region k e = lane_kept lanes (λ j. at region j) k e

module _ (results : List ℕ → List ℕ) where
  pub given : (r : Result (List ℕ) Fault) (values : List ℕ) → (r >>= (λ x. Ok (results x))) ≡ Ok values → (x : List ℕ) × (r ≡ Ok x) × (values ≡ results x)
  given (Ok x) values e = (x, refl, cc)
  given (Err fault) values e = absurd cc

  pub refused : (r : Result (List ℕ) Fault) (fault : Fault) → (r >>= (λ x. Ok (results x))) ≡ Err fault → r ≡ Err fault
  refused (Ok x) fault e = absurd cc
  refused (Err found) fault e = e

-- these words were read of a region, one for each lane, and the operation was made of them and of these operands
module _ (width : ℕ) (change : Change) (lanes : Lanes) (wide : length lanes ≡ width) (rate : Rate) (region old operands : List ℕ)
    (read : (k : ℕ) → k < width → slice_index old k ≡ at region (place_in rate k)) where
  by_region : operated lanes change.target_type change.operator change.value_type old operands
      ≡ operated lanes change.target_type change.operator change.value_type (seen rate lanes region) operands
  by_region =
      attempts_same width lanes
      (λ k. binary_result change.operator change.value_type (converted change.target_type change.value_type (at old k)) (at operands k))
      (λ k. binary_result change.operator change.value_type (converted change.target_type change.value_type (at (seen rate lanes region) k)) (at operands k))
      wide
      (λ k within active. ap (λ word. binary_result change.operator change.value_type (converted change.target_type change.value_type word) (at operands k)) (read k within ∙ sym (lane_seen rate lanes region k active)))

  -- the words that an assignment gets are the operation's results
  pub changed_gives : (values : List ℕ) → changed change lanes old operands ≡ Ok values
      → (results : List ℕ) × (operated lanes change.target_type change.operator change.value_type (seen rate lanes region) operands ≡ Ok results)
      × (values ≡ result_words lanes change.target_type change.value_type results)
  changed_gives values e =
      let found = given (result_words lanes change.target_type change.value_type) (operated lanes change.target_type change.operator change.value_type old operands) values e in
      (found.0, sym by_region ∙ found.1, found.2)

  pub changed_fails : (fault : Fault) → changed change lanes old operands ≡ Err fault
      → operated lanes change.target_type change.operator change.value_type (seen rate lanes region) operands ≡ Err fault
  changed_fails fault e =
      sym by_region ∙ refused (result_words lanes change.target_type change.value_type) (operated lanes change.target_type change.operator change.value_type old operands) fault e
