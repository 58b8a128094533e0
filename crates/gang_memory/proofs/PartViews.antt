-- The part of a view from an index on.
use Rattle.std.proofs.Common.{ℕ, ◌+◌, ◌-◌, ◌<◌, ◌≤◌, false, cond, ◌≡◌, refl, ◌∙◌, ap, length}
use Rattle.std.specs.Prelude.{nat_lt, Ok, Err, Some}
use Rattle.std.proofs.lemmas.Bool.{lt-ltb, le-ltb}
use Rattle.gang_types.specs.declared.faults.FaultName.TheVariants.{Index}
use Rattle.gang_types.specs.Lanes.{Lanes, has, no_lane, lowest}
use Rattle.gang_types.specs.LaneLaws.{lowest_has, below_lowest}
use Rattle.gang_model.specs.Running.Lanes.{◌>>=◌, at, each, try_each}
use Rattle.gang_model.specs.Running.State.{State, View}
use Rattle.gang_model.specs.Running.Step.{part}
use Rattle.gang_model.specs.Running.Value.{value}
use Rattle.gang_model.specs.Types.Tree.{Expr}
use Rattle.cross_lane.specs.EachLaws.{lane_kept}
use Rattle.cross_lane.specs.AttemptLaws.{all_ok, first_err, fault_at}

module _ (lanes : Lanes) (some : no_lane lanes ≡ false) (view : View) (from : Expr) (state : State) (index : ℕ) (is : value from lanes state ≡ Ok (each lanes (λ k. index))) where
  lowest_index : at (each lanes (λ k. index)) (lowest lanes) ≡ index
  lowest_index = lane_kept lanes (λ k. index) (lowest lanes) (lowest_has lanes some)

  -- the index is in the view or at its end
  pub part_there : index ≤ view.len → part (Some from) view lanes state ≡ Ok (record view { first = view.first + index; len = view.len - index })
  part_there h =
      ap (λ r. r >>= λ i. try_each lanes (λ k. cond (nat_lt view.len (at i k)) (Err Index) (Ok 0)) >>= λ checked. Ok (record view { first = view.first + at i (lowest lanes); len = view.len - at i (lowest lanes) })) is
      ∙ ap (λ r. r >>= λ checked. Ok (record view { first = view.first + at (each lanes (λ k. index)) (lowest lanes); len = view.len - at (each lanes (λ k. index)) (lowest lanes) }))
      (all_ok (length lanes) lanes (λ k. cond (nat_lt view.len (at (each lanes (λ j. index)) k)) (Err Index) (Ok 0)) (λ k. 0) refl
      (λ k l e. ap (λ i. cond (nat_lt view.len i) (Err Index) (Ok 0)) (lane_kept lanes (λ j. index) k e) ∙ ap (λ b. cond b (Err Index) (Ok 0)) (le-ltb view.len index h)))
      ∙ ap (λ i. Ok (record view { first = view.first + i; len = view.len - i })) lowest_index

  -- the index is past the view's end
  pub part_missing : view.len < index → part (Some from) view lanes state ≡ Err (fault_at (lowest lanes) Index)
  part_missing h =
      ap (λ r. r >>= λ i. try_each lanes (λ k. cond (nat_lt view.len (at i k)) (Err Index) (Ok 0)) >>= λ checked. Ok (record view { first = view.first + at i (lowest lanes); len = view.len - at i (lowest lanes) })) is
      ∙ ap (λ r. r >>= λ checked. Ok (record view { first = view.first + at (each lanes (λ k. index)) (lowest lanes); len = view.len - at (each lanes (λ k. index)) (lowest lanes) }))
      (first_err lanes (λ k. cond (nat_lt view.len (at (each lanes (λ j. index)) k)) (Err Index) (Ok 0)) (λ k. 0) (lowest lanes) Index (lowest_has lanes some)
      (ap (λ i. cond (nat_lt view.len i) (Err Index) (Ok 0)) lowest_index ∙ ap (λ b. cond b (Err Index) (Ok 0)) (lt-ltb view.len index h))
      (λ i l e. let none : has lanes i ≡ false = below_lowest lanes i l in cc))
