-- The part of a part of an array from an index on.
use Rattle.std.proofs.Common.{ℕ, ◌+◌, ◌-◌, cond, ◌≡◌, refl, ◌∙◌, ap, List, length}
use Rattle.std.specs.Prelude.{Option, nat_lt, Ok, Err, None, Some}
use Rattle.std.proofs.lemmas.Bool.{lt-ltb, le-ltb}
use Rattle.gang_types.specs.declared.faults.FaultName.TheVariants.{Index}
use Rattle.gang_types.specs.Lanes.{Lanes, lowest}
use Rattle.gang_model.specs.Running.Lanes.{◌>>=◌, at, try_each}
use Rattle.gang_model.specs.Running.State.{State, View}
use Rattle.gang_model.specs.Running.Step.{part}
use Rattle.gang_model.specs.Running.Value.{value}
use Rattle.gang_model.specs.Types.Tree.{Expr}
use Rattle.cross_lane.specs.AttemptLaws.{all_ok, first_err, fault_at}
use Rattle.machine_words.specs.Arrays.{AreAtMost, IsFirstPast}

module _ (lanes : Lanes) (view : View) (from : Expr) (state : State) (indices : List ℕ) (is : value from lanes state ≡ Ok indices) where
  -- each index is in the view or at its end
  pub part_there : AreAtMost view.len lanes indices → part (Some from) view lanes state ≡ Ok (record view { first = view.first + at indices (lowest lanes); len = view.len - at indices (lowest lanes) })
  part_there h =
      ap (λ r. r >>= λ i. try_each lanes (λ k. cond (nat_lt view.len (at i k)) (Err Index) (Ok 0)) >>= λ checked. Ok (record view { first = view.first + at i (lowest lanes); len = view.len - at i (lowest lanes) })) is
      ∙ ap (λ r. r >>= λ checked. Ok (record view { first = view.first + at indices (lowest lanes); len = view.len - at indices (lowest lanes) }))
      (all_ok (length lanes) lanes (λ k. cond (nat_lt view.len (at indices k)) (Err Index) (Ok 0)) (λ k. 0) refl
      (λ k l e. ap (λ b. cond b (Err Index) (Ok 0)) (le-ltb view.len (at indices k) (h k e))))

  -- one is past its end
  pub part_missing : (lane : ℕ) → IsFirstPast view.len lanes indices lane → part (Some from) view lanes state ≡ Err (fault_at lane Index)
  part_missing lane first =
      ap (λ r. r >>= λ i. try_each lanes (λ k. cond (nat_lt view.len (at i k)) (Err Index) (Ok 0)) >>= λ checked. Ok (record view { first = view.first + at i (lowest lanes); len = view.len - at i (lowest lanes) })) is
      ∙ ap (λ r. r >>= λ checked. Ok (record view { first = view.first + at indices (lowest lanes); len = view.len - at indices (lowest lanes) }))
      (first_err lanes (λ k. cond (nat_lt view.len (at indices k)) (Err Index) (Ok 0)) (λ k. 0) lane Index first.active
      (ap (λ b. cond b (Err Index) (Ok 0)) (lt-ltb view.len (at indices lane) first.past))
      (λ k l e. ap (λ b. cond b (Err Index) (Ok 0)) (le-ltb view.len (at indices k) (first.below k l e))))

-- an option that is not there
pub none_of : (o : Option ℕ) → ((x : ℕ) → o ≡ Some x → ⊥) → o ≡ None
none_of None h = refl
none_of (Some x) h = absurd (h x refl)
