-- What lanes that name elements come to.
use Rattle.std.proofs.Common.{ℕ, ◌+◌, ◌<◌, ◌≤◌, true, cond, ◌≡◌, sym, ◌∙◌, ap, arith, List, length, slice_index}
use Rattle.std.specs.Prelude.{Ok, Err}
use Rattle.std.proofs.lemmas.Bool.{lt-ltb, le-ltb}
use Rattle.gang_types.specs.declared.faults.FaultName.{FaultName}
use Rattle.gang_types.specs.declared.faults.FaultName.TheVariants.{Index}
use Rattle.gang_types.specs.Lanes.{Lanes, has}
use Rattle.gang_model.specs.Running.Lanes.{at, each, try_each}
use Rattle.gang_model.specs.Running.Library.{rank}
use Rattle.gang_model.specs.Running.State.{State, View, words_of}
use Rattle.gang_model.specs.Running.Value.{element}
use Rattle.cross_lane.specs.Calls.{fault_of}
use Rattle.cross_lane.specs.EachLaws.{lane_kept}
use Rattle.cross_lane.specs.AttemptLaws.{all_ok, attempts_same, first_err, fault_at}
use Rattle.gang_memory.specs.declared.parts.Part.{Part}
use Rattle.gang_memory.specs.Elements.{Shows, StandsAt}
use Rattle.gang_memory.specs.Parts.{AreSlots, AreWithin, IsFirstMissing, LiesAt}

-- where the element of a lane lies
pub slot_of : (part : Part) (lanes : Lanes) (indices slots : List ℕ) → AreSlots part lanes indices slots → (k : ℕ) → has lanes k ≡ true → at slots k ≡ part.first + at indices k
slot_of part lanes indices slots are k e = ap (λ ss. at ss k) are.slots_are ∙ lane_kept lanes (λ j. part.first + at indices j) k e

-- the slots are inside the part
pub slots_within : (part : Part) (lanes : Lanes) (indices slots : List ℕ) → AreSlots part lanes indices slots → (words : ℕ) → part.first + part.len ≤ words → AreWithin lanes slots words
slots_within part lanes indices slots are words h k e =
    let there = are.there k e in let slot = slot_of part lanes indices slots are k e in omega (arith, h, there, slot)

module _ (words : List ℕ) (part : Part) (state : State) (view : View) (shows : Shows words part state view) where
  element_there : (i : ℕ) → i < part.len → element state view i ≡ Ok (at words (part.first + i))
  element_there i h =
      let inside : i < view.len = omega (arith, h, shows.long) in
      ap (λ b. cond b (Ok (at (words_of state.memory view.array) (view.first + i))) (Err Index)) (lt-ltb i view.len inside)
      ∙ ap Ok (sym (shows.elements i h))

  element_missing : (i : ℕ) → part.len ≤ i → element state view i ≡ Err Index
  element_missing i h =
      let outside : view.len ≤ i = omega (arith, h, shows.long) in
      ap (λ b. cond b (Ok (at (words_of state.memory view.array) (view.first + i))) (Err Index)) (le-ltb i view.len outside)

  -- each lane's element is there
  pub all_there : (w : ℕ) (lanes : Lanes) (indices slots : List ℕ) → length lanes ≡ w → AreSlots part lanes indices slots
      → try_each lanes (λ k. element state view (at indices k)) ≡ Ok (each lanes (λ k. at words (at slots k)))
  all_there w lanes indices slots long are =
      all_ok w lanes (λ k. element state view (at indices k)) (λ k. at words (at slots k)) long
      (λ k h e.
      element_there (at indices k) (are.there k e)
      ∙ ap (λ s. Ok (at words s)) (sym (slot_of part lanes indices slots are k e)))

  -- the lowest lane whose element is missing has the fault
  pub first_missing : (lanes : Lanes) (indices : List ℕ) (found : ℕ × FaultName) → IsFirstMissing part lanes indices found
      → try_each lanes (λ k. element state view (at indices k)) ≡ Err (fault_of found)
  first_missing lanes indices found is =
      first_err lanes (λ k. element state view (at indices k)) (λ k. at words (part.first + at indices k)) found.0 Index is.active (element_missing (at indices found.0) is.missing)
      (λ k h e. element_there (at indices k) (is.below k h e))
      ∙ ap (λ name. Err (fault_at found.0 name)) (sym is.name)

-- lanes that name the elements of their ranks
pub ranked_elements : (w : ℕ) (lanes : Lanes) (state : State) (view : View) (ranks : List ℕ) → length lanes ≡ w → ranks ≡ each lanes (rank lanes)
    → try_each lanes (λ k. element state view (at ranks k)) ≡ try_each lanes (λ k. element state view (rank lanes k))
ranked_elements w lanes state view ranks long are =
    attempts_same w lanes (λ k. element state view (at ranks k)) (λ k. element state view (rank lanes k)) long
    (λ k h e. ap (element state view) (ap (λ rs. at rs k) are ∙ lane_kept lanes (rank lanes) k e))

-- a part of an array that stands among the words shows the part of the array
pub shows_part : (base : ℕ) (part : Part) (state : State) (view : View) (words : List ℕ) → LiesAt base view part → view.first + view.len ≤ length (words_of state.memory view.array)
    → StandsAt base (words_of state.memory view.array) words → Shows words part state view
shows_part base part state view words lies inside stands = record {
  long = lies.1;
  elements = λ i h.
      let slot : part.first + i ≡ base + (view.first + i) = omega (arith, lies.0) in
      ap (slice_index words) slot ∙ stands.same (view.first + i) (omega (arith, h, lies.1, inside));
}
