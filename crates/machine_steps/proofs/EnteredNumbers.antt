-- The numbers that the lanes of a gang wait for in a frame that begins.
use Rattle.std.proofs.Common.{◌≡◌, sym, ap, ◌∙◌, ℕ, ◌+◌, ◌<◌, ◌≤◌, true, false, List, length, arith, inl, inr}
use Rattle.std.specs.Prelude.{map, replicate, slice_set, if◌then◌else◌}
use Rattle.std.proofs.lemmas.Bool.{cases_lt}
use Rattle.std.proofs.lemmas.List.{get_or-map, get_or-replicate, get_or-set_same, get_or-set_other, length-map, length-replicate, length-set}
use Rattle.gang_types.specs.Lanes.{Lanes, has}
use Rattle.gang_model.specs.Running.Lanes.{at}
use Rattle.cross_lane.specs.EachLaws.{same_words}
use Rattle.mask_states.specs.Masked.{sent}
use Rattle.mask_states.proofs.LaneNumbers.{at-sent_in, at-sent_out, length-sent}
use Rattle.mask_states.proofs.OwnTasks.{by_bool}

-- the first so many lanes wait for the first step, if they are in the call; the others wait for the closing brace
pub record AreEntered (lanes : Lanes) (entry closing width count : ℕ) (numbers : List ℕ) : Type 0 where
  pub long : length numbers ≡ width
  pub so_far : (k : ℕ) → k < count → at numbers k ≡ (if has lanes k then entry else closing)
  pub behind : (k : ℕ) → count ≤ k → k < width → at numbers k ≡ closing

module _ (lanes : Lanes) (entry closing width : ℕ) where
  pub none_entered : AreEntered lanes entry closing width 0 (replicate width closing)
  none_entered = record {
    long = length-replicate width closing;
    so_far = λ k below. absurd (omega (arith, below));
    behind = λ k above within. get_or-replicate width k closing 0 within;
  }

  module _ (count : ℕ) (numbers : List ℕ) (are : AreEntered lanes entry closing width count numbers) (within : count < width) where
    pub one_entered : has lanes count ≡ true → AreEntered lanes entry closing width (count + 1) (slice_set numbers count entry)
    one_entered h =
        let room : count < length numbers = omega (arith, are.long, within) in
        record {
          long = length-set numbers count entry ∙ are.long;
          so_far = λ k below. elim (cases_lt k count) [
            | inl before ↦ get_or-set_other numbers count k entry 0 (λ e. omega (arith, e, before)) ∙ are.so_far k before
            | inr past ↦
                let same : k ≡ count = omega (arith, below, past) in
                ap (at (slice_set numbers count entry)) same ∙ get_or-set_same numbers count entry 0 room
                ∙ sym (ap (λ j. if has lanes j then entry else closing) same ∙ ap (λ b. if b then entry else closing) h)
          ];
          behind = λ k above far. get_or-set_other numbers count k entry 0 (λ e. omega (arith, e, above)) ∙ are.behind k (omega (arith, above)) far;
        }

    pub one_left : has lanes count ≡ false → AreEntered lanes entry closing width (count + 1) numbers
    one_left h = record {
      long = are.long;
      so_far = λ k below. elim (cases_lt k count) [
        | inl before ↦ are.so_far k before
        | inr past ↦
            let same : k ≡ count = omega (arith, below, past) in
            ap (at numbers) same ∙ are.behind count (omega arith) within
            ∙ sym (ap (λ j. if has lanes j then entry else closing) same ∙ ap (λ b. if b then entry else closing) h)
      ];
      behind = λ k above far. are.behind k (omega (arith, above)) far;
    }

  -- all lanes
  pub all_entered : (count : ℕ) (numbers : List ℕ) → AreEntered lanes entry closing width count numbers → width ≤ count → length lanes ≡ width
      → numbers ≡ sent lanes (λ k. entry) (map (λ b. closing) lanes)
  all_entered count numbers are over size =
      let old : List ℕ = map (λ b. closing) lanes in
      let sized : length old ≡ length lanes = length-map lanes (λ b. closing) in
      let long : length (sent lanes (λ k. entry) old) ≡ width = length-sent lanes (λ k. entry) old sized ∙ sized ∙ size in
      same_words numbers (sent lanes (λ k. entry) old) (are.long ∙ sym long)
      (λ k within. are.so_far k (omega (arith, within, are.long, over))
      ∙ by_bool (has lanes k)
      (λ h. ap (λ b. if b then entry else closing) h ∙ sym (at-sent_in lanes (λ k. entry) old k sized h))
      (λ h. ap (λ b. if b then entry else closing) h
      ∙ sym (at-sent_out lanes (λ k. entry) old k sized h ∙ get_or-map (λ b. closing) lanes k false 0 (omega (arith, within, are.long, size)))))
