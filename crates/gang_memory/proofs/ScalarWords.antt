-- What lanes read from the words of a scalar, and what they leave in them.
use Rattle.std.proofs.Common.{ℕ, zero, suc, ◌+◌, ◌<◌, ◌≤◌, ◌≢◌, Bool, true, false, cond, ◌≡◌, refl, sym, ◌∙◌, ap, arith, List, [], ◌∷◌, length, slice_index, inl, inr}
use Rattle.std.specs.Prelude.{nat_eq, replicate}
use Rattle.std.proofs.lemmas.Bool.{eq-eqb}
use Rattle.std.proofs.lemmas.List.{get_or-replicate, length-replicate}
use Rattle.std.proofs.lemmas.Simd.{get_or-put_chunk_above, get_or-put_chunk_at, get_or-put_chunk_below, length-put_chunk}
use Rattle.std.specs.Simd.Lanes.{put_chunk}
use Rattle.gang_types.specs.declared.types.Rate.TheVariants.{Uniform, Varying}
use Rattle.gang_types.specs.Lanes.{Lanes, has}
use Rattle.gang_types.specs.Masks.{lanes_of_word, word_of_lanes}
use Rattle.gang_types.specs.MaskLaws.{lanes_of_word_of_lanes}
use Rattle.gang_model.specs.Running.Lanes.{at, each, merged}
use Rattle.gang_model.specs.Running.State.{seen}
use Rattle.gang_model.specs.Running.Step.{stored_in, scattered_from}
use Rattle.cross_lane.specs.EachLaws.{each_same}
use Rattle.gang_memory.specs.ScalarWords.{IsScalarAt}
use Rattle.gang_memory.specs.Writes.{IsKeptOutside}
use Rattle.gang_memory.proofs.Members.{lane_within}
use Rattle.gang_memory.proofs.Scatters.{scattered_word}
use Rattle.gang_memory.proofs.Stores.{kept_outside, lane_elsewhere, length_kept, stored_elsewhere}
use Rattle.gang_model.proofs.LaneWords.{length-merged}

-- a slot for each lane, from `first` on
abbrev pub AreConsecutive : (width first : ℕ) → List ℕ → Type 0
AreConsecutive width first slots = (k : ℕ) → k < width → slice_index slots k ≡ first + k

-- ---- reading
module _ (w first : ℕ) (lanes : Lanes) (scalar words : List ℕ) (long : length lanes ≡ w) where
  pub uniform_seen : IsScalarAt w Uniform first scalar words → each lanes (λ k. at words (at (replicate w first) k)) ≡ seen Uniform lanes scalar
  uniform_seen is =
      each_same w lanes (λ k. at words (at (replicate w first) k)) (λ k. at scalar 0) long
      (λ k h e. ap (at words) (get_or-replicate w k first 0 h ∙ omega arith) ∙ is.stands.same 0 (let one = is.long in omega (arith, one)))

  pub varying_seen : (slots : List ℕ) → AreConsecutive w first slots → IsScalarAt w Varying first scalar words → each lanes (λ k. at words (at slots k)) ≡ seen Varying lanes scalar
  varying_seen slots are is =
      each_same w lanes (λ k. at words (at slots k)) (λ k. at scalar k) long
      (λ k h e. ap (at words) (are k h) ∙ is.stands.same k (let all = is.long in omega (arith, h, all)))

-- ---- setting a word for each lane
lane_here : (b : Bool) (i s value old : ℕ) → i ≡ s → cond b (cond (nat_eq i s) value old) old ≡ cond b value old
lane_here true i s value old h = ap (λ t. cond t value old) (eq-eqb i s h)
lane_here false i s value old h = refl

-- a lane's word after a store by lanes whose slots follow one another
lane_stored : (i : ℕ) (lanes : Lanes) (slots values : List ℕ) (old j : ℕ) → length slots ≡ length lanes → length values ≡ length lanes → j < length lanes
    → slice_index slots j ≡ i → ((k : ℕ) → k < length lanes → k ≢ j → i ≢ slice_index slots k)
    → stored_in i lanes slots values old ≡ cond (has lanes j) (slice_index values j) old
lane_stored i [] slots values old j e f h here others = absurd (omega arith)
lane_stored i (b ∷ lanes) [] values old j e f h here others = absurd (omega arith)
lane_stored i (b ∷ lanes) (s ∷ slots) [] old j e f h here others = absurd (omega arith)
lane_stored i (b ∷ lanes) (s ∷ slots) (x ∷ values) old zero e f h here others =
    stored_elsewhere i lanes slots values (cond b (cond (nat_eq i s) x old) old) (λ k l. others (suc k) (let within = lane_within (length lanes) lanes k refl l in omega (arith, within)) (omega arith))
    ∙ lane_here b i s x old (sym here)
lane_stored i (b ∷ lanes) (s ∷ slots) (x ∷ values) old (suc j) e f h here others =
    lane_stored i lanes slots values (cond b (cond (nat_eq i s) x old) old) j (omega arith) (omega arith) (omega arith) here (λ k l d. others (suc k) (omega arith) (omega arith))
    ∙ ap (cond (has lanes j) (slice_index values j)) (lane_elsewhere b i s x old (λ t. others 0 (omega arith) (omega arith)))

lane_merged : (lanes : Lanes) (new old : List ℕ) (j : ℕ) → j < length lanes → length new ≡ length lanes → length old ≡ length lanes → slice_index (merged lanes new old) j ≡ cond (has lanes j) (slice_index new j) (slice_index old j)
lane_merged [] new old j h e f = absurd (omega arith)
lane_merged (b ∷ lanes) [] old j h e f = absurd (omega arith)
lane_merged (b ∷ lanes) (x ∷ new) [] j h e f = absurd (omega arith)
lane_merged (b ∷ lanes) (x ∷ new) (y ∷ old) zero h e f = refl
lane_merged (b ∷ lanes) (x ∷ new) (y ∷ old) (suc j) h e f = lane_merged lanes new old j (omega arith) (omega arith) (omega arith)

module _ (w first : ℕ) (lanes : Lanes) (slots values old new : List ℕ) (lanes_long : length lanes ≡ w) (slots_long : length slots ≡ w) (values_long : length values ≡ w) (are : AreConsecutive w first slots)
    (inside : first + w ≤ length old) (stores : new ≡ scattered_from 0 lanes slots values old) where
  new_long : length new ≡ length old
  new_long = length_kept lanes slots values old new stores

  new_word : (i : ℕ) → i < length old → slice_index new i ≡ stored_in i lanes slots values (slice_index old i)
  new_word i h = ap (λ ws. slice_index ws i) stores ∙ scattered_word lanes slots values old i h

  lane_word : (j : ℕ) → j < w → slice_index new (first + j) ≡ cond (has lanes j) (slice_index values j) (slice_index old (first + j))
  lane_word j h =
      new_word (first + j) (omega (arith, inside, h))
      ∙ lane_stored (first + j) lanes slots values (slice_index old (first + j)) j (slots_long ∙ sym lanes_long) (values_long ∙ sym lanes_long) (omega (arith, h, lanes_long)) (are j h)
      (λ k l d. let slot = are k (omega (arith, l, lanes_long)) in omega (arith, slot, d))

  -- the lanes of the set have the new values, and the others the old ones
  pub varying_set : (scalar : List ℕ) → IsScalarAt w Varying first scalar old → IsScalarAt w Varying first (merged lanes values scalar) new
  varying_set scalar is =
      let long : length (merged lanes values scalar) ≡ w = length-merged lanes values scalar (values_long ∙ sym lanes_long) (is.long ∙ sym lanes_long) ∙ lanes_long in
      record {
        long = long;
        stands = record {
          inside = omega (arith, long, inside, new_long);
          same = λ j h.
              let within : j < w = omega (arith, h, long) in
              lane_word j within
              ∙ ap (cond (has lanes j) (slice_index values j)) (is.stands.same j (let all = is.long in omega (arith, within, all)))
              ∙ sym (lane_merged lanes values scalar j (omega (arith, within, lanes_long)) (values_long ∙ sym lanes_long) (is.long ∙ sym lanes_long));
        };
      }

  pub varying_kept : IsKeptOutside first w old new
  varying_kept =
      kept_outside first w lanes slots values old new stores
      (λ k e. let within = lane_within w lanes k lanes_long e in let slot = are k within in (omega (arith, slot), omega (arith, slot, within)))

-- ---- setting a word for each lane, one behind the other
module _ (w first : ℕ) (values old new : List ℕ) (values_long : length values ≡ w) (inside : first + w ≤ length old) (is : new ≡ put_chunk first old values) where
  run_long : length new ≡ length old
  run_long = ap length is ∙ length-put_chunk first old values

  run_word : (j : ℕ) → j < w → slice_index new (first + j) ≡ slice_index values j
  run_word j h = ap (λ ws. slice_index ws (first + j)) is ∙ get_or-put_chunk_at first old values j 0 (omega (arith, h, values_long)) (omega (arith, inside, values_long))

  -- they are the scalar's words
  pub run_stands : IsScalarAt w Varying first values new
  run_stands = record {
    long = values_long;
    stands = record { inside = omega (arith, values_long, inside, run_long); same = λ j h. run_word j (omega (arith, h, values_long)) };
  }

  -- where all lanes take part, the scalar has the new values
  pub run_set : (lanes : Lanes) → lanes ≡ replicate w true → (scalar : List ℕ) → IsScalarAt w Varying first scalar old → IsScalarAt w Varying first (merged lanes values scalar) new
  run_set lanes every scalar stood =
      let lanes_long : length lanes ≡ w = ap length every ∙ length-replicate w true in
      let long : length (merged lanes values scalar) ≡ w = length-merged lanes values scalar (values_long ∙ sym lanes_long) (stood.long ∙ sym lanes_long) ∙ lanes_long in
      record {
        long = long;
        stands = record {
          inside = omega (arith, long, inside, run_long);
          same = λ j h.
              let within : j < w = omega (arith, h, long) in
              run_word j within
              ∙ sym (lane_merged lanes values scalar j (omega (arith, within, lanes_long)) (values_long ∙ sym lanes_long) (stood.long ∙ sym lanes_long)
              ∙ ap (λ b. cond b (slice_index values j) (slice_index scalar j)) (ap (λ ls. has ls j) every ∙ get_or-replicate w j true false within));
        };
      }

  pub run_kept : IsKeptOutside first w old new
  run_kept = record {
    long = run_long;
    same = λ i side. elim side [
      | inl below ↦ ap (λ ws. slice_index ws i) is ∙ get_or-put_chunk_below first old values i 0 below
      | inr above ↦ ap (λ ws. slice_index ws i) is ∙ get_or-put_chunk_above first old values i 0 (omega (arith, above, values_long))
    ];
  }

-- the word of a set says which lanes it has
pub same_sets : (w : ℕ) (lanes others : Lanes) → length lanes ≡ w → length others ≡ w → word_of_lanes lanes ≡ word_of_lanes others → lanes ≡ others
same_sets w lanes others long wide e = sym (lanes_of_word_of_lanes w lanes long) ∙ (ap (lanes_of_word w) e ∙ lanes_of_word_of_lanes w others wide)
