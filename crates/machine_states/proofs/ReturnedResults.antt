-- Lanes of the top frame return: the regions show the state after it.
use Rattle.std.proofs.Common.{◌≡◌, refl, sym, ap, ◌∙◌, subst, ℕ, suc, ◌<◌, Bool, true, false, List, [], ◌∷◌, length, arith}
use Rattle.std.specs.Prelude.{map, slice_get, slice_set, Some, ◌||◌, if◌then◌else◌}
use Rattle.std.proofs.lemmas.List.{length-set, ext_get_or, get_or_past}
use Rattle.gang_types.specs.declared.types.Rate.{Rate}
use Rattle.gang_types.specs.declared.types.Rate.TheVariants.{Uniform, Varying}
use Rattle.gang_types.specs.Lanes.{Lanes, has, no_lane, lowest}
use Rattle.gang_types.specs.LaneLaws.{lowest_has, lowest-lt, some_lane}
use Rattle.gang_types.specs.Masks.{lanes_of_word}
use Rattle.gang_types.specs.MaskLaws.{length-lanes_of_word}
use Rattle.gang_model.specs.Running.Lanes.{at, each, merged}
use Rattle.gang_model.specs.Types.Tree.{Function, Program}
use Rattle.gang_model.specs.Running.State.{Store, Frame, on_top, assigned_words}
use Rattle.gang_model.specs.Running.Step.{leaves_task, returned, result_rate, rate_of}
use Rattle.gang_model.proofs.LaneWords.{length-each}
use Rattle.gang_model.proofs.UniformValues.{at-each}
use Rattle.mask_states.specs.Points.{closing_number, points_in}
use Rattle.mask_states.specs.Masked.{Level, Masked}
use Rattle.mask_states.proofs.OwnTasks.{by_bool, none_true}
use Rattle.mask_states.proofs.LaneNumbers.{at-merged_in, at-merged_out}
use Rattle.gang_model.proofs.LaneWords.{length-merged}
use Rattle.machine_states.proofs.InnermostLevels.{levels_shown_same}
use Rattle.machine_states.specs.Variables.{Variables}
use Rattle.machine_states.specs.Regions.{FunctionOf, LanesOf, ReturnedOf, ResultOf, Head, Depth, OfHead, Regions, same_head, lanes_in, with_region, LevelOf, OpenOf}
use Rattle.machine_states.specs.Shows.{result_of, ShowsFrame, ShowsCall, Shows, level_words}
use Rattle.machine_states.specs.Effects.{assigned_region, returned_in}
use Rattle.machine_states.specs.Steps.{KeepsBoth}
use Rattle.machine_states.proofs.EachLane.{at-each_out}
use Rattle.machine_states.proofs.ArrayViews.{memory_kept}
use Rattle.machine_states.proofs.ChangedRegions.{HaveSameLengths, region_here, part_away, frames_kept, lengths_kept}
use Rattle.machine_states.proofs.FramesBelow.{level_words_same, lanes_same, frames_below, view_shown}
use Rattle.machine_states.proofs.NextPoints.{same_word}

-- ---- the result

-- with no lane, the lowest one is behind the last
lowest_none : (lanes : Lanes) → no_lane lanes ≡ true → lowest lanes ≡ length lanes
lowest_none [] h = refl
lowest_none (true ∷ lanes) h = absurd (none_true h)
lowest_none (false ∷ lanes) h = ap suc (lowest_none lanes h)

module _ (w : ℕ) (lanes returned_before : Lanes) (word : ℕ) (keeps : KeepsBoth w lanes returned_before word) (long : length lanes ≡ w) where
  abbrev now : Lanes
  now = lanes_of_word w word

  kept_in : (k : ℕ) → k < w → has lanes k ≡ true → has now k ≡ true
  kept_in k within h = keeps k within ∙ ap (λ b. b || has returned_before k) h

  kept_out : (k : ℕ) → k < w → has lanes k ≡ false → has now k ≡ has returned_before k
  kept_out k within h = keeps k within ∙ ap (λ b. b || has returned_before k) h

  module _ (values region : List ℕ) (given : length values ≡ w) (sized : length region ≡ w) where
    abbrev after : List ℕ
    after = merged lanes values region

    abbrev before : List ℕ
    before = each returned_before (λ k. at region k)

    length-after : length after ≡ w
    length-after = length-merged lanes values region (given ∙ sym long) (sized ∙ sym long) ∙ long

    pub length-assigned : (rate : Rate) → length (assigned_region rate lanes values region) ≡ w
    length-assigned Uniform = length-set region 0 (at values (lowest lanes)) ∙ sized
    length-assigned Varying = length-after

    module _ (was : length returned_before ≡ w) where
      lane_out : (k : ℕ) → k < w → has lanes k ≡ false → at before k ≡ at (each now (λ j. at after j)) k
      lane_out k within h =
          let same : at after k ≡ at region k = at-merged_out lanes values region k (given ∙ sym long) (sized ∙ sym long) h in
          by_bool (has returned_before k)
          (λ r. at-each returned_before (λ j. at region j) k r ∙ sym (at-each now (λ j. at after j) k (kept_out k within h ∙ r) ∙ same))
          (λ r. at-each_out returned_before (λ j. at region j) k r ∙ sym (at-each_out now (λ j. at after j) k (kept_out k within h ∙ r)))

      lane_word : (k : ℕ) → k < w → at (merged lanes values before) k ≡ at (each now (λ j. at after j)) k
      lane_word k within =
          let size : length before ≡ length lanes = length-each returned_before (λ j. at region j) ∙ was ∙ sym long in
          by_bool (has lanes k)
          (λ h. at-merged_in lanes values before k (given ∙ sym long) size h
          ∙ sym (at-each now (λ j. at after j) k (kept_in k within h) ∙ at-merged_in lanes values region k (given ∙ sym long) (sized ∙ sym long) h))
          (λ h. at-merged_out lanes values before k (given ∙ sym long) size h ∙ lane_out k within h)

      some_now : no_lane lanes ≡ false → no_lane now ≡ false
      some_now some = some_lane now (lowest lanes) (kept_in (lowest lanes) (omega (arith, lowest-lt lanes some, long)) (lowest_has lanes some))

      first_word : (words : List ℕ) (x : ℕ) → 0 < length words → x ≡ at (slice_set words 0 x) 0
      first_word [] x h = absurd (omega (arith, h))
      first_word (y ∷ words) x h = refl

      zero_word : (words : List ℕ) (x : ℕ) (b : Bool) → x ≡ 0 → x ≡ (if b then 0 else at (slice_set words 0 x) 0)
      zero_word words x true e = e
      zero_word [] x false e = e
      zero_word (y ∷ words) x false e = refl

      -- a uniform result; where no lane is there, 0 is given
      uniform_result : at values (lowest lanes) ≡ (if no_lane now then 0 else at (slice_set region 0 (at values (lowest lanes))) 0)
      uniform_result = by_bool (no_lane lanes)
          (λ none. zero_word region (at values (lowest lanes)) (no_lane now) (get_or_past values (lowest lanes) 0 (omega (arith, lowest_none lanes none, given, long))))
          (λ some. first_word region (at values (lowest lanes)) (omega (arith, sized, long, lowest-lt lanes some))
          ∙ ap (λ b. if b then 0 else at (slice_set region 0 (at values (lowest lanes))) 0) (sym (some_now some)))

      -- the lanes have their values, those that had returned their old ones
      pub returned_result : (rate : Rate) → assigned_words rate lanes values (result_of rate returned_before region) ≡ result_of rate now (assigned_region rate lanes values region)
      returned_result Uniform = ap (λ y. y ∷ []) uniform_result
      returned_result Varying =
          let size : length (merged lanes values before) ≡ w =
          length-merged lanes values before (given ∙ sym long) (length-each returned_before (λ j. at region j) ∙ was ∙ sym long) ∙ long in
          ext_get_or 0 (merged lanes values before) (each now (λ j. at after j))
          (size ∙ sym (length-each now (λ j. at after j) ∙ length-lanes_of_word w word))
          (λ k within. lane_word k (omega (arith, within, size)))

-- ---- the frame

call_returned : (p : Program) (rate : Rate) (lanes : Lanes) (values : List ℕ) (frame : Frame) (frames : List Frame) (levels : List (List Level)) → ShowsCall p frame frames levels
    → ShowsCall p (returned rate lanes values frame) frames levels
call_returned p rate lanes values frame [] levels c = c
call_returned p rate lanes values frame (below ∷ frames) [] c = c
call_returned p rate lanes values frame (below ∷ frames) ([] ∷ rest) c = c
call_returned p rate lanes values frame (below ∷ frames) ((level ∷ levels) ∷ rest) c = c

module _ (p : Program) (variables : Variables) (w i n : ℕ) (f : Function) (lanes : Lanes) (values : List ℕ) (word : ℕ) (old : Regions) where
  abbrev new : Regions
  new = returned_in i f.result lanes values word old

  abbrev result_now : List ℕ
  result_now = assigned_region f.result lanes values (old (OfHead i ResultOf))

  abbrev between : Regions
  between = with_region (OfHead i ResultOf) result_now old

  part_kept : (part : Head) → same_head ReturnedOf part ≡ false → same_head ResultOf part ≡ false → new (OfHead i part) ≡ old (OfHead i part)
  part_kept part one other = part_away (word ∷ []) between i ReturnedOf part one ∙ part_away result_now old i ResultOf part other

  lengths_same : HaveSameLengths old new
  lengths_same v = lengths_kept (word ∷ []) between i (OfHead i ReturnedOf) (omega arith) v ∙ lengths_kept result_now old i (OfHead i ResultOf) (omega arith) v

  result_is : new (OfHead i ResultOf) ≡ result_now
  result_is = part_away (word ∷ []) between i ReturnedOf ResultOf refl ∙ region_here result_now old (OfHead i ResultOf)

  returned_is : lanes_in w new (OfHead i ReturnedOf) ≡ lanes_of_word w word
  returned_is = ap (λ words. lanes_of_word w (at words 0)) (region_here (word ∷ []) between (OfHead i ReturnedOf))

  module _ (keeps : KeepsBoth w lanes (lanes_in w old (OfHead i ReturnedOf)) word) (long : length lanes ≡ w) (given : length values ≡ w) where
    frame_returned : (frame : Frame) (levels : List Level) → slice_get p.functions frame.function ≡ Some f → ShowsFrame p variables w old i frame levels
        → ShowsFrame p variables w new i (returned f.result lanes values frame) levels
    frame_returned frame levels is shown =
        let rate_is : result_rate p frame ≡ f.result = ap rate_of is in
        let before : Lanes = lanes_in w old (OfHead i ReturnedOf) in
        record {
          function = shown.function;
          is_function = shown.is_function;
          number = part_kept FunctionOf refl refl ∙ shown.number;
          lanes = shown.lanes ∙ lanes_same p variables w old new i LanesOf (part_kept LanesOf refl refl);
          waits = levels_shown_same (points_in shown.function) w (level_words old i) (level_words new i) (old (OfHead i OpenOf)) (new (OfHead i OpenOf)) (closing_number shown.function) levels
              (level_words_same old new i (λ level part. part_kept (LevelOf level part) refl refl)) (part_kept OpenOf refl refl) shown.waits;
          untasked = ap (map (leaves_task lanes)) shown.untasked;
          views = λ k. view_shown p variables w old new lengths_same i frame k refl (shown.views k);
          locals = shown.locals;
          result = ap (assigned_words f.result lanes values) (shown.result ∙ ap (λ rate. result_of rate before (old (OfHead i ResultOf))) rate_is)
              ∙ returned_result w lanes before word keeps long values (old (OfHead i ResultOf)) given shown.result_sized (length-lanes_of_word w (at (old (OfHead i ReturnedOf)) 0)) f.result
              ∙ ap (λ rate. result_of rate (lanes_of_word w word) result_now) (sym rate_is)
              ∙ ap (λ ls. result_of (result_rate p frame) ls result_now) (sym returned_is)
              ∙ ap (result_of (result_rate p frame) (lanes_in w new (OfHead i ReturnedOf))) (sym result_is);
          result_sized = ap length result_is ∙ length-assigned w lanes before word keeps long values (old (OfHead i ResultOf)) given shown.result_sized f.result;
        }

    module _ (change : Frame → Frame) (returns : (frame : Frame) → slice_get p.functions frame.function ≡ Some f → change frame ≡ returned f.result lanes values frame)
        (function : old (OfHead i FunctionOf) ≡ n ∷ []) (is_function : slice_get p.functions n ≡ Some f) where
      state_returned : (memory : Store) (frames : List Frame) (levels : List (List Level)) → Shows p variables w old (record { state = record { memory = memory; frames = frames }; levels = levels })
          → length frames ≡ suc i → Shows p variables w new (record { state = on_top change (record { memory = memory; frames = frames }); levels = levels })
      state_returned memory [] levels shows e = absurd (omega (arith, e))
      state_returned memory (frame ∷ frames) [] shows e = absurd shows.frames
      state_returned memory (frame ∷ frames) (levels ∷ rest) shows e =
          let below : length frames ≡ i = omega (arith, e) in
          let top : ShowsFrame p variables w old i frame levels = subst (λ j. ShowsFrame p variables w old j frame levels) below shows.frames.0 in
          let is : slice_get p.functions frame.function ≡ Some f = ap (slice_get p.functions) (same_word (old (OfHead i FunctionOf)) frame.function n top.number function) ∙ is_function in
          let new_top : ShowsFrame p variables w new (length frames) (returned f.result lanes values frame) levels =
          subst (λ j. ShowsFrame p variables w new j (returned f.result lanes values frame) levels) (sym below) (frame_returned frame levels is top) in
          record {
            memory = memory_kept (OfHead i ReturnedOf) tt (word ∷ []) between memory (memory_kept (OfHead i ResultOf) tt result_now old memory shows.memory);
            depth = shows.depth;
            few = shows.few;
            frames = (
              subst (λ changed. ShowsFrame p variables w new (length frames) changed levels) (sym (returns frame is)) new_top,
              subst (λ changed. ShowsCall p changed frames rest) (sym (returns frame is)) (call_returned p f.result lanes values frame frames rest shows.frames.1),
              frames_below p variables w between new i (frames_kept (word ∷ []) between i (OfHead i ReturnedOf) (omega arith)) frames rest (omega (arith, below))
                  (frames_below p variables w old between i (frames_kept result_now old i (OfHead i ResultOf) (omega arith)) frames rest (omega (arith, below)) shows.frames.2),
            );
          }

      -- the top frame's result has the values
      pub returned_shows : (masked : Masked) → Shows p variables w old masked → old Depth ≡ suc i ∷ []
          → Shows p variables w (returned_in i f.result lanes values word old) (record { state = on_top change masked.state; levels = masked.levels })
      returned_shows masked shows depth =
          state_returned masked.state.memory masked.state.frames masked.levels shows (same_word (old Depth) (length masked.state.frames) (suc i) shows.depth depth)
