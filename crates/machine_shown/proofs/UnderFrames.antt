-- Where words of the frame at a depth are set, the frames above it show what they showed before.
use Rattle.std.proofs.Common.{◌≡◌, refl, sym, ap, ◌∙◌, subst, ℕ, zero, suc, ◌-◌, ◌≤◌, List, [], ◌∷◌, ◌++◌, length, drop, min, arith}
use Rattle.std.specs.Prelude.{slice_index, take}
use Rattle.std.proofs.lemmas.List.{length-append, length-drop, length-take}
use Rattle.gang_types.specs.declared.places.VarId.{VarId}
use Rattle.gang_types.specs.declared.places.VarId.TheVariants.{File, Local}
use Rattle.gang_model.specs.Types.Tree.{Program}
use Rattle.gang_model.specs.Running.State.{Frame, State}
use Rattle.gang_model.specs.Debugger.Frames.{frames_above, under}
use Rattle.mask_states.specs.Points.{Enter}
use Rattle.mask_states.specs.Placed.{HasPoint}
use Rattle.mask_states.specs.Masked.{Level, Masked, next_in}
use Rattle.mask_states.specs.MaskedStep.{points_for}
use Rattle.machine_states.specs.ArrayParts.{array_region}
use Rattle.machine_states.specs.Declared.{FramesDeclared}
use Rattle.machine_states.specs.Regions.{Depth, FunctionOf, Head, OfHead, OfLocal, Region, Regions, with_region}
use Rattle.machine_states.specs.Shows.{Shows, ShowsCall, ShowsFrame, ShowsFrames}
use Rattle.machine_states.specs.Variables.{Variables}
use Rattle.machine_states.proofs.ChangedRegions.{AreFramesSame, HaveSameLengths, lengths_all}
use Rattle.machine_states.proofs.FramesBelow.{frame_same, frames_below}
use Rattle.machine_states.proofs.NextPoints.{same_word}
use Rattle.machine_shown.specs.Frames.{regions_up_to}
use Rattle.machine_shown.proofs.FramePlaces.{height_up_to}
use Rattle.machine_shown.proofs.SetRegions.{IsOfLower, depth_stays, heads_stay, locals_stay}

-- ---- lists of frames

under_long : (n : ℕ) (frames below : List Frame) → n ≤ length frames → length below ≡ length (drop n frames) → length (take n frames ++ below) ≡ length frames
under_long n frames below most long = omega (arith, length-append (take n frames) below, length-take n frames, length-drop n frames, most, long)

-- frames above others keep what is declared
pub declared_above : (variables : Variables) (p : Program) (n : ℕ) (frames below : List Frame) (levels : List (List Level)) → n ≤ length frames → FramesDeclared variables p frames levels
    → FramesDeclared variables p below (drop n levels) → FramesDeclared variables p (take n frames ++ below) levels
declared_above variables p zero frames below levels most was declared = declared
declared_above variables p (suc n) [] below levels most was declared = absurd (omega (arith, most))
declared_above variables p (suc n) (frame ∷ frames) below [] most was declared = tt
declared_above variables p (suc n) (frame ∷ frames) below (level ∷ levels) most was declared =
    (was.0, declared_above variables p n frames below levels (omega (arith, most)) was.1 declared)

module _ (p : Program) (variables : Variables) (w : ℕ) (old new : Regions) (lengths : HaveSameLengths old new) (heads : (i : ℕ) (part : Head) → new (OfHead i part) ≡ old (OfHead i part)) where
  -- the top frame below has the function that it had, so the call is the same
  call_under : (frame : Frame) (frames below : List Frame) (levels : List (List Level)) → length below ≡ length frames → ShowsFrames p variables w old frames levels
      → ShowsFrames p variables w new below levels → ShowsCall p frame frames levels → ShowsCall p frame below levels
  call_under frame [] [] levels long was shown call = call
  call_under frame [] (b ∷ below) levels long was shown call = absurd (omega (arith, long))
  call_under frame (f ∷ frames) [] levels long was shown call = absurd (omega (arith, long))
  call_under frame (f ∷ frames) (b ∷ below) [] long was shown call = absurd call
  call_under frame (f ∷ frames) (b ∷ below) ([] ∷ rest) long was shown call = absurd call
  call_under frame (f ∷ frames) (b ∷ below) ((level ∷ levels) ∷ rest) long was shown call =
      let height : length frames ≡ length below = omega (arith, long) in
      let same : f.function ≡ b.function =
      same_word (old (OfHead (length frames) FunctionOf)) f.function b.function was.0.number
      (sym (heads (length frames) FunctionOf) ∙ ap (λ i. new (OfHead i FunctionOf)) height ∙ shown.0.number) in (
        call.0,
        call.1,
        call.2,
        subst (λ n. HasPoint (points_for p n) (next_in level) (Enter frame.function call.1 frame.result_for call.0)) same call.3,
      )

  frames_under : (n : ℕ) (frames below : List Frame) (levels : List (List Level)) → n ≤ length frames → length below ≡ length (drop n frames)
      → ((i k : ℕ) → length below ≤ i → new (OfLocal i k) ≡ old (OfLocal i k)) → ShowsFrames p variables w old frames levels
      → ShowsFrames p variables w new below (drop n levels) → ShowsFrames p variables w new (take n frames ++ below) levels
  frames_under zero frames below levels most long locals was shown = shown
  frames_under (suc n) [] below levels most long locals was shown = absurd (omega (arith, most))
  frames_under (suc n) (frame ∷ frames) below [] most long locals was shown = absurd was
  frames_under (suc n) (frame ∷ frames) below (level ∷ levels) most long locals was shown =
      let others : ShowsFrames p variables w new (take n frames ++ below) levels = frames_under n frames below levels (omega (arith, most)) long locals was.2 shown in
      let height : length (take n frames ++ below) ≡ length frames = under_long n frames below (omega (arith, most)) long in
      let same : length below ≡ length (drop n frames) = long in
      let above : length below ≤ length frames = omega (arith, same, length-drop n frames) in (
        subst (λ i. ShowsFrame p variables w new i frame level) (sym height)
            (frame_same p variables w old new lengths (length frames) frame level (heads (length frames)) (λ k. locals (length frames) k above) was.0),
        call_under frame frames (take n frames ++ below) levels height was.2 others was.1,
        others,
      )

-- ---- regions

module _ (p : Program) (variables : Variables) (w : ℕ) (regions : Regions) (masked : Masked) (shows : Shows p variables w regions masked) (deep : ℕ)
    (region : Region) (lower : IsOfLower (min deep (slice_index (regions Depth) 0)) region) (words : List ℕ) (long : length words ≡ length (regions region)) (below : State)
    (shown : Shows p variables w (with_region region words (regions_up_to deep regions)) (record { state = below; levels = drop (length masked.state.frames - deep) masked.levels })) where
  abbrev new : Regions
  new = with_region region words regions

  abbrev left : ℕ
  left = length masked.state.frames - deep

  -- as many frames as there were up to the depth
  height : min deep (slice_index (regions Depth) 0) ≡ length below.frames
  height =
      same_word (regions_up_to deep regions Depth) (min deep (slice_index (regions Depth) 0)) (length below.frames) refl
      (sym (depth_stays (min deep (slice_index (regions Depth) 0)) words (regions_up_to deep regions) region lower) ∙ shown.depth)

  below_long : length below.frames ≡ length (drop left masked.state.frames)
  below_long = sym height ∙ height_up_to p variables w regions masked shows deep

  all_long : length (take left masked.state.frames ++ below.frames) ≡ length masked.state.frames
  all_long = under_long left masked.state.frames below.frames (omega arith) below_long

  arrays_same : (v : VarId) → with_region region words (regions_up_to deep regions) (array_region v) ≡ new (array_region v)
  arrays_same (File k) = refl
  arrays_same (Local k) = refl

  frames_same : AreFramesSame (length below.frames) (with_region region words (regions_up_to deep regions)) new
  frames_same = record {
    lengths = λ v. ap length (sym (arrays_same v));
    heads = λ i part within. refl;
    locals = λ i k within. refl;
  }

  pub shows_under : Shows p variables w (with_region region words regions) (record masked { state = under (frames_above deep masked.state.frames) below })
  shows_under =
      let heads = heads_stay (min deep (slice_index (regions Depth) 0)) words regions region lower in
      record {
        memory = λ v. shown.memory v ∙ arrays_same v;
        depth = depth_stays (min deep (slice_index (regions Depth) 0)) words regions region lower ∙ shows.depth ∙ ap (λ n. n ∷ []) (sym all_long);
        few = omega (arith, all_long, shows.few);
        frames = frames_under p variables w regions new (λ v. lengths_all region words regions long (array_region v)) heads left masked.state.frames below.frames masked.levels (omega arith) below_long
            (λ i k above. locals_stay (min deep (slice_index (regions Depth) 0)) words regions region lower i k (omega (arith, above, height))) shows.frames
            (frames_below p variables w (with_region region words (regions_up_to deep regions)) new (length below.frames) frames_same below.frames (drop left masked.levels) (omega arith) shown.frames);
      }
