-- The frame at a depth is the top one of the frames up to it.
use Rattle.std.proofs.Common.{◌≡◌, refl, ap, ◌∙◌, ℕ, zero, suc, ◌-◌, ◌<◌, ◌≤◌, Bool, true, false, List, [], ◌∷◌, length, drop, min, nat_lt, Option, Some, None, arith}
use Rattle.std.specs.Prelude.{slice_get, slice_index, ◌==◌, if◌then◌else◌}
use Rattle.std.proofs.lemmas.Bool.{eq-eqb, eqb-true}
use Rattle.std.proofs.lemmas.Bool.Decides.{nat_tests}
use Rattle.std.proofs.lemmas.List.{length-drop}
use Rattle.gang_model.specs.Types.Tree.{Program}
use Rattle.gang_model.specs.Running.State.{Frame}
use Rattle.gang_model.specs.Debugger.Positions.{call_at, call_spot}
use Rattle.debug_traits.specs.Frames.{frames_at}
use Rattle.mask_states.specs.Points.{points_in}
use Rattle.mask_states.specs.Masked.{Level, Masked, masked_spot, top_spot}
use Rattle.mask_states.proofs.OwnTasks.{by_bool}
use Rattle.machine_states.specs.Declared.{AreDeclared, FramesDeclared}
use Rattle.machine_states.specs.Regions.{Depth, Regions}
use Rattle.machine_states.specs.Shows.{AreSized, Shows, ShowsFrames}
use Rattle.machine_states.specs.Variables.{Variables}
use Rattle.machine_states.proofs.ArrayViews.{memory_kept}
use Rattle.machine_states.proofs.Calls.{call_is_made, made_at, spot_made}
use Rattle.machine_states.proofs.ChangedRegions.{frames_kept}
use Rattle.machine_states.proofs.Endings.{over_nowhere}
use Rattle.machine_states.proofs.FramesBelow.{frames_below}
use Rattle.machine_states.proofs.TopFrame.{spot}
use Rattle.frame_steps.specs.declared.active.Active.{Active}
use Rattle.frame_steps.specs.declared.compiled.CompiledProgram.{CompiledProgram}
use Rattle.frame_steps.specs.Compiled.{program_of, variables_of}
use Rattle.frame_steps.specs.Standing.{IsNextOf}
use Rattle.machine_shown.specs.Frames.{IsPlaceOf, masked_spot_at, masked_up_to, regions_up_to}

-- ---- frames left out

differs : {b : Bool} → b ≡ false → b ≡ true → ⊥
differs off on = cc

module _ (variables : Variables) (p : Program) where
  undeclared : (frames : List Frame) → FramesDeclared variables p frames []
  undeclared [] = tt
  undeclared (frame ∷ frames) = tt

  declared_left : (n : ℕ) (frames : List Frame) (levels : List (List Level)) → FramesDeclared variables p frames levels → FramesDeclared variables p (drop n frames) (drop n levels)
  declared_left zero frames levels declared = declared
  declared_left (suc n) [] levels declared = tt
  declared_left (suc n) (frame ∷ frames) [] declared = undeclared (drop n frames)
  declared_left (suc n) (frame ∷ frames) (levels ∷ rest) declared = declared_left n frames rest declared.1

  module _ (w : ℕ) (regions : Regions) where
    frames_left : (n : ℕ) (frames : List Frame) (levels : List (List Level)) → ShowsFrames p variables w regions frames levels → ShowsFrames p variables w regions (drop n frames) (drop n levels)
    frames_left zero frames levels shown = shown
    frames_left (suc n) [] [] shown = tt
    frames_left (suc n) [] (levels ∷ rest) shown = absurd shown
    frames_left (suc n) (frame ∷ frames) [] shown = absurd shown
    frames_left (suc n) (frame ∷ frames) (levels ∷ rest) shown = frames_left n frames rest shown.2

    -- the call of the frame at a depth is the step that its lanes wait for
    made_left : (deep : ℕ) (frames : List Frame) (levels : List (List Level)) → ShowsFrames p variables w regions frames levels → deep < length frames
        → spot_made (made_at deep frames) ≡ top_spot (drop (length frames - deep) frames) (drop (length frames - deep) levels)
    made_left deep [] levels shown below = absurd (omega (arith, below))
    made_left zero (inner ∷ []) levels shown below = refl
    made_left (suc deep) (inner ∷ []) levels shown below = absurd (omega (arith, below))
    made_left deep (inner ∷ frame ∷ frames) [] shown below = absurd shown
    made_left deep (inner ∷ frame ∷ frames) (levels ∷ []) shown below = absurd shown.1
    made_left deep (inner ∷ frame ∷ frames) (levels ∷ [] ∷ rest) shown below = absurd shown.1
    made_left deep (inner ∷ frame ∷ frames) (levels ∷ (level ∷ under) ∷ rest) shown below = by_bool (length (frame ∷ frames) == deep)
        (λ same.
        let e : length (frame ∷ frames) ≡ deep = eqb-true (length (frame ∷ frames)) deep same in
        let one : 1 ≡ length (inner ∷ frame ∷ frames) - deep = omega (arith, e) in
        ap (λ b. spot_made (if b then Some (inner, frame) else made_at deep (frame ∷ frames))) same
        ∙ ap (call_spot frame.function) shown.1.2
        ∙ ap (λ n. top_spot (drop n (inner ∷ frame ∷ frames)) (drop n (levels ∷ (level ∷ under) ∷ rest))) one)
        (λ other.
        let apart : length (frame ∷ frames) ≡ deep → ⊥ = λ e. differs other (eq-eqb (length (frame ∷ frames)) deep e) in
        let still : deep < length (frame ∷ frames) = omega (arith, below, apart) in
        let more : suc (length (frame ∷ frames) - deep) ≡ length (inner ∷ frame ∷ frames) - deep = omega (arith, still) in
        ap (λ b. spot_made (if b then Some (inner, frame) else made_at deep (frame ∷ frames))) other
        ∙ made_left deep (frame ∷ frames) ((level ∷ under) ∷ rest) shown.2 still
        ∙ ap (λ n. top_spot (drop n (inner ∷ frame ∷ frames)) (drop n (levels ∷ (level ∷ under) ∷ rest))) more)

-- ---- the regions show the masked state without them

module _ (p : Program) (variables : Variables) (w : ℕ) (regions : Regions) (masked : Masked) (shows : Shows p variables w regions masked) (deep : ℕ) where
  -- so many frames there are up to the depth
  pub height_up_to : min deep (slice_index (regions Depth) 0) ≡ length (frames_at deep masked.state.frames)
  height_up_to =
      let all : slice_index (regions Depth) 0 ≡ length masked.state.frames = ap (λ ws. slice_index ws 0) shows.depth in
      omega (arith, all, length-drop (length masked.state.frames - deep) masked.state.frames)

  pub shows_up_to : Shows p variables w (regions_up_to deep regions) (masked_up_to deep masked)
  shows_up_to =
      let left = length masked.state.frames - deep in
      let words = min deep (slice_index (regions Depth) 0) ∷ [] in
      record {
        memory = memory_kept Depth tt words regions masked.state.memory shows.memory;
        depth = ap (λ n. n ∷ []) height_up_to;
        few = omega (arith, length-drop left masked.state.frames, shows.few);
        frames = frames_below p variables w regions (regions_up_to deep regions) (length (frames_at deep masked.state.frames))
            (frames_kept words regions (length (frames_at deep masked.state.frames)) Depth tt) (drop left masked.state.frames) (drop left masked.levels) (omega arith)
            (frames_left variables p w regions left masked.state.frames masked.levels shows.frames);
      }

  pub declared_up_to : AreDeclared variables p masked → AreDeclared variables p (masked_up_to deep masked)
  declared_up_to declared = declared_left variables p (length masked.state.frames - deep) masked.state.frames masked.levels declared

  pub sized_up_to : AreSized variables w regions → AreSized variables w (regions_up_to deep regions)
  sized_up_to sized = record { file = sized.file; own = sized.own }

  -- where the frame at the depth stands
  stands_by : (b : Bool) → nat_lt deep (length masked.state.frames) ≡ b
      → (if b then call_at (suc deep) masked.state.frames else masked_spot masked) ≡ masked_spot (masked_up_to deep masked)
  stands_by true is =
      let below : deep < length masked.state.frames = grind (arith, nat_tests) in
      call_is_made deep masked.state.frames ∙ made_left variables p w regions deep masked.state.frames masked.levels shows.frames below
  stands_by false is =
      let past : length masked.state.frames ≤ deep = grind (arith, nat_tests) in
      let none : 0 ≡ length masked.state.frames - deep = omega (arith, past) in
      ap (λ n. top_spot (drop n masked.state.frames) (drop n masked.levels)) none

  pub spot_up_to : masked_spot_at deep masked ≡ masked_spot (masked_up_to deep masked)
  spot_up_to = stands_by (nat_lt deep (length masked.state.frames)) refl

-- the step that comes next of the frames up to a depth is where the frame at the depth stands
pub is_place : (compiled : CompiledProgram) (w : ℕ) (regions : Regions) (masked : Masked) → Shows (program_of compiled) (variables_of compiled) w regions masked → (deep : ℕ) (place : Option Active)
    → IsNextOf w compiled (regions_up_to deep regions) place → IsPlaceOf deep masked place
is_place compiled w regions masked shows deep None ended =
    let p = program_of compiled in
    let variables = variables_of compiled in
    spot_up_to p variables w regions masked shows deep
    ∙ over_nowhere p variables w (regions_up_to deep regions) (masked_up_to deep masked) (shows_up_to p variables w regions masked shows deep) ended
is_place compiled w regions masked shows deep (Some active) (f, is) =
    let p = program_of compiled in
    let variables = variables_of compiled in
    spot_up_to p variables w regions masked shows deep
    ∙ spot p variables w (regions_up_to deep regions) (masked_up_to deep masked) (shows_up_to p variables w regions masked shows deep) active.frame active.level active.function f active.step
    (slice_get (points_in f) active.step) is.next
