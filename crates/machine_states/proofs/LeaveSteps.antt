-- A frame is left: what its lanes have as a result is given to what it is for, and the lanes of its call go on.
use Rattle.std.proofs.Common.{◌≡◌, refl, sym, ap, ◌∙◌, subst, ℕ, suc, ◌<◌, ◌≤◌, List, [], ◌∷◌, length, Some, None, arith, ⊎_elim}
use Rattle.std.specs.Prelude.{slice_get, drop}
use Rattle.gang_types.specs.declared.types.Rate.{Rate}
use Rattle.gang_types.specs.declared.types.IntType.{IntType}
use Rattle.gang_types.specs.declared.places.VarId.{VarId}
use Rattle.gang_types.specs.declared.places.VarId.TheVariants.{File, Local}
use Rattle.gang_types.specs.Lanes.{Lanes}
use Rattle.gang_types.specs.Masks.{IsGangWidth}
use Rattle.gang_types.specs.MaskLaws.{length-lanes_of_word}
use Rattle.gang_types.specs.Values.{converted}
use Rattle.gang_model.specs.Running.Lanes.{at as word_at}
use Rattle.gang_model.specs.Types.Tree.{StepNumber, Arg, ResultFor, Nothing, Declares, Assigns, Returns, Function, Program}
use Rattle.gang_model.specs.Running.Rounds.{Turn}
use Rattle.gang_model.specs.Running.State.{Store, Frame, State, seen}
use Rattle.gang_model.specs.Running.Step.{returned_on, deliver, left, leave, rate_of as result_rate_of}
use Rattle.gang_model.proofs.LaneWords.{length-each}
use Rattle.mask_states.specs.Points.{Enter, points_in}
use Rattle.mask_states.specs.Masked.{Level, Masked, closed, next_in, sent_in}
use Rattle.mask_states.specs.MaskedStep.{Goes, points_for, past_point, past_calls, step_levels}
use Rattle.mask_states.proofs.LaneNumbers.{length-waiting_for}
use Rattle.machine_states.specs.Variables.{Variables}
use Rattle.machine_states.specs.WellScoped.{ResultWellScoped}
use Rattle.machine_states.specs.ArrayParts.{AreMemory, array_region}
use Rattle.machine_states.specs.Regions.{FunctionOf, LanesOf, ReturnedOf, NumbersOf, ResultOf, OfFile, OfEntry, Depth, OfHead, OfLocal, Region, Regions, lanes_in, with_region, OfLevel}
use Rattle.machine_states.specs.Shows.{AreSized, result_of, ShowsFrame, ShowsFrames, Shows}
use Rattle.machine_states.specs.Effects.{sent_on, region_of, declared_region, assigned_region, declared_in, assigned_in, returned_in}
use Rattle.machine_states.specs.Steps.{IsInnermost, IsNext, least_in, waiting_in, GoesTo, converted_values, Delivers}
use Rattle.machine_states.proofs.ArrayViews.{memory_kept}
use Rattle.machine_states.proofs.ChangedRegions.{frames_kept, scalar_depth}
use Rattle.machine_states.proofs.FramesBelow.{frames_below}
use Rattle.machine_states.proofs.CallerLevels.{caller_is, caller_levels}
use Rattle.machine_states.proofs.NextPoints.{HoldsOnTop, point_is, step_is, on_top}
use Rattle.machine_states.proofs.TopLevels.{IsTop, below_long, level_of, numbers_long}
use Rattle.machine_states.proofs.ReturnedResults.{returned_shows}
use Rattle.machine_states.proofs.SentLanes.{sent_shows}
use Rattle.machine_states.proofs.WrittenVariables.{HasVariable, declared_shows, assigned_shows}

-- ---- the frames below

module _ (p : Program) (variables : Variables) (w : ℕ) (regions : Regions) where
  -- the state without the top frame is shown as soon as the number of frames is changed
  pub without_top : (memory : Store) (frame : Frame) (frames : List Frame) (levels : List Level) (rest : List (List Level))
      → AreMemory regions memory → suc (length frames) ≤ 64
      → ShowsFrames p variables w regions (frame ∷ frames) (levels ∷ rest)
      → Shows p variables w (with_region Depth (length frames ∷ []) regions) (record { state = record { memory = memory; frames = frames }; levels = rest })
  without_top memory frame frames levels rest memory_is few s = record {
    memory = memory_kept Depth tt (length frames ∷ []) regions memory memory_is;
    depth = refl;
    few = omega (arith, few);
    frames = frames_below p variables w regions (with_region Depth (length frames ∷ []) regions) (length frames)
        (frames_kept (length frames ∷ []) regions (length frames) Depth tt) frames rest (omega arith) s.2;
  }

-- ---- the entry's frame

-- the entry's result is for nothing
entry_left : (p : Program) (type : IntType) (for : ResultFor) (lanes : Lanes) (values : List ℕ) (state : State) → for ≡ Nothing → deliver p type for lanes values state ≡ state
entry_left p type for lanes values state e = ap (λ r. deliver p type r lanes values state) e

module _ (p : Program) (variables : Variables) (w : ℕ) (regions : Regions) (masked : Masked) (shows : Shows p variables w regions masked)
    (level n : ℕ) (f : Function) (number : StepNumber) (is_next : IsNext p w regions 0 level n f number None) where
  abbrev Ends : List Frame → List (List Level) → (index : ℕ) → Type 0
  Ends frames levels index = index ≡ 0 → length frames ≤ 64
      → (after : Masked) × (step_levels p masked.state.memory frames levels ≡ Goes after) × Shows p variables w (with_region Depth (index ∷ []) regions) after

  ends : HoldsOnTop p variables w regions 0 level n f number None is_next (λ frames levels index m. Ends frames levels index)
  ends frame (below ∷ frames) turns lower rest runs at top s first few = absurd (omega (arith, first))
  ends frame [] turns lower (levels ∷ rest) runs at top s first few = absurd s.2
  ends frame [] turns lower [] runs at top s first few =
      let is : slice_get p.functions frame.function ≡ Some f = ap (slice_get p.functions) runs ∙ is_next.is_function in
      let out : State = record { memory = masked.state.memory; frames = [] } in (
        record { state = out; levels = [] },
        step_is p variables w regions masked.state.memory frame [] (level_of regions 0 f level turns) lower [] f None is at
            ∙ ap (λ state. Goes (record { state = state; levels = [] }))
            (ap (λ o. left p o frame out) is ∙ entry_left p f.result_type frame.result_for frame.lanes (seen f.result frame.lanes frame.result) out s.1.1),
        without_top p variables w regions masked.state.memory frame [] (level_of regions 0 f level turns ∷ lower) [] shows.memory few s,
      )

  -- the program ends
  pub leaves_entry : GoesTo p variables w masked (with_region Depth (0 ∷ []) regions)
  leaves_entry = on_top p variables w regions 0 level n f number None is_next (λ frames levels index m. Ends frames levels index) ends masked shows refl shows.few

-- ---- a result is given

-- regions with the same words show the same
pub shows_alike : (p : Program) (variables : Variables) (w : ℕ) (old new : Regions) → ((r : Region) → new r ≡ old r) → (masked : Masked)
    → Shows p variables w old masked → Shows p variables w new masked
shows_alike p variables w old new same masked shows = record {
  memory = λ v. shows.memory v ∙ sym (same (array_region v));
  depth = same Depth ∙ shows.depth;
  few = shows.few;
  frames = frames_below p variables w old new (length masked.state.frames)
      (record { lengths = λ v. ap length (same (array_region v)); heads = λ i part less. same (OfHead i part); locals = λ i k less. same (OfLocal i k) }) masked.state.frames masked.levels (omega arith) shows.frames;
}

-- what a result is for is there: a variable that is assigned to
abbrev pub HasResult : List Frame → ResultFor → Type 0
HasResult frames Nothing = Unit {0}
HasResult frames (Declares x) = Unit {0}
HasResult frames (Assigns x) = HasVariable frames x.id
HasResult frames Returns = Unit {0}

-- the number of frames is changed first or last
module _ (j level : ℕ) (sent_lanes : Lanes) (target : ℕ → StepNumber) (depth : List ℕ) (regions : Regions) where
  abbrev DepthLast : (Regions → Regions) → Type 0
  DepthLast change = (r : Region) → with_region Depth depth (sent_on j level sent_lanes target (change regions)) r ≡ sent_on j level sent_lanes target (change (with_region Depth depth regions)) r

  last_kept : DepthLast (λ old. old)
  last_kept (OfFile k) = refl
  last_kept (OfEntry k) = refl
  last_kept Depth = refl
  last_kept (OfHead i part) = refl
  last_kept (OfLocal i k) = refl

  last_written : (v : VarId) (words : List ℕ → List ℕ) → DepthLast (λ old. with_region (region_of j v) (words (old (region_of j v))) old)
  last_written (File n) words (OfFile k) = refl
  last_written (File n) words (OfEntry k) = refl
  last_written (File n) words Depth = refl
  last_written (File n) words (OfHead i part) = refl
  last_written (File n) words (OfLocal i k) = refl
  last_written (Local n) words (OfFile k) = refl
  last_written (Local n) words (OfEntry k) = refl
  last_written (Local n) words Depth = refl
  last_written (Local n) words (OfHead i part) = refl
  last_written (Local n) words (OfLocal i k) = refl

  last_returned : (rate : Rate) (lanes : Lanes) (values : List ℕ) (word : ℕ) → DepthLast (returned_in j rate lanes values word)
  last_returned rate lanes values word (OfFile k) = refl
  last_returned rate lanes values word (OfEntry k) = refl
  last_returned rate lanes values word Depth = refl
  last_returned rate lanes values word (OfHead i part) = refl
  last_returned rate lanes values word (OfLocal i k) = refl

module _ (p : Program) (variables : Variables) (w : ℕ) (regions : Regions) (j level m : ℕ) (g : Function) (some : 0 < w)
    (function : regions (OfHead j FunctionOf) ≡ m ∷ []) (is_function : slice_get p.functions m ≡ Some g) (sized : AreSized variables w regions)
    (state : State) (top : Level) (below : List Level) (rest : List (List Level)) (under : length below ≡ level) where
  abbrev lowered : Regions
  lowered = with_region Depth (suc j ∷ []) regions

  abbrev caller : Masked
  caller = record { state = state; levels = (top ∷ below) ∷ rest }

  module _ (shows : Shows p variables w lowered caller) (type : IntType) (lanes : Lanes) (values : List ℕ) (long : length lanes ≡ w)
      (sent_lanes : Lanes) (sent_long : length sent_lanes ≡ w) (target : ℕ → StepNumber) where
    abbrev ends_as : (delivered : Regions) → State → Type 0
    ends_as delivered after =
        Shows p variables w (with_region Depth (suc j ∷ []) (sent_on j level sent_lanes target delivered)) (record { state = after; levels = closed (sent_in sent_lanes target top ∷ below) ∷ rest })

    -- the lanes go on after the result is given
    given_on : (change : Regions → Regions) (after : State) → DepthLast j level sent_lanes target (suc j ∷ []) regions change → change lowered Depth ≡ suc j ∷ []
        → Shows p variables w (change lowered) (record { state = after; levels = (top ∷ below) ∷ rest }) → ends_as (change regions) after
    given_on change after last depth given =
        shows_alike p variables w (sent_on j level sent_lanes target (change lowered)) (with_region Depth (suc j ∷ []) (sent_on j level sent_lanes target (change regions))) last
        (record { state = after; levels = closed (sent_in sent_lanes target top ∷ below) ∷ rest })
        (sent_shows p variables w j level sent_lanes target (change lowered) sent_long after top below rest under given depth)

    lowered_sized : AreSized variables w lowered
    lowered_sized = record { file = sized.file; own = sized.own }

    size_of : (to : IntType) → length (converted_values type to lanes values) ≡ w
    size_of to = length-each lanes (λ k. converted type to (word_at values k)) ∙ long

    given_shows : (for : ResultFor) (delivered : Regions) → ResultWellScoped variables m for → HasResult state.frames for
        → Delivers w j g for type lanes values regions delivered → ends_as delivered (deliver p type for lanes values state)
    given_shows Nothing delivered well_scoped has is =
        subst (λ new. ends_as new state) (sym is) (given_on (λ old. old) state (last_kept j level sent_lanes target (suc j ∷ []) regions) refl shows)
    given_shows (Declares x) delivered well_scoped has is =
        let given : List ℕ = converted_values type x.type lanes values in
        subst (λ new. ends_as new (deliver p type (Declares x) lanes values state)) (sym is)
        (given_on (declared_in j x.id x.rate lanes given) (deliver p type (Declares x) lanes values state)
        (last_written j level sent_lanes target (suc j ∷ []) regions x.id (declared_region x.rate lanes given)) (scalar_depth _ lowered j x.id)
        (declared_shows p variables w j m lowered caller shows refl function lowered_sized lanes given long some well_scoped.0 x well_scoped.1))
    given_shows (Assigns x) delivered well_scoped has is =
        let given : List ℕ = converted_values type x.type lanes values in
        subst (λ new. ends_as new (deliver p type (Assigns x) lanes values state)) (sym is)
        (given_on (assigned_in j x.id x.rate lanes given) (deliver p type (Assigns x) lanes values state)
        (last_written j level sent_lanes target (suc j ∷ []) regions x.id (assigned_region x.rate lanes given)) (scalar_depth _ lowered j x.id)
        (assigned_shows p variables w j m lowered caller shows refl function lowered_sized lanes given long (size_of x.type) x well_scoped has))
    given_shows Returns delivered well_scoped has is =
        let given : List ℕ = converted_values type g.result_type lanes values in
        subst (λ new. ends_as new (deliver p type Returns lanes values state)) (sym is.2)
        (given_on (returned_in j g.result lanes given is.0) (deliver p type Returns lanes values state)
        (last_returned j level sent_lanes target (suc j ∷ []) regions g.result lanes given is.0) refl
        (returned_shows p variables w j m g lanes given is.0 lowered is.1 long (size_of g.result_type)
        (λ frame. returned_on (slice_get p.functions frame.function) type lanes values frame) (λ frame q. ap (λ o. returned_on o type lanes values frame) q)
        function is_function caller shows refl))

-- ---- the frame of a call

same_result : (n n' : ℕ) (args args' : List Arg) (for for' : ResultFor) (next next' : StepNumber) → Some (Enter n args for next) ≡ Some (Enter n' args' for' next') → for ≡ for'
same_result n n' args args' for for' next next' e = cc

module _ (p : Program) (variables : Variables) (w : ℕ) (gang : IsGangWidth w) (regions : Regions) (masked : Masked) (shows : Shows p variables w regions masked) (sized : AreSized variables w regions)
    (j level below_level n m called : ℕ) (f g : Function) (number : StepNumber) (args : List Arg) (for : ResultFor) (next : StepNumber) (is_next : IsNext p w regions (suc j) level n f number None)
    (below_runs : regions (OfHead j FunctionOf) ≡ m ∷ []) (is_below : slice_get p.functions m ≡ Some g)
    (inner : IsInnermost w regions j g below_level) (calls : slice_get (points_in g) (least_in regions j g below_level) ≡ Some (Enter called args for next)) where
  -- the step that made the call, the lanes of the call, and the result
  abbrev pub call_number : StepNumber
  call_number = least_in regions j g below_level

  abbrev pub call_lanes : Lanes
  call_lanes = lanes_in w regions (OfHead (suc j) LanesOf)

  abbrev pub result_words : List ℕ
  result_words = result_of f.result (lanes_in w regions (OfHead (suc j) ReturnedOf)) (regions (OfHead (suc j) ResultOf))

  abbrev pub left_regions : Regions → Regions
  left_regions delivered = with_region Depth (suc j ∷ []) (sent_on j below_level (waiting_in regions j below_level call_number) (λ k. next) delivered)

  some_lanes : 0 < w
  some_lanes = ⊎_elim (λ e. omega (arith, e)) (λ h. ⊎_elim (λ e. omega (arith, e)) (λ e. omega (arith, e)) h) gang

  abbrev Leaves : List Frame → List (List Level) → (index : ℕ) → Type 0
  Leaves frames levels index = index ≡ suc j → length frames ≤ 64 → (delivered : Regions) → ResultWellScoped variables m for → HasResult (drop 1 frames) for
      → Delivers w j g for f.result_type call_lanes (seen f.result call_lanes result_words) regions delivered
      → (after : Masked) × (step_levels p masked.state.memory frames levels ≡ Goes after) × Shows p variables w (left_regions delivered) after

  -- what the top frame leaves
  left_as : (frame : Frame) (levels : List Level) (out : State) → ShowsFrame p variables w regions (suc j) frame levels → slice_get p.functions frame.function ≡ Some f → frame.result_for ≡ for
      → leave p frame out ≡ deliver p f.result_type for call_lanes (seen f.result call_lanes result_words) out
  left_as frame levels out s is same =
      let words : frame.result ≡ result_words =
      s.result ∙ ap (λ o. result_of (result_rate_of o) (lanes_in w regions (OfHead (suc j) ReturnedOf)) (regions (OfHead (suc j) ResultOf))) is in
      ap (λ o. left p o frame out) is
      ∙ ap (λ r. deliver p f.result_type r frame.lanes (seen f.result frame.lanes frame.result) out) same
      ∙ ap (λ lanes. deliver p f.result_type for lanes (seen f.result lanes frame.result) out) s.lanes
      ∙ ap (λ ws. deliver p f.result_type for call_lanes (seen f.result call_lanes ws) out) words

  module _ (frame below : Frame) (frames : List Frame) (turns lower_turns : List Turn) (lower under : List Level) (rest : List (List Level)) (index : length frames ≡ j) (runs : frame.function ≡ n)
      (at : slice_get (points_in f) (next_in (level_of regions (suc (length frames)) f level turns)) ≡ None)
      (s : ShowsFrames p variables w regions (frame ∷ below ∷ frames) ((level_of regions (suc (length frames)) f level turns ∷ lower) ∷ (level_of regions j g below_level lower_turns ∷ under) ∷ rest))
      (top : IsTop w regions j g below_level lower_turns under) (few : suc (suc (length frames)) ≤ 64) where
    -- the levels of the two frames
    abbrev levels_left : List Level
    levels_left = level_of regions (suc (length frames)) f level turns ∷ lower

    abbrev caller_top : Level
    caller_top = level_of regions j g below_level lower_turns

    below_is : slice_get p.functions below.function ≡ Some g
    below_is = caller_is p variables w regions j below_level m g below_runs is_below inner (length frames) below (caller_top ∷ under) index s.2.0

    point_below : slice_get (points_for p below.function) call_number ≡ Some (Enter called args for next)
    point_below = point_is p variables w regions below g below_is call_number (Some (Enter called args for next)) calls

    for_is : frame.result_for ≡ for
    for_is = same_result frame.function called s.1.1 args frame.result_for for s.1.0 next (sym s.1.3 ∙ point_below)

    abbrev out : State
    out = record { memory = masked.state.memory; frames = below ∷ frames }

    lowered_shows : Shows p variables w (with_region Depth (suc j ∷ []) regions) (record { state = out; levels = (caller_top ∷ under) ∷ rest })
    lowered_shows = subst (λ k. Shows p variables w (with_region Depth (suc k ∷ []) regions) (record { state = out; levels = (caller_top ∷ under) ∷ rest })) index
        (without_top p variables w regions masked.state.memory frame (below ∷ frames) levels_left ((caller_top ∷ under) ∷ rest) shows.memory few s)

    waiting_long : length (waiting_in regions j below_level call_number) ≡ w
    waiting_long = length-waiting_for call_number (regions (OfLevel j below_level NumbersOf)) ∙ numbers_long w regions j g below_level lower_turns under top

    left_here : (delivered : Regions) → ResultWellScoped variables m for → HasResult (below ∷ frames) for
        → Delivers w j g for f.result_type call_lanes (seen f.result call_lanes result_words) regions delivered
        → (after : Masked)
        × (step_levels p masked.state.memory (frame ∷ below ∷ frames) (levels_left ∷ (caller_top ∷ under) ∷ rest) ≡ Goes after)
        × Shows p variables w (left_regions delivered) after
    left_here delivered well_scoped has is =
        let values : List ℕ = seen f.result call_lanes result_words in
        let runs_f : slice_get p.functions frame.function ≡ Some f = ap (slice_get p.functions) runs ∙ is_next.is_function in
        let on : List Level = closed (sent_in (waiting_in regions j below_level call_number) (λ k. next) caller_top ∷ under) in (
          record { state = deliver p f.result_type for call_lanes values out; levels = on ∷ rest },
          step_is p variables w regions masked.state.memory frame (below ∷ frames) (level_of regions (suc (length frames)) f level turns) lower ((caller_top ∷ under) ∷ rest) f None runs_f at
              ∙ ap (λ state. Goes (record { state = state; levels = past_calls p (below ∷ frames) ((caller_top ∷ under) ∷ rest) }))
              (left_as frame levels_left out (subst (λ k. ShowsFrame p variables w regions (suc k) frame levels_left) index s.0) runs_f for_is)
              ∙ ap (λ o. Goes (record { state = deliver p f.result_type for call_lanes values out; levels = past_point o caller_top under ∷ rest })) point_below,
          given_shows p variables w regions j below_level m g some_lanes below_runs is_below sized out caller_top under rest (below_long w regions j g below_level lower_turns under top) lowered_shows
              f.result_type call_lanes values
              (length-lanes_of_word w (word_at (regions (OfHead (suc j) LanesOf)) 0)) (waiting_in regions j below_level call_number) waiting_long (λ k. next) for delivered well_scoped has is,
        )

  leaves_at : HoldsOnTop p variables w regions (suc j) level n f number None is_next (λ frames levels index k. Leaves frames levels index)
  leaves_at frame [] turns lower rest runs at top s index few delivered well_scoped has is = absurd (omega (arith, index))
  leaves_at frame (below ∷ frames) turns lower [] runs at top s index few delivered well_scoped has is = absurd s.2
  leaves_at frame (below ∷ frames) turns lower (levels ∷ rest) runs at top s index few delivered well_scoped has is =
      let caller = caller_levels p variables w regions j below_level m g below_runs is_below inner (length frames) below levels (omega (arith, index)) s.2.0 in
      let levels_left : List Level = level_of regions (suc (length frames)) f level turns ∷ lower in
      subst (λ ls. (after : Masked)
      × (step_levels p masked.state.memory (frame ∷ below ∷ frames) (levels_left ∷ ls ∷ rest) ≡ Goes after)
      × Shows p variables w (left_regions delivered) after) (sym caller.levels_are)
      (left_here frame below frames turns caller.turns lower caller.under rest (omega (arith, index)) runs at
      (subst (λ ls. ShowsFrames p variables w regions (frame ∷ below ∷ frames) (levels_left ∷ ls ∷ rest)) caller.levels_are s) caller.top few delivered well_scoped has is)

  -- the result is given, and the lanes of the call go on
  pub leaves : (delivered : Regions) → ResultWellScoped variables m for → HasResult (drop 1 masked.state.frames) for
      → Delivers w j g for f.result_type call_lanes (seen f.result call_lanes result_words) regions delivered → GoesTo p variables w masked (left_regions delivered)
  leaves = on_top p variables w regions (suc j) level n f number None is_next (λ frames levels index k. Leaves frames levels index) leaves_at masked shows refl shows.few
