-- The top frame's next step, as the machine finds it, is that of the masked state; and so are the lanes that do it.
use Rattle.std.proofs.Common.{◌≡◌, refl, sym, ap, ◌∙◌, subst, ℕ, suc, ◌<◌, ◌≤◌, false, List, [], ◌∷◌, length, arith}
use Rattle.std.specs.Prelude.{slice_get, Option, Some, None, Ok, Err, if◌then◌else◌, ◌==◌}
use Rattle.std.proofs.lemmas.Bool.{eq-eqb, ne_eqb}
use Rattle.gang_types.specs.declared.places.VarId.{VarId}
use Rattle.gang_types.specs.declared.places.VarId.TheVariants.{File, Local}
use Rattle.gang_types.specs.Lanes.{no_lane}
use Rattle.gang_types.specs.LaneLaws.{some_lane as lane_there}
use Rattle.gang_model.specs.Types.Tree.{StepNumber, RoundsOf, Function, Program}
use Rattle.gang_model.specs.Running.RunningOrder.{IsNumbered}
use Rattle.gang_model.specs.Running.Lanes.{Fault, at}
use Rattle.gang_model.specs.Running.Rounds.{Turn}
use Rattle.gang_model.specs.Running.State.{Frame, State}
use Rattle.gang_model.specs.Debugger.Positions.{spot_in}
use Rattle.mask_states.specs.Points.{Point, Begin, points_in}
use Rattle.mask_states.specs.Masked.{Level, Masked, sent_in, closed, next_in, at_end, masked_spot, top_spot, masked_lanes, top_lanes}
use Rattle.mask_states.specs.MaskedStep.{act, acted, masked_step, step_levels}
use Rattle.mask_states.proofs.LaneNumbers.{length-waiting_for, has-waiting_for, least_met}
use Rattle.foreach_lowering.specs.Forms.{most_nested}
use Rattle.machine_states.specs.Variables.{Variables}
use Rattle.machine_states.specs.Declared.{IsThere, FramesDeclared, IsAwaited, AreDeclared, declared_before}
use Rattle.machine_states.specs.Regions.{LanesOf, NumbersOf, Depth, OfHead, Regions, lanes_in, OfLevel}
use Rattle.machine_states.specs.Shows.{ShowsFrame, Shows}
use Rattle.machine_states.specs.Effects.{sent_on}
use Rattle.machine_states.specs.Steps.{IsNext, end_in, waiting_in, GoesTo, FailsWith}
use Rattle.machine_states.proofs.AwaitedLevels.{IsNoTurn, next_holds}
use Rattle.machine_states.proofs.NestedPoints.{begins_within}
use Rattle.machine_states.proofs.NextPoints.{step_is, on_top}
use Rattle.machine_states.proofs.SentLanes.{sent_shows}
use Rattle.machine_states.proofs.TopLevels.{level_of, IsTop, at_brace, below_end, below_long, brace_end, brace_turns, numbers_long}
use Rattle.machine_states.proofs.WrittenVariables.{HasVariable}

-- the top frame of these, with the levels that its words show; lanes wait for this step in the innermost one
pub record IsTopFrame (p : Program) (variables : Variables) (w : ℕ) (regions : Regions) (level n : ℕ) (f : Function) (frames : List Frame) (levels : List (List Level)) (index : ℕ) (number : StepNumber) : Type 0 where
  pub frame : Frame
  pub others : List Frame
  pub turns : List Turn
  pub below : List Level
  pub rest : List (List Level)
  pub frames_are : frames ≡ frame ∷ others
  pub levels_are : levels ≡ (level_of regions index f level turns ∷ below) ∷ rest
  pub height : length others ≡ index
  pub function : frame.function ≡ n
  pub shown : ShowsFrame p variables w regions index frame (level_of regions index f level turns ∷ below)
  pub top : IsTop w regions index f level turns below
  pub next_is : next_in (level_of regions index f level turns) ≡ number

module _ (p : Program) (variables : Variables) (w : ℕ) (regions : Regions) (masked : Masked) (shows : Shows p variables w regions masked) (i level n : ℕ) (f : Function) (number : StepNumber) where
  -- ---- lanes

  module _ (point : Option Point) (next : IsNext p w regions i level n f number point) where
    pub top_frame : IsTopFrame p variables w regions level n f masked.state.frames masked.levels i number
    top_frame = on_top p variables w regions i level n f number point next (IsTopFrame p variables w regions level n f)
        (λ frame frames turns below rest runs at_point top s. record {
          frame = frame;
          others = frames;
          turns = turns;
          below = below;
          rest = rest;
          frames_are = refl;
          levels_are = refl;
          height = refl;
          function = runs;
          shown = s.0;
          top = top;
          next_is = refl;
        })
        masked shows

    -- its levels: the innermost one, and those below it
    abbrev pub top_level : Level
    top_level = level_of regions i f level top_frame.turns

    point_on_top : slice_get (points_in f) (next_in top_level) ≡ point
    point_on_top = ap (slice_get (points_in f)) top_frame.next_is ∙ next.is_point

    -- there is a number for each lane
    pub length-waiting : length (waiting_in regions i level number) ≡ w
    length-waiting = length-waiting_for number (regions (OfLevel i level NumbersOf)) ∙ numbers_long w regions i f level top_frame.turns top_frame.below top_frame.top

    -- where a debugger shows the top frame, and the lanes that it shows there
    pub spot : masked_spot masked ≡ Some (spot_in n number)
    spot =
        ap (λ frames. top_spot frames masked.levels) top_frame.frames_are
        ∙ ap (top_spot (top_frame.frame ∷ top_frame.others)) top_frame.levels_are
        ∙ ap (λ m. Some (spot_in m (next_in top_level))) top_frame.function
        ∙ ap (λ m. Some (spot_in n m)) top_frame.next_is

    -- those that wait for the step; at a level's end those of the round that comes next, or those of the call
    pub lanes_of_next : masked_lanes masked ≡ (if number == end_in regions i f level then at_end top_frame.frame top_frame.turns else waiting_in regions i level number)
    lanes_of_next =
        ap (λ frames. top_lanes frames masked.levels) top_frame.frames_are
        ∙ ap (top_lanes (top_frame.frame ∷ top_frame.others)) top_frame.levels_are
        ∙ ap (λ m. if m == end_in regions i f level then at_end top_frame.frame top_frame.turns else waiting_in regions i level m) top_frame.next_is

    pub lanes_below_end : number < end_in regions i f level → masked_lanes masked ≡ waiting_in regions i level number
    lanes_below_end less =
        lanes_of_next
        ∙ ap (λ b. if b then at_end top_frame.frame top_frame.turns else waiting_in regions i level number) (ne_eqb number (end_in regions i f level) (λ e. omega (arith, e, less)))

    -- at a level's end
    pub lanes_at_end : number ≡ end_in regions i f level → masked_lanes masked ≡ at_end top_frame.frame top_frame.turns
    lanes_at_end same =
        lanes_of_next ∙ ap (λ b. if b then at_end top_frame.frame top_frame.turns else waiting_in regions i level number) (eq-eqb number (end_in regions i f level) same)

  -- the closing brace is the end of the function's body
  pub brace_level : IsNext p w regions i level n f number None → level ≡ 0
  brace_level next =
      let t = top_frame None next in at_brace w regions i f level t.turns t.below t.top (point_on_top None next)

  -- there those of the call are shown
  pub lanes_at_brace : IsNext p w regions i level n f number None → masked_lanes masked ≡ lanes_in w regions (OfHead i LanesOf)
  lanes_at_brace next =
      let t = top_frame None next in
      let none = point_on_top None next in
      lanes_at_end None next (sym t.next_is ∙ brace_end w regions i f level t.turns t.below t.top none)
      ∙ ap (at_end t.frame) (brace_turns w regions i f level t.turns t.below t.top none)
      ∙ t.shown.lanes

  -- ---- a step at a point

  module _ (point : Point) (next : IsNext p w regions i level n f number (Some point)) where
    -- a lane waits for it, if it is no round of a form
    module _ (unturned : IsNoTurn point) where
      pub below_its_end : number < end_in regions i f level
      below_its_end =
          let t = top_frame (Some point) next in
          subst (λ m. m < end_in regions i f level) t.next_is (below_end w regions i f level t.turns t.below t.top point unturned (point_on_top (Some point) next))

      pub waiter : (k : ℕ) × (k < length (regions (OfLevel i level NumbersOf))) × (at (regions (OfLevel i level NumbersOf)) k ≡ number)
      waiter =
          let met = least_met (end_in regions i f level) (regions (OfLevel i level NumbersOf)) (omega (arith, below_its_end, next.least_number)) in
          (met.0, met.1, met.2 ∙ sym next.least_number)

      pub some_waiting : no_lane (waiting_in regions i level number) ≡ false
      some_waiting =
          lane_there (waiting_in regions i level number) waiter.0
          (has-waiting_for number (regions (OfLevel i level NumbersOf)) waiter.0 waiter.1 ∙ eq-eqb (at (regions (OfLevel i level NumbersOf)) waiter.0) number waiter.2)

    -- what the step does is what the point does for the lanes that wait for it
    pub acts : masked_step p masked
        ≡ acted (act p number point (waiting_in regions i level number) masked.state (top_level (Some point) next) (top_frame (Some point) next).below) (top_frame (Some point) next).rest
    acts =
        let t = top_frame (Some point) next in
        let top : Level = top_level (Some point) next in
        ap (λ frames. step_levels p masked.state.memory frames masked.levels) t.frames_are
        ∙ ap (step_levels p masked.state.memory (t.frame ∷ t.others)) t.levels_are
        ∙ step_is p variables w regions masked.state.memory t.frame t.others top t.below t.rest f (Some point)
        (ap (slice_get p.functions) t.function ∙ next.is_function) (point_on_top (Some point) next)
        ∙ ap (λ m. acted (act p m point (waiting_in regions i level m) (record { memory = masked.state.memory; frames = t.frame ∷ t.others }) top t.below) t.rest) t.next_is
        ∙ ap (λ frames. acted (act p number point (waiting_in regions i level number) (record { memory = masked.state.memory; frames = frames }) top t.below) t.rest) (sym t.frames_are)

    pub point_fails : (fault : Fault) → ((top : Level) (below : List Level) → act p number point (waiting_in regions i level number) masked.state top below ≡ Err fault) → FailsWith p masked fault
    point_fails fault e =
        let t = top_frame (Some point) next in acts ∙ ap (λ r. acted r t.rest) (e (top_level (Some point) next) t.below)

    -- lanes are sent on from a state that the regions show
    pub point_goes : (target : ℕ → StepNumber) (after : State) (new : Regions)
        → ((top : Level) (below : List Level) → act p number point (waiting_in regions i level number) masked.state top below
        ≡ Ok (record { state = after; levels = closed (sent_in (waiting_in regions i level number) target top ∷ below) ∷ [] }))
        → Shows p variables w new (record { state = after; levels = masked.levels }) → new Depth ≡ suc i ∷ []
        → GoesTo p variables w masked (sent_on i level (waiting_in regions i level number) target new)
    point_goes target after new e shown depth =
        let t = top_frame (Some point) next in
        let top : Level = top_level (Some point) next in (
          record { state = after; levels = closed (sent_in (waiting_in regions i level number) target top ∷ t.below) ∷ t.rest },
          acts ∙ ap (λ r. acted r t.rest) (e top t.below),
          sent_shows p variables w i level (waiting_in regions i level number) target new (length-waiting (Some point) next) after top t.below t.rest
              (below_long w regions i f level t.turns t.below t.top)
              (subst (λ levels. Shows p variables w new (record { state = after; levels = levels })) t.levels_are shown) depth,
        )

  -- ---- what the frame has declared

  module _ (point : Option Point) (next : IsNext p w regions i level n f number point) (all : AreDeclared variables p masked) where
    -- it has all that is declared before the step, which stands in as many forms as there are levels below
    pub awaited : IsAwaited variables n f (top_frame point next).frame.vars level number
    awaited =
        let t = top_frame point next in
        let declared = subst (λ levels. FramesDeclared variables p (t.frame ∷ t.others) levels) t.levels_are (subst (λ frames. FramesDeclared variables p frames masked.levels) t.frames_are all) in
        let is : slice_get p.functions t.frame.function ≡ Some f = ap (slice_get p.functions) t.function ∙ next.is_function in
        let Awaited : (depth : ℕ) → StepNumber → Type 0 = IsAwaited variables t.frame.function f t.frame.vars in
        let now : Awaited (length t.below) (next_in (top_level point next)) = next_holds (Awaited (length t.below)) (top_level point next) (declared.0 f is).0 in
        subst (λ m. IsAwaited variables m f t.frame.vars level number) t.function
        (subst (λ depth. Awaited depth number) (below_long w regions i f level t.turns t.below t.top)
        (subst (Awaited (length t.below)) t.next_is now))

  -- a variable that is declared before the step is there
  pub has_variable : (point : Point) → IsNext p w regions i level n f number (Some point) → AreDeclared variables p masked
      → (v : VarId) → IsThere (declared_before variables n f number) v → HasVariable masked.state.frames v
  has_variable point next all (File k) among = tt
  has_variable point next all (Local k) among = subst (λ frames. HasVariable frames (Local k)) (sym (top_frame (Some point) next).frames_are) ((awaited (Some point) next all).has_all k among)

  -- the forms of the function nest so deep that there is a level for a form that begins
  pub form_level_there : IsNumbered 0 f.body → (form : RoundsOf) (rounds target : StepNumber) → IsNext p w regions i level n f number (Some (Begin form rounds target))
      → AreDeclared variables p masked → suc level ≤ most_nested f
  form_level_there numbered form rounds target next all =
      let nested = (awaited (Some (Begin form rounds target)) next all).nested in
      subst (λ l. suc l ≤ most_nested f) nested (begins_within f numbered number form rounds target next.is_point)
