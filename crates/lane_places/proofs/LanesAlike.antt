-- Each lane waits where the numbers of a masked state say.
use Rattle.std.proofs.Common.{◌≡◌, refl, sym, ap, ap₂, ◌∙◌, subst, ℕ, Bool, true, false, inl, inr, List, [], ◌∷◌, ◌++◌, length, map, Option, Some, None, ⊎_elim, arith}
use Rattle.std.specs.Prelude.{◌==◌, ◌&&◌, nat_le, nat_lt, slice_get, unwrap_or, if◌then◌else◌}
use Rattle.std.proofs.lemmas.Bool.{cases_lt, eq-eqb, ne_eqb}
use Rattle.std.proofs.lemmas.Bool.Decides.{nat_tests}
use Rattle.gang_types.specs.Lanes.{Lanes, has}
use Rattle.gang_model.specs.Types.Tree.{StepNumber, Arg, Call, ResultFor, Stmt, Function, Program}
use Rattle.gang_model.specs.Running.Lanes.{at}
use Rattle.gang_model.specs.Running.Rounds.{Turn}
use Rattle.gang_model.specs.Running.State.{Run, Frame, State, Task}
use Rattle.gang_model.specs.Running.Step.{round_tasks, task}
use Rattle.gang_model.specs.Debugger.Events.{Event, Row, after, start}
use Rattle.gang_model.specs.Debugger.Positions.{closing_of, spot_in}
use Rattle.gang_model.proofs.StateLanes.{FrameSized, FramesSized, StateSized, TasksSized, sized-after, sized-start}
use Rattle.mask_states.specs.Masked.{Level, Masked, no_turn, turns_taken}
use Rattle.mask_states.specs.MaskedStep.{masked_after, masked_start, untasked_frame}
use Rattle.mask_states.specs.Points.{closing_number, points_in}
use Rattle.mask_states.specs.Stands.{AreLowerable, FrameStands, FramesStand, IsLowerable, IsPending, LevelsStand, RoundsStand, Stands, TasksStand, own, waits}
use Rattle.mask_states.proofs.Beginning.{start_stands}
use Rattle.mask_states.proofs.OwnTasks.{by_bool}
use Rattle.mask_states.proofs.RunsAlike.{stands_after}
use Rattle.mask_states.proofs.ShownAlike.{frames_alike}
use Rattle.mask_states.proofs.UntaskedWrites.{untasked_length}
use Rattle.lane_places.specs.Levels.{is_past, masked_lane_spot, number_in, number_in_levels, spot_by_levels}
use Rattle.lane_places.specs.Places.{ahead, lane_number, lane_spot_at, lane_spot_in, number_ahead}
use Rattle.lane_places.proofs.StepEntries.{Waits, waits_append, waits_in}
use Rattle.lane_places.proofs.TasksAhead.{ahead_append, ahead_held, ahead_of_none, ahead_own, ahead_passed, held_own, own_beyond, passed_other, waits_for_round}

-- ---- a level

module _ (f : Function) (w lane : ℕ) (back : Option StepNumber) (level : Level) (now : List Task) (stand : TasksStand (points_in f) w back level now) (sized : TasksSized w now) where
  -- a lane's number is that of the first step that it has to do in the round
  number_of_lane : number_in lane level ≡ waits level.end (own lane now)
  number_of_lane = ⊎_elim
      (λ within.
      let there : nat_lt lane (length level.numbers) ≡ true = grind (arith, nat_tests, within, stand.sized) in
      ap (λ b. if b then at level.numbers lane else level.end) there ∙ stand.numbers lane within)
      (λ beyond.
      let none : nat_lt lane (length level.numbers) ≡ false = grind (arith, nat_tests, beyond, stand.sized) in
      ap (λ b. if b then at level.numbers lane else level.end) none ∙ sym (ap (waits level.end) (own_beyond w lane now sized beyond)))
      (cases_lt lane w)

  pub waits_here : Waits lane now
  waits_here = waits_in (points_in f) back level.end lane now (stand.fits lane)

  pub ahead_here : ahead lane now ≡ own lane now
  ahead_here = ahead_own (points_in f) back level.end lane now stand.fits

-- ---- the levels of a frame

past_is : (lane : ℕ) (level : Level) → level.turns ≡ [] → number_in lane level ≡ level.end → is_past lane level ≡ true
past_is lane level none e = ap (λ turns. no_turn turns && (number_in lane level == level.end)) none ∙ eq-eqb (number_in lane level) level.end e

busy_is : (lane : ℕ) (level : Level) → (number_in lane level ≡ level.end → ⊥) → is_past lane level ≡ false
busy_is lane level ne = and_false (no_turn level.turns) (number_in lane level == level.end) (ne_eqb (number_in lane level) level.end ne)
  where
    and_false : (a b : Bool) → b ≡ false → (a && b) ≡ false
    and_false true b h = h
    and_false false b h = refl

waiting_is : (lane : ℕ) (level : Level) (turn : Turn) (turns : List Turn) → level.turns ≡ turn ∷ turns → is_past lane level ≡ false
waiting_is lane level turn turns some = ap (λ ts. no_turn ts && (number_in lane level == level.end)) some

sized_first : (w : ℕ) (xs ys : List Task) → TasksSized w (xs ++ ys) → TasksSized w xs
sized_first w [] ys sized = tt
sized_first w (t ∷ xs) ys sized = (sized.0, sized_first w xs ys sized.1)

sized_rest : (w : ℕ) (xs ys : List Task) → TasksSized w (xs ++ ys) → TasksSized w ys
sized_rest w [] ys sized = sized
sized_rest w (t ∷ xs) ys sized = sized_rest w xs ys sized.1

module _ (f : Function) (w lane : ℕ) where
  -- by the levels below a form
  module _ (level next : Level) (below : List Level) (now : List Task) (body : Stmt) (turns : List Turn) (rest : List Task) (stand : TasksStand (points_in f) w None level now) (sized : TasksSized w now)
      (rounds : RoundsStand (points_in f) w level body turns) (lower : waits (closing_number f) (ahead lane rest) ≡ number_in_levels lane (next ∷ below)) where
    past_level : is_past lane level ≡ true → number_in_levels lane (level ∷ next ∷ below) ≡ number_in_levels lane (next ∷ below)
    past_level h = ap (λ b. if b then number_in_levels lane (next ∷ below) else number_in lane level) h

    this_level : is_past lane level ≡ false → number_in_levels lane (level ∷ next ∷ below) ≡ number_in lane level
    this_level h = ap (λ b. if b then number_in_levels lane (next ∷ below) else number_in lane level) h

    -- behind the round under way
    by_turns : (taken : List Turn) → turns_taken turns ≡ taken → number_in lane level ≡ level.end
        → waits (closing_number f) (ahead lane (round_tasks level.end body turns ++ rest)) ≡ number_in_levels lane (level ∷ next ∷ below)
    by_turns [] none at_end =
        ap (waits (closing_number f)) (ahead_of_none lane level.end body rest turns none) ∙ lower
        ∙ sym (past_level (past_is lane level (sym rounds.taken ∙ none) at_end))
    by_turns (turn ∷ more) some at_end =
        waits_for_round lane level.end body rest (closing_number f) turn more turns some
        ∙ sym (this_level (waiting_is lane level turn more (sym rounds.taken ∙ some)) ∙ at_end)

    by_waits : Waits lane now → waits (closing_number f) (ahead lane (now ++ (round_tasks level.end body turns ++ rest))) ≡ number_in_levels lane (level ∷ next ∷ below)
    by_waits waiting =
        ap (waits (closing_number f))
        (ahead_append lane now (round_tasks level.end body turns ++ rest) ∙ ap (λ ds. ds ++ ahead lane (round_tasks level.end body turns ++ rest)) (ahead_here f w lane None level now stand sized))
        ∙ waits_append (closing_number f) (own lane now) (ahead lane (round_tasks level.end body turns ++ rest))
        ∙ of_round waiting
      where
        number_is : number_in lane level ≡ waits level.end (own lane now)
        number_is = number_of_lane f w lane None level now stand sized

        of_round : Waits lane now → waits (waits (closing_number f) (ahead lane (round_tasks level.end body turns ++ rest))) (own lane now) ≡ number_in_levels lane (level ∷ next ∷ below)
        of_round (inl idle) =
            idle (waits (closing_number f) (ahead lane (round_tasks level.end body turns ++ rest)))
            ∙ by_turns (turns_taken turns) refl (number_is ∙ idle level.end)
        of_round (inr busy) =
            let here : number_in lane level ≡ busy.number = number_is ∙ busy.waits_are level.end in
            busy.waits_are (waits (closing_number f) (ahead lane (round_tasks level.end body turns ++ rest)))
            ∙ sym (this_level (busy_is lane level (λ e. omega (arith, e, here, busy.below 0 level.end stand.order))) ∙ here)

  -- a lane waits where levels that stand for tasks say
  pub lane_number_of_levels : (levels : List Level) (tasks : List Task) → LevelsStand f w levels tasks → TasksSized w tasks → waits (closing_number f) (ahead lane tasks) ≡ number_in_levels lane levels
  lane_number_of_levels [] tasks s sized = absurd s
  lane_number_of_levels (level ∷ []) tasks s sized =
      ap₂ waits (sym s.1) (ahead_here f w lane (Some (closing_number f)) level tasks s.0 sized)
      ∙ sym (number_of_lane f w lane (Some (closing_number f)) level tasks s.0 sized)
  lane_number_of_levels (level ∷ next ∷ below) tasks (now, body, turns, rest, e, stand, rounds, lower) sized =
      let all : TasksSized w (now ++ (round_tasks level.end body turns ++ rest)) = subst (TasksSized w) e sized in
      let behind : TasksSized w (round_tasks level.end body turns ++ rest) = sized_rest w now (round_tasks level.end body turns ++ rest) all in
      let sized_now : TasksSized w now = sized_first w now (round_tasks level.end body turns ++ rest) all in
      let under = lane_number_of_levels (next ∷ below) rest lower (sized_rest w (round_tasks level.end body turns) rest behind) in
      ap (λ ts. waits (closing_number f) (ahead lane ts)) e
      ∙ by_waits level next below now body turns rest stand sized_now rounds under (waits_here f w lane None level now stand sized_now)

-- ---- a frame

-- where the lane made the call that the frame waits in, it waits for the call
call_ahead : (lane : ℕ) (number : StepNumber) (function : ℕ) (args : List Arg) (result_for : ResultFor) (lanes : Lanes) (tasks : List Task) (f : Option Function)
    → (if has lanes lane then number else number_ahead f lane tasks) ≡ number_ahead f lane (task (Run (Call number function args result_for)) lanes ∷ tasks)
call_ahead lane number function args result_for lanes tasks f =
    let t : Task = task (Run (Call number function args result_for)) lanes in
    by_bool (has lanes lane)
    (λ h. ap (λ b. if b then number else number_ahead f lane tasks) h ∙ sym (ap (waits (closing_of f)) (ahead_held lane t tasks (held_own lane t tasks h))))
    (λ h. ap (λ b. if b then number else number_ahead f lane tasks) h ∙ sym (ap (waits (closing_of f)) (ahead_passed lane t tasks (passed_other lane t tasks h refl))))

-- a frame above has so many lanes
abbrev AboveSized : ℕ → Option Frame → Type 0
AboveSized w None = Unit {0}
AboveSized w (Some above) = length above.lanes ≡ w

module _ (p : Program) (lowerable : AreLowerable p) (w lane : ℕ) where
  pending_ahead : (above : Option Frame) (frame : Frame) (pending : List Task) → IsPending above frame.tasks pending
      → lane_number p above frame lane ≡ number_ahead (slice_get p.functions frame.function) lane pending
  pending_ahead None frame pending is = sym (ap (number_ahead (slice_get p.functions frame.function) lane) is)
  pending_ahead (Some above) frame pending (number, args, call, is) =
      ap (λ o. if has above.lanes lane then unwrap_or o 0 else number_ahead (slice_get p.functions frame.function) lane frame.tasks) call
      ∙ call_ahead lane number above.function args above.result_for above.lanes frame.tasks (slice_get p.functions frame.function)
      ∙ sym (ap (number_ahead (slice_get p.functions frame.function) lane) is)

  pending_sized : (above : Option Frame) (tasks pending : List Task) → IsPending above tasks pending → AboveSized w above → TasksSized w tasks → TasksSized w pending
  pending_sized None tasks pending is above_sized sized = subst (TasksSized w) (sym is) sized
  pending_sized (Some above) tasks pending (number, args, call, is) above_sized sized = subst (TasksSized w) (sym is) (above_sized, sized)

  closing_is : (f : Function) → IsLowerable f → closing_of (Some f) ≡ closing_number f
  closing_is f is = omega (arith, is.standings)

  frame_number : (above : Option Frame) (frame : Frame) (levels : List Level) → FrameStands p w above frame levels → AboveSized w above → FrameSized w frame
      → lane_number p above frame lane ≡ number_in_levels lane levels
  frame_number above frame levels s above_sized sized =
      pending_ahead above frame s.pending s.is_pending
      ∙ ap (λ o. number_ahead o lane s.pending) s.is_function
      ∙ ap (λ n. waits n (ahead lane s.pending)) (closing_is s.function (lowerable.functions frame.function s.function s.is_function))
      ∙ lane_number_of_levels s.function w lane levels s.pending s.stands (pending_sized above frame.tasks s.pending s.is_pending above_sized sized.tasks)

  -- ---- all frames

  frames_spot : (deep : ℕ) (above : Option Frame) (frames : List Frame) (all : List (List Level)) → FramesStand p w above frames all → AboveSized w above → FramesSized w frames
      → lane_spot_in p deep lane above frames ≡ spot_by_levels deep lane (map untasked_frame frames) all
  frames_spot deep above [] all s above_sized sized = refl
  frames_spot deep above (frame ∷ frames) [] s above_sized sized = absurd s
  frames_spot deep above (frame ∷ frames) (levels ∷ rest) s above_sized sized =
      let here = frame_number above frame levels s.0 above_sized sized.0 in
      let lower = frames_spot deep (Some frame) frames rest s.1 sized.0.call sized.1 in
      ap₂ (λ n spot. if nat_le (length (frame ∷ frames)) deep then Some (spot_in frame.function n) else spot) here lower
      ∙ ap (λ n. if nat_le n deep then Some (spot_in frame.function (number_in_levels lane levels)) else spot_by_levels deep lane (map untasked_frame frames) rest) (sym (untasked_length (frame ∷ frames)))

  -- each lane waits in each frame where the masked state says that stands for the state
  pub lane_spot_alike : (deep : ℕ) (state : State) (masked : Masked) → Stands p w state masked → StateSized w state → lane_spot_at p deep lane state ≡ masked_lane_spot deep lane masked
  lane_spot_alike deep state masked s sized =
      frames_spot deep None state.frames masked.levels s.frames tt sized
      ∙ ap (λ frames. spot_by_levels deep lane frames masked.levels) (sym (frames_alike p w state masked s))

-- whatever the entry, the inputs, the width, and the steps and pokes so far
pub lanes_alike : (p : Program) → AreLowerable p → (entry : ℕ) (rows : List Row) (width : ℕ) (events : List Event) (deep lane : ℕ)
    → lane_spot_at p deep lane (after p (start p entry rows width) events) ≡ masked_lane_spot deep lane (masked_after p (masked_start p entry rows width) events)
lanes_alike p lowerable entry rows width events deep lane =
    let first = start p entry rows width in
    let masked = masked_start p entry rows width in
    let stands = stands_after p lowerable width first masked (start_stands p lowerable entry rows width) (sized-start width p entry rows) events in
    lane_spot_alike p lowerable width lane deep (after p first events) (masked_after p masked events) stands (sized-after width p first events (sized-start width p entry rows))
