-- A call enters a frame, or has the fault of an argument, or that of a call too deep.
use Rattle.std.proofs.Common.{◌≡◌, refl, sym, ap, ◌∙◌, ℕ, zero, suc, ◌<◌, Bool, true, false, List, [], ◌∷◌, ◌++◌, length, Option, Some, arith, subst}
use Rattle.std.specs.Prelude.{Result, Ok, Err, map, replicate, slice_get, if◌then◌else◌, ◌==◌}
use Rattle.std.proofs.lemmas.Bool.{eq-eqb, ne_eqb}
use Rattle.std.proofs.lemmas.List.{length-map}
use Rattle.gang_types.specs.declared.types.Rate.{Rate}
use Rattle.gang_types.specs.declared.types.Rate.TheVariants.{Uniform, Varying}
use Rattle.gang_types.specs.declared.faults.FaultName.TheVariants.{CallDepth}
use Rattle.gang_types.specs.Lanes.{Lanes, no_lane, lowest}
use Rattle.gang_model.specs.Types.Tree.{StepNumber, Arg, ResultFor, Function, Program}
use Rattle.gang_model.specs.Running.Lanes.{Fault, ◌>>=◌, at, each, words_from}
use Rattle.gang_types.specs.declared.places.VarId.TheVariants.{File, Local}
use Rattle.gang_model.specs.Running.State.{Store, Frame, State}
use Rattle.gang_model.specs.Running.Rounds.{Turn}
use Rattle.gang_model.specs.Running.Step.{Passed, passed, no_result, new_frame, entered, rate_of as result_rate_of}
use Rattle.mask_states.specs.Points.{Enter, points_in, closing_number}
use Rattle.mask_states.specs.Masked.{Level, Masked, next_in, entered_body}
use Rattle.mask_states.specs.MaskedStep.{MaskedStepped, Goes, Fails, untasked_frame, untasked, entered_levels, acted, step_levels}
use Rattle.mask_states.proofs.LaneNumbers.{length-sent, length-waiting_for}
use Rattle.machine_states.proofs.InnermostLevels.{no_form_shown}
use Rattle.machine_states.specs.Levels.{ShowsLevels, body_level}
use Rattle.machine_states.specs.Variables.{Variables}
use Rattle.machine_states.specs.ArrayParts.{AreMemory}
use Rattle.machine_states.specs.Regions.{NumbersOf, ResultOf, OfHead, Regions, OfLevel, OpenOf}
use Rattle.machine_states.specs.Shows.{result_of, ShowsFrame, ShowsFrames, Shows, level_words}
use Rattle.machine_states.specs.Steps.{IsNext, waiting_in, GoesTo, FailsWith, IsBegun, AreSameBelow}
use Rattle.machine_states.proofs.FramesBelow.{frames_below, same_frames}
use Rattle.machine_states.proofs.NextPoints.{frames_untasked, point_is, step_is, on_top}
use Rattle.machine_states.proofs.TopLevels.{IsTop, level_of, numbers_long}

-- ---- a result that nothing was written to

none_of : (w : ℕ) → no_lane (replicate w false) ≡ true
none_of zero = refl
none_of (suc w) = none_of w

zeros : (k : ℕ) (lanes : Lanes) (f : ℕ → ℕ) → map (λ b. 0) lanes ≡ words_from k (replicate (length lanes) false) f
zeros k [] f = refl
zeros k (b ∷ lanes) f = ap (λ xs. 0 ∷ xs) (zeros (suc k) lanes f)

pub no_result_shown : (rate : Rate) (w : ℕ) (lanes : Lanes) (region : List ℕ) → length lanes ≡ w → no_result rate lanes ≡ result_of rate (replicate w false) region
no_result_shown Uniform w lanes region e = ap (λ b. (if b then 0 else at region 0) ∷ []) (sym (none_of w))
no_result_shown Varying w lanes region e = zeros 0 lanes (at region) ∙ ap (λ n. each (replicate n false) (at region)) e

-- ---- a frame that begins

module _ (p : Program) (variables : Variables) (w : ℕ) (new : Regions) where
  pub begun_frame : (index n : ℕ) (f : Function) (lanes : Lanes) (call : Option StepNumber) (for : ResultFor) (arguments : Passed)
      → slice_get p.functions n ≡ Some f → length lanes ≡ w → IsBegun variables w new index n f lanes arguments
      → ShowsFrame p variables w new index (untasked_frame (new_frame n f lanes call for arguments)) (entered_body f lanes ∷ [])
  begun_frame index n f lanes call for arguments is size begun = record {
    function = f;
    is_function = is;
    number = begun.function;
    lanes = sym begun.lanes_are;
    waits = subst (ShowsLevels (points_in f) w (level_words new index) (new (OfHead index OpenOf)) (closing_number f))
        (ap (λ numbers. body_level (closing_number f) numbers ∷ []) begun.numbers)
        (no_form_shown (points_in f) w (level_words new index) (new (OfHead index OpenOf)) (closing_number f) begun.none_open
        (ap length begun.numbers ∙ length-sent lanes _ (map (λ b. closing_number f) lanes) (length-map lanes _) ∙ length-map lanes _ ∙ size));
    untasked = refl;
    views = begun.views;
    locals = begun.declared;
    result = no_result_shown f.result w lanes (new (OfHead index ResultOf)) size
        ∙ ap (λ o. result_of (result_rate_of o) (replicate w false) (new (OfHead index ResultOf))) (sym is)
        ∙ ap (λ returned. result_of (result_rate_of (slice_get p.functions n)) returned (new (OfHead index ResultOf))) (sym begun.none_returned);
    result_sized = begun.result_sized;
  }

-- ---- the call

module _ (p : Program) (variables : Variables) (w : ℕ) (regions : Regions) (level n called : ℕ) (f : Function) (is_function : slice_get p.functions n ≡ Some f)
    (args : List Arg) (for : ResultFor) (next : StepNumber) (memory : Store) where
  abbrev state_of : List Frame → State
  state_of frames = record { memory = memory; frames = frames }

  -- the innermost level of a frame above these
  abbrev top : (frames : List Frame) → List Turn → Level
  top frames turns = level_of regions (length frames) f level turns

  -- what the step leads to, by what the arguments are
  abbrev outcome : Option Function → StepNumber → Lanes → List Frame → List Level → List (List Level) → Result Passed Fault → MaskedStepped
  outcome o number lanes frames levels rest arguments =
      acted ((arguments >>= (λ given. entered o called number for given lanes (state_of frames)))
      >>= (λ after. Ok (record { state = untasked after; levels = entered_levels o lanes ++ levels ∷ [] }))) rest

  call_is : (frame : Frame) (frames : List Frame) (turns : List Turn) (below : List Level) (rest : List (List Level)) (arguments : Result Passed Fault) → frame.function ≡ n
      → slice_get (points_in f) (next_in (top frames turns)) ≡ Some (Enter called args for next)
      → passed args (waiting_in regions (length frames) level (next_in (top frames turns))) (state_of (frame ∷ frames)) ≡ arguments
      → step_levels p memory (frame ∷ frames) ((top frames turns ∷ below) ∷ rest)
      ≡ outcome (slice_get p.functions called) (next_in (top frames turns)) (waiting_in regions (length frames) level (next_in (top frames turns)))
      (frame ∷ frames) (top frames turns ∷ below) rest arguments
  call_is frame frames turns below rest arguments runs at e =
      step_is p variables w regions memory frame frames (top frames turns) below rest f (Some (Enter called args for next)) (ap (slice_get p.functions) runs ∙ is_function) at
      ∙ ap (outcome (slice_get p.functions called) (next_in (top frames turns)) (waiting_in regions (length frames) level (next_in (top frames turns)))
      (frame ∷ frames) (top frames turns ∷ below) rest) e

  -- a function is called
  module _ (g : Function) (is_called : slice_get p.functions called ≡ Some g) where
    abbrev entered_or_deep : Bool → StepNumber → Lanes → List Frame → List Level → List (List Level) → Passed → MaskedStepped
    entered_or_deep full number lanes frames levels rest given =
        acted ((if full then Err (record { name = CallDepth; lane = lowest lanes }) else Ok (state_of (new_frame called g lanes (Some number) for given ∷ frames)))
        >>= (λ after. Ok (record { state = untasked after; levels = (entered_body g lanes ∷ []) ∷ levels ∷ [] }))) rest

    enter_is : (number : StepNumber) (lanes : Lanes) (frames : List Frame) (levels : List Level) (rest : List (List Level)) (given : Passed) (full : Bool) → (length frames == 64) ≡ full
        → outcome (slice_get p.functions called) number lanes frames levels rest (Ok given) ≡ entered_or_deep full number lanes frames levels rest given
    enter_is number lanes frames levels rest given full e =
        ap (λ o. outcome o number lanes frames levels rest (Ok given)) is_called
        ∙ ap (λ b. entered_or_deep b number lanes frames levels rest given) e

    abbrev after_call : StepNumber → Lanes → Frame → List Frame → List Level → List (List Level) → Passed → Masked
    after_call number lanes frame frames levels rest given = record {
      state = state_of (untasked_frame (new_frame called g lanes (Some number) for given) ∷ frame ∷ frames);
      levels = (entered_body g lanes ∷ []) ∷ levels ∷ rest;
    }

    call_shown : (frame : Frame) (frames : List Frame) (turns : List Turn) (below : List Level) (rest : List (List Level)) (given : Passed) (new : Regions) → frame.function ≡ n
        → slice_get (points_in f) (next_in (top frames turns)) ≡ Some (Enter called args for next)
        → AreMemory regions memory
        → IsTop w regions (length frames) f level turns below
        → ShowsFrames p variables w regions (frame ∷ frames) ((top frames turns ∷ below) ∷ rest)
        → suc (length frames) < 64
        → IsBegun variables w new (suc (length frames)) called g (waiting_in regions (length frames) level (next_in (top frames turns))) given
        → AreSameBelow (suc (length frames)) regions new
        → Shows p variables w new (after_call (next_in (top frames turns)) (waiting_in regions (length frames) level (next_in (top frames turns)))
        frame frames (top frames turns ∷ below) rest given)
    call_shown frame frames turns below rest given new runs at memory_is is_top s deep begun same =
        let number : StepNumber = next_in (top frames turns) in
        let lanes : Lanes = waiting_in regions (length frames) level number in
        record {
          memory = now_memory;
          depth = begun.depth;
          few = omega (arith, deep);
          frames = (
            begun_frame p variables w new (suc (length frames)) called g lanes (Some number) for given is_called
                (length-waiting_for number (regions (OfLevel (length frames) level NumbersOf)) ∙ numbers_long w regions (length frames) f level turns below is_top) begun,
            (next, args, refl, point_is p variables w regions frame f (ap (slice_get p.functions) runs ∙ is_function) number (Some (Enter called args for next)) at),
            frames_below p variables w regions new (suc (length frames)) (same_frames (suc (length frames)) regions new same) (frame ∷ frames)
                ((top frames turns ∷ below) ∷ rest) (omega arith) s,
          );
        }
      where
        now_memory : AreMemory new memory
        now_memory (File k) = memory_is (File k) ∙ sym (same.file k)
        now_memory (Local k) = memory_is (Local k) ∙ sym (same.entry k)

-- ---- the laws

module _ (p : Program) (variables : Variables) (w : ℕ) (regions : Regions) (masked : Masked) (shows : Shows p variables w regions masked)
    (i level n called : ℕ) (f : Function) (number : StepNumber) (args : List Arg) (for : ResultFor) (next : StepNumber)
    (is_next : IsNext p w regions i level n f number (Some (Enter called args for next))) where
  abbrev state_with : List Frame → State
  state_with frames = record { memory = masked.state.memory; frames = frames }

  -- a fault of an argument
  pub fails : (fault : Fault) → passed args (waiting_in regions i level number) masked.state ≡ Err fault → FailsWith p masked fault
  fails fault =
      on_top p variables w regions i level n f number (Some (Enter called args for next)) is_next
      (λ frames levels index m. passed args (waiting_in regions index level m) (state_with frames) ≡ Err fault → step_levels p masked.state.memory frames levels ≡ Fails fault)
      (λ frame frames turns below rest runs at is_top s e.
      call_is p variables w regions level n called f is_next.is_function args for next masked.state.memory frame frames turns below rest (Err fault) runs at e)
      masked shows

  module _ (g : Function) (is_called : slice_get p.functions called ≡ Some g) where
    -- 64 frames are there
    pub too_deep : (given : Passed) → passed args (waiting_in regions i level number) masked.state ≡ Ok given → suc i ≡ 64
        → FailsWith p masked (record { name = CallDepth; lane = lowest (waiting_in regions i level number) })
    too_deep given =
        on_top p variables w regions i level n f number (Some (Enter called args for next)) is_next
        (λ frames levels index m. passed args (waiting_in regions index level m) (state_with frames) ≡ Ok given → suc index ≡ 64
        → step_levels p masked.state.memory frames levels ≡ Fails (record { name = CallDepth; lane = lowest (waiting_in regions index level m) }))
        (λ frame frames turns below rest runs at is_top s e full.
        call_is p variables w regions level n called f is_next.is_function args for next masked.state.memory frame frames turns below rest (Ok given) runs at e
        ∙ enter_is p variables w regions level n called f is_next.is_function args for next masked.state.memory g is_called _ _ (frame ∷ frames) _ rest given true
        (eq-eqb (suc (length frames)) 64 full))
        masked shows

    -- a frame begins, and those below are as before
    pub enters : (given : Passed) → passed args (waiting_in regions i level number) masked.state ≡ Ok given → suc i < 64
        → (new : Regions) → IsBegun variables w new (suc i) called g (waiting_in regions i level number) given → AreSameBelow (suc i) regions new → GoesTo p variables w masked new
    enters given e deep new =
        on_top p variables w regions i level n f number (Some (Enter called args for next)) is_next
        (λ frames levels index m. passed args (waiting_in regions index level m) (state_with frames) ≡ Ok given → suc index < 64
        → IsBegun variables w new (suc index) called g (waiting_in regions index level m) given → AreSameBelow (suc index) regions new
        → (after : Masked) × (step_levels p masked.state.memory frames levels ≡ Goes after) × Shows p variables w new after)
        (λ frame frames turns below rest runs at is_top s e deep begun same.
        let levels : List Level = level_of regions (length frames) f level turns ∷ below in
        let number : StepNumber = next_in (level_of regions (length frames) f level turns) in
        let lanes : Lanes = waiting_in regions (length frames) level number in (
          after_call p variables w regions level n called f is_next.is_function args for next masked.state.memory g is_called number lanes frame frames levels rest given,
          call_is p variables w regions level n called f is_next.is_function args for next masked.state.memory frame frames turns below rest (Ok given) runs at e
              ∙ enter_is p variables w regions level n called f is_next.is_function args for next masked.state.memory g is_called number lanes (frame ∷ frames)
              levels rest given false (ne_eqb (suc (length frames)) 64 (λ q. omega (arith, q, deep)))
              ∙ ap (λ old. Goes (record { state = state_with (untasked_frame (new_frame called g lanes (Some number) for given) ∷ old); levels = (entered_body g lanes ∷ []) ∷ levels ∷ rest }))
              (frames_untasked p variables w regions (frame ∷ frames) (levels ∷ rest) s),
          call_shown p variables w regions level n called f is_next.is_function args for next masked.state.memory g is_called frame frames turns below rest given new runs at shows.memory is_top s
              deep begun same,
        ))
        masked shows e deep
