-- A call enters the same frame with tasks and without.
use Rattle.std.proofs.Common.{◌≡◌, refl, ap, ◌∙◌, ℕ, Bool, true, false, List, ◌∷◌, Option, Some, None}
use Rattle.std.specs.Prelude.{Ok, Err, IfOk, length, slice_get, ◌==◌, if◌then◌else◌}
use Rattle.gang_types.specs.declared.faults.FaultName.TheVariants.{CallDepth}
use Rattle.gang_types.specs.Lanes.{Lanes, lowest}
use Rattle.gang_model.specs.Running.Lanes.{Fault}
use Rattle.gang_model.specs.Types.Tree.{StepNumber, ResultFor, Arg, Call, Function, Program}
use Rattle.gang_model.specs.Running.State.{Frame, State}
use Rattle.gang_model.specs.Running.Step.{Passed, passed, new_frame, enter, entered, run}
use Rattle.mask_states.specs.MaskedStep.{untasked_frame, untasked}
use Rattle.mask_states.proofs.ResultLaws.{map_ok, bind_alike}
use Rattle.mask_states.proofs.UntaskedValues.{untasked_passed}
use Rattle.mask_states.proofs.UntaskedWrites.{untasked_frames_twice, untasked_twice, untasked_length}
use Rattle.gang_model.proofs.LaneWords.{if_ok_after}

-- a frame on top of the others
abbrev pub with_frame : Frame → State → State
with_frame frame s = record s { frames = frame ∷ s.frames }

pub untasked_with_frame : (frame : Frame) (s : State) → untasked (with_frame frame (untasked s)) ≡ untasked (with_frame frame s)
untasked_with_frame frame s = ap (λ frames. record s { frames = untasked_frame frame ∷ frames }) (untasked_frames_twice s.frames)

pub enter_or_fault : (full : Bool) (fault : Fault) (frame : Frame) (s : State) → map_ok untasked (if full then Err fault else Ok (with_frame frame (untasked s))) ≡ map_ok untasked (if full then Err fault else Ok (with_frame frame s))
enter_or_fault true fault frame s = refl
enter_or_fault false fault frame s = ap Ok (untasked_with_frame frame s)

pub enter_untasked : (frame : Frame) (lanes : Lanes) (s : State) → map_ok untasked (enter frame lanes (untasked s)) ≡ map_ok untasked (enter frame lanes s)
enter_untasked frame lanes s =
    ap (λ n. map_ok untasked (if n == 64 then Err (record { name = CallDepth; lane = lowest lanes }) else Ok (with_frame frame (untasked s)))) (untasked_length s.frames)
    ∙ enter_or_fault (length s.frames == 64) (record { name = CallDepth; lane = lowest lanes }) frame s

pub entered_untasked : (o : Option Function) (n : ℕ) (number : StepNumber) (for : ResultFor) (arguments : Passed) (lanes : Lanes) (s : State) → map_ok untasked (entered o n number for arguments lanes (untasked s)) ≡ map_ok untasked (entered o n number for arguments lanes s)
entered_untasked None n number for arguments lanes s = ap Ok (untasked_twice s)
entered_untasked (Some f) n number for arguments lanes s = enter_untasked (new_frame n f lanes (Some number) for arguments) lanes s

pub call_untasked : (p : Program) (number : StepNumber) (n : ℕ) (args : List Arg) (for : ResultFor) (lanes : Lanes) (s : State) → map_ok untasked (run p (Call number n args for) lanes (untasked s)) ≡ map_ok untasked (run p (Call number n args for) lanes s)
call_untasked p number n args for lanes s =
    bind_alike untasked (passed args lanes (untasked s)) (passed args lanes s) _ _ (untasked_passed args lanes s)
    (λ arguments. entered_untasked (slice_get p.functions n) n number for arguments lanes s)

-- ---- the frames after a call

-- a call of f puts a frame on the others; where there is no such function the state stays
abbrev pub EntersOn : Option Function → ℕ → StepNumber → ResultFor → Lanes → State → State → Type 0
EntersOn None n number for lanes s after = after ≡ s
EntersOn (Some f) n number for lanes s after = (arguments : Passed) × (after ≡ with_frame (new_frame n f lanes (Some number) for arguments) s)

pub enters_or_fault : (full : Bool) (fault : Fault) (f : Function) (n : ℕ) (number : StepNumber) (for : ResultFor) (arguments : Passed) (lanes : Lanes) (s : State) → IfOk (if full then Err fault else Ok (with_frame (new_frame n f lanes (Some number) for arguments) s)) (EntersOn (Some f) n number for lanes s)
enters_or_fault true fault f n number for arguments lanes s = tt
enters_or_fault false fault f n number for arguments lanes s = (arguments, refl)

pub enters_on : (o : Option Function) (n : ℕ) (number : StepNumber) (for : ResultFor) (arguments : Passed) (lanes : Lanes) (s : State) → IfOk (entered o n number for arguments lanes s) (EntersOn o n number for lanes s)
enters_on None n number for arguments lanes s = refl
enters_on (Some f) n number for arguments lanes s =
    enters_or_fault (length s.frames == 64) (record { name = CallDepth; lane = lowest lanes }) f n number for arguments lanes s

pub call_enters : (p : Program) (number : StepNumber) (n : ℕ) (args : List Arg) (for : ResultFor) (lanes : Lanes) (s : State) → IfOk (run p (Call number n args for) lanes s) (EntersOn (slice_get p.functions n) n number for lanes s)
call_enters p number n args for lanes s =
    if_ok_after _ (passed args lanes s) _ (λ arguments. enters_on (slice_get p.functions n) n number for arguments lanes s)
