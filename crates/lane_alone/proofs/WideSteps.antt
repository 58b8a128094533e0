-- Each step keeps what `IsStateWide` says, by cases of what is done.
use Rattle.std.proofs.Common.{◌≡◌, refl, sym, subst, ℕ, Bool, true, false, List, [], ◌∷◌, ◌++◌, length}
use Rattle.std.specs.Prelude.{Result, Ok, Err, IfOk, ◌==◌, not, slice_get, Option, Some, None, if◌then◌else◌}
use Rattle.gang_types.specs.declared.types.IntType.{IntType}
use Rattle.gang_types.specs.declared.types.IntType.TheVariants as t
use Rattle.gang_types.specs.declared.faults.FaultName.TheVariants.{CallDepth}
use Rattle.gang_types.specs.Lanes.{Lanes, lanes_where, lowest}
use Rattle.gang_model.specs.Running.Lanes.{Fault, ◌>>=◌, each, at, try_each, holds, members}
use Rattle.gang_model.specs.Types.Tree.{Target, Scalar, ElementOf, Arg, Value, Array, StepNumber, ResultFor, Nothing, Declares, Assigns, Returns, Stmt, Declare, Assign, Change, If, Break, Continue, Return, Switch, ForEach, Call, Check, PackedStore, PackedLoad, Variable, Function, Program}
use Rattle.gang_model.specs.Types.WellScoped.{TargetScoped, ArgsScoped}
use Rattle.gang_model.specs.Types.Resolved.{program_of}
use Rattle.gang_model.specs.Source.Parsed.{ParsedSource}
use Rattle.gang_model.specs.Running.State.{Store, Doing, Run, LoopTest, LoopUpdate, Round, RoundEnd, SwitchEnd, Task, Frame, State, view_of}
use Rattle.gang_model.specs.Running.Rounds.{rounds}
use Rattle.gang_model.specs.Running.Value.{value}
use Rattle.gang_model.specs.Running.Library.{rank}
use Rattle.gang_model.specs.Running.Step.{task, result_rate, settled, ToVar, ToElements, reached, old_values, write, part, Passed, passed, new_frame, entered, deliver, left, leave, initial, with_store, round_number, segment_tasks, or_default, labelled, default_of, packed, run, perform, Stepped, Goes, Fails, Over, stepped, step_task, step_frame, step}
use Rattle.gang_model.specs.Running.SeparateInstances.{IsArrayId}
use Rattle.gang_model.proofs.LaneWords.{if_ok_after, if_ok_bind, Fills, length-each, length-value, length-try_each}
use Rattle.gang_model.proofs.StandingLaws.{Each, each_join}
use Rattle.gang_model.proofs.ScopedPrograms.{table_of}
use Rattle.gang_model.proofs.StateLanes.{TasksSized, FrameSized, FramesSized}
use Rattle.lane_alone.proofs.FileVariables.{IsSound, IsResultSound, named_varying, named_array, sound_body}
use Rattle.lane_alone.proofs.WideStates.{IsDoingSound, IsTaskSound, IsPart, IsFrameSound, IsWide, IsStateWide, IsWritten, IsTurnLocal, sound_settled, sound_broken, sound_continued, sound_segments, sound_returned, sound_returned_on, first_frame, turns_local, sound_rounds, part_of, part_kept, wide_assigned, wide_declared, wide_write, wide_tasks, wide_first_do, wide_store}

module _ (source : ParsedSource) (p : Program) (is : program_of source ≡ Some p) where
  reached_writable : (own : List Variable) (target : Target) (lanes : Lanes) (state : State) → TargetScoped (table_of source own) target → IfOk (reached target lanes state) (IsWritten source p)
  reached_writable own (Scalar v) lanes state h = named_varying source p is own v h
  reached_writable own (ElementOf array rate index) lanes state h = if_ok_after (IsWritten source p) (value index lanes state) _ (λ i. tt)

  -- the array parameters of a call stand for parts of arrays
  abbrev pub HasParts : Passed → Type 0
  HasParts arguments = Each (IsPart source p) arguments.views

  pub passed_parts : (own params : List Variable) (args : List Arg) (lanes : Lanes) (state : State) → ArgsScoped (table_of source own) params args → Each (IsFrameSound source p) state.frames
      → IfOk (passed args lanes state) HasParts
  passed_parts own params [] lanes state scoped h = tt
  passed_parts own [] (a ∷ args) lanes state scoped h = absurd scoped
  passed_parts own (q ∷ params) (Value v e ∷ args) lanes state scoped h =
      if_ok_after HasParts (value e lanes state) _ (λ x. if_ok_bind HasParts HasParts (passed args lanes state) _ (passed_parts own params args lanes state scoped.3 h) (λ rest k. k))
  passed_parts own (q ∷ params) (Array parameter array from ∷ args) lanes state scoped h =
      let old = view_of state array in
      if_ok_bind (λ x. x.array ≡ old.array) HasParts (part from old lanes state) _ (part_kept source p from old lanes state) (λ view same.
      if_ok_bind HasParts HasParts (passed args lanes state) _ (passed_parts own params args lanes state scoped.4 h)
      (λ rest k. (subst (IsArrayId p) (sym same) (part_of source p state array h (named_array source p is own array scoped.2)), k)))

  module _ (w : ℕ) where
    abbrev Wide : State → Type 0
    Wide state = IsStateWide source p w state

    wide_deliver : (type : IntType) (result_for : ResultFor) (lanes : Lanes) (values : List ℕ) (state : State) → length lanes ≡ w → IsResultSound source result_for → Wide state
        → Wide (deliver p type result_for lanes values state)
    wide_deliver type Nothing lanes values state l sound h = h
    wide_deliver type (Declares v) lanes values state l sound h = wide_declared source p w v lanes _ state l (named_varying source p is sound.0 v sound.1) h
    wide_deliver type (Assigns v) lanes values state l sound h = wide_assigned source p w v lanes _ state l (length-each lanes _) (named_varying source p is sound.0 v sound.1) h
    wide_deliver type Returns lanes values state l sound h = (first_frame source p _ state.frames (λ frame f. sound_returned_on source p (slice_get p.functions frame.function) type lanes values frame f) h.0, h.1)

    wide_packed : (result_for : ResultFor) (lanes : Lanes) (state : State) → length lanes ≡ w → IsResultSound source result_for → Wide state → Wide (packed p result_for lanes state)
    wide_packed result_for lanes state l sound h = wide_deliver t.Int32 result_for lanes (each lanes (λ k. length (members lanes))) state l sound h

    wide_left : (f : Option Function) (frame : Frame) (state : State) → length frame.lanes ≡ w → IsResultSound source frame.result_for → Wide state → Wide (left p f frame state)
    wide_left None frame state l sound h = h
    wide_left (Some f) frame state l sound h = wide_deliver f.result_type frame.result_for frame.lanes _ state l sound h

    -- ---- the steps

    then_wide : {A : Type 0} (r : Result A Fault) (next : A → Result State Fault) → ((x : A) → IfOk (next x) Wide) → IfOk (r >>= next) Wide
    then_wide r next go = if_ok_after Wide r next go

    with_value : {A : Type 0} (P : A → Type 0) (r : Result A Fault) (next : A → Result State Fault) → IfOk r P → ((x : A) → P x → IfOk (next x) Wide) → IfOk (r >>= next) Wide
    with_value P r next h go = if_ok_bind P Wide r next h go

    wide_entered : (n : ℕ) (f : Option Function) → slice_get p.functions n ≡ f → (number : StepNumber) (result_for : ResultFor) (arguments : Passed) (lanes : Lanes) (state : State)
        → IsResultSound source result_for → HasParts arguments → Wide state → IfOk (entered f n number result_for arguments lanes state) Wide
    wide_entered n None at number result_for arguments lanes state sound parts h = h
    wide_entered n (Some f) at number result_for arguments lanes state sound parts h =
        room (length state.frames == 64) (new_frame n f lanes (Some number) result_for arguments) (record { name = CallDepth; lane = lowest lanes }) ((sound_body source p is n f at, tt), sound, parts)
      where
        room : (full : Bool) (frame : Frame) (fault : Fault) → IsFrameSound source p frame → IfOk (if full then Err fault else Ok (record state { frames = frame ∷ state.frames })) Wide
        room true frame fault f = tt
        room false frame fault f = ((f, h.0), h.1)

    wide_run : (s : Stmt) (lanes : Lanes) (state : State) → length lanes ≡ w → IsSound source s → Wide state → IfOk (run p s lanes state) Wide
    wide_run (Declare number v init) lanes state l (own, scoped, indices) h =
        then_wide (initial init lanes state) _ (λ x. wide_declared source p w v lanes x state l (named_varying source p is own v scoped.0) h)
    wide_run (Assign number target e) lanes state l (own, scoped, indices) h =
        with_value (IsWritten source p) (reached target lanes state) _ (reached_writable own target lanes state scoped.0) (λ a writable.
        with_value (Fills lanes) (value e lanes state) _ (length-value e lanes state) (λ x fills.
        then_wide (old_values a lanes state) _ (λ old. wide_write source p w a lanes x state l fills writable h)))
    wide_run (Change number target type op in_type e) lanes state l (own, scoped, indices) h =
        with_value (IsWritten source p) (reached target lanes state) _ (reached_writable own target lanes state scoped.0) (λ a writable.
        then_wide (value e lanes state) _ (λ y. then_wide (old_values a lanes state) _ (λ old. then_wide (try_each lanes _) _ (λ x.
        wide_write source p w a lanes _ state l (length-each lanes _) writable h))))
    wide_run (If number test first other) lanes state l (own, scoped, indices) h =
        then_wide (value test lanes state) _ (λ c. wide_first_do source p w (task (Run first) (lanes_where lanes (holds c)) ∷ task (Run other) (lanes_where lanes (λ k. not (holds c k))) ∷ [])
        ((own, scoped.1, indices.0), ((own, scoped.2, indices.1), tt)) state h)
    wide_run (Switch number e segments) lanes state l (own, scoped, indices) h =
        then_wide (value e lanes state) _ (λ x.
        wide_first_do source p w (segment_tasks 0 segments lanes (λ k. or_default (labelled 0 segments (at x k)) (default_of 0 segments)) ++ task SwitchEnd lanes ∷ [])
        (each_join (IsTaskSound source p) (segment_tasks 0 segments lanes _) _ (sound_segments source p 0 segments lanes _ (own, scoped.1, indices)) (tt, tt)) state h)
    wide_run (Break number) lanes state l sound h = wide_tasks source p w _ (sound_broken source p lanes) state h
    wide_run (Continue number) lanes state l sound h = wide_tasks source p w _ (sound_continued source p lanes) state h
    wide_run (Return number e) lanes state l sound h =
        then_wide (initial e lanes state) _ (λ x. (first_frame source p _ state.frames (λ frame f. sound_returned source p (result_rate p frame) lanes x frame f) h.0, h.1))
    wide_run (ForEach number form body) lanes state l (own, scoped, indices) h =
        with_value (Each (IsTurnLocal source p)) (rounds form lanes state) _ (turns_local source p form lanes state indices.0)
        (λ turns local. wide_first_do source p w _ (sound_rounds source p (round_number number body) body turns (own, scoped.1, indices.1) local) state h)
    wide_run (Call number n args result_for) lanes state l (own, (params, found, args_scoped, result_scoped), indices) h =
        with_value HasParts (passed args lanes state) _ (passed_parts own params args lanes state args_scoped h.0)
        (λ arguments parts. wide_entered n (slice_get p.functions n) refl number result_for arguments lanes state (own, result_scoped) parts h)
    wide_run (Check number e) lanes state l sound h = then_wide (value e lanes state) _ (λ c. then_wide (try_each lanes _) _ (λ x. h))
    wide_run (PackedStore number array from e result_for) lanes state l (own, scoped, indices) h =
        then_wide (part from _ lanes state) _ (λ view. with_value (Fills lanes) (value e lanes state) _ (length-value e lanes state) (λ x fills. then_wide (try_each lanes _) _ (λ there.
        wide_packed result_for lanes (write (ToElements view (each lanes (rank lanes))) lanes x state) l (own, scoped.3)
        (wide_write source p w (ToElements view (each lanes (rank lanes))) lanes x state l fills tt h))))
    wide_run (PackedLoad number array from v result_for) lanes state l (own, scoped, indices) h =
        then_wide (part from _ lanes state) _ (λ view. with_value (Fills lanes) (try_each lanes _) _ (length-try_each lanes _) (λ x fills.
        wide_packed result_for lanes (write (ToVar v) lanes x state) l (own, scoped.3)
        (wide_write source p w (ToVar v) lanes x state l fills (named_varying source p is own v scoped.2) h)))
    wide_run s lanes state l sound h = h

    wide_perform : (doing : Doing) (lanes : Lanes) (state : State) → length lanes ≡ w → IsDoingSound source p doing → Wide state → IfOk (perform p doing lanes state) Wide
    wide_perform (Run s) lanes state l sound h = wide_run s lanes state l sound h
    wide_perform (LoopUpdate s) lanes state l sound h = wide_run s lanes state l sound h
    wide_perform (LoopTest number test update body) lanes state l sound h = then_wide (value test lanes state) _ (λ c.
        let stay = lanes_where lanes (holds c) in
        wide_first_do source p w (task (Run body) stay ∷ task (LoopUpdate update) stay ∷ task (LoopTest number test update body) stay ∷ []) (sound.1, (sound.0, (sound, tt))) state h)
    wide_perform (Round number indices body) lanes state l sound h =
        wide_first_do source p w (task (Run body) lanes ∷ task RoundEnd lanes ∷ []) (sound.1, (tt, tt)) (with_store indices state) (wide_store source p w indices sound.0 state h)
    wide_perform RoundEnd lanes state l sound h = h
    wide_perform SwitchEnd lanes state l sound h = h

    -- what a step leads to
    abbrev pub IsSteppedWide : Stepped → Type 0
    IsSteppedWide (Goes state) = Wide state
    IsSteppedWide (Fails fault) = Unit {0}
    IsSteppedWide Over = Unit {0}

    wide_stepped : (r : Result State Fault) → IfOk r Wide → IsSteppedWide (stepped r)
    wide_stepped (Ok state) h = wide_tasks source p w settled (sound_settled source p) state h
    wide_stepped (Err fault) h = tt

    wide_task : (memory : Store) (frames : List Frame) (frame : Frame) (ts : List Task) → FrameSized w frame → TasksSized w ts → IsFrameSound source p frame → Each (IsTaskSound source p) ts
        → Each (IsFrameSound source p) frames → IsWide source p w memory → IsSteppedWide (step_task p memory frames frame ts)
    wide_task memory frames frame [] size sizes sound tasks below wide =
        let out : State = record { memory = memory; frames = frames } in
        wide_tasks source p w settled (sound_settled source p) (leave p frame out) (wide_left (slice_get p.functions frame.function) frame out size.call sound.1 (below, wide))
    wide_task memory frames frame (t ∷ ts) size sizes sound tasks below wide =
        let out : State = record { memory = memory; frames = record frame { tasks = ts } ∷ frames } in
        wide_stepped (perform p t.doing t.lanes out) (wide_perform t.doing t.lanes out sizes.0 tasks.0 (((tasks.1, sound.1, sound.2), below), wide))

    wide_frames : (memory : Store) (frames : List Frame) → FramesSized w frames → Each (IsFrameSound source p) frames → IsWide source p w memory → IsSteppedWide (step_frame p memory frames)
    wide_frames memory [] sizes sound wide = tt
    wide_frames memory (frame ∷ frames) sizes sound wide = wide_task memory frames frame frame.tasks sizes.0 sizes.0.tasks sound.0 sound.0.0 sound.1 wide

    -- a step keeps what is kept, where the sets of lanes are of the gang
    pub wide_step : (state : State) → FramesSized w state.frames → Wide state → IsSteppedWide (step p state)
    wide_step state sizes h = wide_frames state.memory state.frames sizes h.0 h.1
