-- Each set of lanes in a state has a place for each lane of the gang, from the start and after each event.
use Rattle.std.proofs.Common.{◌≡◌, subst, ◌∙◌, ℕ, zero, suc, ◌-◌, Bool, true, false, List, [], ◌∷◌, ◌++◌, length, Option, Some, None}
use Rattle.std.specs.Prelude.{Result, Ok, Err, not, ◌==◌, IfOk, map, replicate, slice_get, take, drop, if◌then◌else◌}
use Rattle.gang_types.specs.declared.types.Rate.{Rate}
use Rattle.gang_types.specs.declared.types.IntType.{IntType}
use Rattle.gang_types.specs.declared.types.IntType.TheVariants as t
use Rattle.gang_types.specs.declared.places.VarId.{VarId}
use Rattle.gang_types.specs.declared.places.VarId.TheVariants.{File, Local}
use Rattle.gang_types.specs.declared.faults.FaultName.TheVariants.{CallDepth}
use Rattle.gang_types.specs.Lanes.{Lanes, no_lane, lanes_where, lowest}
use Rattle.gang_model.specs.Running.Lanes.{Fault, ◌>>=◌, each, at, try_each, holds, members}
use Rattle.gang_model.specs.Types.Tree.{StepNumber, ResultFor, Nothing, Declares, Assigns, Returns, Stmt, Empty, Then, Declare, Assign, Change, If, BodyFirst, Break, Continue, Return, Switch, Segment, ForEach, Call, Check, PackedStore, PackedLoad, Function, Program}
use Rattle.gang_model.specs.Running.State.{Store, Doing, Run, LoopTest, LoopUpdate, Round, RoundEnd, SwitchEnd, Task, Frame, State, with_words_in, with_first, on_top}
use Rattle.gang_model.specs.Running.Rounds.{Turn, rounds}
use Rattle.gang_model.specs.Running.Value.{value}
use Rattle.gang_model.specs.Running.Library.{rank}
use Rattle.gang_model.specs.Running.Step.{task, opened_before, opened, opened_task, settled, with_tasks, first_do, leaves_task, ends_break, ends_turn, broken, continued, returned, returned_on, deliver, left, leave, Passed, new_frame, entered, with_store, round_tasks, round_number, segment_tasks, or_default, labelled, default_of, run, perform, Stepped, Goes, Fails, Over, stepped, step_task, step_frame, step, Written, ToVar, ToElements, write, packed, initial, reached, old_values, passed, part}
use Rattle.gang_model.specs.Debugger.Events.{Event, Step, Poke, Poked, WholeOf, LaneOf, ElementAt, InFrame, Given, started, start, with_rows, initial_memory, poked, gone, happen, after}
use Rattle.gang_model.specs.Debugger.Frames.{state_at}
use Rattle.std.proofs.lemmas.List.{length-replicate}
use Rattle.gang_model.proofs.LaneWords.{if_ok_after, if_ok_bind}
use Rattle.gang_types.specs.LaneLaws.{length-without, length-lanes_where}
use Rattle.gang_model.proofs.RoundLanes.{IsRoundOf, length-rounds}
use Rattle.gang_model.proofs.StandingLaws.{Each}

-- each task has so many lanes
abbrev pub TasksSized : ℕ → List Task → Type 0
TasksSized w [] = Unit {0}
TasksSized w (t ∷ ts) = (length t.lanes ≡ w) × TasksSized w ts

-- the lanes of a frame's call and of its tasks have this size
pub record FrameSized (w : ℕ) (frame : Frame) : Type 0 where
  pub call : length frame.lanes ≡ w
  pub tasks : TasksSized w frame.tasks

-- each frame's sets of lanes have this size
abbrev pub FramesSized : ℕ → List Frame → Type 0
FramesSized w [] = Unit {0}
FramesSized w (frame ∷ frames) = FrameSized w frame × FramesSized w frames

-- each set of lanes of a state has this size
abbrev pub StateSized : ℕ → State → Type 0
StateSized w state = FramesSized w state.frames

module _ (w : ℕ) where
  sized-append : (xs ys : List Task) → TasksSized w xs → TasksSized w ys → TasksSized w (xs ++ ys)
  sized-append [] ys a b = b
  sized-append (t ∷ xs) ys a b = (a.0, sized-append xs ys a.1 b)

  sized-before : (xs next rest : List Task) → TasksSized w xs → TasksSized w next → TasksSized w rest → TasksSized w (opened_before xs next rest)
  sized-before [] next rest a n r = r
  sized-before (t ∷ xs) next rest a n r = sized-append (t ∷ xs) next a n

  sized-opened : (s : Stmt) (lanes : Lanes) → length lanes ≡ w → TasksSized w (opened s lanes)
  sized-opened Empty lanes h = tt
  sized-opened (Then a b) lanes h = sized-before (opened a lanes) _ _ (sized-opened a lanes h) (h, tt) (sized-opened b lanes h)
  sized-opened (BodyFirst number test body) lanes h = sized-before (opened body lanes) _ _ (sized-opened body lanes h) (h, (h, tt)) (h, tt)
  sized-opened s lanes h = (h, tt)

  sized-opened_task : (doing : Doing) (lanes : Lanes) → length lanes ≡ w → TasksSized w (opened_task doing lanes)
  sized-opened_task (Run s) lanes h = sized-opened s lanes h
  sized-opened_task (LoopUpdate s) lanes h = sized-opened s lanes h
  sized-opened_task RoundEnd lanes h = tt
  sized-opened_task SwitchEnd lanes h = tt
  sized-opened_task (LoopTest number e u b) lanes h = (h, tt)
  sized-opened_task (Round number i b) lanes h = (h, tt)

  sized-if : (b : Bool) (xs ys : List Task) → TasksSized w xs → TasksSized w ys → TasksSized w (if b then xs else ys)
  sized-if true xs ys a b = a
  sized-if false xs ys a b = b

  sized-settled : (ts : List Task) → TasksSized w ts → TasksSized w (settled ts)
  sized-settled [] h = tt
  sized-settled (t ∷ ts) h =
      sized-if (no_lane t.lanes) (settled ts) _ (sized-settled ts h.1)
      (sized-before (opened_task t.doing t.lanes) ts (settled ts) (sized-opened_task t.doing t.lanes h.0) h.1 (sized-settled ts h.1))

  sized-leaves : (lanes : Lanes) (ts : List Task) → TasksSized w ts → TasksSized w (map (leaves_task lanes) ts)
  sized-leaves lanes [] h = tt
  sized-leaves lanes (t ∷ ts) h = (length-without t.lanes lanes ∙ h.0, sized-leaves lanes ts h.1)

  sized-broken : (lanes : Lanes) (ts : List Task) → TasksSized w ts → TasksSized w (broken lanes ts)
  sized-broken lanes [] h = tt
  sized-broken lanes (t ∷ ts) h = (length-without t.lanes lanes ∙ h.0, sized-if (ends_break t.doing) ts _ h.1 (sized-broken lanes ts h.1))

  sized-continued : (lanes : Lanes) (ts : List Task) → TasksSized w ts → TasksSized w (continued lanes ts)
  sized-continued lanes [] h = tt
  sized-continued lanes (t ∷ ts) h = sized-if (ends_turn t.doing) (t ∷ ts) _ h (length-without t.lanes lanes ∙ h.0, sized-continued lanes ts h.1)

  sized-first : (change : Frame → Frame) (frames : List Frame) → ((frame : Frame) → FrameSized w frame → FrameSized w (change frame)) → FramesSized w frames → FramesSized w (with_first change frames)
  sized-first change [] keeps h = tt
  sized-first change (frame ∷ frames) keeps h = (keeps frame h.0, h.1)

  sized-tasks : (change : List Task → List Task) → ((ts : List Task) → TasksSized w ts → TasksSized w (change ts)) → (state : State) → StateSized w state → StateSized w (on_top (with_tasks change) state)
  sized-tasks change keeps state h = sized-first _ state.frames (λ frame f. record { call = f.call; tasks = keeps frame.tasks f.tasks }) h

  sized-words : (state : State) (v : VarId) (words : List ℕ) → StateSized w state → StateSized w (with_words_in state v words)
  sized-words state (File n) words h = h
  sized-words state (Local n) words h = sized-first _ state.frames (λ frame f. record { call = f.call; tasks = f.tasks }) h

  sized-write : (written : Written) (lanes : Lanes) (values : List ℕ) (state : State) → StateSized w state → StateSized w (write written lanes values state)
  sized-write (ToVar v) lanes values state h = sized-words state v.id _ h
  sized-write (ToElements view indices) lanes values state h = h

  sized-returned : (rate : Rate) (lanes : Lanes) (values : List ℕ) (frame : Frame) → FrameSized w frame → FrameSized w (returned rate lanes values frame)
  sized-returned rate lanes values frame f = record { call = f.call; tasks = sized-leaves lanes frame.tasks f.tasks }

  sized-returned_on : (f : Option Function) (type : IntType) (lanes : Lanes) (values : List ℕ) (frame : Frame) → FrameSized w frame → FrameSized w (returned_on f type lanes values frame)
  sized-returned_on None type lanes values frame h = h
  sized-returned_on (Some f) type lanes values frame h = sized-returned f.result lanes _ frame h

  sized-deliver : (p : Program) (type : IntType) (for : ResultFor) (lanes : Lanes) (values : List ℕ) (state : State) → StateSized w state → StateSized w (deliver p type for lanes values state)
  sized-deliver p type Nothing lanes values state h = h
  sized-deliver p type (Declares v) lanes values state h = sized-words state v.id _ h
  sized-deliver p type (Assigns v) lanes values state h = sized-words state v.id _ h
  sized-deliver p type Returns lanes values state h = sized-first _ state.frames (λ frame f. sized-returned_on (slice_get p.functions frame.function) type lanes values frame f) h

  sized-packed : (p : Program) (for : ResultFor) (lanes : Lanes) (state : State) → StateSized w state → StateSized w (packed p for lanes state)
  sized-packed p for lanes state h = sized-deliver p t.Int32 for lanes (each lanes (λ k. length (members lanes))) state h

  sized-left : (p : Program) (f : Option Function) (frame : Frame) (state : State) → StateSized w state → StateSized w (left p f frame state)
  sized-left p None frame state h = h
  sized-left p (Some f) frame state h = sized-deliver p f.result_type frame.result_for frame.lanes _ state h

  sized-store : (store : Store) (state : State) → StateSized w state → StateSized w (with_store store state)
  sized-store [] state h = h
  sized-store (entry ∷ store) state h = sized-store store _ (sized-words state entry.0 entry.1 h)

  sized-round_tasks : (number : StepNumber) (body : Stmt) (turns : List Turn) → Each (IsRoundOf w) turns → TasksSized w (round_tasks number body turns)
  sized-round_tasks number body [] h = tt
  sized-round_tasks number body (turn ∷ turns) h = (h.0, sized-round_tasks number body turns h.1)

  sized-segments : (i : ℕ) (s : Stmt) (lanes : Lanes) (entry : ℕ → Option ℕ) → length lanes ≡ w → TasksSized w (segment_tasks i s lanes entry)
  sized-segments i (Segment label body rest) lanes entry l = (length-lanes_where lanes _ ∙ l, sized-segments (suc i) rest lanes entry l)
  sized-segments i s lanes entry l = tt

  sized-first_do : (tasks : List Task) → TasksSized w tasks → (state : State) → StateSized w state → StateSized w (first_do tasks state)
  sized-first_do tasks t state h = sized-tasks _ (λ rest r. sized-append tasks rest t r) state h

  -- ---- the steps, by cases

  then_state : {A : Type 0} (r : Result A Fault) (next : A → Result State Fault) → ((x : A) → IfOk (next x) (StateSized w)) → IfOk (r >>= next) (StateSized w)
  then_state r next go = if_ok_after (StateSized w) r next go

  sized-run : (p : Program) (s : Stmt) (lanes : Lanes) (state : State) → length lanes ≡ w → StateSized w state → IfOk (run p s lanes state) (StateSized w)
  sized-run p (Declare number v init) lanes state l h = then_state (initial init lanes state) _ (λ x. sized-words state v.id _ h)
  sized-run p (Assign number target e) lanes state l h =
      then_state (reached target lanes state) _ (λ a. then_state (value e lanes state) _ (λ x. then_state (old_values a lanes state) _ (λ old. sized-write a lanes x state h)))
  sized-run p (Change number target type op in_type e) lanes state l h =
      then_state (reached target lanes state) _ (λ a. then_state (value e lanes state) _ (λ y. then_state (old_values a lanes state) _ (λ old. then_state (try_each lanes _) _ (λ x. sized-write a lanes _ state h))))
  sized-run p (If number test first other) lanes state l h =
      then_state (value test lanes state) _ (λ c. sized-first_do (task (Run first) (lanes_where lanes (holds c)) ∷ task (Run other) (lanes_where lanes (λ k. not (holds c k))) ∷ []) (length-lanes_where lanes _ ∙ l, (length-lanes_where lanes _ ∙ l, tt)) state h)
  sized-run p (Switch number e segments) lanes state l h = then_state (value e lanes state) _ (λ x.
      sized-first_do (segment_tasks 0 segments lanes (λ k. or_default (labelled 0 segments (at x k)) (default_of 0 segments)) ++ task SwitchEnd lanes ∷ [])
      (sized-append (segment_tasks 0 segments lanes _) _ (sized-segments 0 segments lanes _ l) (l, tt)) state h)
  sized-run p (Break number) lanes state l h = sized-tasks _ (sized-broken lanes) state h
  sized-run p (Continue number) lanes state l h = sized-tasks _ (sized-continued lanes) state h
  sized-run p (Return number e) lanes state l h = then_state (initial e lanes state) _ (λ x. sized-first _ state.frames (λ frame f. sized-returned _ lanes x frame f) h)
  sized-run p (ForEach number form body) lanes state l h = if_ok_bind (Each (IsRoundOf w)) (StateSized w) (rounds form lanes state) _
      (subst (λ n. IfOk (rounds form lanes state) (Each (IsRoundOf n))) l (length-rounds form lanes state))
      (λ turns t. sized-first_do _ (sized-round_tasks (round_number number body) body turns t) state h)
  sized-run p (Call number n args for) lanes state l h = then_state (passed args lanes state) _ (λ arguments. go (slice_get p.functions n) arguments)
    where
      room : (full : Bool) (frame : Frame) (fault : Fault) → FrameSized w frame → IfOk (if full then Err fault else Ok (record state { frames = frame ∷ state.frames })) (StateSized w)
      room true frame fault f = tt
      room false frame fault f = (f, h)

      go : (f : Option Function) (arguments : Passed) → IfOk (entered f n number for arguments lanes state) (StateSized w)
      go None arguments = h
      go (Some f) arguments = room (length state.frames == 64) (new_frame n f lanes (Some number) for arguments) (record { name = CallDepth; lane = lowest lanes }) (record { call = l; tasks = (l, tt) })
  sized-run p (Check number e) lanes state l h = then_state (value e lanes state) _ (λ c. then_state (try_each lanes _) _ (λ x. h))
  sized-run p (PackedStore number array from e for) lanes state l h =
      then_state (part from _ lanes state) _ (λ view. then_state (value e lanes state) _ (λ x. then_state (try_each lanes _) _ (λ there. sized-packed p for lanes (write (ToElements view (each lanes (rank lanes))) lanes x state) (sized-write (ToElements view (each lanes (rank lanes))) lanes x state h))))
  sized-run p (PackedLoad number array from v for) lanes state l h =
      then_state (part from _ lanes state) _ (λ view. then_state (try_each lanes _) _ (λ x. sized-packed p for lanes (write (ToVar v) lanes x state) (sized-write (ToVar v) lanes x state h)))
  sized-run p s lanes state l h = h

  sized-perform : (p : Program) (doing : Doing) (lanes : Lanes) (state : State) → length lanes ≡ w → StateSized w state → IfOk (perform p doing lanes state) (StateSized w)
  sized-perform p (Run s) lanes state l h = sized-run p s lanes state l h
  sized-perform p (LoopUpdate s) lanes state l h = sized-run p s lanes state l h
  sized-perform p (LoopTest number test update body) lanes state l h = then_state (value test lanes state) _ (λ c.
      let stay = lanes_where lanes (holds c) in
      let kept : length stay ≡ w = length-lanes_where lanes _ ∙ l in
      sized-first_do (task (Run body) stay ∷ task (LoopUpdate update) stay ∷ task (LoopTest number test update body) stay ∷ []) (kept, (kept, (kept, tt))) state h)
  sized-perform p (Round number indices body) lanes state l h =
      sized-first_do (task (Run body) lanes ∷ task RoundEnd lanes ∷ []) (l, (l, tt)) (with_store indices state) (sized-store indices state h)
  sized-perform p RoundEnd lanes state l h = h
  sized-perform p SwitchEnd lanes state l h = h

  -- what a step leads to
  abbrev SteppedSized : Stepped → Type 0
  SteppedSized (Goes state) = StateSized w state
  SteppedSized (Fails fault) = Unit {0}
  SteppedSized Over = Unit {0}

  sized-stepped : (r : Result State Fault) → IfOk r (StateSized w) → SteppedSized (stepped r)
  sized-stepped (Ok state) h = sized-tasks settled sized-settled state h
  sized-stepped (Err fault) h = tt

  sized-task : (p : Program) (memory : Store) (frames : List Frame) (frame : Frame) (ts : List Task) → FramesSized w frames → FrameSized w frame → TasksSized w ts → SteppedSized (step_task p memory frames frame ts)
  sized-task p memory frames frame [] h f t =
      let out : State = record { memory = memory; frames = frames } in
      sized-tasks settled sized-settled (leave p frame out) (sized-left p (slice_get p.functions frame.function) frame out h)
  sized-task p memory frames frame (t ∷ ts) h f k =
      let out : State = record { memory = memory; frames = record frame { tasks = ts } ∷ frames } in
      sized-stepped (perform p t.doing t.lanes out) (sized-perform p t.doing t.lanes out k.0 (record { call = f.call; tasks = k.1 }, h))

  -- a step keeps the sizes
  pub sized-frames : (p : Program) (memory : Store) (frames : List Frame) → FramesSized w frames → SteppedSized (step_frame p memory frames)
  sized-frames p memory [] h = tt
  sized-frames p memory (frame ∷ frames) h = sized-task p memory frames frame frame.tasks h.1 h.0 h.0.tasks

  pub sized-step : (p : Program) (state : State) → StateSized w state → SteppedSized (step p state)
  sized-step p state h = sized-frames p state.memory state.frames h

  -- ---- events

  sized-gone : (r : Stepped) (state : State) → StateSized w state → SteppedSized r → StateSized w (gone r state)
  sized-gone (Goes next) state h k = k
  sized-gone (Fails fault) state h k = h
  sized-gone Over state h k = h

  -- frames under others have their sizes where those under them do
  sized-under : (n : ℕ) (frames below : List Frame) → FramesSized w frames → (FramesSized w (drop n frames) → FramesSized w below)
      → FramesSized w (take n frames ++ below)
  sized-under zero frames below h k = k h
  sized-under (suc n) [] below h k = k tt
  sized-under (suc n) (frame ∷ frames) below h k = (h.0, sized-under n frames below h.1 k)

  sized-poked : (what : Poked) (word : ℕ) (state : State) → StateSized w state → StateSized w (poked what word state)
  sized-poked (WholeOf v) word state h = sized-words state v _ h
  sized-poked (LaneOf v k) word state h = sized-words state v _ h
  sized-poked (ElementAt v k) word state h = h
  sized-poked (InFrame deep what) word state h =
      sized-under (length state.frames - deep) state.frames (poked what word (state_at deep state)).frames h (λ k. sized-poked what word (state_at deep state) k)

  sized-happen : (p : Program) (event : Event) (state : State) → StateSized w state → StateSized w (happen p event state)
  sized-happen p Step state h = sized-gone (step p state) state h (sized-step p state h)
  sized-happen p (Poke what word) state h = sized-poked what word state h

  pub sized-after : (p : Program) (first : State) (events : List Event) → StateSized w first → StateSized w (after p first events)
  sized-after p first [] h = h
  sized-after p first (event ∷ events) h = sized-happen p event (after p first events) (sized-after p first events h)

  -- ---- the start

  length-all : (n : ℕ) → length (replicate n true) ≡ n
  length-all n = length-replicate n true

  sized-started : (f : Option Function) (entry : ℕ) (given : Given) → StateSized w (started f entry w given)
  sized-started None entry given = tt
  sized-started (Some f) entry given =
      sized-tasks settled sized-settled (record { memory = given.memory; frames = new_frame entry f (replicate w true) None Nothing given.passed ∷ [] })
      (record { call = length-all w; tasks = (length-all w, tt) }, tt)

  -- the sets of lanes of the first state
  pub sized-start : (p : Program) (entry : ℕ) (rows : _) → StateSized w (start p entry rows w)
  sized-start p entry rows =
      sized-started (slice_get p.functions entry) entry (with_rows rows (record { passed = record { views = []; vars = [] }; memory = initial_memory w p.globals }))
