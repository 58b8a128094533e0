-- In a program whose steps are numbered in running order, the tasks of each frame stand in that order, from the start and after
-- each event.
use Rattle.std.proofs.Common.{◌≡◌, refl, ℕ, zero, ◌+◌, ◌-◌, ◌≤◌, Bool, true, false, List, [], ◌∷◌, ◌++◌, Option, Some, None, suc, arith}
use Rattle.std.specs.Prelude.{Result, Ok, Err, IfOk, map, slice_get, length, replicate, take, drop, not, ◌==◌, if◌then◌else◌}
use Rattle.gang_types.specs.declared.types.Rate.{Rate}
use Rattle.gang_types.specs.declared.types.IntType.{IntType}
use Rattle.gang_types.specs.declared.types.IntType.TheVariants as t
use Rattle.gang_types.specs.declared.places.VarId.{VarId}
use Rattle.gang_types.specs.declared.places.VarId.TheVariants.{File, Local}
use Rattle.gang_types.specs.declared.faults.FaultName.TheVariants.{CallDepth}
use Rattle.gang_types.specs.Lanes.{Lanes, no_lane, lanes_where, lowest}
use Rattle.gang_model.specs.Running.Lanes.{Fault, ◌>>=◌, each, at, try_each, holds, members}
use Rattle.gang_model.specs.Types.Tree.{StepNumber, ResultFor, Nothing, Declares, Assigns, Returns, Stmt, Empty, Then, Declare, Assign, Change, If, Loop, BodyFirst, Break, Continue, Return, Switch, Segment, ForEach, Call, Check, PackedStore, PackedLoad, Function, Program}
use Rattle.gang_model.specs.Running.State.{Store, Doing, Run, LoopTest, LoopUpdate, Round, RoundEnd, SwitchEnd, Task, Frame, State, with_words_in, with_first, on_top}
use Rattle.gang_model.specs.Running.Rounds.{Turn, rounds}
use Rattle.gang_model.specs.Running.Value.{value}
use Rattle.gang_model.specs.Running.Library.{rank}
use Rattle.gang_model.specs.Running.Step.{steps_of, task, opened_before, opened, opened_task, settled, settle, with_tasks, first_do, leaves_task, ends_break, ends_turn, broken, continued, returned, returned_on, deliver, left, leave, Passed, new_frame, entered, with_store, round_tasks, round_number, segment_tasks, or_default, labelled, default_of, run, perform, Stepped, Goes, Fails, Over, stepped, step_task, step_frame, step, Written, ToVar, ToElements, write, packed, initial, reached, old_values, passed, part}
use Rattle.gang_model.specs.Debugger.Events.{Event, Step, Poke, Poked, WholeOf, LaneOf, ElementAt, InFrame, Given, started, start, with_rows, initial_memory, poked, gone, happen, after}
use Rattle.gang_model.specs.Debugger.Frames.{state_at}
use Rattle.gang_model.specs.Running.RunningOrder.{IsNumbered, IsNumberedTask, first_number, past_number, InOrder, FrameInOrder, FramesInOrder, TopInOrder, IsNumberedProgram}
use Rattle.gang_model.proofs.LaneWords.{if_ok_after}

-- ---- lists of tasks

pub first_past : (doing : Doing) (n : ℕ) → first_number doing n ≤ past_number doing n
first_past (Run s) n = omega arith
first_past (LoopUpdate s) n = omega arith
first_past (LoopTest number e u b) n = omega arith
first_past (Round number i b) n = omega arith
first_past RoundEnd n = omega arith
first_past SwitchEnd n = omega arith

pub sooner : (from from' : ℕ) (ts : List Task) (to : ℕ) → from' ≤ from → InOrder from ts to → InOrder from' ts to
sooner from from' [] to h o = omega (arith, h, o)
sooner from from' (t ∷ ts) to h o = (o.0, omega (arith, h, o.1), o.2, o.3)

later : (from : ℕ) (ts : List Task) (to to' : ℕ) → to ≤ to' → InOrder from ts to → InOrder from ts to'
later from [] to to' h o = omega (arith, h, o)
later from (t ∷ ts) to to' h o = (o.0, o.1, o.2, later (past_number t.doing o.0) ts to to' h o.3)

pub joined : (from : ℕ) (xs : List Task) (mid : ℕ) (ys : List Task) (to : ℕ) → InOrder from xs mid → InOrder mid ys to → InOrder from (xs ++ ys) to
joined from [] mid ys to a b = sooner mid from ys to a b
joined from (t ∷ xs) mid ys to a b = (a.0, a.1, a.2, joined (past_number t.doing a.0) xs mid ys to a.3 b)

before_rest : (xs next rest : List Task) (from mid to : ℕ) → InOrder from xs mid → InOrder mid next to → InOrder from rest to → InOrder from (opened_before xs next rest) to
before_rest [] next rest from mid to a n r = r
before_rest (t ∷ xs) next rest from mid to a n r = joined from (t ∷ xs) mid next to a n

opened_in : (s : Stmt) (lanes : Lanes) (n : ℕ) → IsNumbered n s → InOrder n (opened s lanes) (n + steps_of s)
opened_in Empty lanes n h = omega arith
opened_in (Then a b) lanes n h =
    let second : InOrder (n + steps_of a) (opened b lanes) (n + steps_of a + steps_of b) = opened_in b lanes (n + steps_of a) h.1 in
    before_rest (opened a lanes) _ (opened b lanes) n (n + steps_of a) (n + (steps_of a + steps_of b))
    (opened_in a lanes n h.0)
    (n + steps_of a, omega arith, h.1, omega arith)
    (later n (opened b lanes) (n + steps_of a + steps_of b) (n + (steps_of a + steps_of b)) (omega arith) (sooner (n + steps_of a) n (opened b lanes) (n + steps_of a + steps_of b) (omega arith) second))
opened_in (BodyFirst number e b) lanes n h =
    before_rest (opened b lanes) _ _ n (n + steps_of b) (n + (steps_of b + 1))
    (opened_in b lanes n h.1)
    (n + steps_of b, omega arith, tt, (n, omega (arith, h.0), (omega (arith, h.0), h.1, tt), omega (arith, h.0)))
    (n, omega (arith, h.0), (omega (arith, h.0), h.1, tt), omega (arith, h.0))
opened_in (Loop number e u b) lanes n h = (n, omega (arith, h.0), h, omega (arith, h.0))
opened_in s lanes n h = (n, omega arith, h, omega arith)

opened_task_in : (doing : Doing) (lanes : Lanes) (n : ℕ) → IsNumberedTask n doing → InOrder (first_number doing n) (opened_task doing lanes) (past_number doing n)
opened_task_in (Run s) lanes n h = opened_in s lanes n h
opened_task_in (LoopUpdate s) lanes n h = opened_in s lanes n h
opened_task_in (LoopTest number e u b) lanes n h = (n, omega arith, h, omega arith)
opened_task_in (Round number i b) lanes n h = (n, omega arith, h, omega arith)
opened_task_in RoundEnd lanes n h = omega arith
opened_task_in SwitchEnd lanes n h = omega arith

either : (b : Bool) (xs ys : List Task) (from to : ℕ) → InOrder from xs to → InOrder from ys to → InOrder from (if b then xs else ys) to
either true xs ys from to x y = x
either false xs ys from to x y = y

pub settled_in : (ts : List Task) (from to : ℕ) → InOrder from ts to → InOrder from (settled ts) to
settled_in [] from to h = h
settled_in (t ∷ ts) from to h =
    let rest : InOrder from (settled ts) to = sooner (past_number t.doing h.0) from (settled ts) to (omega (arith, h.1, first_past t.doing h.0)) (settled_in ts (past_number t.doing h.0) to h.3) in
    either (no_lane t.lanes) (settled ts) _ from to rest
    (before_rest (opened_task t.doing t.lanes) ts (settled ts) from (past_number t.doing h.0) to
    (sooner (first_number t.doing h.0) from _ (past_number t.doing h.0) h.1 (opened_task_in t.doing t.lanes h.0 h.2)) h.3 rest)

pub leaves_in : (lanes : Lanes) (ts : List Task) (from to : ℕ) → InOrder from ts to → InOrder from (map (leaves_task lanes) ts) to
leaves_in lanes [] from to h = h
leaves_in lanes (t ∷ ts) from to h = (h.0, h.1, h.2, leaves_in lanes ts (past_number t.doing h.0) to h.3)

pub broken_in : (lanes : Lanes) (ts : List Task) (from to : ℕ) → InOrder from ts to → InOrder from (broken lanes ts) to
broken_in lanes [] from to h = h
broken_in lanes (t ∷ ts) from to h =
    (h.0, h.1, h.2, either (ends_break t.doing) ts _ (past_number t.doing h.0) to h.3 (broken_in lanes ts (past_number t.doing h.0) to h.3))

pub continued_in : (lanes : Lanes) (ts : List Task) (from to : ℕ) → InOrder from ts to → InOrder from (continued lanes ts) to
continued_in lanes [] from to h = h
continued_in lanes (t ∷ ts) from to h =
    either (ends_turn t.doing) (t ∷ ts) _ from to h (h.0, h.1, h.2, continued_in lanes ts (past_number t.doing h.0) to h.3)

rounds_in : (number : StepNumber) (body : Stmt) (turns : List Turn) (n : ℕ) → number ≡ n + steps_of body → IsNumbered n body → InOrder number (round_tasks number body turns) number
rounds_in number body [] n e h = omega arith
rounds_in number body (turn ∷ turns) n e h = (n, omega arith, (e, h), rounds_in number body turns n e h)

pub segments_in : (i : ℕ) (s : Stmt) (lanes : Lanes) (entry : ℕ → Option ℕ) (n : ℕ) → IsNumbered n s → InOrder n (segment_tasks i s lanes entry) (n + steps_of s)
segments_in i (Segment label body rest) lanes entry n h =
    (n, omega arith, h.0, later (n + steps_of body) _ (n + steps_of body + steps_of rest) (n + (steps_of body + steps_of rest)) (omega arith) (segments_in (suc i) rest lanes entry (n + steps_of body) h.1))
segments_in i s lanes entry n h = omega arith

-- ---- states

module _ (p : Program) (numbered : IsNumberedProgram p) where
  -- the state's top frame begins at a number
  abbrev From : ℕ → State → Type 0
  From from state = TopInOrder p from state.frames

  all_of : (from : ℕ) (frames : List Frame) → TopInOrder p from frames → FramesInOrder p frames
  all_of from [] h = tt
  all_of from (frame ∷ frames) h =
      (record { function = h.0.function; is_function = h.0.is_function; tasks = sooner from 0 frame.tasks (steps_of h.0.function.body) (omega arith) h.0.tasks }, h.1)

  top_of : (frames : List Frame) → FramesInOrder p frames → TopInOrder p 0 frames
  top_of [] h = tt
  top_of (frame ∷ frames) h = h

  in_top : (change : Frame → Frame) (from to : ℕ) → ((frame : Frame) → FrameInOrder p from frame → FrameInOrder p to (change frame)) → (frames : List Frame) → TopInOrder p from frames → TopInOrder p to (with_first change frames)
  in_top change from to keeps [] h = tt
  in_top change from to keeps (frame ∷ frames) h = (keeps frame h.0, h.1)

  in_tasks : (change : List Task → List Task) (from to : ℕ) → ((ts : List Task) (end : ℕ) → InOrder from ts end → InOrder to (change ts) end) → (state : State) → From from state → From to (on_top (with_tasks change) state)
  in_tasks change from to keeps state h =
      in_top (with_tasks change) from to (λ frame o. record { function = o.function; is_function = o.is_function; tasks = keeps frame.tasks (steps_of o.function.body) o.tasks }) state.frames h

  in_words : (from : ℕ) (state : State) (v : VarId) (words : List ℕ) → From from state → From from (with_words_in state v words)
  in_words from state (File n) words h = h
  in_words from state (Local n) words h =
      in_top _ from from (λ frame o. record { function = o.function; is_function = o.is_function; tasks = o.tasks }) state.frames h

  in_write : (from : ℕ) (written : Written) (lanes : Lanes) (values : List ℕ) (state : State) → From from state → From from (write written lanes values state)
  in_write from (ToVar v) lanes values state h = in_words from state v.id _ h
  in_write from (ToElements view indices) lanes values state h = h

  in_returned : (from : ℕ) (rate : Rate) (lanes : Lanes) (values : List ℕ) (frame : Frame) → FrameInOrder p from frame → FrameInOrder p from (returned rate lanes values frame)
  in_returned from rate lanes values frame o =
      record { function = o.function; is_function = o.is_function; tasks = leaves_in lanes frame.tasks from (steps_of o.function.body) o.tasks }

  in_returned_on : (from : ℕ) (f : Option Function) (type : IntType) (lanes : Lanes) (values : List ℕ) (frame : Frame) → FrameInOrder p from frame → FrameInOrder p from (returned_on f type lanes values frame)
  in_returned_on from None type lanes values frame o = o
  in_returned_on from (Some f) type lanes values frame o = in_returned from f.result lanes _ frame o

  in_deliver : (from : ℕ) (type : IntType) (for : ResultFor) (lanes : Lanes) (values : List ℕ) (state : State) → From from state → From from (deliver p type for lanes values state)
  in_deliver from type Nothing lanes values state h = h
  in_deliver from type (Declares v) lanes values state h = in_words from state v.id _ h
  in_deliver from type (Assigns v) lanes values state h = in_words from state v.id _ h
  in_deliver from type Returns lanes values state h =
      in_top _ from from (λ frame o. in_returned_on from (slice_get p.functions frame.function) type lanes values frame o) state.frames h

  in_packed : (from : ℕ) (for : ResultFor) (lanes : Lanes) (state : State) → From from state → From from (packed p for lanes state)
  in_packed from for lanes state h = in_deliver from t.Int32 for lanes (each lanes (λ k. length (members lanes))) state h

  in_left : (f : Option Function) (frame : Frame) (state : State) → From 0 state → From 0 (left p f frame state)
  in_left None frame state h = h
  in_left (Some f) frame state h = in_deliver 0 f.result_type frame.result_for frame.lanes _ state h

  in_store : (from : ℕ) (store : Store) (state : State) → From from state → From from (with_store store state)
  in_store from [] state h = h
  in_store from (entry ∷ store) state h = in_store from store _ (in_words from state entry.0 entry.1 h)

  -- tasks up to a number before those from there on
  in_first_do : (tasks : List Task) (mid from : ℕ) → InOrder 0 tasks mid → mid ≤ from → (state : State) → From from state → From 0 (first_do tasks state)
  in_first_do tasks mid from o le state h =
      in_tasks _ from 0 (λ rest end r. joined 0 tasks mid rest end o (sooner from mid rest end le r)) state h

  down : (from : ℕ) (state : State) → From from state → From 0 state
  down from state h = top_of state.frames (all_of from state.frames h)

  -- ---- the steps, by cases

  then_in : {A : Type 0} (r : Result A Fault) (next : A → Result State Fault) → ((x : A) → IfOk (next x) (From 0)) → IfOk (r >>= next) (From 0)
  then_in r next go = if_ok_after (From 0) r next go

  in_run : (s : Stmt) (lanes : Lanes) (state : State) (n : ℕ) → IsNumbered n s → From (n + steps_of s) state → IfOk (run p s lanes state) (From 0)
  in_run (Declare number v init) lanes state n o h = then_in (initial init lanes state) _ (λ x. in_words 0 state v.id _ (down _ state h))
  in_run (Assign number target e) lanes state n o h =
      then_in (reached target lanes state) _ (λ a. then_in (value e lanes state) _ (λ x. then_in (old_values a lanes state) _ (λ old. in_write 0 a lanes x state (down _ state h))))
  in_run (Change number target type op in_type e) lanes state n o h =
      then_in (reached target lanes state) _ (λ a. then_in (value e lanes state) _ (λ y. then_in (old_values a lanes state) _ (λ old. then_in (try_each lanes _) _ (λ x. in_write 0 a lanes _ state (down _ state h)))))
  in_run (If number test first other) lanes state n o h =
      then_in (value test lanes state) _ (λ c. in_first_do (task (Run first) (lanes_where lanes (holds c)) ∷ task (Run other) (lanes_where lanes (λ k. not (holds c k))) ∷ [])
      (n + (1 + steps_of first + steps_of other)) (n + (1 + steps_of first + steps_of other))
      (n + 1, omega arith, o.1, (n + 1 + steps_of first, omega arith, o.2, omega arith)) (omega arith) state h)
  in_run (Switch number e segments) lanes state n o h = then_in (value e lanes state) _ (λ x.
      in_first_do (segment_tasks 0 segments lanes (λ k. or_default (labelled 0 segments (at x k)) (default_of 0 segments)) ++ task SwitchEnd lanes ∷ [])
      (n + 1 + steps_of segments) (n + (1 + steps_of segments))
      (joined 0 (segment_tasks 0 segments lanes _) (n + 1 + steps_of segments) (task SwitchEnd lanes ∷ []) (n + 1 + steps_of segments)
      (sooner (n + 1) 0 (segment_tasks 0 segments lanes _) (n + 1 + steps_of segments) (omega arith) (segments_in 0 segments lanes _ (n + 1) o.1))
      (n + 1 + steps_of segments, omega arith, tt, omega arith)) (omega arith) state h)
  in_run (Break number) lanes state n o h = in_tasks _ (n + 1) 0 (λ ts end r. sooner (n + 1) 0 (broken lanes ts) end (omega arith) (broken_in lanes ts (n + 1) end r)) state h
  in_run (Continue number) lanes state n o h = in_tasks _ (n + 1) 0 (λ ts end r. sooner (n + 1) 0 (continued lanes ts) end (omega arith) (continued_in lanes ts (n + 1) end r)) state h
  in_run (Return number e) lanes state n o h =
      then_in (initial e lanes state) _ (λ x. in_top _ 0 0 (λ frame r. in_returned 0 _ lanes x frame r) state.frames (down _ state h))
  in_run (ForEach number form body) lanes state n o h = then_in (rounds form lanes state) _ (λ turns.
      in_first_do (round_tasks (round_number number body) body turns) (round_number number body) (n + (steps_of body + 2))
      (sooner (round_number number body) 0 (round_tasks (round_number number body) body turns) (round_number number body) (omega arith)
      (rounds_in (round_number number body) body turns (n + 1) (omega (arith, o.0)) o.1)) (omega (arith, o.0)) state h)
  in_run (Call number m args for) lanes state n o h = then_in (passed args lanes state) _ (λ arguments. go (slice_get p.functions m) refl arguments)
    where
      room : (full : Bool) (frame : Frame) (fault : Fault) → FrameInOrder p 0 frame → IfOk (if full then Err fault else Ok (record state { frames = frame ∷ state.frames })) (From 0)
      room true frame fault f = tt
      room false frame fault f = (f, all_of _ state.frames h)

      go : (f : Option Function) → slice_get p.functions m ≡ f → (arguments : Passed) → IfOk (entered f m number for arguments lanes state) (From 0)
      go None is arguments = down _ state h
      go (Some f) is arguments = room (length state.frames == 64) (new_frame m f lanes (Some number) for arguments) (record { name = CallDepth; lane = lowest lanes })
          (record { function = f; is_function = is; tasks = (0, omega arith, numbered m f is, omega arith) })
  in_run (Check number e) lanes state n o h = then_in (value e lanes state) _ (λ c. then_in (try_each lanes _) _ (λ x. down _ state h))
  in_run (PackedStore number array from e for) lanes state n o h =
      then_in (part from _ lanes state) _ (λ view. then_in (value e lanes state) _ (λ x. then_in (try_each lanes _) _ (λ there.
      in_packed 0 for lanes (write (ToElements view (each lanes (rank lanes))) lanes x state) (in_write 0 (ToElements view (each lanes (rank lanes))) lanes x state (down _ state h)))))
  in_run (PackedLoad number array from v for) lanes state n o h =
      then_in (part from _ lanes state) _ (λ view. then_in (try_each lanes _) _ (λ x. in_packed 0 for lanes (write (ToVar v) lanes x state) (in_write 0 (ToVar v) lanes x state (down _ state h))))
  in_run s lanes state n o h = down _ state h

  in_perform : (doing : Doing) (lanes : Lanes) (state : State) (n : ℕ) → IsNumberedTask n doing → From (past_number doing n) state → IfOk (perform p doing lanes state) (From 0)
  in_perform (Run s) lanes state n o h = in_run s lanes state n o h
  in_perform (LoopUpdate s) lanes state n o h = in_run s lanes state n o h
  in_perform (LoopTest number test update body) lanes state n o h = then_in (value test lanes state) _ (λ c.
      let stay = lanes_where lanes (holds c) in
      in_first_do (task (Run body) stay ∷ task (LoopUpdate update) stay ∷ task (LoopTest number test update body) stay ∷ []) (number + 1) (number + 1)
      (n, omega arith, o.1, (n + steps_of body, omega arith, o.2, (n, omega (arith, o.0), o, omega arith))) (omega arith) state h)
  in_perform (Round number indices body) lanes state n o h =
      in_first_do (task (Run body) lanes ∷ task RoundEnd lanes ∷ []) number number
      (n, omega arith, o.1, (n + steps_of body, omega arith, tt, omega (arith, o.0))) (omega arith) (with_store indices state) (in_store number indices state h)
  in_perform RoundEnd lanes state n o h = down _ state h
  in_perform SwitchEnd lanes state n o h = down _ state h

  in_settle : (state : State) → From 0 state → From 0 (settle state)
  in_settle state h = in_tasks settled 0 0 (λ ts end r. settled_in ts 0 end r) state h

  -- what a step leads to
  abbrev SteppedInOrder : Stepped → Type 0
  SteppedInOrder (Goes state) = FramesInOrder p state.frames
  SteppedInOrder (Fails fault) = Unit {0}
  SteppedInOrder Over = Unit {0}

  in_stepped : (r : Result State Fault) → IfOk r (From 0) → SteppedInOrder (stepped r)
  in_stepped (Ok state) h = all_of 0 (settle state).frames (in_settle state h)
  in_stepped (Err fault) h = tt

  in_task : (memory : Store) (frames : List Frame) (frame : Frame) (ts : List Task) → FramesInOrder p frames → (f : Function) → slice_get p.functions frame.function ≡ Some f → InOrder 0 ts (steps_of f.body) → SteppedInOrder (step_task p memory frames frame ts)
  in_task memory frames frame [] h f is o =
      let out : State = record { memory = memory; frames = frames } in
      all_of 0 (settle (leave p frame out)).frames (in_settle (leave p frame out) (in_left (slice_get p.functions frame.function) frame out (top_of frames h)))
  in_task memory frames frame (t ∷ ts) h f is o =
      let out : State = record { memory = memory; frames = record frame { tasks = ts } ∷ frames } in
      in_stepped (perform p t.doing t.lanes out) (in_perform t.doing t.lanes out o.0 o.2 (record { function = f; is_function = is; tasks = o.3 }, h))

  in_frames : (memory : Store) (frames : List Frame) → FramesInOrder p frames → SteppedInOrder (step_frame p memory frames)
  in_frames memory [] h = tt
  in_frames memory (frame ∷ frames) h = in_task memory frames frame frame.tasks h.1 h.0.function h.0.is_function h.0.tasks

  -- a step keeps the order
  pub in_step : (state : State) → FramesInOrder p state.frames → SteppedInOrder (step p state)
  in_step state h = in_frames state.memory state.frames h

  -- ---- events and the start

  in_gone : (r : Stepped) (state : State) → FramesInOrder p state.frames → SteppedInOrder r → FramesInOrder p (gone r state).frames
  in_gone (Goes next) state h k = k
  in_gone (Fails fault) state h k = h
  in_gone Over state h k = h

  in_poke : (state : State) (v : VarId) (words : List ℕ) → FramesInOrder p state.frames → FramesInOrder p (with_words_in state v words).frames
  in_poke state v words h = all_of 0 (with_words_in state v words).frames (in_words 0 state v words (top_of state.frames h))

  -- frames under others keep the order where those under them do
  in_under : (n : ℕ) (frames below : List Frame) → FramesInOrder p frames → (FramesInOrder p (drop n frames) → FramesInOrder p below)
      → FramesInOrder p (take n frames ++ below)
  in_under zero frames below h k = k h
  in_under (suc n) [] below h k = k tt
  in_under (suc n) (frame ∷ frames) below h k = (h.0, in_under n frames below h.1 k)

  in_poked : (what : Poked) (word : ℕ) (state : State) → FramesInOrder p state.frames → FramesInOrder p (poked what word state).frames
  in_poked (WholeOf v) word state h = in_poke state v _ h
  in_poked (LaneOf v k) word state h = in_poke state v _ h
  in_poked (ElementAt v k) word state h = h
  in_poked (InFrame deep what) word state h =
      in_under (length state.frames - deep) state.frames (poked what word (state_at deep state)).frames h (λ k. in_poked what word (state_at deep state) k)

  in_happen : (event : Event) (state : State) → FramesInOrder p state.frames → FramesInOrder p (happen p event state).frames
  in_happen Step state h = in_gone (step p state) state h (in_step state h)
  in_happen (Poke what word) state h = in_poked what word state h

  pub in_after : (first : State) (events : List Event) → FramesInOrder p first.frames → FramesInOrder p (after p first events).frames
  in_after first [] h = h
  in_after first (event ∷ events) h = in_happen event (after p first events) (in_after first events h)

  in_started : (entry : ℕ) (f : Option Function) (width : ℕ) (given : Given) → slice_get p.functions entry ≡ f → FramesInOrder p (started f entry width given).frames
  in_started entry None width given is = tt
  in_started entry (Some f) width given is =
      let first : State = record { memory = given.memory; frames = new_frame entry f (replicate width true) None Nothing given.passed ∷ [] } in
      all_of 0 (settle first).frames (in_settle first (record { function = f; is_function = is; tasks = (0, omega arith, numbered entry f is, omega arith) }, tt))

  -- the tasks of the first state
  pub in_start : (entry : ℕ) (rows : _) (width : ℕ) → FramesInOrder p (start p entry rows width).frames
  in_start entry rows width =
      in_started entry (slice_get p.functions entry) width (with_rows rows (record { passed = record { views = []; vars = [] }; memory = initial_memory width p.globals })) refl
