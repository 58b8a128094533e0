-- The frames of a run, by their functions and the steps that made them.
use Rattle.std.proofs.Common.{◌≡◌, refl, sym, ap, ◌∙◌, subst, ℕ, zero, suc, ◌-◌, ◌<◌, ◌≤◌, Bool, true, false, List, [], ◌∷◌, ◌++◌, length, map, drop, Option, Some, None, inl, inr, arith}
use Rattle.std.specs.Prelude.{Result, Ok, Err, IfOk, ◌⊎◌, ◌==◌, is_none, max, not, nat_lt, slice_get, take, if◌then◌else◌}
use Rattle.std.proofs.lemmas.Bool.Decides.{nat_tests}
use Rattle.gang_types.specs.declared.types.IntType.{IntType}
use Rattle.gang_types.specs.declared.types.IntType.TheVariants as t
use Rattle.gang_types.specs.declared.places.VarId.{VarId}
use Rattle.gang_types.specs.declared.places.VarId.TheVariants.{File, Local}
use Rattle.gang_types.specs.declared.faults.FaultName.TheVariants.{CallDepth}
use Rattle.gang_types.specs.Lanes.{Lanes, lanes_where, lowest}
use Rattle.gang_model.specs.Running.Lanes.{Fault, ◌>>=◌, each, holds, try_each, members}
use Rattle.gang_model.specs.Types.Tree.{StepNumber, ResultFor, Nothing, Declares, Assigns, Returns, Stmt, Declare, Assign, Change, If, Break, Continue, Return, Switch, ForEach, Call, Check, PackedStore, PackedLoad, Function, Program}
use Rattle.gang_model.specs.Running.State.{Store, Doing, Run, LoopTest, LoopUpdate, Round, RoundEnd, SwitchEnd, Task, Frame, State, with_var, with_words_in, with_first, on_top}
use Rattle.gang_model.specs.Running.Rounds.{rounds}
use Rattle.gang_model.specs.Running.Value.{value}
use Rattle.gang_model.specs.Running.Library.{rank}
use Rattle.gang_model.specs.Running.Step.{deliver, left, leave, Passed, new_frame, entered, returned_on, with_store, run, perform, Stepped, Goes, Fails, Over, stepped, settle, settled, first_do, task, with_tasks, broken, continued, returned, result_rate, step_task, step_frame, step, Written, ToVar, ToElements, write, packed, initial, reached, old_values, passed, part}
use Rattle.gang_model.specs.Debugger.Events.{Event, Step, Poke, Poked, WholeOf, LaneOf, ElementAt, InFrame, poked, gone, happen, after}
use Rattle.gang_model.specs.Debugger.Frames.{state_at}
use Rattle.gang_model.specs.Debugger.Positions.{call_at, call_spot, spot_in, spot_now}
use Rattle.gang_model.specs.Texts.Text.{Bytes}
use Rattle.gang_model.proofs.LaneWords.{if_ok_after}
use Rattle.gang_types.specs.declared.places.Spot.{Spot}
use Rattle.debug_traits.specs.Frames.{frames_at, spot_at}
use Rattle.lane_counts.specs.declared.tally.Tally.{Tally}
use Rattle.lane_counts.specs.Tallies.{Follows, HasFrames}
use Rattle.lane_profile.specs.Stands.{functions_of, name_of, stand_of}

-- the function of a frame, and the step that made it
abbrev pub Key : Type 0
Key = ℕ × Option StepNumber

abbrev pub key : Frame → Key
key frame = (frame.function, frame.call)

abbrev pub keys : List Frame → List Key
keys frames = map key frames

-- each frame but the bottom one was made by a step
abbrev pub AreMade : List Key → Type 0
AreMade [] = Unit {0}
AreMade (one ∷ []) = Unit {0}
AreMade (one ∷ below ∷ rest) = (is_none one.1 ≡ false) × AreMade (below ∷ rest)

-- some frames may have been left, or there is one more, which a step made
abbrev pub IsStepped : (old new : List Key) → Type 0
IsStepped old new = ((gone : List Key) × (old ≡ gone ++ new)) ⊎ ((one : Key) × (new ≡ one ∷ old) × (is_none one.1 ≡ false))

-- ---- one step

same_first : (change : Frame → Frame) → ((frame : Frame) → key (change frame) ≡ key frame) → (frames : List Frame) → keys (with_first change frames) ≡ keys frames
same_first change same [] = refl
same_first change same (frame ∷ frames) = ap (λ k. k ∷ keys frames) (same frame)

same_result : (f : Option Function) (type : IntType) (lanes : Lanes) (values : List ℕ) (frame : Frame) → key (returned_on f type lanes values frame) ≡ key frame
same_result None type lanes values frame = refl
same_result (Some f) type lanes values frame = refl

module _ (ks : List Key) where
  abbrev Same : State → Type 0
  Same state = keys state.frames ≡ ks

  abbrev After : State → Type 0
  After state = IsStepped ks (keys state.frames)

  as_before : (state : State) → Same state → After state
  as_before state h = inl ([], sym h)

  same_top : (change : Frame → Frame) → ((frame : Frame) → key (change frame) ≡ key frame) → (state : State) → Same state → Same (on_top change state)
  same_top change same state h = same_first change same state.frames ∙ h

  after_top : (change : Frame → Frame) → ((frame : Frame) → key (change frame) ≡ key frame) → (state : State) → Same state → After (on_top change state)
  after_top change same state h = as_before (on_top change state) (same_top change same state h)

  same_words : (state : State) (v : VarId) (words : List ℕ) → Same state → Same (with_words_in state v words)
  same_words state (File n) words h = h
  same_words state (Local n) words h = same_top (with_var (Local n) words) (λ frame. refl) state h

  same_write : (written : Written) (lanes : Lanes) (values : List ℕ) (state : State) → Same state → Same (write written lanes values state)
  same_write (ToVar v) lanes values state h = same_words state v.id _ h
  same_write (ToElements view indices) lanes values state h = h

  same_deliver : (p : Program) (type : IntType) (for : ResultFor) (lanes : Lanes) (values : List ℕ) (state : State) → Same state → Same (deliver p type for lanes values state)
  same_deliver p type Nothing lanes values state h = h
  same_deliver p type (Declares v) lanes values state h = same_words state v.id _ h
  same_deliver p type (Assigns v) lanes values state h = same_words state v.id _ h
  same_deliver p type Returns lanes values state h = same_top (λ frame. returned_on (slice_get p.functions frame.function) type lanes values frame) (λ frame. same_result (slice_get p.functions frame.function) type lanes values frame) state h

  same_packed : (p : Program) (for : ResultFor) (lanes : Lanes) (state : State) → Same state → Same (packed p for lanes state)
  same_packed p for lanes state h = same_deliver p t.Int32 for lanes (each lanes (λ k. length (members lanes))) state h

  same_left : (p : Program) (f : Option Function) (frame : Frame) (state : State) → Same state → Same (left p f frame state)
  same_left p None frame state h = h
  same_left p (Some f) frame state h = same_deliver p f.result_type frame.result_for frame.lanes _ state h

  same_store : (store : Store) (state : State) → Same state → Same (with_store store state)
  same_store [] state h = h
  same_store (entry ∷ store) state h = same_store store _ (same_words state entry.0 entry.1 h)

  after_words : (state : State) (v : VarId) (words : List ℕ) → Same state → After (with_words_in state v words)
  after_words state v words h = as_before (with_words_in state v words) (same_words state v words h)

  after_write : (written : Written) (lanes : Lanes) (values : List ℕ) (state : State) → Same state → After (write written lanes values state)
  after_write written lanes values state h = as_before (write written lanes values state) (same_write written lanes values state h)

  after_packed : (p : Program) (for : ResultFor) (lanes : Lanes) (state : State) → Same state → After (packed p for lanes state)
  after_packed p for lanes state h = as_before (packed p for lanes state) (same_packed p for lanes state h)

  after_first : (tasks : List Task) (state : State) → Same state → After (first_do tasks state)
  after_first tasks state h = after_top (with_tasks (λ rest. tasks ++ rest)) (λ frame. refl) state h

  then_after : {A : Type 0} (r : Result A Fault) (next : A → Result State Fault) → ((x : A) → IfOk (next x) After) → IfOk (r >>= next) After
  then_after r next go = if_ok_after After r next go

  after_entered : (f : Option Function) (n number : ℕ) (for : ResultFor) (arguments : Passed) (lanes : Lanes) (state : State) → Same state → IfOk (entered f n number for arguments lanes state) After
  after_entered None n number for arguments lanes state h = as_before state h
  after_entered (Some f) n number for arguments lanes state h = room (length state.frames == 64)
    where
      room : (full : Bool) → IfOk {E = Fault} (if full then Err (record { name = CallDepth; lane = lowest lanes }) else Ok (record state { frames = new_frame n f lanes (Some number) for arguments ∷ state.frames })) After
      room true = tt
      room false = inr ((n, Some number), ap (λ rest. (n, Some number) ∷ rest) h, refl)

  after_run : (p : Program) (s : Stmt) (lanes : Lanes) (state : State) → Same state → IfOk (run p s lanes state) After
  after_run p (Declare number v init) lanes state h = then_after (initial init lanes state) _ (λ x. after_words state v.id _ h)
  after_run p (Assign number target e) lanes state h =
      then_after (reached target lanes state) _ (λ a. then_after (value e lanes state) _ (λ x. then_after (old_values a lanes state) _ (λ old. after_write a lanes x state h)))
  after_run p (Change number target type op in_type e) lanes state h =
      then_after (reached target lanes state) _ (λ a. then_after (value e lanes state) _ (λ y. then_after (old_values a lanes state) _ (λ old. then_after (try_each lanes _) _ (λ x. after_write a lanes _ state h))))
  after_run p (If number test first other) lanes state h = then_after (value test lanes state) _ (λ c.
      after_first (task (Run first) (lanes_where lanes (holds c)) ∷ task (Run other) (lanes_where lanes (λ k. not (holds c k))) ∷ []) state h)
  after_run p (Switch number e segments) lanes state h = then_after (value e lanes state) _ (λ x. after_first _ state h)
  after_run p (Break number) lanes state h = after_top (with_tasks (broken lanes)) (λ frame. refl) state h
  after_run p (Continue number) lanes state h = after_top (with_tasks (continued lanes)) (λ frame. refl) state h
  after_run p (Return number e) lanes state h = then_after (initial e lanes state) _ (λ x. after_top (λ frame. returned (result_rate p frame) lanes x frame) (λ frame. refl) state h)
  after_run p (ForEach number form body) lanes state h = then_after (rounds form lanes state) _ (λ turns. after_first _ state h)
  after_run p (Call number n args for) lanes state h = then_after (passed args lanes state) _ (λ arguments. after_entered (slice_get p.functions n) n number for arguments lanes state h)
  after_run p (Check number e) lanes state h = then_after (value e lanes state) _ (λ c. then_after (try_each lanes _) _ (λ x. as_before state h))
  after_run p (PackedStore number array from e for) lanes state h =
      then_after (part from _ lanes state) _ (λ view. then_after (value e lanes state) _ (λ x. then_after (try_each lanes _) _ (λ there.
      after_packed p for lanes (write (ToElements view (each lanes (rank lanes))) lanes x state) (same_write (ToElements view (each lanes (rank lanes))) lanes x state h))))
  after_run p (PackedLoad number array from v for) lanes state h =
      then_after (part from _ lanes state) _ (λ view. then_after (try_each lanes _) _ (λ x. after_packed p for lanes (write (ToVar v) lanes x state) (same_write (ToVar v) lanes x state h)))
  after_run p s lanes state h = as_before state h

  after_perform : (p : Program) (doing : Doing) (lanes : Lanes) (state : State) → Same state → IfOk (perform p doing lanes state) After
  after_perform p (Run s) lanes state h = after_run p s lanes state h
  after_perform p (LoopUpdate s) lanes state h = after_run p s lanes state h
  after_perform p (LoopTest number test update body) lanes state h = then_after (value test lanes state) _ (λ c.
      let stay = lanes_where lanes (holds c) in
      after_first (task (Run body) stay ∷ task (LoopUpdate update) stay ∷ task (LoopTest number test update body) stay ∷ []) state h)
  after_perform p (Round number indices body) lanes state h = after_first (task (Run body) lanes ∷ task RoundEnd lanes ∷ []) (with_store indices state) (same_store indices state h)
  after_perform p RoundEnd lanes state h = as_before state h
  after_perform p SwitchEnd lanes state h = as_before state h

  after_settled : (state : State) → After state → After (settle state)
  after_settled state h = subst (IsStepped ks) (sym (same_first (with_tasks settled) (λ frame. refl) state.frames)) h

  -- what a step leads to
  abbrev SteppedAfter : Stepped → Type 0
  SteppedAfter (Goes state) = After state
  SteppedAfter (Fails fault) = Unit {0}
  SteppedAfter Over = Unit {0}

  after_stepped : (r : Result State Fault) → IfOk r After → SteppedAfter (stepped r)
  after_stepped (Ok state) h = after_settled state h
  after_stepped (Err fault) h = tt

after_task : (p : Program) (memory : Store) (frames : List Frame) (frame : Frame) (ts : List Task) → SteppedAfter (keys (frame ∷ frames)) (step_task p memory frames frame ts)
after_task p memory frames frame [] =
    let out : State = record { memory = memory; frames = frames } in
    let same : keys (leave p frame out).frames ≡ keys frames = same_left (keys frames) p (slice_get p.functions frame.function) frame out refl in
    after_settled (keys (frame ∷ frames)) (leave p frame out) (inl (key frame ∷ [], ap (λ ks. key frame ∷ ks) (sym same)))
after_task p memory frames frame (t ∷ ts) =
    let out : State = record { memory = memory; frames = record frame { tasks = ts } ∷ frames } in
    after_stepped (keys (frame ∷ frames)) (perform p t.doing t.lanes out) (after_perform (keys (frame ∷ frames)) p t.doing t.lanes out refl)

after_frames : (p : Program) (memory : Store) (frames : List Frame) → SteppedAfter (keys frames) (step_frame p memory frames)
after_frames p memory [] = tt
after_frames p memory (frame ∷ frames) = after_task p memory frames frame frame.tasks

pub is_stepped : (p : Program) (state next : State) → step p state ≡ Goes next → IsStepped (keys state.frames) (keys next.frames)
is_stepped p state next goes = subst (SteppedAfter (keys state.frames)) goes (after_frames p state.memory state.frames)

-- ---- frames that steps made, after events

made_below : (gone ks : List Key) → AreMade (gone ++ ks) → AreMade ks
made_below [] ks made = made
made_below (one ∷ []) [] made = tt
made_below (one ∷ []) (k ∷ ks) made = made.1
made_below (one ∷ other ∷ gone) ks made = made_below (other ∷ gone) ks made.1

made_on : (one : Key) (ks : List Key) → is_none one.1 ≡ false → AreMade ks → AreMade (one ∷ ks)
made_on one [] is made = tt
made_on one (k ∷ ks) is made = (is, made)

made_stepped : (old new : List Key) → IsStepped old new → AreMade old → AreMade new
made_stepped old new is made = elim is [
  | inl fewer ↦ made_below fewer.0 new (subst AreMade fewer.1 made)
  | inr more ↦ subst AreMade (sym more.1) (made_on more.0 old more.2 made)
]

made_gone : (p : Program) (state : State) (r : Stepped) → step p state ≡ r → AreMade (keys state.frames) → AreMade (keys (gone r state).frames)
made_gone p state (Goes next) is made = made_stepped (keys state.frames) (keys next.frames) (is_stepped p state next is) made
made_gone p state (Fails fault) is made = made
made_gone p state Over is made = made

keys_under : (n : ℕ) (frames below : List Frame) → keys below ≡ keys (drop n frames) → keys (take n frames ++ below) ≡ keys frames
keys_under zero frames below same = same
keys_under (suc n) [] below same = same
keys_under (suc n) (frame ∷ frames) below same = ap (λ ks. key frame ∷ ks) (keys_under n frames below same)

made_poked : (what : Poked) (word : ℕ) (state : State) → keys (poked what word state).frames ≡ keys state.frames
made_poked (WholeOf v) word state = same_words (keys state.frames) state v _ refl
made_poked (LaneOf v k) word state = same_words (keys state.frames) state v _ refl
made_poked (ElementAt v k) word state = refl
made_poked (InFrame deep what) word state =
    keys_under (length state.frames - deep) state.frames (poked what word (state_at deep state)).frames (made_poked what word (state_at deep state))

made_happen : (p : Program) (event : Event) (state : State) → AreMade (keys state.frames) → AreMade (keys (happen p event state).frames)
made_happen p Step state made = made_gone p state (step p state) refl made
made_happen p (Poke what word) state made = subst AreMade (sym (made_poked what word state)) made

made_after : (p : Program) (first : State) (events : List Event) → AreMade (keys first.frames) → AreMade (keys (after p first events).frames)
made_after p first [] made = made
made_after p first (event ∷ events) made = made_happen p event (after p first events) (made_after p first events made)

made_alone : (frames : List Frame) → length frames ≤ 1 → AreMade (keys frames)
made_alone [] few = tt
made_alone (frame ∷ []) few = tt
made_alone (frame ∷ other ∷ frames) few = absurd (omega (arith, few))

-- after a program began with one frame, steps made the others
pub are_made : (p : Program) (first : State) (events : List Event) → length first.frames ≤ 1 → AreMade (keys (after p first events).frames)
are_made p first events few = made_after p first events (made_alone first.frames few)

-- ---- the functions of frames

module _ (p : Program) where
  abbrev named : Key → Bytes
  named one = name_of (slice_get p.functions one.0)

  functions_by : (frames : List Frame) → functions_of p frames ≡ map named (keys frames)
  functions_by [] = refl
  functions_by (frame ∷ frames) = ap (λ names. name_of (slice_get p.functions frame.function) ∷ names) (functions_by frames)

  map_on : (xs ys : List Key) → map named (xs ++ ys) ≡ map named xs ++ map named ys
  map_on [] ys = refl
  map_on (x ∷ xs) ys = ap (λ names. named x ∷ names) (map_on xs ys)

  tail_on : (gone ks : List Key) → (left : List Bytes) × (map named (gone ++ ks) ≡ left ++ drop 1 (map named ks))
  tail_on gone [] = (map named gone, map_on gone [])
  tail_on gone (k ∷ ks) = (map named gone ++ named k ∷ [], map_on gone (k ∷ ks) ∙ split (map named gone) (named k) (map named ks))
    where
      split : (xs : List Bytes) (y : Bytes) (ys : List Bytes) → xs ++ y ∷ ys ≡ (xs ++ y ∷ []) ++ ys
      split [] y ys = refl
      split (x ∷ xs) y ys = ap (λ names. x ∷ names) (split xs y ys)

  tail_stepped : (old new : List Key) → IsStepped old new → (left : List Bytes) × (map named old ≡ left ++ drop 1 (map named new))
  tail_stepped old new is = elim is [
    | inl fewer ↦ let tail = tail_on fewer.0 new in (tail.0, ap (map named) fewer.1 ∙ tail.1)
    | inr more ↦ ([], sym (ap (λ ks. drop 1 (map named ks)) more.1))
  ]

  -- the frames below that of the next step stood at this one
  pub follows_on : (tally : Tally) (here next : State) → step p here ≡ Goes next → HasFrames tally (stand_of p here).functions → Follows tally (stand_of p next)
  follows_on tally here next goes has =
      let tail = tail_stepped (keys here.frames) (keys next.frames) (is_stepped p here next goes) in
      let same : functions_of p here.frames ≡ tail.0 ++ drop 1 (functions_of p next.frames) =
      functions_by here.frames ∙ tail.1 ∙ ap (λ names. tail.0 ++ drop 1 names) (sym (functions_by next.frames)) in
      (tail.0, subst (HasFrames tally) same has)

  -- those that stand where the counting begins
  pub follows_first : (tally : Tally) (state : State) → HasFrames tally (functions_of p (drop 1 state.frames)) → Follows tally (stand_of p state)
  follows_first tally state has = ([], subst (HasFrames tally) (tail state.frames) has)
    where
      tail : (frames : List Frame) → functions_of p (drop 1 frames) ≡ drop 1 (functions_of p frames)
      tail [] = refl
      tail (frame ∷ frames) = refl

-- ---- the frame at a depth

some_call : (function : ℕ) (call : Option StepNumber) → is_none call ≡ false → (number : ℕ) × (call_spot function call ≡ Some (spot_in function number))
some_call function None is = absurd (cc is)
some_call function (Some number) is = (number, refl)

-- the frame at a depth below the top one, and where it stands
pub record Lies (deep : ℕ) (frames : List Frame) : Type 0 where
  pub frame : Frame
  pub number : ℕ
  pub spot : call_at (suc deep) frames ≡ Some (spot_in frame.function number)
  pub lie : frames_at deep frames ≡ frame ∷ frames_at (deep - 1) frames

pub lies : (deep : ℕ) (frames : List Frame) → AreMade (keys frames) → 1 ≤ deep → deep < length frames → Lies deep frames
lies deep [] made one few = absurd (omega (arith, few))
lies deep (frame ∷ []) made one few = absurd (omega (arith, one, few))
lies deep (frame ∷ below ∷ frames) made one few = go (length (frame ∷ below ∷ frames) == suc deep) refl (λ other. lies deep (below ∷ frames) made.1 one other)
  where
    go : (b : Bool) → (length (frame ∷ below ∷ frames) == suc deep) ≡ b → (deep < length (below ∷ frames) → Lies deep (below ∷ frames)) → Lies deep (frame ∷ below ∷ frames)
    go true e lower =
        let call = some_call below.function frame.call made.0 in
        let here : length (frame ∷ below ∷ frames) - deep ≡ 1 = grind (arith, nat_tests) in
        let next : length (frame ∷ below ∷ frames) - (deep - 1) ≡ 2 = grind (arith, nat_tests) in record {
          frame = below;
          number = call.0;
          spot = ap (λ b. if b then call_spot below.function frame.call else call_at (suc deep) (below ∷ frames)) e ∙ call.1;
          lie = ap (λ n. drop n (frame ∷ below ∷ frames)) here ∙ ap (λ fs. below ∷ fs) (sym (ap (λ n. drop n (frame ∷ below ∷ frames)) next));
        }
    go false e lower =
        let other : deep < length (below ∷ frames) = grind (arith, nat_tests) in
        let rest = lower other in
        let here : length (frame ∷ below ∷ frames) - deep ≡ suc (length (below ∷ frames) - deep) = omega (arith, other) in
        let next : length (frame ∷ below ∷ frames) - (deep - 1) ≡ suc (length (below ∷ frames) - (deep - 1)) = omega (arith, other) in record {
          frame = rest.frame;
          number = rest.number;
          spot = ap (λ b. if b then call_spot below.function frame.call else call_at (suc deep) (below ∷ frames)) e ∙ rest.spot;
          lie = ap (λ n. drop n (frame ∷ below ∷ frames)) here ∙ rest.lie ∙ ap (λ fs. rest.frame ∷ fs) (sym (ap (λ n. drop n (frame ∷ below ∷ frames)) next));
        }

pub no_frames : (frames : List Frame) → (length frames == 0) ≡ true → length frames ≡ 0
no_frames frames e = grind (arith, nat_tests)

pub some_frames : (frames : List Frame) (depth : ℕ) → (length frames == 0) ≡ false → max 1 (length frames) ≡ depth → depth ≡ length frames
some_frames frames depth e is = let some : 1 ≤ length frames = grind (arith, nat_tests) in omega (arith, is, some)

some_same : (one other : Spot) → Some one ≡ Some other → one ≡ other
some_same one other is = cc is

module _ (p : Program) (state : State) (deep : ℕ) (made : AreMade (keys state.frames)) (one : 1 ≤ deep) (few : deep < length state.frames) where
  calls : spot_at p deep state ≡ call_at (suc deep) state.frames
  calls =
      let inner : nat_lt deep (length state.frames) ≡ true = grind (arith, nat_tests, few) in
      ap (λ b. if b then call_at (suc deep) state.frames else spot_now p state) inner

  pub some_calls : None ≡ spot_at p deep state → ⊥
  some_calls none = let there = lies deep state.frames made one few in cc (none ∙ calls ∙ there.spot)

  -- the frame at a depth is put on those below it
  pub enters : (old new : Tally) (spot : Spot) (name : Bytes) → Some spot ≡ spot_at p deep state → name ≡ name_of (slice_get p.functions spot.function.0)
      → ((functions : List Bytes) → HasFrames old functions → HasFrames new (name ∷ functions))
      → HasFrames old (functions_of p (frames_at (deep - 1) state.frames)) → HasFrames new (functions_of p (frames_at deep state.frames))
  enters old new spot name is is_named put has =
      let there = lies deep state.frames made one few in
      let same : spot ≡ spot_in there.frame.function there.number = some_same _ _ (is ∙ calls ∙ there.spot) in
      let first : name ≡ name_of (slice_get p.functions there.frame.function) = is_named ∙ ap (λ (x : Spot). name_of (slice_get p.functions x.function.0)) same in
      subst (HasFrames new) (ap (λ n. n ∷ functions_of p (frames_at (deep - 1) state.frames)) first ∙ sym (ap (functions_of p) there.lie)) (put _ has)

-- no frame is at depth 0, and below the top one are all others
pub no_frame : (frames : List Frame) → frames_at 0 frames ≡ []
no_frame frames = let whole : length frames - 0 ≡ length frames = omega arith in ap (λ n. drop n frames) whole ∙ none frames
  where
    none : (frames : List Frame) → drop (length frames) frames ≡ []
    none [] = refl
    none (frame ∷ frames) = none frames

pub all_but_top : (deep : ℕ) (frames : List Frame) → length frames ≤ deep → (1 ≤ length frames → deep ≤ length frames) → frames_at (deep - 1) frames ≡ drop 1 frames
all_but_top deep [] enough all = let none : 0 - (deep - 1) ≡ 0 = omega arith in ap (λ n. drop n []) none
all_but_top deep (frame ∷ frames) enough all =
    let here : length (frame ∷ frames) - (deep - 1) ≡ 1 = omega (arith, enough, all (omega arith)) in
    ap (λ n. drop n (frame ∷ frames)) here
