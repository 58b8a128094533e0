-- At most 64 frames exist, from the start and after each event.
use Rattle.std.proofs.Common.{◌≡◌, refl, ap, subst, sym, ℕ, zero, suc, ◌-◌, ◌≤◌, Bool, true, false, List, [], ◌∷◌, ◌++◌, length, Option, Some, None, arith}
use Rattle.std.specs.Prelude.{Result, Ok, Err, IfOk, ◌==◌, drop, take, slice_get, if◌then◌else◌}
use Rattle.gang_types.specs.declared.types.IntType.{IntType}
use Rattle.gang_types.specs.declared.types.IntType.TheVariants as t
use Rattle.gang_types.specs.declared.places.VarId.{VarId}
use Rattle.gang_types.specs.declared.places.VarId.TheVariants.{File, Local}
use Rattle.gang_types.specs.declared.faults.FaultName.TheVariants.{CallDepth}
use Rattle.gang_types.specs.Lanes.{Lanes, lowest}
use Rattle.gang_model.specs.Running.Lanes.{Fault, ◌>>=◌, each, try_each, members}
use Rattle.gang_model.specs.Types.Tree.{ResultFor, Nothing, Declares, Assigns, Returns, Stmt, Declare, Assign, Change, If, Break, Continue, Return, Switch, ForEach, Call, Check, PackedStore, PackedLoad, Function, Program}
use Rattle.gang_model.specs.Running.State.{Store, Doing, Run, LoopTest, LoopUpdate, Round, RoundEnd, SwitchEnd, Task, Frame, State, with_var, with_words_in, with_first, on_top}
use Rattle.gang_model.specs.Running.Rounds.{rounds}
use Rattle.gang_model.specs.Running.Value.{value}
use Rattle.gang_model.specs.Running.Library.{rank}
use Rattle.gang_model.specs.Running.Step.{deliver, left, leave, Passed, new_frame, entered, with_store, run, perform, Stepped, Goes, Fails, Over, stepped, step_task, step_frame, step, Written, ToVar, ToElements, write, packed, initial, reached, old_values, passed, part}
use Rattle.gang_model.specs.Debugger.Events.{Event, Step, Poke, Poked, WholeOf, LaneOf, ElementAt, InFrame, Given, started, start, with_rows, initial_memory, poked, gone, happen, after}
use Rattle.gang_model.specs.Debugger.Frames.{state_at}
use Rattle.gang_model.proofs.LaneWords.{if_ok_after}

-- a state has at most 64 frames
abbrev pub IsShallow : State → Type 0
IsShallow state = length state.frames ≤ 64

pub length-with_first : (change : Frame → Frame) (frames : List Frame) → length (with_first change frames) ≡ length frames
length-with_first change [] = refl
length-with_first change (frame ∷ frames) = refl

shallow_top : (change : Frame → Frame) (state : State) → IsShallow state → IsShallow (on_top change state)
shallow_top change state h = subst (λ n. n ≤ 64) (sym (length-with_first change state.frames)) h

shallow_words : (state : State) (v : VarId) (words : List ℕ) → IsShallow state → IsShallow (with_words_in state v words)
shallow_words state (File n) words h = h
shallow_words state (Local n) words h = shallow_top _ state h

shallow_write : (written : Written) (lanes : Lanes) (values : List ℕ) (state : State) → IsShallow state → IsShallow (write written lanes values state)
shallow_write (ToVar v) lanes values state h = shallow_words state v.id _ h
shallow_write (ToElements view indices) lanes values state h = h

shallow_deliver : (p : Program) (type : IntType) (for : ResultFor) (lanes : Lanes) (values : List ℕ) (state : State) → IsShallow state → IsShallow (deliver p type for lanes values state)
shallow_deliver p type Nothing lanes values state h = h
shallow_deliver p type (Declares v) lanes values state h = shallow_words state v.id _ h
shallow_deliver p type (Assigns v) lanes values state h = shallow_words state v.id _ h
shallow_deliver p type Returns lanes values state h = shallow_top _ state h

shallow_packed : (p : Program) (for : ResultFor) (lanes : Lanes) (state : State) → IsShallow state → IsShallow (packed p for lanes state)
shallow_packed p for lanes state h = shallow_deliver p t.Int32 for lanes (each lanes (λ k. length (members lanes))) state h

shallow_left : (p : Program) (f : Option Function) (frame : Frame) (state : State) → IsShallow state → IsShallow (left p f frame state)
shallow_left p None frame state h = h
shallow_left p (Some f) frame state h = shallow_deliver p f.result_type frame.result_for frame.lanes _ state h

shallow_store : (store : Store) (state : State) → IsShallow state → IsShallow (with_store store state)
shallow_store [] state h = h
shallow_store (entry ∷ store) state h = shallow_store store _ (shallow_words state entry.0 entry.1 h)

then_shallow : {A : Type 0} (r : Result A Fault) (next : A → Result State Fault) → ((x : A) → IfOk (next x) IsShallow) → IfOk (r >>= next) IsShallow
then_shallow r next go = if_ok_after IsShallow r next go

-- a call makes one more frame, unless 64 are there
shallow_entered : (p : Program) (f : Option Function) (n number : ℕ) (for : ResultFor) (arguments : Passed) (lanes : Lanes) (state : State) → IsShallow state → IfOk (entered f n number for arguments lanes state) IsShallow
shallow_entered p None n number for arguments lanes state h = h
shallow_entered p (Some f) n number for arguments lanes state h = room (length state.frames == 64) refl
  where
    below : (n : ℕ) → (n == 64) ≡ false → n ≤ 64 → suc n ≤ 64
    below n e h = grind (arith, e, h)

    room : (full : Bool) → (length state.frames == 64) ≡ full → IfOk {E = Fault} (if full then Err (record { name = CallDepth; lane = lowest lanes }) else Ok (record state { frames = new_frame n f lanes (Some number) for arguments ∷ state.frames })) IsShallow
    room true e = tt
    room false e = below (length state.frames) e h

shallow_run : (p : Program) (s : Stmt) (lanes : Lanes) (state : State) → IsShallow state → IfOk (run p s lanes state) IsShallow
shallow_run p (Declare number v init) lanes state h = then_shallow (initial init lanes state) _ (λ x. shallow_words state v.id _ h)
shallow_run p (Assign number target e) lanes state h =
    then_shallow (reached target lanes state) _ (λ a. then_shallow (value e lanes state) _ (λ x. then_shallow (old_values a lanes state) _ (λ old. shallow_write a lanes x state h)))
shallow_run p (Change number target type op in_type e) lanes state h =
    then_shallow (reached target lanes state) _ (λ a. then_shallow (value e lanes state) _ (λ y. then_shallow (old_values a lanes state) _ (λ old. then_shallow (try_each lanes _) _ (λ x. shallow_write a lanes _ state h))))
shallow_run p (If number test first other) lanes state h = then_shallow (value test lanes state) _ (λ c. shallow_top _ state h)
shallow_run p (Switch number e segments) lanes state h = then_shallow (value e lanes state) _ (λ x. shallow_top _ state h)
shallow_run p (Break number) lanes state h = shallow_top _ state h
shallow_run p (Continue number) lanes state h = shallow_top _ state h
shallow_run p (Return number e) lanes state h = then_shallow (initial e lanes state) _ (λ x. shallow_top _ state h)
shallow_run p (ForEach number form body) lanes state h = then_shallow (rounds form lanes state) _ (λ turns. shallow_top _ state h)
shallow_run p (Call number n args for) lanes state h = then_shallow (passed args lanes state) _ (λ arguments. shallow_entered p (slice_get p.functions n) n number for arguments lanes state h)
shallow_run p (Check number e) lanes state h = then_shallow (value e lanes state) _ (λ c. then_shallow (try_each lanes _) _ (λ x. h))
shallow_run p (PackedStore number array from e for) lanes state h =
    then_shallow (part from _ lanes state) _ (λ view. then_shallow (value e lanes state) _ (λ x. then_shallow (try_each lanes _) _ (λ there.
    shallow_packed p for lanes (write (ToElements view (each lanes (rank lanes))) lanes x state) (shallow_write (ToElements view (each lanes (rank lanes))) lanes x state h))))
shallow_run p (PackedLoad number array from v for) lanes state h =
    then_shallow (part from _ lanes state) _ (λ view. then_shallow (try_each lanes _) _ (λ x. shallow_packed p for lanes (write (ToVar v) lanes x state) (shallow_write (ToVar v) lanes x state h)))
shallow_run p s lanes state h = h

shallow_perform : (p : Program) (doing : Doing) (lanes : Lanes) (state : State) → IsShallow state → IfOk (perform p doing lanes state) IsShallow
shallow_perform p (Run s) lanes state h = shallow_run p s lanes state h
shallow_perform p (LoopUpdate s) lanes state h = shallow_run p s lanes state h
shallow_perform p (LoopTest number test update body) lanes state h = then_shallow (value test lanes state) _ (λ c. shallow_top _ state h)
shallow_perform p (Round number indices body) lanes state h = shallow_top _ (with_store indices state) (shallow_store indices state h)
shallow_perform p RoundEnd lanes state h = h
shallow_perform p SwitchEnd lanes state h = h

-- what a step leads to
abbrev SteppedShallow : Stepped → Type 0
SteppedShallow (Goes state) = IsShallow state
SteppedShallow (Fails fault) = Unit {0}
SteppedShallow Over = Unit {0}

shallow_stepped : (r : Result State Fault) → IfOk r IsShallow → SteppedShallow (stepped r)
shallow_stepped (Ok state) h = shallow_top _ state h
shallow_stepped (Err fault) h = tt

shallow_task : (p : Program) (memory : Store) (frames : List Frame) (frame : Frame) (ts : List Task) → length (frame ∷ frames) ≤ 64 → SteppedShallow (step_task p memory frames frame ts)
shallow_task p memory frames frame [] h =
    let out : State = record { memory = memory; frames = frames } in
    shallow_top _ (leave p frame out) (shallow_left p (slice_get p.functions frame.function) frame out (omega (arith, h)))
shallow_task p memory frames frame (t ∷ ts) h =
    let out : State = record { memory = memory; frames = record frame { tasks = ts } ∷ frames } in
    shallow_stepped (perform p t.doing t.lanes out) (shallow_perform p t.doing t.lanes out h)

shallow_frames : (p : Program) (memory : Store) (frames : List Frame) → length frames ≤ 64 → SteppedShallow (step_frame p memory frames)
shallow_frames p memory [] h = tt
shallow_frames p memory (frame ∷ frames) h = shallow_task p memory frames frame frame.tasks h

-- a step keeps the number of frames within 64
pub shallow_step : (p : Program) (state : State) → IsShallow state → SteppedShallow (step p state)
shallow_step p state h = shallow_frames p state.memory state.frames h

shallow_gone : (r : Stepped) (state : State) → IsShallow state → SteppedShallow r → IsShallow (gone r state)
shallow_gone (Goes next) state h k = k
shallow_gone (Fails fault) state h k = h
shallow_gone Over state h k = h

words_length : (state : State) (v : VarId) (words : List ℕ) → length (with_words_in state v words).frames ≡ length state.frames
words_length state (File n) words = refl
words_length state (Local n) words = length-with_first (with_var (Local n) words) state.frames

under_length : (n : ℕ) (frames below : List Frame) → length below ≡ length (drop n frames) → length (take n frames ++ below) ≡ length frames
under_length zero frames below h = h
under_length (suc n) [] below h = h
under_length (suc n) (frame ∷ frames) below h = ap suc (under_length n frames below h)

-- a poke leaves as many frames as there were
pub poked_length : (what : Poked) (word : ℕ) (state : State) → length (poked what word state).frames ≡ length state.frames
poked_length (WholeOf v) word state = words_length state v _
poked_length (LaneOf v k) word state = words_length state v _
poked_length (ElementAt v k) word state = refl
poked_length (InFrame deep what) word state =
    under_length (length state.frames - deep) state.frames (poked what word (state_at deep state)).frames (poked_length what word (state_at deep state))

shallow_poked : (what : Poked) (word : ℕ) (state : State) → IsShallow state → IsShallow (poked what word state)
shallow_poked what word state h = subst (λ n. n ≤ 64) (sym (poked_length what word state)) h

shallow_happen : (p : Program) (event : Event) (state : State) → IsShallow state → IsShallow (happen p event state)
shallow_happen p Step state h = shallow_gone (step p state) state h (shallow_step p state h)
shallow_happen p (Poke what word) state h = shallow_poked what word state h

pub shallow_after : (p : Program) (first : State) (events : List Event) → IsShallow first → IsShallow (after p first events)
shallow_after p first [] h = h
shallow_after p first (event ∷ events) h = shallow_happen p event (after p first events) (shallow_after p first events h)

shallow_started : (f : Option Function) (entry width : ℕ) (given : Given) → IsShallow (started f entry width given)
shallow_started None entry width given = omega arith
shallow_started (Some f) entry width given = omega arith

pub shallow_start : (p : Program) (entry : ℕ) (rows : _) (width : ℕ) → IsShallow (start p entry rows width)
shallow_start p entry rows width =
    shallow_started (slice_get p.functions entry) entry width (with_rows rows (record { passed = record { views = []; vars = [] }; memory = initial_memory width p.globals }))
