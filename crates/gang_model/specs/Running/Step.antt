-- One step of a program (ISPC User's Guide, "Control Flow"; what counts as a step is a choice of this project).
-- A frame's tasks are done in order, each by its own lanes, so lanes that diverged meet again at the first task that both have.
-- A foreach form becomes one task for each of its rounds at once: nothing can come between two rounds, since only the
-- rounds' own bodies put tasks before them.
use Rattle.std.specs.Prelude.{ℕ, suc, ◌+◌, ◌-◌, Bool, true, false, not, ◌==◌, nat_lt, nat_le, List, [], ◌∷◌, ◌++◌, map, length, Option, Some, None, slice_get, Result, Ok, Err, if◌then◌else◌}
use Rattle.gang_types.specs.declared.types.Rate.{Rate}
use Rattle.gang_types.specs.declared.types.Rate.TheVariants.{Uniform, Varying}
use Rattle.gang_types.specs.declared.types.IntType.{IntType}
use Rattle.gang_types.specs.declared.types.IntType.TheVariants as t
use Rattle.gang_types.specs.declared.places.VarId.{VarId}
use Rattle.gang_types.specs.declared.faults.FaultName.TheVariants.{Index, Assert, CallDepth}
use Rattle.gang_types.specs.Values.{converted, binary_result}
use Rattle.gang_types.specs.Lanes.{Lanes, no_lane, lowest, lanes_where, without}
use Rattle.gang_model.specs.Running.Lanes.{Fault, ◌>>=◌, each, try_each, at, holds, members}
use Rattle.gang_model.specs.Types.Tree.{Var, Expr, StepNumber, Target, Scalar, ElementOf, Arg, Value, Array, ResultFor, Nothing, Declares, Assigns, Returns, Stmt, Empty, Then, Declare, Assign, Change, If, Loop, BodyFirst, Break, Continue, Return, Switch, Segment, ForEach, Call, Check, PackedStore, PackedLoad, Function, Program}
use Rattle.gang_model.specs.Running.State.{Store, View, Doing, Run, LoopTest, LoopUpdate, Round, RoundEnd, SwitchEnd, Task, Frame, State, words_in, words_of, with_words, with_words_in, on_top, view_of, seen, declared_words, assigned_words}
use Rattle.gang_model.specs.Running.Value.{value, element}
use Rattle.gang_model.specs.Running.Rounds.{Turn, rounds}
use Rattle.gang_model.specs.Running.Library.{rank}

-- a task
abbrev pub task : Doing → Lanes → Task
task doing lanes = record { doing = doing; lanes = lanes }

-- ---- settling

-- the tasks of the first statement up to its first step and what follows it; where it has no step, the second list
abbrev pub opened_before : List Task → List Task → List Task → List Task
opened_before [] next rest = rest
opened_before (t ∷ ts) next rest = (t ∷ ts) ++ next

-- a statement as tasks, opened as far as its first step; none where it has no step
abbrev pub opened : Stmt → Lanes → List Task
opened Empty lanes = []
opened (Then first rest) lanes = opened_before (opened first lanes) (task (Run rest) lanes ∷ []) (opened rest lanes)
opened (Loop number test update body) lanes = task (LoopTest number test update body) lanes ∷ []
opened (BodyFirst number test body) lanes =
    opened_before (opened body lanes) (task (LoopUpdate Empty) lanes ∷ task (LoopTest number test Empty body) lanes ∷ []) (task (LoopTest number test Empty body) lanes ∷ [])
opened s lanes = task (Run s) lanes ∷ []

-- a task as tasks, opened as far as its first step; an update that is empty, a round's end and a switch's end are no steps
abbrev pub opened_task : Doing → Lanes → List Task
opened_task (Run s) lanes = opened s lanes
opened_task (LoopUpdate s) lanes = opened s lanes
opened_task RoundEnd lanes = []
opened_task SwitchEnd lanes = []
opened_task doing lanes = task doing lanes ∷ []

-- the tasks from the first one that is a step of some lane
abbrev pub settled : List Task → List Task
settled [] = []
settled (t ∷ ts) = if no_lane t.lanes then settled ts else opened_before (opened_task t.doing t.lanes) ts (settled ts)

-- the frame with its tasks changed
abbrev pub with_tasks : (List Task → List Task) → Frame → Frame
with_tasks change frame = record frame { tasks = change frame.tasks }

-- the state whose top frame begins with a step of some lane
abbrev pub settle : State → State
settle state = on_top (with_tasks settled) state

-- the state with tasks put before those of the top frame
abbrev pub first_do : List Task → State → State
first_do tasks state = on_top (with_tasks (λ rest. tasks ++ rest)) state

-- ---- leaving

-- a task without these lanes
abbrev pub leaves_task : Lanes → Task → Task
leaves_task lanes t = record t { lanes = without t.lanes lanes }

-- whether a `break` leaves this task as its last one: a loop's test or a switch's end
abbrev pub ends_break : Doing → Bool
ends_break (LoopTest number test update body) = true
ends_break (Run s) = false
ends_break (LoopUpdate s) = false
ends_break (Round number indices body) = false
ends_break RoundEnd = false
ends_break SwitchEnd = true

-- whether a `continue` goes on at this task: a loop's update, empty where it has none, or a round's end
abbrev pub ends_turn : Doing → Bool
ends_turn (LoopUpdate s) = true
ends_turn RoundEnd = true
ends_turn SwitchEnd = false
ends_turn (Run s) = false
ends_turn (LoopTest number test update body) = false
ends_turn (Round number indices body) = false

-- the lanes leave every task up to the innermost loop's test or switch's end, this included
abbrev pub broken : Lanes → List Task → List Task
broken lanes [] = []
broken lanes (t ∷ ts) = leaves_task lanes t ∷ (if ends_break t.doing then ts else broken lanes ts)

-- the lanes leave every task before the loop's update or the round's end
abbrev pub continued : Lanes → List Task → List Task
continued lanes [] = []
continued lanes (t ∷ ts) = if ends_turn t.doing then t ∷ ts else leaves_task lanes t ∷ continued lanes ts

-- the result in the lanes, which leave every task of the frame
abbrev pub returned : Rate → Lanes → List ℕ → Frame → Frame
returned rate lanes values frame =
    record frame { result = assigned_words rate lanes values frame.result; tasks = map (leaves_task lanes) frame.tasks }

-- ---- writing

-- an element's word after a store: that of the highest lane that names it, else the old one
abbrev pub stored_in : ℕ → Lanes → List ℕ → List ℕ → ℕ → ℕ
stored_in i [] indices values old = old
stored_in i (b ∷ lanes) [] values old = old
stored_in i (b ∷ lanes) (j ∷ indices) [] old = old
stored_in i (b ∷ lanes) (j ∷ indices) (x ∷ values) old =
    stored_in i lanes indices values (if b then (if i == j then x else old) else old)

-- the words of an array from the i-th on after a store
abbrev pub scattered_from : ℕ → Lanes → List ℕ → List ℕ → List ℕ → List ℕ
scattered_from i lanes indices values [] = []
scattered_from i lanes indices values (old ∷ words) = stored_in i lanes indices values old ∷ scattered_from (suc i) lanes indices values words

-- what a statement writes to: a variable, or elements of an array
pub data Written : Type 0 where
  ToVar : Var → Written
  ToElements : View → List ℕ → Written

-- the target with its index evaluated
abbrev pub reached : Target → Lanes → State → Result Written Fault
reached (Scalar v) lanes state = Ok (ToVar v)
reached (ElementOf array rate index) lanes state = do
  i ← value index lanes state
  Ok (ToElements (view_of state array) i)

-- the target's old values, its index checked
abbrev pub old_values : Written → Lanes → State → Result (List ℕ) Fault
old_values (ToVar v) lanes state = Ok (seen v.rate lanes (words_in state v.id))
old_values (ToElements view indices) lanes state = try_each lanes (λ k. element state view (at indices k))

-- the state after a write by these lanes
abbrev pub write : Written → Lanes → List ℕ → State → State
write (ToVar v) lanes values state = with_words_in state v.id (assigned_words v.rate lanes values (words_in state v.id))
write (ToElements view indices) lanes values state =
    record state { memory = with_words state.memory view.array (scattered_from 0 lanes (each lanes (λ k. view.first + at indices k)) values (words_of state.memory view.array)) }

-- ---- calls

-- a call's arguments as the new frame's views and variables
pub record Passed : Type 0 where
  pub views : List (VarId × View)
  pub vars : Store

-- the part of a view from an index on, which may be its end
abbrev pub part : Option Expr → View → Lanes → State → Result View Fault
part None view lanes state = Ok view
part (Some from) view lanes state = do
  i ← value from lanes state
  checked ← try_each lanes (λ k. if nat_lt view.len (at i k) then Err Index else Ok 0)
  Ok (record view { first = view.first + at i (lowest lanes); len = view.len - at i (lowest lanes) })

-- the arguments, from left to right
abbrev pub passed : List Arg → Lanes → State → Result Passed Fault
passed [] lanes state = Ok (record { views = []; vars = [] })
passed (Value v e ∷ args) lanes state = do
  x ← value e lanes state
  rest ← passed args lanes state
  Ok (record rest { vars = (v.id, declared_words v.rate lanes x) ∷ rest.vars })
passed (Array parameter array from ∷ args) lanes state = do
  view ← part from (view_of state array) lanes state
  rest ← passed args lanes state
  Ok (record rest { views = (parameter, view) ∷ rest.views })

-- a result that nothing was written to
abbrev pub no_result : Rate → Lanes → List ℕ
no_result Uniform lanes = 0 ∷ []
no_result Varying lanes = map (λ b. 0) lanes

-- the frame of a call, with the function's body still to do
abbrev pub new_frame : ℕ → Function → Lanes → Option StepNumber → ResultFor → Passed → Frame
new_frame n f lanes number result_for arguments = record {
  function = n;
  lanes = lanes;
  call = number;
  result_for = result_for;
  views = arguments.views;
  vars = arguments.vars;
  result = no_result f.result lanes;
  tasks = task (Run f.body) lanes ∷ [];
}

-- a new frame, unless 64 are there
abbrev pub enter : Frame → Lanes → State → Result State Fault
enter frame lanes state =
    if length state.frames == 64
    then Err (record { name = CallDepth; lane = lowest lanes })
    else Ok (record state { frames = frame ∷ state.frames })

-- a call of f, if there is such a function
abbrev pub entered : Option Function → ℕ → StepNumber → ResultFor → Passed → Lanes → State → Result State Fault
entered None n number result_for arguments lanes state = Ok state
entered (Some f) n number result_for arguments lanes state = enter (new_frame n f lanes (Some number) result_for arguments) lanes state

-- the result of a call returned by the function that made it
abbrev pub returned_on : Option Function → IntType → Lanes → List ℕ → Frame → Frame
returned_on None type lanes values frame = frame
returned_on (Some f) type lanes values frame = returned f.result lanes (each lanes (λ k. converted type f.result_type (at values k))) frame

-- a value of this type, given to what it is for
abbrev pub deliver : Program → IntType → ResultFor → Lanes → List ℕ → State → State
deliver p type Nothing lanes values state = state
deliver p type (Declares v) lanes values state =
    with_words_in state v.id (declared_words v.rate lanes (each lanes (λ k. converted type v.type (at values k))))
deliver p type (Assigns v) lanes values state =
    with_words_in state v.id (assigned_words v.rate lanes (each lanes (λ k. converted type v.type (at values k))) (words_in state v.id))
deliver p type Returns lanes values state = on_top (λ frame. returned_on (slice_get p.functions frame.function) type lanes values frame) state

-- what a left frame gives to what its result is for, in the lanes of the call
abbrev pub left : Program → Option Function → Frame → State → State
left p None frame state = state
left p (Some f) frame state = deliver p f.result_type frame.result_for frame.lanes (seen f.result frame.lanes frame.result) state

-- a frame without tasks is left
abbrev pub leave : Program → Frame → State → State
leave p frame state = left p (slice_get p.functions frame.function) frame state

-- ---- the steps

-- the rate of a function's result
abbrev pub rate_of : Option Function → Rate
rate_of None = Uniform
rate_of (Some f) = f.result

-- the rate of the result of a frame's function
abbrev pub result_rate : Program → Frame → Rate
result_rate p frame = rate_of (slice_get p.functions frame.function)

-- the value of an initialiser, 0 where there is none
abbrev pub initial : Option Expr → Lanes → State → Result (List ℕ) Fault
initial None lanes state = Ok (each lanes (λ k. 0))
initial (Some e) lanes state = value e lanes state

-- the state with the words of several variables set
abbrev pub with_store : Store → State → State
with_store [] state = state
with_store (entry ∷ store) state = with_store store (with_words_in state entry.0 entry.1)

-- how many steps a statement has
abbrev pub steps_of : Stmt → ℕ
steps_of Empty = 0
steps_of (Then first rest) = steps_of first + steps_of rest
steps_of (If number test first other) = 1 + steps_of first + steps_of other
steps_of (Loop number test update body) = steps_of body + steps_of update + 1
steps_of (BodyFirst number test body) = steps_of body + 1
steps_of (Switch number e segments) = 1 + steps_of segments
steps_of (Segment label body rest) = steps_of body + steps_of rest
steps_of (ForEach number form body) = steps_of body + 2
steps_of s = 1

-- the number of the rounds of a foreach form: they come after its body, whose steps follow its head
abbrev pub round_number : StepNumber → Stmt → StepNumber
round_number head body = head + 1 + steps_of body

-- a task for each round
abbrev pub round_tasks : StepNumber → Stmt → List Turn → List Task
round_tasks number body [] = []
round_tasks number body (turn ∷ turns) = task (Round number turn.indices body) turn.lanes ∷ round_tasks number body turns

-- how many lanes there are, as a packed call's result
abbrev pub packed : Program → ResultFor → Lanes → State → State
packed p result_for lanes state = deliver p t.Int32 result_for lanes (each lanes (λ k. length (members lanes))) state

-- the first segment with this label, from the i-th on
abbrev pub labelled : ℕ → Stmt → ℕ → Option ℕ
labelled i (Segment (Some word) body rest) x = if word == x then Some i else labelled (suc i) rest x
labelled i (Segment None body rest) x = labelled (suc i) rest x
labelled i s x = None

-- the segment of `default`, from the i-th on
abbrev pub default_of : ℕ → Stmt → Option ℕ
default_of i (Segment (Some word) body rest) = default_of (suc i) rest
default_of i (Segment None body rest) = Some i
default_of i s = None

-- the first of the two segments that is there
abbrev pub or_default : Option ℕ → Option ℕ → Option ℕ
or_default (Some i) other = Some i
or_default None other = other

-- whether a lane that entered at this segment, if at any, runs on through the i-th one
abbrev pub is_at_most : Option ℕ → ℕ → Bool
is_at_most None i = false
is_at_most (Some j) i = nat_le j i

-- each segment with the lanes that entered at it or before it
abbrev pub segment_tasks : ℕ → Stmt → Lanes → (ℕ → Option ℕ) → List Task
segment_tasks i (Segment label body rest) lanes entry =
    task (Run body) (lanes_where lanes (λ k. is_at_most (entry k) i)) ∷ segment_tasks (suc i) rest lanes entry
segment_tasks i s lanes entry = []

-- a statement's step by its lanes
abbrev pub run : Program → Stmt → Lanes → State → Result State Fault
run p (Declare number v init) lanes state = do
  x ← initial init lanes state
  Ok (with_words_in state v.id (declared_words v.rate lanes x))
run p (Assign number target e) lanes state = do
  written ← reached target lanes state
  x ← value e lanes state
  old ← old_values written lanes state
  Ok (write written lanes x state)
run p (Change number target type op in_type e) lanes state = do
  written ← reached target lanes state
  y ← value e lanes state
  old ← old_values written lanes state
  x ← try_each lanes (λ k. binary_result op in_type (converted type in_type (at old k)) (at y k))
  Ok (write written lanes (each lanes (λ k. converted in_type type (at x k))) state)
run p (If number test first other) lanes state = do
  c ← value test lanes state
  Ok (first_do (task (Run first) (lanes_where lanes (holds c)) ∷ task (Run other) (lanes_where lanes (λ k. not (holds c k))) ∷ []) state)
run p (Switch number e segments) lanes state = do
  x ← value e lanes state
  Ok (first_do (segment_tasks 0 segments lanes (λ k. or_default (labelled 0 segments (at x k)) (default_of 0 segments)) ++ task SwitchEnd lanes ∷ []) state)
run p (Break number) lanes state = Ok (on_top (with_tasks (broken lanes)) state)
run p (Continue number) lanes state = Ok (on_top (with_tasks (continued lanes)) state)
run p (Return number e) lanes state = do
  x ← initial e lanes state
  Ok (on_top (λ frame. returned (result_rate p frame) lanes x frame) state)
run p (ForEach number form body) lanes state = do
  turns ← rounds form lanes state
  Ok (first_do (round_tasks (round_number number body) body turns) state)
run p (Call number n args result_for) lanes state = do
  arguments ← passed args lanes state
  entered (slice_get p.functions n) n number result_for arguments lanes state
run p (Check number e) lanes state = do
  c ← value e lanes state
  passes ← try_each lanes (λ k. if holds c k then Ok 0 else Err Assert)
  Ok state
run p (PackedStore number array from e result_for) lanes state = do
  view ← part from (view_of state array) lanes state
  x ← value e lanes state
  there ← try_each lanes (λ k. element state view (rank lanes k))
  Ok (packed p result_for lanes (write (ToElements view (each lanes (rank lanes))) lanes x state))
run p (PackedLoad number array from v result_for) lanes state = do
  view ← part from (view_of state array) lanes state
  x ← try_each lanes (λ k. element state view (rank lanes k))
  Ok (packed p result_for lanes (write (ToVar v) lanes x state))
run p s lanes state = Ok state

-- a task's step by its lanes
abbrev pub perform : Program → Doing → Lanes → State → Result State Fault
perform p (Run s) lanes state = run p s lanes state
perform p (LoopUpdate s) lanes state = run p s lanes state
perform p (LoopTest number test update body) lanes state = do
  c ← value test lanes state
  let stay = lanes_where lanes (holds c)
  Ok (first_do (task (Run body) stay ∷ task (LoopUpdate update) stay ∷ task (LoopTest number test update body) stay ∷ []) state)
perform p (Round number indices body) lanes state =
    Ok (first_do (task (Run body) lanes ∷ task RoundEnd lanes ∷ []) (with_store indices state))
perform p RoundEnd lanes state = Ok state
perform p SwitchEnd lanes state = Ok state

-- how a step ends
pub data Stepped : Type 0 where
  Goes : State → Stepped
  Fails : Fault → Stepped
  Over : Stepped

-- after the task the state is settled; a fault leaves the state as it was
abbrev pub stepped : Result State Fault → Stepped
stepped (Ok state) = Goes (settle state)
stepped (Err fault) = Fails fault

-- the first task is done, or the frame is left
abbrev pub step_task : Program → Store → List Frame → Frame → List Task → Stepped
step_task p memory frames frame [] = Goes (settle (leave p frame (record { memory = memory; frames = frames })))
step_task p memory frames frame (t ∷ ts) = stepped (perform p t.doing t.lanes (record { memory = memory; frames = record frame { tasks = ts } ∷ frames }))

-- the top frame's first task is done, or the frame is left
abbrev pub step_frame : Program → Store → List Frame → Stepped
step_frame p memory [] = Over
step_frame p memory (frame ∷ frames) = step_task p memory frames frame frame.tasks

-- one step: the first task of the top frame is done, or the frame is left; with no frame the program is over
abbrev pub step : Program → State → Stepped
step p state = step_frame p state.memory state.frames
