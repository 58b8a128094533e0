-- What it means that numbers stand for lists of tasks: each lane waits for the first step of its own tasks.
use Rattle.std.specs.Prelude.{◌≡◌, ℕ, ◌+◌, ◌<◌, Bool, true, false, List, [], ◌∷◌, ◌++◌, Option, Some, None, slice_get, length, if◌then◌else◌}
use Rattle.gang_types.specs.Lanes.{has, no_lane}
use Rattle.gang_model.specs.Types.Tree.{StepNumber, Arg, Stmt, Empty, Then, If, Loop, BodyFirst, Switch, Segment, ForEach, Call, Function, Program}
use Rattle.gang_model.specs.Running.Lanes.{at}
use Rattle.gang_model.specs.Running.State.{Doing, Run, LoopTest, LoopUpdate, Round, RoundEnd, SwitchEnd, Task, Frame, State}
use Rattle.gang_model.specs.Running.Rounds.{Turn}
use Rattle.gang_model.specs.Running.RunningOrder.{IsNumbered, InOrder, IsNumberedProgram}
use Rattle.gang_model.specs.Running.Step.{steps_of, task, ends_break, ends_turn, round_tasks, Stepped}
use Rattle.gang_model.specs.Running.Step as source
use Rattle.gang_model.specs.Types.WellPlaced.{StmtPlaced}
use Rattle.gang_model.specs.Names.NameFaults.{in_function}
use Rattle.gang_model.specs.Source.Parsed.{Name}
use Rattle.mask_states.specs.Points.{Point, Turn as TakeTurn, Ways, entry_of, round_ways, points_in, closing_number}
use Rattle.mask_states.specs.Placed.{HasPoint, IsPlaced}
use Rattle.mask_states.specs.Masked.{Level, Masked, closed, turns_taken}
use Rattle.mask_states.specs.MaskedStep.{untasked, MaskedStepped, Goes, Fails, Over}

-- ---- a lane's own tasks

-- what a lane has to do, in order
abbrev pub own : ℕ → List Task → List Doing
own k [] = []
own k (t ∷ ts) = if has t.lanes k then t.doing ∷ own k ts else own k ts

-- the number of the first step of what a lane has to do; without one the number above all steps
abbrev pub waits : (end : StepNumber) → List Doing → StepNumber
waits end [] = end
waits end (Run s ∷ ds) = entry_of s (waits end ds)
waits end (LoopUpdate s ∷ ds) = entry_of s (waits end ds)
waits end (LoopTest number test update body ∷ ds) = number
waits end (Round number indices body ∷ ds) = number
waits end (RoundEnd ∷ ds) = waits end ds
waits end (SwitchEnd ∷ ds) = waits end ds

-- where a lane goes on after a `break`, if it may do one
abbrev pub after_break : (end : StepNumber) → List Doing → Option StepNumber
after_break end [] = None
after_break end (d ∷ ds) = if ends_break d then Some (waits end ds) else after_break end ds

-- where a lane goes on after a `continue`, if it may do one
abbrev pub after_continue : (end : StepNumber) → List Doing → Option StepNumber
after_continue end [] = None
after_continue end (d ∷ ds) = if ends_turn d then Some (waits end (d ∷ ds)) else after_continue end ds

-- where a lane goes on after what it does before these
abbrev pub ways_before : (back : Option StepNumber) (end : StepNumber) → List Doing → Ways
ways_before back end ds = record { next = waits end ds; on_break = after_break end ds; on_continue = after_continue end ds; on_return = back }

-- the points do what a task does
abbrev pub DoingFits : List Point → Doing → Ways → Type 0
DoingFits points (Run s) ways = IsPlaced points s ways
DoingFits points (LoopUpdate s) ways = IsPlaced points s ways
DoingFits points (LoopTest number test update body) ways = IsPlaced points (Loop number test update body) ways
DoingFits points (Round number indices body) ways = ⊥
DoingFits points RoundEnd ways = Unit {0}
DoingFits points SwitchEnd ways = Unit {0}

-- they do all that a lane has to do
abbrev pub Fits : List Point → (back : Option StepNumber) (end : StepNumber) → List Doing → Type 0
Fits points back end [] = Unit {0}
Fits points back end (d ∷ ds) = DoingFits points d (ways_before back end ds) × Fits points back end ds

-- ---- tasks of several lanes

-- whether a lane takes part in the first task of a kind, if there is one
abbrev pub in_first : (Doing → Bool) → ℕ → List Task → Bool
in_first kind k [] = true
in_first kind k (t ∷ ts) = if kind t.doing then has t.lanes k else in_first kind k ts

-- a lane that is inside of a loop or switch, and of a loop's turn or a round, by its own tasks is so by the first such task of all
abbrev pub AreNested : List Task → Type 0
AreNested [] = Unit {0}
AreNested (t ∷ ts) =
    ((k : ℕ) → has t.lanes k ≡ true → (in_first ends_break k ts ≡ true) × (in_first ends_turn k ts ≡ true)) × AreNested ts

-- a statement that is a step
abbrev pub IsStepStmt : Stmt → Type 0
IsStepStmt Empty = ⊥
IsStepStmt (Then first rest) = ⊥
IsStepStmt (Loop number test update body) = ⊥
IsStepStmt (BodyFirst number test body) = ⊥
IsStepStmt (Segment label body rest) = ⊥
IsStepStmt s = Unit {0}

-- a task that is a step; an update is opened before it is the first one
abbrev pub IsStep : Doing → Type 0
IsStep (Run s) = IsStepStmt s
IsStep (LoopUpdate s) = ⊥
IsStep (LoopTest number test update body) = Unit {0}
IsStep (Round number indices body) = Unit {0}
IsStep RoundEnd = ⊥
IsStep SwitchEnd = ⊥

-- the first task is a step of some lane
abbrev pub BeginsWithStep : List Task → Type 0
BeginsWithStep [] = Unit {0}
BeginsWithStep (t ∷ ts) = (no_lane t.lanes ≡ false) × IsStep t.doing

-- ---- levels, frames, states

-- a level's numbers stand for tasks of a gang of w lanes
pub record TasksStand (points : List Point) (w : ℕ) (back : Option StepNumber) (level : Level) (tasks : List Task) : Type 0 where
  pub sized : length level.numbers ≡ w
  pub numbers : (k : ℕ) → k < w → at level.numbers k ≡ waits level.end (own k tasks)
  pub fits : (k : ℕ) → Fits points back level.end (own k tasks)
  pub order : InOrder 0 tasks level.end
  pub nested : AreNested tasks

-- each round has so many lanes
abbrev pub AreSized : ℕ → List Turn → Type 0
AreSized w [] = Unit {0}
AreSized w (turn ∷ turns) = (length turn.lanes ≡ w) × AreSized w turns

-- a level is that of a foreach form with this body and these rounds to come, of which it has those that some lane takes part in
pub record RoundsStand (points : List Point) (w : ℕ) (level : Level) (body : Stmt) (turns : List Turn) : Type 0 where
  pub taken : turns_taken turns ≡ level.turns
  pub sized : AreSized w turns
  pub turn : HasPoint points level.end (TakeTurn (entry_of body level.end))
  pub body_placed : IsPlaced points body (round_ways level.end)
  pub first : ℕ
  pub numbered : IsNumbered first body
  pub above : level.end ≡ first + steps_of body

-- a frame's levels stand for its tasks: those of the innermost form's round, its rounds to come, and the tasks of the other levels
abbrev pub LevelsStand : Function → ℕ → List Level → List Task → Type 0
LevelsStand f w [] tasks = ⊥
LevelsStand f w (level ∷ []) tasks =
    TasksStand (points_in f) w (Some (closing_number f)) level tasks × (level.end ≡ closing_number f) × (level.turns ≡ [])
LevelsStand f w (level ∷ next ∷ below) tasks =
    (now : List Task) × (body : Stmt) × (turns : List Turn) × (rest : List Task)
    × (tasks ≡ now ++ (round_tasks level.end body turns ++ rest))
    × TasksStand (points_in f) w None level now
    × RoundsStand (points_in f) w level body turns
    × LevelsStand f w (next ∷ below) rest

-- the tasks of a frame with the call that it waits in, made by the frame above: it is not done before that is left
abbrev pub IsPending : Option Frame → List Task → List Task → Type 0
IsPending None tasks all = all ≡ tasks
IsPending (Some above) tasks all =
    (number : StepNumber) × (args : List Arg) × (above.call ≡ Some number)
    × (all ≡ task (Run (Call number above.function args above.result_for)) above.lanes ∷ tasks)

-- a frame's levels stand for it, below the frame that it called, if it did
pub record FrameStands (p : Program) (w : ℕ) (above : Option Frame) (frame : Frame) (levels : List Level) : Type 0 where
  pub function : Function
  pub is_function : slice_get p.functions frame.function ≡ Some function
  pub pending : List Task
  pub is_pending : IsPending above frame.tasks pending
  pub begins : BeginsWithStep pending
  pub stands : LevelsStand function w levels pending
  pub is_closed : closed levels ≡ levels

-- the frames, the top one first
abbrev pub FramesStand : Program → ℕ → Option Frame → List Frame → List (List Level) → Type 0
FramesStand p w above [] [] = Unit {0}
FramesStand p w above [] (levels ∷ rest) = ⊥
FramesStand p w above (frame ∷ frames) [] = ⊥
FramesStand p w above (frame ∷ frames) (levels ∷ rest) = FrameStands p w above frame levels × FramesStand p w (Some frame) frames rest

-- the masked state stands for the state of a gang of w lanes
pub record Stands (p : Program) (w : ℕ) (state : State) (masked : Masked) : Type 0 where
  pub words : untasked state ≡ masked.state
  pub frames : FramesStand p w None state.frames masked.levels

-- ---- the law

-- no segment stands outside of a switch
abbrev mutual
  pub IsWhole : Stmt → Type 0
  IsWhole (Then first rest) = IsWhole first × IsWhole rest
  IsWhole (If number test first other) = IsWhole first × IsWhole other
  IsWhole (Loop number test update body) = IsWhole update × IsWhole body
  IsWhole (BodyFirst number test body) = IsWhole body
  IsWhole (Switch number e segments) = AreWholeSegments segments
  IsWhole (Segment label body rest) = ⊥
  IsWhole (ForEach number form body) = IsWhole body
  IsWhole s = Unit {0}

  pub AreWholeSegments : Stmt → Type 0
  AreWholeSegments (Segment label body rest) = IsWhole body × AreWholeSegments rest
  AreWholeSegments s = s ≡ Empty

-- a function whose control statements stand where they may, and which has a standing for each step and for its closing brace
pub record IsLowerable (f : Function) : Type 0 where
  pub names : List Name
  pub placed : StmtPlaced (in_function names) f.body
  pub whole : IsWhole f.body
  pub standings : length f.standings ≡ closing_number f + 1

-- each call names one of the functions
abbrev pub CallsFound : List Function → Stmt → Type 0
CallsFound functions (Then first rest) = CallsFound functions first × CallsFound functions rest
CallsFound functions (If number test first other) = CallsFound functions first × CallsFound functions other
CallsFound functions (Loop number test update body) = CallsFound functions update × CallsFound functions body
CallsFound functions (BodyFirst number test body) = CallsFound functions body
CallsFound functions (Switch number e segments) = CallsFound functions segments
CallsFound functions (Segment label body rest) = CallsFound functions body × CallsFound functions rest
CallsFound functions (ForEach number form body) = CallsFound functions body
CallsFound functions (Call number function args result_for) = (f : Function) × (slice_get functions function ≡ Some f)
CallsFound functions s = Unit {0}

-- a program of such functions, whose steps are numbered in running order
pub record AreLowerable (p : Program) : Type 0 where
  pub numbered : IsNumberedProgram p
  pub functions : (n : ℕ) (f : Function) → slice_get p.functions n ≡ Some f → IsLowerable f
  pub calls : (n : ℕ) (f : Function) → slice_get p.functions n ≡ Some f → CallsFound p.functions f.body

-- the two steps end alike: both go on and stand for one another again, or both have the same fault, or both are over
abbrev pub EndAlike : Program → ℕ → Stepped → MaskedStepped → Type 0
EndAlike p w (source.Goes state) (Goes masked) = Stands p w state masked
EndAlike p w (source.Fails fault) (Fails other) = fault ≡ other
EndAlike p w source.Over Over = Unit {0}
EndAlike p w stepped other = ⊥
