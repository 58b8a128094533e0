-- Where a program stands: the step that comes next, its place in the source and what is in scope there
-- (GDB manual, "Examining the Stack"; what is in scope at a step is a choice of this project).
use Rattle.std.specs.Prelude.{ℕ, ◌-◌, ◌==◌, if◌then◌else◌, List, [], ◌∷◌, length, Option, Some, None, slice_get}
use Rattle.gang_types.specs.declared.places.Spot.{Spot}
use Rattle.gang_types.specs.Lanes.{Lanes}
use Rattle.gang_model.specs.Types.Tree.{StepNumber, Stmt, Empty, Then, Declare, Assign, Change, If, Loop, BodyFirst, Break, Continue, Return, Switch, Segment, ForEach, Call, Check, PackedStore, PackedLoad, Variable, Standing, Function, Program}
use Rattle.gang_model.specs.Running.State.{Doing, Run, LoopTest, LoopUpdate, Round, RoundEnd, SwitchEnd, Task, Frame, State}

-- the number of a statement's own step; a list of statements or an empty one has none
abbrev pub number_of : Stmt → StepNumber
number_of Empty = 0
number_of (Then first rest) = 0
number_of (Declare number v e) = number
number_of (Assign number target e) = number
number_of (Change number target type op in_type e) = number
number_of (If number e first other) = number
number_of (Loop number e update body) = number
number_of (BodyFirst number e body) = number
number_of (Switch number e segments) = number
number_of (Segment label body rest) = 0
number_of (Break number) = number
number_of (Continue number) = number
number_of (Return number e) = number
number_of (ForEach number form body) = number
number_of (Call number function args result_for) = number
number_of (Check number e) = number
number_of (PackedStore number array from e result_for) = number
number_of (PackedLoad number array from v result_for) = number

-- the number of a task's step
abbrev pub number_of_task : Doing → StepNumber
number_of_task (Run s) = number_of s
number_of_task (LoopUpdate s) = number_of s
number_of_task (LoopTest number e update body) = number
number_of_task (Round number indices body) = number
number_of_task RoundEnd = 0
number_of_task SwitchEnd = 0

-- the number of a function's closing brace
abbrev pub closing_of : Option Function → StepNumber
closing_of None = 0
closing_of (Some f) = length f.standings - 1

-- the number of the step that a function's frame does next: its first task, or leaving it at the closing brace
abbrev pub next_number : Option Function → List Task → StepNumber
next_number f [] = closing_of f
next_number f (t ∷ ts) = number_of_task t.doing

-- the lanes of the step that a frame does next
abbrev pub next_lanes : Frame → List Task → Lanes
next_lanes frame [] = frame.lanes
next_lanes frame (t ∷ ts) = t.lanes

-- the lanes that a frame shows
abbrev pub frame_lanes : Frame → Lanes
frame_lanes frame = next_lanes frame frame.tasks

-- a step of a function, by their numbers
abbrev pub spot_in : ℕ → StepNumber → Spot
spot_in function number = record { function = record { 0 = function }; number = number }

-- where a frame stands
abbrev pub frame_spot : Program → Frame → Spot
frame_spot p frame = spot_in frame.function (next_number (slice_get p.functions frame.function) frame.tasks)

-- where the top frame stands
abbrev pub top_spot : Program → List Frame → Option Spot
top_spot p [] = None
top_spot p (frame ∷ frames) = Some (frame_spot p frame)

-- where the program stands, unless it has ended
abbrev pub spot_now : Program → State → Option Spot
spot_now p state = top_spot p state.frames

-- how a step of a function stands in the source
abbrev pub standing_in : Option Function → StepNumber → Option Standing
standing_in None number = None
standing_in (Some f) number = slice_get f.standings number

-- how a spot stands in the source
abbrev pub standing_at : Program → Spot → Option Standing
standing_at p spot = standing_in (slice_get p.functions spot.function.0) spot.number

-- how the program stands in the source, unless it has ended
abbrev pub standing_of : Program → Option Spot → Option Standing
standing_of p None = None
standing_of p (Some spot) = standing_at p spot

-- how the program stands in the source where it stands now
abbrev pub standing_now : Program → State → Option Standing
standing_now p state = standing_of p (spot_now p state)

-- the line of a standing
abbrev pub line_of : Option Standing → Option ℕ
line_of None = None
line_of (Some standing) = Some standing.place.line

-- what is in scope at a standing
abbrev pub scope_of : Option Standing → List Variable
scope_of None = []
scope_of (Some standing) = standing.scope

-- the line where the program stands
abbrev pub line_now : Program → State → Option ℕ
line_now p state = line_of (standing_now p state)

-- what is in scope where the program stands, nothing once it has ended
abbrev pub scope_now : Program → State → List Variable
scope_now p state = scope_of (standing_now p state)

-- the lanes that the top frame shows
abbrev pub top_lanes : List Frame → Lanes
top_lanes [] = []
top_lanes (frame ∷ frames) = frame_lanes frame

-- the lanes of the step that comes next, none of a program that has ended
abbrev pub lanes_now : State → Lanes
lanes_now state = top_lanes state.frames

-- the step of a function that made a call
abbrev pub call_spot : (function : ℕ) → Option StepNumber → Option Spot
call_spot function None = None
call_spot function (Some number) = Some (spot_in function number)

-- where the call stands that made the frame at this depth, the entry's frame being at depth 1 and made by none
abbrev pub call_at : (depth : ℕ) → List Frame → Option Spot
call_at depth [] = None
call_at depth (frame ∷ []) = None
call_at depth (frame ∷ below ∷ frames) =
    if length (frame ∷ below ∷ frames) == depth then call_spot below.function frame.call else call_at depth (below ∷ frames)
