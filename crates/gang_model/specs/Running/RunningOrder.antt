-- The order in which the steps of a function run, by their numbers: a loop's body, its update, its test; a foreach form's head,
-- its body, its rounds (a choice of this project).
use Rattle.std.specs.Prelude.{◌≡◌, ℕ, ◌+◌, ◌≤◌, List, [], ◌∷◌, Some, slice_get}
use Rattle.gang_model.specs.Types.Tree.{Stmt, Empty, Then, Declare, Assign, Change, If, Loop, BodyFirst, Break, Continue, Return, Switch, Segment, ForEach, Call, Check, PackedStore, PackedLoad, Function, Program}
use Rattle.gang_model.specs.Running.State.{Doing, Run, LoopTest, LoopUpdate, Round, RoundEnd, SwitchEnd, Task, Frame}
use Rattle.gang_model.specs.Running.Step.{steps_of}

-- the steps of a statement have the numbers from n on, in running order
abbrev pub IsNumbered : ℕ → Stmt → Type 0
IsNumbered n Empty = Unit {0}
IsNumbered n (Then first rest) = IsNumbered n first × IsNumbered (n + steps_of first) rest
IsNumbered n (If number e first other) = (number ≡ n) × IsNumbered (n + 1) first × IsNumbered (n + 1 + steps_of first) other
IsNumbered n (Loop number e update body) = (number ≡ n + steps_of body + steps_of update) × IsNumbered n body × IsNumbered (n + steps_of body) update
IsNumbered n (BodyFirst number e body) = (number ≡ n + steps_of body) × IsNumbered n body
IsNumbered n (Switch number e segments) = (number ≡ n) × IsNumbered (n + 1) segments
IsNumbered n (Segment label body rest) = IsNumbered n body × IsNumbered (n + steps_of body) rest
IsNumbered n (ForEach number form body) = (number ≡ n) × IsNumbered (n + 1) body
IsNumbered n (Declare number v e) = number ≡ n
IsNumbered n (Assign number target e) = number ≡ n
IsNumbered n (Change number target type op in_type e) = number ≡ n
IsNumbered n (Break number) = number ≡ n
IsNumbered n (Continue number) = number ≡ n
IsNumbered n (Return number e) = number ≡ n
IsNumbered n (Call number function args result_for) = number ≡ n
IsNumbered n (Check number e) = number ≡ n
IsNumbered n (PackedStore number array from e result_for) = number ≡ n
IsNumbered n (PackedLoad number array from v result_for) = number ≡ n

-- the same of what a task does; of a loop's test and of a round it is the body that begins at n
abbrev pub IsNumberedTask : ℕ → Doing → Type 0
IsNumberedTask n (Run s) = IsNumbered n s
IsNumberedTask n (LoopUpdate s) = IsNumbered n s
IsNumberedTask n (LoopTest number e update body) = (number ≡ n + steps_of body + steps_of update) × IsNumbered n body × IsNumbered (n + steps_of body) update
IsNumberedTask n (Round number indices body) = (number ≡ n + steps_of body) × IsNumbered n body
IsNumberedTask n RoundEnd = Unit {0}
IsNumberedTask n SwitchEnd = Unit {0}

-- the number of a task's first step
abbrev pub first_number : Doing → ℕ → ℕ
first_number (LoopTest number e update body) n = number
first_number (Round number indices body) n = number
first_number doing n = n

-- the number after a task's last step; the rounds of one form have one number
abbrev pub past_number : Doing → ℕ → ℕ
past_number (Run s) n = n + steps_of s
past_number (LoopUpdate s) n = n + steps_of s
past_number (LoopTest number e update body) n = number + 1
past_number (Round number indices body) n = number
past_number RoundEnd n = n
past_number SwitchEnd n = n

-- the steps of the tasks stand in running order, from one number up to another
abbrev pub InOrder : ℕ → List Task → ℕ → Type 0
InOrder from [] to = from ≤ to
InOrder from (t ∷ ts) to = (n : ℕ) × (from ≤ first_number t.doing n) × IsNumberedTask n t.doing × InOrder (past_number t.doing n) ts to

-- a frame is that of a function, and its tasks stand in running order within it
pub record FrameInOrder (p : Program) (from : ℕ) (frame : Frame) : Type 0 where
  pub function : Function
  pub is_function : slice_get p.functions frame.function ≡ Some function
  pub tasks : InOrder from frame.tasks (steps_of function.body)

-- so do the tasks of all frames
abbrev pub FramesInOrder : Program → List Frame → Type 0
FramesInOrder p [] = Unit {0}
FramesInOrder p (frame ∷ frames) = FrameInOrder p 0 frame × FramesInOrder p frames

-- the same, where the top frame's tasks begin at a number
abbrev pub TopInOrder : Program → ℕ → List Frame → Type 0
TopInOrder p from [] = Unit {0}
TopInOrder p from (frame ∷ frames) = FrameInOrder p from frame × FramesInOrder p frames

-- the steps of each function have the numbers from 0 on
abbrev pub IsNumberedProgram : Program → Type 0
IsNumberedProgram p = (n : ℕ) (f : Function) → slice_get p.functions n ≡ Some f → IsNumbered 0 f.body
