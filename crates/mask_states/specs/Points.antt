-- What each step of a function does to the lanes that it is done by, and where they go on: a point for each step, in running order
-- (ISPC User's Guide, "Control Flow"; numbers in place of lists of tasks are a choice of this project).
use Rattle.std.specs.Prelude.{ℕ, List, [], ◌∷◌, ◌++◌, Option, Some, None, unwrap_or}
use Rattle.gang_model.specs.Types.Tree.{Expr, StepNumber, Arg, ResultFor, Nothing, Declares, Assigns, Returns, RoundsOf, Stmt, Empty, Then, Declare, Assign, Change, If, Loop, BodyFirst, Break, Continue, Return, Switch, Segment, ForEach, Call, Check, PackedStore, PackedLoad, Function}
use Rattle.gang_model.specs.Running.Step.{steps_of, round_number}

-- what a step does, and the numbers of the steps that its lanes wait for next
pub data Point : Type 0 where
  -- the statement, which moves no lane
  Put : Stmt → (next : StepNumber) → Point
  -- nothing: `break` and `continue`
  Go : (next : StepNumber) → Point
  Branch : (test : Expr) → (yes' no' : StepNumber) → Point
  -- a switch: where each segment begins, and what follows them
  Choose : (selector : Expr) → (segments : Stmt) → (entries : List StepNumber) → (next : StepNumber) → Point
  -- a foreach form: the number of its rounds, and what follows it
  Begin : (form : RoundsOf) → (rounds next : StepNumber) → Point
  -- the next round of a foreach form: where its body begins
  Turn : (body : StepNumber) → Point
  -- a call; its lanes go on when it is left
  Enter : (function : ℕ) → List Arg → ResultFor → (next : StepNumber) → Point

-- where lanes go on after a statement, and after a `break`, a `continue` and a `return` in it, where one may stand
pub record Ways : Type 0 where
  pub next : StepNumber
  pub on_break : Option StepNumber
  pub on_continue : Option StepNumber
  pub on_return : Option StepNumber

-- the ways of a statement that is followed by another step
abbrev pub before_step : StepNumber → Ways → Ways
before_step number ways = record ways { next = number }

-- the number of a statement's first step; of a statement without one that of the step that follows it
abbrev pub entry_of : Stmt → (next : StepNumber) → StepNumber
entry_of Empty next = next
entry_of (Then first rest) next = entry_of first (entry_of rest next)
entry_of (Declare number v e) next = number
entry_of (Assign number target e) next = number
entry_of (Change number target type op in_type e) next = number
entry_of (If number test first other) next = number
entry_of (Loop number test update body) next = number
entry_of (BodyFirst number test body) next = entry_of body number
entry_of (Break number) next = number
entry_of (Continue number) next = number
entry_of (Return number e) next = number
entry_of (Switch number e segments) next = number
entry_of (Segment label body rest) next = entry_of body (entry_of rest next)
entry_of (ForEach number form body) next = number
entry_of (Call number function args result_for) next = number
entry_of (Check number e) next = number
entry_of (PackedStore number array from e result_for) next = number
entry_of (PackedLoad number array from v result_for) next = number

-- where each segment of a switch begins, the next one's beginning where it has no step
abbrev pub entries_of : Stmt → (next : StepNumber) → List StepNumber
entries_of (Segment label body rest) next = entry_of (Segment label body rest) next ∷ entries_of rest next
entries_of s next = []

-- the ways of a loop's body; the loop's update begins at `again`
abbrev pub body_ways : (again : StepNumber) → Ways → Ways
body_ways again ways = record { next = again; on_break = Some ways.next; on_continue = Some again; on_return = ways.on_return }

-- the ways of a loop's update, which its test follows
abbrev pub update_ways : (test : StepNumber) → Ways → Ways
update_ways test ways = record ways { next = test; on_break = Some ways.next }

-- the ways of the body of a foreach form, out of which only `continue` leads
abbrev pub round_ways : (rounds : StepNumber) → Ways
round_ways rounds = record { next = rounds; on_break = None; on_continue = Some rounds; on_return = None }

-- where lanes go on that have a result for this
abbrev pub after_result : ResultFor → Ways → StepNumber
after_result Nothing ways = ways.next
after_result (Declares v) ways = ways.next
after_result (Assigns v) ways = ways.next
after_result Returns ways = unwrap_or ways.on_return ways.next

-- a statement's points, in running order
abbrev pub points_of : Stmt → Ways → List Point
points_of Empty ways = []
points_of (Then first rest) ways = points_of first (before_step (entry_of rest ways.next) ways) ++ points_of rest ways
points_of (Declare number v e) ways = Put (Declare number v e) ways.next ∷ []
points_of (Assign number target e) ways = Put (Assign number target e) ways.next ∷ []
points_of (Change number target type op in_type e) ways = Put (Change number target type op in_type e) ways.next ∷ []
points_of (If number test first other) ways =
    Branch test (entry_of first ways.next) (entry_of other ways.next) ∷ (points_of first ways ++ points_of other ways)
points_of (Loop number test update body) ways =
    points_of body (body_ways (entry_of update number) ways) ++ (points_of update (update_ways number ways) ++ Branch test (entry_of body (entry_of update number)) ways.next ∷ [])
points_of (BodyFirst number test body) ways = points_of body (body_ways number ways) ++ Branch test (entry_of body number) ways.next ∷ []
points_of (Break number) ways = Go (unwrap_or ways.on_break ways.next) ∷ []
points_of (Continue number) ways = Go (unwrap_or ways.on_continue ways.next) ∷ []
points_of (Return number e) ways = Put (Return number e) (unwrap_or ways.on_return ways.next) ∷ []
points_of (Switch number e segments) ways =
    Choose e segments (entries_of segments ways.next) ways.next ∷ points_of segments (record ways { on_break = Some ways.next })
points_of (Segment label body rest) ways = points_of body (before_step (entry_of rest ways.next) ways) ++ points_of rest ways
points_of (ForEach number form body) ways =
    Begin form (round_number number body) ways.next ∷ (points_of body (round_ways (round_number number body)) ++ Turn (entry_of body (round_number number body)) ∷ [])
points_of (Call number function args result_for) ways = Enter function args result_for (after_result result_for ways) ∷ []
points_of (Check number e) ways = Put (Check number e) ways.next ∷ []
points_of (PackedStore number array from e result_for) ways = Put (PackedStore number array from e result_for) (after_result result_for ways) ∷ []
points_of (PackedLoad number array from v result_for) ways = Put (PackedLoad number array from v result_for) (after_result result_for ways) ∷ []

-- the number of a function's closing brace
abbrev pub closing_number : Function → StepNumber
closing_number f = steps_of f.body

-- the ways of a function's body
abbrev pub function_ways : Function → Ways
function_ways f = record { next = closing_number f; on_break = None; on_continue = None; on_return = Some (closing_number f) }

-- the points of a function, one for each step but its closing brace
abbrev pub points_in : Function → List Point
points_in f = points_of f.body (function_ways f)
