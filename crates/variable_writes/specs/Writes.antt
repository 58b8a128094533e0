-- Which steps of a program set a variable, by its tree: those that write words of it when they are done, be they the words that it had.
-- An id stands for a variable of the file, or for one of the function whose step it is.
-- An array parameter is a variable with an id of its own, whatever array it stands for: what is written to an element of the parameter
-- sets the parameter, and not the array.
use Rattle.std.specs.Prelude.{◌==◌, ◌&&◌, ◌||◌, Bool, false, List, Option, Some, None, slice_get}
use Rattle.std.specs.List.{list_any}
use Rattle.gang_types.specs.declared.places.Spot.{Spot}
use Rattle.gang_types.specs.declared.places.VarId.{VarId}
use Rattle.gang_model.specs.Types.Tree.{StepNumber, Target, Scalar, ElementOf, ResultFor, Nothing, Declares, Assigns, Returns, Dimension, RoundsOf, Rows, Tiles, EachLane, EachValue, Stmt, Then, Declare, Assign, Change, If, Loop, BodyFirst, Switch, Segment, ForEach, PackedStore, PackedLoad, Function, Program}
use Rattle.gang_model.specs.Running.State.{same_id}
use Rattle.gang_model.specs.Running.Step.{round_number}

-- whether a result is given to this variable
abbrev pub given_to : VarId → ResultFor → Bool
given_to id Nothing = false
given_to id (Declares v) = same_id v.id id
given_to id (Assigns v) = same_id v.id id
given_to id Returns = false

-- whether this variable is what is assigned, or the array of the element that is
abbrev pub is_target : VarId → Target → Bool
is_target id (Scalar v) = same_id v.id id
is_target id (ElementOf array rate index) = same_id array id

-- whether this variable is an index of these dimensions
abbrev pub is_index : VarId → List Dimension → Bool
is_index id dimensions = list_any (λ d. same_id d.index.id id) dimensions

-- whether each round of a foreach form sets this variable
abbrev pub sets_rounds : VarId → RoundsOf → Bool
sets_rounds id (Rows dimensions) = is_index id dimensions
sets_rounds id (Tiles dimensions) = is_index id dimensions
sets_rounds id (EachLane v) = same_id v.id id
sets_rounds id (EachValue v e) = same_id v.id id

-- Whether a statement of one step has this number and sets the variable. A packed store sets its array, and a packed load the variable
-- that it loads into, not the array; both give how many lanes there were at the same step. A call sets nothing: what it passes is in the
-- new frame from the beginning, and what it returns comes when that frame is left.
abbrev pub step_sets : VarId → StepNumber → Stmt → Bool
step_sets id number (Declare step v e) = (step == number) && same_id v.id id
step_sets id number (Assign step target e) = (step == number) && is_target id target
step_sets id number (Change step target type op in_type e) = (step == number) && is_target id target
step_sets id number (PackedStore step array from e result_for) = (step == number) && (same_id array id || given_to id result_for)
step_sets id number (PackedLoad step array from v result_for) = (step == number) && (same_id v.id id || given_to id result_for)
step_sets id number s = false

-- Whether some statement within a statement, or itself, has a step of this number that sets the variable. The tests of `if`, of loops and of
-- `switch` set nothing, and neither does the head of a foreach form: its rounds set the indices, each as it begins.
abbrev pub sets : VarId → StepNumber → Stmt → Bool
sets id number (Then first rest) = sets id number first || sets id number rest
sets id number (If step test first other) = sets id number first || sets id number other
sets id number (Loop step test update body) = sets id number update || sets id number body
sets id number (BodyFirst step test body) = sets id number body
sets id number (Switch step e segments) = sets id number segments
sets id number (Segment label body rest) = sets id number body || sets id number rest
sets id number (ForEach head form body) = ((round_number head body == number) && sets_rounds id form) || sets id number body
sets id number s = step_sets id number s

-- the same of a function's body, if there is such a function
abbrev pub sets_in : VarId → StepNumber → Option Function → Bool
sets_in id number None = false
sets_in id number (Some f) = sets id number f.body

-- whether a step of a program sets the variable
abbrev pub sets_at : Program → Spot → VarId → Bool
sets_at p spot id = sets_in id spot.number (slice_get p.functions spot.function.0)
