-- The typed form of statements and their faults S7 to S10: each part is judged by itself, and a statement stands for its
-- typed form where all its parts are sound (ISPC User's Guide, "Control flow"; what is refused, and where, is a choice of
-- this project). `check` decides `statement`.
use Rattle.std.specs.Prelude.{ℕ, suc, ◌+◌, Bool, true, false, not, ◌&&◌, ◌||◌, List, [], ◌∷◌, ◌++◌, length, Option, Some, None, ℤ, pos, neg_ℤ, int_lt, if◌then◌else◌}
use Rattle.gang_types.specs.declared.types.IntType.{IntType}
use Rattle.gang_types.specs.declared.types.IntType.TheVariants as t
use Rattle.gang_types.specs.declared.types.Rate.{Rate}
use Rattle.gang_types.specs.declared.types.Rate.TheVariants.{Uniform, Varying}
use Rattle.gang_types.specs.declared.operators.BinaryOp.{BinaryOp}
use Rattle.gang_types.specs.declared.places.Place.{Place}
use Rattle.gang_types.specs.declared.places.VarId.TheVariants.{Local}
use Rattle.gang_types.specs.Values.{is_bool, value_in, wrapped}
use Rattle.gang_model.specs.declared.forms.Label.{Label}
use Rattle.gang_model.specs.declared.refusals.RefusalNumber.TheVariants.{S7, S8}
use Rattle.gang_model.specs.Types.Tree.{Var, Expr, Number, Target, Scalar as ToScalar, ElementOf, Nothing, Declares, Assigns, Returns, Dimension, Rows, Tiles, EachLane, EachValue, StepNumber, Stmt, Empty, Then, Declare, Assign, Change, If, Loop, BodyFirst, Break, Continue, Return, Switch, Segment, ForEach, Variable}
use Rattle.gang_model.specs.Source.Parsed.{Name, ParsedExpr, ParsedDim, ParsedTarget, ParsedStmt, ParsedEmpty, ParsedBlock, ParsedDeclare, ParsedAssign, ParsedChange, ParsedIncrement, ParsedDoCall, ParsedBreak, ParsedContinue, ParsedReturn, ParsedIf, ParsedIfElse, ParsedWhile, ParsedDo, ParsedFor, ParsedSwitch, ParsedForEach, ParsedForEachActive, ParsedForEachUnique, ParsedStmts, ParsedLast, ParsedNext, ParsedSegments, ParsedNoMore, ParsedSegment}
use Rattle.gang_model.specs.Running.Numbering.{steps_in, steps_in_all}
use Rattle.gang_model.specs.Names.Scope.{locals_in, locals_in_all}
use Rattle.gang_model.specs.Source.Judged.{Judged, Sound, Faulty, unless, both, ◌>>=◌, fault_if, refused}
use Rattle.gang_model.specs.Types.Conversions.{Typed, typed, may_become, as_bool, operation_type, right_operand}
use Rattle.gang_model.specs.Types.Typing.{Entry, Scope, entry_of, declared, index_entry, var_of, has_no_value, first_of, expression, given_value}
use Rattle.gang_model.specs.Types.Signatures.{ResultType}
use Rattle.gang_model.specs.Types.Calls.{Context, call_of, WholeCall, whole_call, right_call}
use Rattle.gang_model.specs.Types.TypeFaults.{variable_faults}

-- a declaration with a first value: a call's result, or a value
abbrev pub first_value : Option WholeCall → Context → Scope → Var → ParsedExpr → StepNumber → Judged Stmt
first_value (Some call) context scope v e step = right_call context scope (first_of e) call v.rate (Declares v) step
first_value None context scope v e step = do
  x ← given_value e scope v.type v.rate
  Sound (Declare step v (Some x))

-- a declaration
abbrev pub declaration : Context → Scope → Var → Option ParsedExpr → StepNumber → Judged Stmt
declaration context scope v None step = Sound (Declare step v None)
declaration context scope v (Some e) step = first_value (whole_call context.functions e) context scope v e step

-- a target with its type and rate
pub record Aimed : Type 0 where
  pub target : Target
  pub type : IntType
  pub rate : Rate

-- a target with this type and rate
abbrev pub aimed : Target → IntType → Rate → Aimed
aimed target type rate = record { target = target; type = type; rate = rate }

-- an index of a target: S8 at one that is bool
abbrev pub target_index : Scope → ParsedExpr → Judged Typed
target_index scope e = do
  i ← expression e scope
  unless (fault_if (is_bool i.type) S8 (first_of e)) i

-- S8 at a name that can not be assigned: nothing declared, a constant, an array without an index or a scalar with one
abbrev pub assigned : Place → (has_index : Bool) → Option Entry → Judged Entry
assigned p has_index None = refused S8 p
assigned p true (Some n) = unless (fault_if (n.variable.is_constant || (not n.variable.is_array || n.is_void)) S8 p) n
assigned p false (Some n) = unless (fault_if (n.variable.is_constant || has_no_value n) S8 p) n

-- a variable that is assigned
abbrev pub scalar_target : Scope → Place → Name → Judged Var
scalar_target scope p name = do
  n ← assigned p false (entry_of scope name)
  Sound (var_of n.variable)

-- a target: its name and its index are judged each by itself
abbrev pub target_of : Scope → Place → Name → Option ParsedExpr → Judged Aimed
target_of scope p name None = do
  v ← scalar_target scope p name
  Sound (aimed (ToScalar v) v.type v.rate)
target_of scope p name (Some e) = do
  parts ← both (assigned p true (entry_of scope name)) (target_index scope e)
  Sound (aimed (ElementOf parts.0.variable.id parts.1.rate parts.1.expr) parts.0.variable.type parts.1.rate)

-- the rate that a value for this target may have; any, where the target has a fault
abbrev pub rate_of : Judged Aimed → Rate
rate_of (Sound a) = a.rate
rate_of (Faulty first others) = Varying

-- the type that a value for this target gets
abbrev pub assigned_type : Judged Aimed → IntType
assigned_type (Sound a) = a.type
assigned_type (Faulty first others) = t.Int32

-- a value that is assigned: the target and the value are judged each by itself
abbrev pub assigned_value : Scope → Judged Aimed → ParsedExpr → StepNumber → Judged Stmt
assigned_value scope target e step = do
  parts ← both target (given_value e scope (assigned_type target) (rate_of target))
  Sound (Assign step parts.0.target parts.1)

-- the variable that a call's result is given to; one of any rate, where it has a fault
abbrev pub variable_of : Judged Var → Var
variable_of (Sound v) = v
variable_of (Faulty first others) = record { id = Local 0; type = t.Int32; rate = Varying }

-- a call's result that is assigned to a variable; p is the right side's first token
abbrev pub assigned_call : Context → Scope → Judged Var → Place → WholeCall → StepNumber → Judged Stmt
assigned_call context scope v p call step = do
  parts ← both v (right_call context scope p call (variable_of v).rate (Assigns (variable_of v)) step)
  Sound parts.1

-- a call stands whole on the right side of a variable, and not of an element
abbrev pub call_for : (index : Option ParsedExpr) → Option WholeCall → Option WholeCall
call_for None call = call
call_for (Some index) call = None

-- a call's result or a value that is assigned
abbrev pub assigned_by : Option WholeCall → Context → Scope → ParsedTarget → ParsedExpr → StepNumber → Judged Stmt
assigned_by (Some call) context scope target e step = assigned_call context scope (scalar_target scope target.at target.name) (first_of e) call step
assigned_by None context scope target e step = assigned_value scope (target_of scope target.at target.name target.index) e step

-- `target = e`
abbrev pub assignment : Context → Scope → ParsedTarget → ParsedExpr → StepNumber → Judged Stmt
assignment context scope target e step = assigned_by (call_for target.index (whole_call context.functions e)) context scope target e step

-- a right operand of `op=`: S7 at a varying one, where the target is uniform
abbrev pub operand_for : Rate → ParsedExpr → Scope → Judged Typed
operand_for rate e scope = do
  x ← expression e scope
  unless (fault_if (not (may_become x.rate rate)) S7 (first_of e)) x

-- `target op= x`, in the operation's type
abbrev pub changed : BinaryOp → StepNumber → Aimed → Typed → Stmt
changed op step a x = let type = operation_type op a.type x.type in Change step a.target a.type op type (right_operand op type x)

-- the int32 number 1 of `++` and `--`
abbrev pub number_one : Typed
number_one = typed (Number 1) t.Int32 Uniform

-- S8 at the keyword of a `return` without a value, where a result is asked
abbrev pub empty_return : Place → ResultType → StepNumber → Judged Stmt
empty_return p None step = Sound (Return step None)
empty_return p (Some r) step = refused S8 p

-- what is returned: a call's result, or a value
abbrev pub returned_value : Option WholeCall → Context → Scope → ParsedExpr → IntType × Rate → StepNumber → Judged Stmt
returned_value (Some call) context scope e r step = right_call context scope (first_of e) call r.1 Returns step
returned_value None context scope e r step = do
  x ← given_value e scope r.0 r.1
  Sound (Return step (Some x))

-- what is returned with a value
abbrev pub returned : Context → Scope → ParsedExpr → IntType × Rate → StepNumber → Judged Stmt
returned context scope e r step = returned_value (whole_call context.functions e) context scope e r step

-- `return` with a value in a void function is S8 at the value's first token
abbrev pub value_return : Context → Scope → ParsedExpr → ResultType → StepNumber → Judged Stmt
value_return context scope e None step = do
  s ← returned context scope e (t.Int32, Varying) step
  refused S8 (first_of e)
value_return context scope e (Some r) step = returned context scope e r step

-- `return`, with or without a value
abbrev pub returning : Context → Scope → Place → Option ParsedExpr → StepNumber → Judged Stmt
returning context scope p None step = empty_return p context.result step
returning context scope p (Some e) step = value_return context scope e context.result step

-- a test, in bool; an empty one is true
abbrev pub test_of : Scope → Option ParsedExpr → Judged Expr
test_of scope None = Sound (Number 1)
test_of scope (Some e) = do
  x ← expression e scope
  Sound (as_bool x)

-- the dimensions, with index variables from the k-th variable on: bounds are uniform int32
abbrev pub dimensions : Scope → ℕ → List ParsedDim → Judged (List Dimension)
dimensions scope k [] = Sound []
dimensions scope k (d ∷ dims) = do
  parts ← both (both (given_value d.low scope t.Int32 Uniform) (given_value d.high scope t.Int32 Uniform)) (dimensions scope (suc k) dims)
  Sound (record { index = record { id = Local k; type = t.Int32; rate = Varying }; low = parts.0.0; high = parts.0.1 } ∷ parts.1)

-- a label's whole number
abbrev pub label_number : Label → ℤ
label_number label = if label.is_negative then neg_ℤ (pos label.value) else pos label.value

-- whether a type has a whole number among its values
abbrev pub is_in : ℤ → IntType → Bool
is_in z type = not (int_lt z (value_in type z)) && not (int_lt (value_in type z) z)

-- S8 at a label whose number the selector's type does not have
abbrev pub label_word : Place → IntType → Option Label → Judged (Option ℕ)
label_word p type None = Sound None
label_word p type (Some label) = let z = label_number label in unless (fault_if (not (is_in z type)) S8 p) (Some (wrapped type z))

-- a selector: S8 at one that is bool
abbrev pub selector : Scope → ParsedExpr → Judged Typed
selector scope e = do
  x ← expression e scope
  unless (fault_if (is_bool x.type) S8 (first_of e)) x

-- a statement's typed form, and the variables declared in it, by their numbers
pub record Made : Type 0 where
  pub stmt : Stmt
  pub variables : List Variable

-- a statement with the variables declared in it
abbrev pub made : Stmt → List Variable → Made
made s variables = record { stmt = s; variables = variables }

-- a statement that declares nothing
abbrev pub alone : Stmt → Judged Made
alone s = Sound (made s [])

-- what is in scope after a statement, whose first variable has the number k
abbrev pub scope_after : ParsedStmt → Scope → ℕ → Scope
scope_after (ParsedDeclare p spec at name e) scope k = declared name (Local k) spec false false ∷ scope
scope_after s scope k = scope

-- the index variables of a `foreach`, the last one first
abbrev pub index_entries : ℕ → List ParsedDim → Scope → Scope
index_entries k [] scope = scope
index_entries k (d ∷ dims) scope = index_entries (suc k) dims (index_entry d.name (Local k) t.Int32 Varying ∷ scope)

-- the index variables of a `foreach`, by their numbers
abbrev pub index_variables : ℕ → List ParsedDim → List Variable
index_variables k [] = []
index_variables k (d ∷ dims) = (index_entry d.name (Local k) t.Int32 Varying).variable ∷ index_variables (suc k) dims

abbrev mutual
  -- a statement, whose first variable has the number k and whose first step the given number
  pub statement : ParsedStmt → Context → Scope → (k : ℕ) → StepNumber → Judged Made
  statement ParsedEmpty context scope k step = alone Empty
  statement (ParsedBlock ss) context scope k step = statements ss context scope k step
  statement (ParsedDeclare p spec at name e) context scope k step = do
    let n = declared name (Local k) spec false false
    parts ← both (unless (variable_faults at spec) n) (declaration context scope (var_of n.variable) e step)
    Sound (made parts.1 (n.variable ∷ []))
  statement (ParsedAssign p target e) context scope k step = do
    s ← assignment context scope target e step
    alone s
  statement (ParsedChange p target op e) context scope k step = do
    let a = target_of scope target.at target.name target.index
    parts ← both a (operand_for (rate_of a) e scope)
    alone (changed op step parts.0 parts.1)
  statement (ParsedIncrement p target op) context scope k step = do
    a ← target_of scope target.at target.name target.index
    alone (changed op step a number_one)
  statement (ParsedDoCall p name args) context scope k step = do
    c ← call_of context scope p name args Nothing step
    alone c.stmt
  statement (ParsedBreak p) context scope k step = alone (Break step)
  statement (ParsedContinue p) context scope k step = alone (Continue step)
  statement (ParsedReturn p e) context scope k step = do
    s ← returning context scope p e step
    alone s
  statement (ParsedIf p e a) context scope k step = do
    parts ← both (test_of scope (Some e)) (statement a context scope k (step + 1))
    Sound (made (If step parts.0 parts.1.stmt Empty) parts.1.variables)
  statement (ParsedIfElse p e a b) context scope k step = do
    parts ← both (test_of scope (Some e)) (both (statement a context scope k (step + 1)) (statement b context scope (k + locals_in a) (step + 1 + steps_in a)))
    Sound (made (If step parts.0 parts.1.0.stmt parts.1.1.stmt) (parts.1.0.variables ++ parts.1.1.variables))
  statement (ParsedWhile p e body) context scope k step = do
    parts ← both (test_of scope (Some e)) (statement body context scope k step)
    Sound (made (Loop (step + steps_in body) parts.0 Empty parts.1.stmt) parts.1.variables)
  statement (ParsedDo body p e) context scope k step = do
    parts ← both (statement body context scope k step) (test_of scope (Some e))
    Sound (made (BodyFirst (step + steps_in body) parts.1 parts.0.stmt) parts.0.variables)
  statement (ParsedFor p start e update body) context scope k step = do
    let inner = scope_after start scope k
    let inner_k = k + locals_in start
    let body_step = step + steps_in start
    let update_step = body_step + steps_in body
    parts ← both (both (statement start context scope k step) (test_of inner e))
        (both (statement update context inner inner_k update_step) (statement body context inner (inner_k + locals_in update) body_step))
    Sound (made (Then parts.0.0.stmt (Loop (update_step + steps_in update) parts.0.1 parts.1.0.stmt parts.1.1.stmt))
        (parts.0.0.variables ++ (parts.1.0.variables ++ parts.1.1.variables)))
  statement (ParsedSwitch p e segments) context scope k step = do
    x ← selector scope e
    inner ← segments_of segments x.type context scope k (step + 1)
    Sound (made (Switch step x.expr inner.stmt) inner.variables)
  statement (ParsedForEach p is_tiled dims body) context scope k step = do
    parts ← both (dimensions scope k dims) (statement body context (index_entries k dims scope) (k + length dims) (step + 1))
    Sound (made (ForEach step (if is_tiled then Tiles parts.0 else Rows parts.0) parts.1.stmt) (index_variables k dims ++ parts.1.variables))
  statement (ParsedForEachActive p at name body) context scope k step = do
    let n = index_entry name (Local k) t.Int64 Uniform
    inner ← statement body context (n ∷ scope) (suc k) (step + 1)
    Sound (made (ForEach step (EachLane (var_of n.variable)) inner.stmt) (n.variable ∷ inner.variables))
  statement (ParsedForEachUnique p at name e body) context scope k step = do
    x ← expression e scope
    let n = index_entry name (Local k) x.type Uniform
    inner ← statement body context (n ∷ scope) (suc k) (step + 1)
    Sound (made (ForEach step (EachValue (var_of n.variable) x.expr) inner.stmt) (n.variable ∷ inner.variables))

  -- a list of statements, each in scope of what the ones before it declare
  pub statements : ParsedStmts → Context → Scope → (k : ℕ) → StepNumber → Judged Made
  statements ParsedLast context scope k step = alone Empty
  statements (ParsedNext s ss) context scope k step = do
    parts ← both (statement s context scope k step) (statements ss context (scope_after s scope k) (k + locals_in s) (step + steps_in s))
    Sound (made (Then parts.0.stmt parts.1.stmt) (parts.0.variables ++ parts.1.variables))

  -- the segments of a switch, whose selector has the given type
  pub segments_of : ParsedSegments → IntType → Context → Scope → (k : ℕ) → StepNumber → Judged Made
  segments_of ParsedNoMore type context scope k step = alone Empty
  segments_of (ParsedSegment p label ss rest) type context scope k step = do
    parts ← both (label_word p type label) (both (statements ss context scope k step) (segments_of rest type context scope (k + locals_in_all ss) (step + steps_in_all ss)))
    Sound (made (Segment parts.0 parts.1.0.stmt parts.1.1.stmt) (parts.1.0.variables ++ parts.1.1.variables))
