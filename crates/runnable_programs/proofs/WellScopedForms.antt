-- The typed form of a sound statement that tokens spell declares scalars of its function, and its foreach forms have varying or uniform
-- index variables and one to three dimensions.
use Rattle.std.proofs.Common.{ℕ, suc, ◌+◌, Bool, true, false, List, [], ◌∷◌, ◌++◌, length, ◌≡◌, refl, ap, arith}
use Rattle.std.specs.Prelude.{Option, Some, None, if◌then◌else◌}
use Rattle.gang_types.specs.declared.types.IntType.{IntType}
use Rattle.gang_types.specs.declared.types.IntType.TheVariants as t
use Rattle.gang_types.specs.declared.types.Rate.{Rate}
use Rattle.gang_types.specs.declared.types.Rate.TheVariants.{Uniform, Varying}
use Rattle.gang_types.specs.declared.places.Place.{Place}
use Rattle.gang_types.specs.declared.places.VarId.TheVariants.{Local}
use Rattle.gang_model.specs.declared.refusals.RefusalNumber.TheVariants.{S9}
use Rattle.gang_model.specs.Types.Tree.{Var, ResultFor, Nothing, Declares, Assigns, Returns, Dimension, RoundsOf, Rows, Tiles, EachLane, EachValue, StepNumber, Stmt, Empty, Then, Declare, Assign, Change, If, Loop, BodyFirst, Break, Continue, Return, Switch, Segment, ForEach, Call, Check, PackedStore, PackedLoad, Variable}
use Rattle.gang_model.specs.Source.Parsed.{Name, ParsedExpr, ParsedArgs, ParsedDim, ParsedTarget, ParsedStmt, ParsedEmpty, ParsedBlock, ParsedDeclare, ParsedAssign, ParsedChange, ParsedIncrement, ParsedDoCall, ParsedBreak, ParsedContinue, ParsedReturn, ParsedIf, ParsedIfElse, ParsedWhile, ParsedDo, ParsedFor, ParsedSwitch, ParsedForEach, ParsedForEachActive, ParsedForEachUnique, ParsedStmts, ParsedLast, ParsedNext, ParsedSegments, ParsedNoMore, ParsedSegment}
use Rattle.gang_model.specs.Running.Numbering.{steps_in, steps_in_all}
use Rattle.gang_model.specs.Names.Scope.{locals_in, locals_in_all}
use Rattle.gang_model.specs.Source.Judged.{Judged, Sound, refused, unless, both, ◌>>=◌}
use Rattle.gang_model.proofs.JudgedLaws.{OnSound, on_any, on_then, on_both, on_unless, on_pair, on_if}
use Rattle.gang_model.proofs.StandingLaws.{Each, each_join}
use Rattle.gang_model.specs.Types.LibraryTable.{StatementCall, Asserts, PackedStores, PackedLoads, statement_call}
use Rattle.gang_model.specs.Types.Signatures.{ResultType}
use Rattle.gang_model.specs.Types.Typing.{Scope, Passing, Scalar, View, Reference, arguments, given_value, first_of, var_of, declared, index_entry, expression}
use Rattle.gang_model.specs.Types.Overloads.{candidates, overload}
use Rattle.gang_model.specs.Types.Calls.{Context, Called, stored_to, takes_elements, packed, library_statement, call_of_kind, call_of, WholeCall, whole_call, right_call, result_faults}
use Rattle.gang_model.specs.Types.TypeFaults.{variable_faults}
use Rattle.gang_model.specs.Types.Statements.{first_value, declaration, scalar_target, target_of, rate_of, assigned_type, variable_of, call_for, assigned_by, operand_for, empty_return, returned_value, returned, value_return, returning, test_of, dimensions, label_word, selector, Made, made, scope_after, index_entries, index_variables, statement, statements, segments_of}
use Rattle.foreach_lowering.specs.Law.{HasDimensions}
use Rattle.runnable_programs.proofs.WellSpelled.{HasFewDims, IsWellSpelled, AreWellSpelled, SegmentsWellSpelled}

-- ---- forms

-- a variable is a function's
abbrev pub IsLocal : Var → Type 0
IsLocal x = (k : ℕ) × (x.id ≡ Local k)

-- what a call's result declares is a variable of a function
abbrev pub DeclaresLocal : ResultFor → Type 0
DeclaresLocal (Declares x) = IsLocal x
DeclaresLocal result_for = Unit {0}

-- a dimension's index variable is a varying one of a function
abbrev pub HasWellScopedIndex : Dimension → Type 0
HasWellScopedIndex d = IsLocal d.index × (d.index.rate ≡ Varying)

-- the head of a foreach form: a domain's dimensions, or a uniform index variable of a function
abbrev pub HasWellScopedHead : RoundsOf → Type 0
HasWellScopedHead (Rows ds) = HasDimensions (Rows ds) × Each HasWellScopedIndex ds
HasWellScopedHead (Tiles ds) = HasDimensions (Tiles ds) × Each HasWellScopedIndex ds
HasWellScopedHead (EachLane x) = IsLocal x × (x.rate ≡ Uniform)
HasWellScopedHead (EachValue x e) = IsLocal x × (x.rate ≡ Uniform)

-- what a statement declares is a function's, and so are the index variables of its foreach forms
abbrev pub HasWellScopedForm : Stmt → Type 0
HasWellScopedForm Empty = Unit {0}
HasWellScopedForm (Then first rest) = HasWellScopedForm first × HasWellScopedForm rest
HasWellScopedForm (Declare number x e) = IsLocal x
HasWellScopedForm (Assign number target e) = Unit {0}
HasWellScopedForm (Change number target type op in_type e) = Unit {0}
HasWellScopedForm (If number test first other) = HasWellScopedForm first × HasWellScopedForm other
HasWellScopedForm (Loop number test update body) = HasWellScopedForm update × HasWellScopedForm body
HasWellScopedForm (BodyFirst number test body) = HasWellScopedForm body
HasWellScopedForm (Break number) = Unit {0}
HasWellScopedForm (Continue number) = Unit {0}
HasWellScopedForm (Return number e) = Unit {0}
HasWellScopedForm (Call number called args result_for) = DeclaresLocal result_for
HasWellScopedForm (Check number e) = Unit {0}
HasWellScopedForm (PackedStore number array from e result_for) = DeclaresLocal result_for
HasWellScopedForm (PackedLoad number array from x result_for) = DeclaresLocal result_for
HasWellScopedForm (Switch number e segments) = HasWellScopedForm segments
HasWellScopedForm (Segment label body rest) = HasWellScopedForm body × HasWellScopedForm rest
HasWellScopedForm (ForEach number form body) = HasWellScopedHead form × HasWellScopedForm body

abbrev pub IsNoArray : Variable → Type 0
IsNoArray v = v.is_array ≡ false

-- a variable that a body may declare: no array, and no parameter
abbrev pub IsDeclaredScalar : Variable → Type 0
IsDeclaredScalar v = IsNoArray v × (v.is_parameter ≡ false)

-- a statement of well-scoped forms that declares such variables alone
abbrev pub MadeWellScoped : Made → Type 0
MadeWellScoped m = HasWellScopedForm m.stmt × Each IsDeclaredScalar m.variables

-- ---- calls

abbrev CalledWellScoped : Called → Type 0
CalledWellScoped c = HasWellScopedForm c.stmt

library_well_scoped : (p : Place) (call : StatementCall) (given : List Passing) (result_for : ResultFor) (n : StepNumber) → DeclaresLocal result_for
    → OnSound (library_statement p call given result_for n) CalledWellScoped
library_well_scoped p Asserts (Scalar q e ∷ []) result_for n local = tt
library_well_scoped p PackedStores (View q v from ∷ Scalar r e ∷ []) result_for n local = on_unless (stored_to q v) _ CalledWellScoped local
library_well_scoped p PackedLoads (View q v from ∷ Reference r w ∷ []) result_for n local =
    on_if (takes_elements w v) (unless (stored_to r w) (packed (PackedLoad n v.variable.id from (var_of w.variable) result_for))) (refused S9 p) CalledWellScoped
    (on_unless (stored_to r w) _ CalledWellScoped local) tt
library_well_scoped p call given result_for n local = tt

kind_well_scoped : (kind : Option StatementCall) (context : Context) (p : Place) (name : Name) (given : List Passing) (result_for : ResultFor) (n : StepNumber)
    → DeclaresLocal result_for → OnSound (call_of_kind kind context p name given result_for n) CalledWellScoped
kind_well_scoped None context p name given result_for n local =
    on_then (overload p (candidates 0 context.functions name given)) _ (λ c. Unit {0}) CalledWellScoped (on_any (overload p (candidates 0 context.functions name given))) (λ c _. local)
kind_well_scoped (Some call) context p name given result_for n local = library_well_scoped p call given result_for n local

call_well_scoped : (context : Context) (scope : Scope) (p : Place) (name : Name) (args : ParsedArgs) (result_for : ResultFor) (n : StepNumber)
    → DeclaresLocal result_for → OnSound (call_of context scope p name args result_for n) CalledWellScoped
call_well_scoped context scope p name args result_for n local =
    on_then (arguments args scope) _ (λ given. Unit {0}) CalledWellScoped (on_any (arguments args scope))
    (λ given _. kind_well_scoped (statement_call name) context p name given result_for n local)

right_well_scoped : (context : Context) (scope : Scope) (p : Place) (call : WholeCall) (rate : Rate) (result_for : ResultFor) (n : StepNumber)
    → DeclaresLocal result_for → OnSound (right_call context scope p call rate result_for n) HasWellScopedForm
right_well_scoped context scope p call rate result_for n local =
    on_then (call_of context scope call.at call.name call.args result_for n) _ CalledWellScoped HasWellScopedForm (call_well_scoped context scope call.at call.name call.args result_for n local)
    (λ c h. on_unless (result_faults p c.result rate) c.stmt HasWellScopedForm h)

-- ---- statements of one step

first_well_scoped : (call : Option WholeCall) (context : Context) (scope : Scope) (v : Var) (e : ParsedExpr) (n : StepNumber) → IsLocal v
    → OnSound (first_value call context scope v e n) HasWellScopedForm
first_well_scoped (Some call) context scope v e n local = right_well_scoped context scope (first_of e) call v.rate (Declares v) n local
first_well_scoped None context scope v e n local =
    on_then (given_value e scope v.type v.rate) _ (λ x. Unit {0}) HasWellScopedForm (on_any (given_value e scope v.type v.rate)) (λ x _. local)

declaration_well_scoped : (context : Context) (scope : Scope) (v : Var) (e : Option ParsedExpr) (n : StepNumber) → IsLocal v
    → OnSound (declaration context scope v e n) HasWellScopedForm
declaration_well_scoped context scope v None n local = local
declaration_well_scoped context scope v (Some e) n local = first_well_scoped (whole_call context.functions e) context scope v e n local

assigned_well_scoped : (call : Option WholeCall) (context : Context) (scope : Scope) (target : ParsedTarget) (e : ParsedExpr) (n : StepNumber)
    → OnSound (assigned_by call context scope target e n) HasWellScopedForm
assigned_well_scoped (Some call) context scope target e n =
    let v = scalar_target scope target.at target.name in
    on_pair v (right_call context scope (first_of e) call (variable_of v).rate (Assigns (variable_of v)) n) _ (λ x. Unit {0}) HasWellScopedForm HasWellScopedForm (on_any v)
    (right_well_scoped context scope (first_of e) call (variable_of v).rate (Assigns (variable_of v)) n tt) (λ x s _ h. h)
assigned_well_scoped None context scope target e n =
    let aim = target_of scope target.at target.name target.index in
    let given = given_value e scope (assigned_type aim) (rate_of aim) in
    on_pair aim given _ (λ x. Unit {0}) (λ x. Unit {0}) HasWellScopedForm (on_any aim) (on_any given) (λ a x _ _. tt)

returned_well_scoped : (call : Option WholeCall) (context : Context) (scope : Scope) (e : ParsedExpr) (r : IntType × Rate) (n : StepNumber)
    → OnSound (returned_value call context scope e r n) HasWellScopedForm
returned_well_scoped (Some call) context scope e r n = right_well_scoped context scope (first_of e) call r.1 Returns n tt
returned_well_scoped None context scope e r n =
    on_then (given_value e scope r.0 r.1) _ (λ x. Unit {0}) HasWellScopedForm (on_any (given_value e scope r.0 r.1)) (λ x _. tt)

value_return_well_scoped : (context : Context) (scope : Scope) (e : ParsedExpr) (result : ResultType) (n : StepNumber)
    → OnSound (value_return context scope e result n) HasWellScopedForm
value_return_well_scoped context scope e None n =
    on_then (returned context scope e (t.Int32, Varying) n) _ (λ s. Unit {0}) HasWellScopedForm (on_any (returned context scope e (t.Int32, Varying) n)) (λ s _. tt)
value_return_well_scoped context scope e (Some r) n = returned_well_scoped (whole_call context.functions e) context scope e r n

empty_return_well_scoped : (p : Place) (result : ResultType) (n : StepNumber) → OnSound (empty_return p result n) HasWellScopedForm
empty_return_well_scoped p None n = tt
empty_return_well_scoped p (Some r) n = tt

returning_well_scoped : (context : Context) (scope : Scope) (p : Place) (e : Option ParsedExpr) (n : StepNumber)
    → OnSound (returning context scope p e n) HasWellScopedForm
returning_well_scoped context scope p None n = empty_return_well_scoped p context.result n
returning_well_scoped context scope p (Some e) n = value_return_well_scoped context scope e context.result n

alone_well_scoped : (j : Judged Stmt) → OnSound j HasWellScopedForm → OnSound (j >>= (λ s. Sound (made s []))) MadeWellScoped
alone_well_scoped j h = on_then j _ HasWellScopedForm MadeWellScoped h (λ s k. (k, tt))

-- ---- foreach forms

-- as many dimensions as there are written, each with such an index variable
abbrev HasWellScopedIndexes : List ParsedDim → List Dimension → Type 0
HasWellScopedIndexes dims ds = (length ds ≡ length dims) × Each HasWellScopedIndex ds

dimensions_well_scoped : (scope : Scope) (k : ℕ) (dims : List ParsedDim) → OnSound (dimensions scope k dims) (HasWellScopedIndexes dims)
dimensions_well_scoped scope k [] = (refl, tt)
dimensions_well_scoped scope k (d ∷ dims) =
    let bounds = both (given_value d.low scope t.Int32 Uniform) (given_value d.high scope t.Int32 Uniform) in
    on_pair bounds (dimensions scope (suc k) dims) _ (λ x. Unit {0}) (HasWellScopedIndexes dims) (HasWellScopedIndexes (d ∷ dims)) (on_any bounds)
    (dimensions_well_scoped scope (suc k) dims) (λ x ds _ h. (ap suc h.0, (((k, refl), refl), h.1)))

few_dimensions : (dims : List ParsedDim) (ds : List Dimension) → HasFewDims dims → length ds ≡ length dims → HasDimensions (Rows ds)
few_dimensions dims ds few e = (omega (arith, e, few.0), omega (arith, e, few.1))

head_well_scoped : (is_tiled : Bool) (dims : List ParsedDim) (ds : List Dimension) → HasFewDims dims → HasWellScopedIndexes dims ds
    → HasWellScopedHead (if is_tiled then Tiles ds else Rows ds)
head_well_scoped true dims ds few h = (few_dimensions dims ds few h.0, h.1)
head_well_scoped false dims ds few h = (few_dimensions dims ds few h.0, h.1)

indexes_scalar : (k : ℕ) (dims : List ParsedDim) → Each IsDeclaredScalar (index_variables k dims)
indexes_scalar k [] = tt
indexes_scalar k (d ∷ dims) = ((refl, refl), indexes_scalar (suc k) dims)

-- ---- all statements

mutual
  -- a sound statement
  pub statement_well_scoped : (s : ParsedStmt) (context : Context) (scope : Scope) (k : ℕ) (n : StepNumber) → IsWellSpelled s
      → OnSound (statement s context scope k n) MadeWellScoped
  statement_well_scoped ParsedEmpty context scope k n spelled = (tt, tt)
  statement_well_scoped (ParsedBlock ss) context scope k n spelled = statements_well_scoped ss context scope k n spelled
  statement_well_scoped (ParsedDeclare p spec at name e) context scope k n spelled =
      let v = declared name (Local k) spec false false in
      let sound = unless (variable_faults at spec) v in
      on_pair sound (declaration context scope (var_of v.variable) e n) _ (λ w. Unit {0}) HasWellScopedForm MadeWellScoped (on_any sound)
      (declaration_well_scoped context scope (var_of v.variable) e n (k, refl)) (λ w s _ h. (h, ((refl, refl), tt)))
  statement_well_scoped (ParsedAssign p target e) context scope k n spelled =
      let call = call_for target.index (whole_call context.functions e) in
      alone_well_scoped (assigned_by call context scope target e n) (assigned_well_scoped call context scope target e n)
  statement_well_scoped (ParsedChange p target op e) context scope k n spelled =
      let aim = target_of scope target.at target.name target.index in
      let operand = operand_for (rate_of aim) e scope in
      on_pair aim operand _ (λ a. Unit {0}) (λ x. Unit {0}) MadeWellScoped (on_any aim) (on_any operand) (λ a x _ _. (tt, tt))
  statement_well_scoped (ParsedIncrement p target op) context scope k n spelled =
      let aim = target_of scope target.at target.name target.index in
      on_then aim _ (λ a. Unit {0}) MadeWellScoped (on_any aim) (λ a _. (tt, tt))
  statement_well_scoped (ParsedDoCall p name args) context scope k n spelled =
      on_then (call_of context scope p name args Nothing n) _ CalledWellScoped MadeWellScoped (call_well_scoped context scope p name args Nothing n tt) (λ c h. (h, tt))
  statement_well_scoped (ParsedBreak p) context scope k n spelled = (tt, tt)
  statement_well_scoped (ParsedContinue p) context scope k n spelled = (tt, tt)
  statement_well_scoped (ParsedReturn p e) context scope k n spelled =
      alone_well_scoped (returning context scope p e n) (returning_well_scoped context scope p e n)
  statement_well_scoped (ParsedIf p e a) context scope k n spelled =
      on_pair (test_of scope (Some e)) (statement a context scope k (n + 1)) _ (λ x. Unit {0}) MadeWellScoped MadeWellScoped (on_any (test_of scope (Some e)))
      (statement_well_scoped a context scope k (n + 1) spelled) (λ c m _ h. ((h.0, tt), h.1))
  statement_well_scoped (ParsedIfElse p e a b) context scope k n spelled =
      let first = statement a context scope k (n + 1) in
      let other = statement b context scope (k + locals_in a) (n + 1 + steps_in a) in
      on_pair (test_of scope (Some e)) (both first other) _ (λ x. Unit {0}) (λ ms. MadeWellScoped ms.0 × MadeWellScoped ms.1) MadeWellScoped (on_any (test_of scope (Some e)))
      (on_both first other MadeWellScoped MadeWellScoped (statement_well_scoped a context scope k (n + 1) spelled.0)
      (statement_well_scoped b context scope (k + locals_in a) (n + 1 + steps_in a) spelled.1))
      (λ c ms _ h. ((h.0.0, h.1.0), each_join IsDeclaredScalar ms.0.variables ms.1.variables h.0.1 h.1.1))
  statement_well_scoped (ParsedWhile p e body) context scope k n spelled =
      on_pair (test_of scope (Some e)) (statement body context scope k n) _ (λ x. Unit {0}) MadeWellScoped MadeWellScoped (on_any (test_of scope (Some e)))
      (statement_well_scoped body context scope k n spelled) (λ c m _ h. ((tt, h.0), h.1))
  statement_well_scoped (ParsedDo body p e) context scope k n spelled =
      on_pair (statement body context scope k n) (test_of scope (Some e)) _ MadeWellScoped (λ x. Unit {0}) MadeWellScoped
      (statement_well_scoped body context scope k n spelled) (on_any (test_of scope (Some e))) (λ m c h _. h)
  statement_well_scoped (ParsedFor p start e update body) context scope k n spelled =
      let inside = scope_after start scope k in
      let k' = k + locals_in start in
      let b = n + steps_in start in
      let u = n + steps_in start + steps_in body in
      let before = statement start context scope k n in
      let updating = statement update context inside k' u in
      let inner = statement body context inside (k' + locals_in update) b in
      on_pair (both before (test_of inside e)) (both updating inner) _ (λ x. MadeWellScoped x.0 × Unit {0}) (λ x. MadeWellScoped x.0 × MadeWellScoped x.1) MadeWellScoped
      (on_both before (test_of inside e) MadeWellScoped (λ x. Unit {0}) (statement_well_scoped start context scope k n spelled.2) (on_any (test_of inside e)))
      (on_both updating inner MadeWellScoped MadeWellScoped (statement_well_scoped update context inside k' u spelled.3)
      (statement_well_scoped body context inside (k' + locals_in update) b spelled.4))
      (λ x y h l. (
        (h.0.0, (l.0.0, l.1.0)),
        each_join IsDeclaredScalar x.0.variables (y.0.variables ++ y.1.variables) h.0.1 (each_join IsDeclaredScalar y.0.variables y.1.variables l.0.1 l.1.1),
      ))
  statement_well_scoped (ParsedSwitch p e segments) context scope k n spelled =
      on_then (selector scope e) _ (λ x. Unit {0}) MadeWellScoped (on_any (selector scope e))
      (λ x _. on_then (segments_of segments x.type context scope k (n + 1)) _ MadeWellScoped MadeWellScoped (segments_well_scoped segments x.type context scope k (n + 1) spelled) (λ m h. h))
  statement_well_scoped (ParsedForEach p is_tiled dims body) context scope k n spelled =
      let inside = index_entries k dims scope in
      on_pair (dimensions scope k dims) (statement body context inside (k + length dims) (n + 1)) _ (HasWellScopedIndexes dims) MadeWellScoped MadeWellScoped
      (dimensions_well_scoped scope k dims) (statement_well_scoped body context inside (k + length dims) (n + 1) spelled.1)
      (λ ds m indexes h. (
        (head_well_scoped is_tiled dims ds spelled.0 indexes, h.0),
        each_join IsDeclaredScalar (index_variables k dims) m.variables (indexes_scalar k dims) h.1,
      ))
  statement_well_scoped (ParsedForEachActive p at name body) context scope k n spelled =
      let inside = index_entry name (Local k) t.Int64 Uniform ∷ scope in
      on_then (statement body context inside (suc k) (n + 1)) _ MadeWellScoped MadeWellScoped (statement_well_scoped body context inside (suc k) (n + 1) spelled)
      (λ m h. ((((k, refl), refl), h.0), ((refl, refl), h.1)))
  statement_well_scoped (ParsedForEachUnique p at name e body) context scope k n spelled =
      on_then (expression e scope) _ (λ x. Unit {0}) MadeWellScoped (on_any (expression e scope))
      (λ x _.
      let inside = index_entry name (Local k) x.type Uniform ∷ scope in
      on_then (statement body context inside (suc k) (n + 1)) _ MadeWellScoped MadeWellScoped (statement_well_scoped body context inside (suc k) (n + 1) spelled)
      (λ m h. ((((k, refl), refl), h.0), ((refl, refl), h.1))))

  -- sound statements
  pub statements_well_scoped : (ss : ParsedStmts) (context : Context) (scope : Scope) (k : ℕ) (n : StepNumber) → AreWellSpelled ss
      → OnSound (statements ss context scope k n) MadeWellScoped
  statements_well_scoped ParsedLast context scope k n spelled = (tt, tt)
  statements_well_scoped (ParsedNext s ss) context scope k n spelled =
      let inside = scope_after s scope k in
      on_pair (statement s context scope k n) (statements ss context inside (k + locals_in s) (n + steps_in s)) _ MadeWellScoped MadeWellScoped MadeWellScoped
      (statement_well_scoped s context scope k n spelled.0) (statements_well_scoped ss context inside (k + locals_in s) (n + steps_in s) spelled.1)
      (λ a b h l. ((h.0, l.0), each_join IsDeclaredScalar a.variables b.variables h.1 l.1))

  -- sound segments
  segments_well_scoped : (segments : ParsedSegments) (type : IntType) (context : Context) (scope : Scope) (k : ℕ) (n : StepNumber) → SegmentsWellSpelled segments
      → OnSound (segments_of segments type context scope k n) MadeWellScoped
  segments_well_scoped ParsedNoMore type context scope k n spelled = (tt, tt)
  segments_well_scoped (ParsedSegment p label ss rest) type context scope k n spelled =
      let body = statements ss context scope k n in
      let later = segments_of rest type context scope (k + locals_in_all ss) (n + steps_in_all ss) in
      on_pair (label_word p type label) (both body later) _ (λ l. Unit {0}) (λ ms. MadeWellScoped ms.0 × MadeWellScoped ms.1) MadeWellScoped (on_any (label_word p type label))
      (on_both body later MadeWellScoped MadeWellScoped (statements_well_scoped ss context scope k n spelled.1)
      (segments_well_scoped rest type context scope (k + locals_in_all ss) (n + steps_in_all ss) spelled.2))
      (λ l ms _ h. ((h.0.0, h.1.0), each_join IsDeclaredScalar ms.0.variables ms.1.variables h.0.1 h.1.1))
