-- In the typed tree of a source no segment stands outside of a switch.
use Rattle.std.proofs.Common.{ℕ, suc, ◌+◌, false, List, [], ◌∷◌, refl, length}
use Rattle.std.specs.Prelude.{Option, Some, None}
use Rattle.gang_types.specs.declared.types.IntType.{IntType}
use Rattle.gang_types.specs.declared.types.IntType.TheVariants as t
use Rattle.gang_types.specs.declared.types.Rate.{Rate}
use Rattle.gang_types.specs.declared.types.Rate.TheVariants.{Uniform, Varying}
use Rattle.gang_types.specs.declared.places.Place.{Place}
use Rattle.gang_types.specs.declared.places.VarId.TheVariants.{Local}
use Rattle.gang_model.specs.declared.refusals.RefusalNumber.TheVariants.{S9}
use Rattle.gang_model.specs.Types.Tree.{Var, ResultFor, Nothing, Declares, Assigns, Returns, StepNumber, Stmt, PackedLoad}
use Rattle.gang_model.specs.Source.Parsed.{Name, ParsedExpr, ParsedArgs, ParsedTarget, ParsedStmt, ParsedEmpty, ParsedBlock, ParsedDeclare, ParsedAssign, ParsedChange, ParsedIncrement, ParsedDoCall, ParsedBreak, ParsedContinue, ParsedReturn, ParsedIf, ParsedIfElse, ParsedWhile, ParsedDo, ParsedFor, ParsedSwitch, ParsedForEach, ParsedForEachActive, ParsedForEachUnique, ParsedStmts, ParsedLast, ParsedNext, ParsedSegments, ParsedNoMore, ParsedSegment}
use Rattle.gang_model.specs.Running.Numbering.{steps_in, steps_in_all}
use Rattle.gang_model.specs.Names.Scope.{locals_in, locals_in_all}
use Rattle.gang_model.specs.Source.Judged.{Judged, Sound, unless, both, ◌>>=◌, refused}
use Rattle.gang_model.proofs.JudgedLaws.{OnSound, on_any, on_then, on_both, on_unless, on_pair, on_if}
use Rattle.gang_model.specs.Types.LibraryTable.{StatementCall, Asserts, PackedStores, PackedLoads, statement_call}
use Rattle.gang_model.specs.Types.Signatures.{ResultType}
use Rattle.gang_model.specs.Types.Typing.{Scope, Passing, Scalar, View, Reference, arguments, expression, given_value, first_of, var_of, declared, index_entry}
use Rattle.gang_model.specs.Types.Overloads.{candidates, overload}
use Rattle.gang_model.specs.Types.Calls.{Context, Called, packed, stored_to, takes_elements, library_statement, call_of_kind, call_of, WholeCall, whole_call, right_call, result_faults}
use Rattle.gang_model.specs.Types.TypeFaults.{variable_faults}
use Rattle.gang_model.specs.Types.Statements.{first_value, declaration, scalar_target, target_of, rate_of, assigned_type, variable_of, call_for, assigned_by, operand_for, empty_return, returned_value, returned, value_return, returning, test_of, dimensions, label_word, selector, Made, made, scope_after, index_entries, statement, statements, segments_of}
use Rattle.mask_states.specs.Stands.{IsWhole, AreWholeSegments}

-- ---- calls

abbrev WholeCalled : Called → Type 0
WholeCalled c = IsWhole c.stmt

library_whole : (p : Place) (call : StatementCall) (given : List Passing) (result_for : ResultFor) (n : StepNumber) → OnSound (library_statement p call given result_for n) WholeCalled
library_whole p Asserts (Scalar q e ∷ []) result_for n = tt
library_whole p PackedStores (View q v from ∷ Scalar r e ∷ []) result_for n = on_unless (stored_to q v) _ WholeCalled tt
library_whole p PackedLoads (View q v from ∷ Reference r w ∷ []) result_for n =
    on_if (takes_elements w v) _ (refused S9 p) WholeCalled (on_unless (stored_to r w) (packed (PackedLoad n v.variable.id from (var_of w.variable) result_for)) WholeCalled tt) tt
library_whole p call given result_for n = tt

kind_whole : (kind : Option StatementCall) (context : Context) (p : Place) (name : Name) (given : List Passing) (result_for : ResultFor) (n : StepNumber)
    → OnSound (call_of_kind kind context p name given result_for n) WholeCalled
kind_whole None context p name given result_for n =
    on_then (overload p (candidates 0 context.functions name given)) _ (λ c. Unit {0}) WholeCalled (on_any (overload p (candidates 0 context.functions name given))) (λ c _. tt)
kind_whole (Some call) context p name given result_for n = library_whole p call given result_for n

call_whole : (context : Context) (scope : Scope) (p : Place) (name : Name) (args : ParsedArgs) (result_for : ResultFor) (n : StepNumber)
    → OnSound (call_of context scope p name args result_for n) WholeCalled
call_whole context scope p name args result_for n =
    on_then (arguments args scope) _ (λ given. Unit {0}) WholeCalled (on_any (arguments args scope)) (λ given _. kind_whole (statement_call name) context p name given result_for n)

right_whole : (context : Context) (scope : Scope) (p : Place) (call : WholeCall) (rate : Rate) (result_for : ResultFor) (n : StepNumber)
    → OnSound (right_call context scope p call rate result_for n) IsWhole
right_whole context scope p call rate result_for n =
    on_then (call_of context scope call.at call.name call.args result_for n) _ WholeCalled IsWhole (call_whole context scope call.at call.name call.args result_for n)
    (λ c k. on_unless (result_faults p c.result rate) c.stmt IsWhole k)

-- ---- statements of one step

first_whole : (call : Option WholeCall) (context : Context) (scope : Scope) (v : Var) (e : ParsedExpr) (n : StepNumber) → OnSound (first_value call context scope v e n) IsWhole
first_whole (Some call) context scope v e n = right_whole context scope (first_of e) call v.rate (Declares v) n
first_whole None context scope v e n = on_then (given_value e scope v.type v.rate) _ (λ x. Unit {0}) IsWhole (on_any (given_value e scope v.type v.rate)) (λ x _. tt)

declaration_whole : (context : Context) (scope : Scope) (v : Var) (e : Option ParsedExpr) (n : StepNumber) → OnSound (declaration context scope v e n) IsWhole
declaration_whole context scope v None n = tt
declaration_whole context scope v (Some e) n = first_whole (whole_call context.functions e) context scope v e n

assigned_whole : (call : Option WholeCall) (context : Context) (scope : Scope) (target : ParsedTarget) (e : ParsedExpr) (n : StepNumber) → OnSound (assigned_by call context scope target e n) IsWhole
assigned_whole (Some call) context scope target e n =
    let v = scalar_target scope target.at target.name in
    on_pair v (right_call context scope (first_of e) call (variable_of v).rate (Assigns (variable_of v)) n) _ (λ x. Unit {0}) IsWhole IsWhole (on_any v)
    (right_whole context scope (first_of e) call (variable_of v).rate (Assigns (variable_of v)) n) (λ x s _ h. h)
assigned_whole None context scope target e n =
    let aim = target_of scope target.at target.name target.index in
    let given = given_value e scope (assigned_type aim) (rate_of aim) in
    on_pair aim given _ (λ x. Unit {0}) (λ x. Unit {0}) IsWhole (on_any aim) (on_any given) (λ a x _ _. tt)

returned_whole : (call : Option WholeCall) (context : Context) (scope : Scope) (e : ParsedExpr) (r : IntType × Rate) (n : StepNumber) → OnSound (returned_value call context scope e r n) IsWhole
returned_whole (Some call) context scope e r n = right_whole context scope (first_of e) call r.1 Returns n
returned_whole None context scope e r n = on_then (given_value e scope r.0 r.1) _ (λ x. Unit {0}) IsWhole (on_any (given_value e scope r.0 r.1)) (λ x _. tt)

value_return_whole : (context : Context) (scope : Scope) (e : ParsedExpr) (result : ResultType) (n : StepNumber) → OnSound (value_return context scope e result n) IsWhole
value_return_whole context scope e None n =
    on_then (returned context scope e (t.Int32, Varying) n) _ (λ s. Unit {0}) IsWhole (on_any (returned context scope e (t.Int32, Varying) n)) (λ s _. tt)
value_return_whole context scope e (Some r) n = returned_whole (whole_call context.functions e) context scope e r n

empty_return_whole : (p : Place) (result : ResultType) (n : StepNumber) → OnSound (empty_return p result n) IsWhole
empty_return_whole p None n = tt
empty_return_whole p (Some r) n = tt

returning_whole : (context : Context) (scope : Scope) (p : Place) (e : Option ParsedExpr) (n : StepNumber) → OnSound (returning context scope p e n) IsWhole
returning_whole context scope p None n = empty_return_whole p context.result n
returning_whole context scope p (Some e) n = value_return_whole context scope e context.result n

-- a statement, or the segments of a switch, with the variables that it declares
abbrev pub MadeWhole : Made → Type 0
MadeWhole m = IsWhole m.stmt

abbrev pub MadeSegments : Made → Type 0
MadeSegments m = AreWholeSegments m.stmt

simple_whole : (j : Judged Stmt) → OnSound j IsWhole → OnSound (j >>= (λ s. Sound (made s []))) MadeWhole
simple_whole j h = on_then j _ IsWhole MadeWhole h (λ s k. k)

-- ---- all statements

mutual
  -- the typed form of a statement has segments in its switches alone
  pub statement_whole : (s : ParsedStmt) (context : Context) (scope : Scope) (k : ℕ) (n : StepNumber) → OnSound (statement s context scope k n) MadeWhole
  statement_whole ParsedEmpty context scope k n = tt
  statement_whole (ParsedBlock ss) context scope k n = statements_whole ss context scope k n
  statement_whole (ParsedDeclare p spec at name init) context scope k n =
      let v = declared name (Local k) spec false false in
      let sound = unless (variable_faults at spec) v in
      on_pair sound (declaration context scope (var_of v.variable) init n) _ (λ w. Unit {0}) IsWhole MadeWhole (on_any sound)
      (declaration_whole context scope (var_of v.variable) init n) (λ w s _ h. h)
  statement_whole (ParsedAssign p target value) context scope k n =
      let call = call_for target.index (whole_call context.functions value) in
      simple_whole (assigned_by call context scope target value n) (assigned_whole call context scope target value n)
  statement_whole (ParsedChange p target op value) context scope k n =
      let aim = target_of scope target.at target.name target.index in
      let operand = operand_for (rate_of aim) value scope in
      on_pair aim operand _ (λ a. Unit {0}) (λ x. Unit {0}) MadeWhole (on_any aim) (on_any operand) (λ a x _ _. tt)
  statement_whole (ParsedIncrement p target op) context scope k n =
      let aim = target_of scope target.at target.name target.index in
      on_then aim _ (λ a. Unit {0}) MadeWhole (on_any aim) (λ a _. tt)
  statement_whole (ParsedDoCall p name args) context scope k n =
      on_then (call_of context scope p name args Nothing n) _ WholeCalled MadeWhole (call_whole context scope p name args Nothing n) (λ c h. h)
  statement_whole (ParsedBreak p) context scope k n = tt
  statement_whole (ParsedContinue p) context scope k n = tt
  statement_whole (ParsedReturn p value) context scope k n = simple_whole (returning context scope p value n) (returning_whole context scope p value n)
  statement_whole (ParsedIf p test a) context scope k n =
      on_pair (test_of scope (Some test)) (statement a context scope k (n + 1)) _ (λ x. Unit {0}) MadeWhole MadeWhole (on_any (test_of scope (Some test)))
      (statement_whole a context scope k (n + 1)) (λ c m _ h. (h, tt))
  statement_whole (ParsedIfElse p test a b) context scope k n =
      let first = statement a context scope k (n + 1) in
      let other = statement b context scope (k + locals_in a) (n + 1 + steps_in a) in
      on_pair (test_of scope (Some test)) (both first other) _ (λ x. Unit {0}) (λ ms. MadeWhole ms.0 × MadeWhole ms.1) MadeWhole (on_any (test_of scope (Some test)))
      (on_both first other MadeWhole MadeWhole (statement_whole a context scope k (n + 1)) (statement_whole b context scope (k + locals_in a) (n + 1 + steps_in a)))
      (λ c ms _ h. h)
  statement_whole (ParsedWhile p test body) context scope k n =
      on_pair (test_of scope (Some test)) (statement body context scope k n) _ (λ x. Unit {0}) MadeWhole MadeWhole (on_any (test_of scope (Some test)))
      (statement_whole body context scope k n) (λ c m _ h. (tt, h))
  statement_whole (ParsedDo body p test) context scope k n =
      on_pair (statement body context scope k n) (test_of scope (Some test)) _ MadeWhole (λ x. Unit {0}) MadeWhole
      (statement_whole body context scope k n) (on_any (test_of scope (Some test))) (λ m c h _. h)
  statement_whole (ParsedFor p start test update body) context scope k n =
      let inside = scope_after start scope k in
      let k' = k + locals_in start in
      let b = n + steps_in start in
      let u = n + steps_in start + steps_in body in
      let before = statement start context scope k n in
      let updating = statement update context inside k' u in
      let inner = statement body context inside (k' + locals_in update) b in
      on_pair (both before (test_of inside test)) (both updating inner) _ (λ x. MadeWhole x.0 × Unit {0}) (λ x. MadeWhole x.0 × MadeWhole x.1) MadeWhole
      (on_both before (test_of inside test) MadeWhole (λ x. Unit {0}) (statement_whole start context scope k n) (on_any (test_of inside test)))
      (on_both updating inner MadeWhole MadeWhole (statement_whole update context inside k' u) (statement_whole body context inside (k' + locals_in update) b))
      (λ x y h l. (h.0, l))
  statement_whole (ParsedSwitch p e segments) context scope k n =
      on_then (selector scope e) _ (λ x. Unit {0}) MadeWhole (on_any (selector scope e))
      (λ x _. on_then (segments_of segments x.type context scope k (n + 1)) _ MadeSegments MadeWhole (segments_whole segments x.type context scope k (n + 1)) (λ m h. h))
  statement_whole (ParsedForEach p is_tiled dims body) context scope k n =
      let inside = index_entries k dims scope in
      on_pair (dimensions scope k dims) (statement body context inside (k + length dims) (n + 1)) _ (λ x. Unit {0}) MadeWhole MadeWhole (on_any (dimensions scope k dims))
      (statement_whole body context inside (k + length dims) (n + 1)) (λ x m _ h. h)
  statement_whole (ParsedForEachActive p at name body) context scope k n =
      let v = index_entry name (Local k) t.Int64 Uniform in
      on_then (statement body context (v ∷ scope) (suc k) (n + 1)) _ MadeWhole MadeWhole (statement_whole body context (v ∷ scope) (suc k) (n + 1)) (λ m h. h)
  statement_whole (ParsedForEachUnique p at name e body) context scope k n =
      on_then (expression e scope) _ (λ x. Unit {0}) MadeWhole (on_any (expression e scope))
      (λ x _. let v = index_entry name (Local k) x.type Uniform in
      on_then (statement body context (v ∷ scope) (suc k) (n + 1)) _ MadeWhole MadeWhole (statement_whole body context (v ∷ scope) (suc k) (n + 1)) (λ m h. h))

  pub statements_whole : (ss : ParsedStmts) (context : Context) (scope : Scope) (k : ℕ) (n : StepNumber) → OnSound (statements ss context scope k n) MadeWhole
  statements_whole ParsedLast context scope k n = tt
  statements_whole (ParsedNext s ss) context scope k n =
      let inside = scope_after s scope k in
      on_pair (statement s context scope k n) (statements ss context inside (k + locals_in s) (n + steps_in s)) _ MadeWhole MadeWhole MadeWhole
      (statement_whole s context scope k n) (statements_whole ss context inside (k + locals_in s) (n + steps_in s)) (λ a b h l. (h, l))

  pub segments_whole : (segments : ParsedSegments) (type : IntType) (context : Context) (scope : Scope) (k : ℕ) (n : StepNumber)
      → OnSound (segments_of segments type context scope k n) MadeSegments
  segments_whole ParsedNoMore type context scope k n = refl
  segments_whole (ParsedSegment p label ss rest) type context scope k n =
      let first = statements ss context scope k n in
      let later = segments_of rest type context scope (k + locals_in_all ss) (n + steps_in_all ss) in
      on_pair (label_word p type label) (both first later) _ (λ w. Unit {0}) (λ ms. MadeWhole ms.0 × MadeSegments ms.1) MadeSegments (on_any (label_word p type label))
      (on_both first later MadeWhole MadeSegments (statements_whole ss context scope k n) (segments_whole rest type context scope (k + locals_in_all ss) (n + steps_in_all ss)))
      (λ w ms _ h. h)
