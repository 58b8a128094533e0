-- In the typed tree of a source without faults each control statement stands where it may.
use Rattle.std.proofs.Common.{ℕ, suc, ◌+◌, true≢false, Bool, true, false, List, [], ◌∷◌, ◌++◌, ◌≡◌, refl, sym, ap, length}
use Rattle.std.specs.Prelude.{not, Option, Some, None, if◌then◌else◌}
use Rattle.std.specs.List.{list_any}
use Rattle.gang_types.specs.declared.types.IntType.{IntType}
use Rattle.gang_types.specs.declared.types.IntType.TheVariants as t
use Rattle.gang_types.specs.declared.types.Rate.{Rate}
use Rattle.gang_types.specs.declared.types.Rate.TheVariants.{Uniform, Varying}
use Rattle.gang_types.specs.declared.places.Place.{Place}
use Rattle.gang_types.specs.declared.places.VarId.TheVariants.{Local}
use Rattle.gang_model.specs.declared.forms.Label.{Label}
use Rattle.gang_model.specs.declared.refusals.RefusalNumber.{RefusalNumber}
use Rattle.gang_model.specs.declared.refusals.RefusalNumber.TheVariants.{S6, S9, S11}
use Rattle.gang_model.specs.Types.Tree.{Var, ResultFor, Nothing, Declares, Assigns, Returns, Dimension, Rows, Tiles, StepNumber, Stmt, PackedLoad}
use Rattle.gang_model.specs.Types.WellPlaced.{ResultPlaced, RoundsPlaced, inside_rounds, StmtPlaced}
use Rattle.gang_model.specs.Source.Parsed.{Name, ParsedExpr, ParsedArgs, ParsedTarget, ParsedStmt, ParsedEmpty, ParsedBlock, ParsedDeclare, ParsedAssign, ParsedChange, ParsedIncrement, ParsedDoCall, ParsedBreak, ParsedContinue, ParsedReturn, ParsedIf, ParsedIfElse, ParsedWhile, ParsedDo, ParsedFor, ParsedSwitch, ParsedForEach, ParsedForEachActive, ParsedForEachUnique, ParsedStmts, ParsedLast, ParsedNext, ParsedSegments, ParsedNoMore, ParsedSegment}
use Rattle.gang_model.specs.Running.Numbering.{steps_in, steps_in_all}
use Rattle.gang_model.specs.Names.Scope.{Site, enclosed, past, locals_in, locals_in_all, after, after_all, at_test, in_for, in_rounds, in_domain}
use Rattle.gang_model.specs.Source.Judged.{Judged, Sound, unless, both, ◌>>=◌, fault_if, refused}
use Rattle.gang_model.proofs.JudgedLaws.{OnSound, on_any, on_then, on_both, on_unless, on_pair, on_if}
use Rattle.gang_model.specs.Types.LibraryTable.{StatementCall, Asserts, PackedStores, PackedLoads, statement_call}
use Rattle.gang_model.specs.Types.Signatures.{ResultType}
use Rattle.gang_model.specs.Types.Typing.{Scope, Passing, Scalar, View, Reference, arguments, expression, given_value, first_of, var_of, declared, index_entry}
use Rattle.gang_model.specs.Types.Overloads.{candidates, overload}
use Rattle.gang_model.specs.Types.Calls.{Context, Called, packed, stored_to, takes_elements, library_statement, call_of_kind, call_of, WholeCall, whole_call, right_call, result_faults}
use Rattle.gang_model.specs.Types.TypeFaults.{variable_faults}
use Rattle.gang_model.specs.Types.Statements.{first_value, declaration, scalar_target, target_of, rate_of, assigned_type, variable_of, call_for, assigned_by, operand_for, empty_return, returned_value, returned, value_return, returning, test_of, dimensions, label_word, selector, Made, made, scope_after, index_entries, statement, statements, segments_of}
use Rattle.gang_model.specs.Names.NameFaults.{Allowed, in_loop, in_switch, in_round, in_domain_round, same_label, stmt_names, stmts_names, segments_names, names_in, names_in_some, right_names_of, dims_names, twice}

-- ---- lists without faults

abbrev is_empty : {A : Type 0} → List A → Bool
is_empty [] = true
is_empty (x ∷ xs) = false

pub left_none : {A : Type 0} (xs ys : List A) → xs ++ ys ≡ [] → xs ≡ []
left_none [] ys e = refl
left_none (x ∷ xs) ys e = absurd (true≢false (sym (ap is_empty e)))

pub right_none : {A : Type 0} (xs ys : List A) → xs ++ ys ≡ [] → ys ≡ []
right_none [] ys e = e
right_none (x ∷ xs) ys e = absurd (true≢false (sym (ap is_empty e)))

none_if : (b : Bool) (number : RefusalNumber) (p : Place) → fault_if (not b) number p ≡ [] → b ≡ true
none_if true number p e = refl
none_if false number p e = absurd (true≢false (sym (ap is_empty e)))

-- ---- calls

module _ (may : Allowed) where
  -- a call stands where it may, if its result goes where it may
  abbrev CallPlaced : ResultFor → Called → Type 0
  CallPlaced result_for c = ResultPlaced may result_for → StmtPlaced may c.stmt

  library_placed : (p : Place) (call : StatementCall) (given : List Passing) (result_for : ResultFor) (n : StepNumber) → OnSound (library_statement p call given result_for n) (CallPlaced result_for)
  library_placed p Asserts (Scalar q e ∷ []) result_for n = λ _. tt
  library_placed p PackedStores (View q v from ∷ Scalar r e ∷ []) result_for n = on_unless (stored_to q v) _ (CallPlaced result_for) (λ h. h)
  library_placed p PackedLoads (View q v from ∷ Reference r w ∷ []) result_for n =
      on_if (takes_elements w v) _ (refused S9 p) (CallPlaced result_for) (on_unless (stored_to r w) (packed (PackedLoad n v.variable.id from (var_of w.variable) result_for)) (CallPlaced result_for) (λ h. h)) tt
  library_placed p call given result_for n = tt

  kind_placed : (kind : Option StatementCall) (context : Context) (p : Place) (name : Name) (given : List Passing) (result_for : ResultFor) (n : StepNumber)
      → OnSound (call_of_kind kind context p name given result_for n) (CallPlaced result_for)
  kind_placed None context p name given result_for n =
      on_then (overload p (candidates 0 context.functions name given)) _ (λ c. Unit {0}) (CallPlaced result_for) (on_any (overload p (candidates 0 context.functions name given))) (λ c _ h. h)
  kind_placed (Some call) context p name given result_for n = library_placed p call given result_for n

  call_placed : (context : Context) (scope : Scope) (p : Place) (name : Name) (args : ParsedArgs) (result_for : ResultFor) (n : StepNumber)
      → OnSound (call_of context scope p name args result_for n) (CallPlaced result_for)
  call_placed context scope p name args result_for n =
      on_then (arguments args scope) _ (λ given. Unit {0}) (CallPlaced result_for) (on_any (arguments args scope)) (λ given _. kind_placed (statement_call name) context p name given result_for n)

  right_placed : (context : Context) (scope : Scope) (p : Place) (call : WholeCall) (rate : Rate) (result_for : ResultFor) (n : StepNumber) → ResultPlaced may result_for
      → OnSound (right_call context scope p call rate result_for n) (StmtPlaced may)
  right_placed context scope p call rate result_for n h =
      on_then (call_of context scope call.at call.name call.args result_for n) _ (CallPlaced result_for) (StmtPlaced may) (call_placed context scope call.at call.name call.args result_for n)
      (λ c k. on_unless (result_faults p c.result rate) c.stmt (StmtPlaced may) (k h))

  -- ---- statements of one step

  first_placed : (call : Option WholeCall) (context : Context) (scope : Scope) (v : Var) (e : ParsedExpr) (n : StepNumber) → OnSound (first_value call context scope v e n) (StmtPlaced may)
  first_placed (Some call) context scope v e n = right_placed context scope (first_of e) call v.rate (Declares v) n tt
  first_placed None context scope v e n = on_then (given_value e scope v.type v.rate) _ (λ x. Unit {0}) (StmtPlaced may) (on_any (given_value e scope v.type v.rate)) (λ x _. tt)

  declaration_placed : (context : Context) (scope : Scope) (v : Var) (e : Option ParsedExpr) (n : StepNumber) → OnSound (declaration context scope v e n) (StmtPlaced may)
  declaration_placed context scope v None n = tt
  declaration_placed context scope v (Some e) n = first_placed (whole_call context.functions e) context scope v e n

  assigned_placed : (call : Option WholeCall) (context : Context) (scope : Scope) (target : ParsedTarget) (e : ParsedExpr) (n : StepNumber) → OnSound (assigned_by call context scope target e n) (StmtPlaced may)
  assigned_placed (Some call) context scope target e n =
      let v = scalar_target scope target.at target.name in
      on_pair v (right_call context scope (first_of e) call (variable_of v).rate (Assigns (variable_of v)) n) _ (λ x. Unit {0}) (StmtPlaced may) (StmtPlaced may) (on_any v)
      (right_placed context scope (first_of e) call (variable_of v).rate (Assigns (variable_of v)) n tt) (λ x s _ h. h)
  assigned_placed None context scope target e n =
      let aim = target_of scope target.at target.name target.index in
      let given = given_value e scope (assigned_type aim) (rate_of aim) in
      on_pair aim given _ (λ x. Unit {0}) (λ x. Unit {0}) (StmtPlaced may) (on_any aim) (on_any given) (λ a x _ _. tt)

  returned_placed : (call : Option WholeCall) (context : Context) (scope : Scope) (e : ParsedExpr) (r : IntType × Rate) (n : StepNumber) → may.returns ≡ true
      → OnSound (returned_value call context scope e r n) (StmtPlaced may)
  returned_placed (Some call) context scope e r n h = right_placed context scope (first_of e) call r.1 Returns n h
  returned_placed None context scope e r n h = on_then (given_value e scope r.0 r.1) _ (λ x. Unit {0}) (StmtPlaced may) (on_any (given_value e scope r.0 r.1)) (λ x _. h)

  value_return_placed : (context : Context) (scope : Scope) (e : ParsedExpr) (result : ResultType) (n : StepNumber) → may.returns ≡ true → OnSound (value_return context scope e result n) (StmtPlaced may)
  value_return_placed context scope e None n h =
      on_then (returned context scope e (t.Int32, Varying) n) _ (λ s. Unit {0}) (StmtPlaced may) (on_any (returned context scope e (t.Int32, Varying) n)) (λ s _. tt)
  value_return_placed context scope e (Some r) n h = returned_placed (whole_call context.functions e) context scope e r n h

  empty_return_placed : (p : Place) (result : ResultType) (n : StepNumber) → may.returns ≡ true → OnSound (empty_return p result n) (StmtPlaced may)
  empty_return_placed p None n h = h
  empty_return_placed p (Some r) n h = tt

  returning_placed : (context : Context) (scope : Scope) (p : Place) (e : Option ParsedExpr) (n : StepNumber) → may.returns ≡ true → OnSound (returning context scope p e n) (StmtPlaced may)
  returning_placed context scope p None n h = empty_return_placed p context.result n h
  returning_placed context scope p (Some e) n h = value_return_placed context scope e context.result n h

  rounds_placed : (is_tiled : Bool) (ds : List Dimension) (s : Stmt) → may.domains ≡ true → StmtPlaced (in_domain_round may) s
      → RoundsPlaced may (if is_tiled then Tiles ds else Rows ds) × StmtPlaced (inside_rounds (if is_tiled then Tiles ds else Rows ds) may) s
  rounds_placed true ds s h k = (h, k)
  rounds_placed false ds s h k = (h, k)

  -- a statement with the variables that it declares
  abbrev pub MadePlaced : Made → Type 0
  MadePlaced m = StmtPlaced may m.stmt

  simple_placed : (j : Judged Stmt) → OnSound j (StmtPlaced may) → OnSound (j >>= (λ s. Sound (made s []))) MadePlaced
  simple_placed j h = on_then j _ (StmtPlaced may) MadePlaced h (λ s k. k)

-- ---- all statements

mutual
  -- where a statement has no fault of names, its typed form is well placed
  pub statement_placed : (s : ParsedStmt) (may : Allowed) (site : Site) (context : Context) (scope : Scope) (k : ℕ) (n : StepNumber)
      → stmt_names s may site ≡ [] → OnSound (statement s context scope k n) (MadePlaced may)
  statement_placed ParsedEmpty may site context scope k n e = tt
  statement_placed (ParsedBlock ss) may site context scope k n e = statements_placed ss may (enclosed site) context scope k n e
  statement_placed (ParsedDeclare p spec at name init) may site context scope k n e =
      let v = declared name (Local k) spec false false in
      let sound = unless (variable_faults at spec) v in
      on_pair sound (declaration context scope (var_of v.variable) init n) _ (λ w. Unit {0}) (StmtPlaced may) (MadePlaced may) (on_any sound)
      (declaration_placed may context scope (var_of v.variable) init n) (λ w s _ h. h)
  statement_placed (ParsedAssign p target value) may site context scope k n e =
      let call = call_for target.index (whole_call context.functions value) in
      simple_placed may (assigned_by call context scope target value n) (assigned_placed may call context scope target value n)
  statement_placed (ParsedChange p target op value) may site context scope k n e =
      let aim = target_of scope target.at target.name target.index in
      let operand = operand_for (rate_of aim) value scope in
      on_pair aim operand _ (λ a. Unit {0}) (λ x. Unit {0}) (MadePlaced may) (on_any aim) (on_any operand) (λ a x _ _. tt)
  statement_placed (ParsedIncrement p target op) may site context scope k n e =
      let aim = target_of scope target.at target.name target.index in
      on_then aim _ (λ a. Unit {0}) (MadePlaced may) (on_any aim) (λ a _. tt)
  statement_placed (ParsedDoCall p name args) may site context scope k n e =
      on_then (call_of context scope p name args Nothing n) _ (λ c. ResultPlaced may Nothing → StmtPlaced may c.stmt) (MadePlaced may) (call_placed may context scope p name args Nothing n) (λ c h. h tt)
  statement_placed (ParsedBreak p) may site context scope k n e = none_if may.breaks S11 p e
  statement_placed (ParsedContinue p) may site context scope k n e = none_if may.continues S11 p e
  statement_placed (ParsedReturn p value) may site context scope k n e =
      let allowed = none_if may.returns S11 p (left_none (fault_if (not may.returns) S11 p) (right_names_of value may.functions site.environment) e) in
      simple_placed may (returning context scope p value n) (returning_placed may context scope p value n allowed)
  statement_placed (ParsedIf p test a) may site context scope k n e =
      let inner = right_none (names_in test may.functions site.environment) (stmt_names a may (enclosed site)) e in
      on_pair (test_of scope (Some test)) (statement a context scope k (n + 1)) _ (λ x. Unit {0}) (MadePlaced may) (MadePlaced may) (on_any (test_of scope (Some test)))
      (statement_placed a may (enclosed site) context scope k (n + 1) inner) (λ c m _ h. (h, tt))
  statement_placed (ParsedIfElse p test a b) may site context scope k n e =
      let of_a = stmt_names a may (enclosed site) in
      let of_b = stmt_names b may (enclosed (past (locals_in a) site)) in
      let inner = right_none (names_in test may.functions site.environment) (of_a ++ of_b) e in
      let first = statement a context scope k (n + 1) in
      let other = statement b context scope (k + locals_in a) (n + 1 + steps_in a) in
      on_pair (test_of scope (Some test)) (both first other) _ (λ x. Unit {0}) (λ ms. MadePlaced may ms.0 × MadePlaced may ms.1) (MadePlaced may) (on_any (test_of scope (Some test)))
      (on_both first other (MadePlaced may) (MadePlaced may) (statement_placed a may (enclosed site) context scope k (n + 1) (left_none of_a of_b inner))
      (statement_placed b may (enclosed (past (locals_in a) site)) context scope (k + locals_in a) (n + 1 + steps_in a) (right_none of_a of_b inner)))
      (λ c ms _ h. h)
  statement_placed (ParsedWhile p test body) may site context scope k n e =
      let inner = right_none (names_in test may.functions site.environment) (stmt_names body (in_loop may) (enclosed site)) e in
      on_pair (test_of scope (Some test)) (statement body context scope k n) _ (λ x. Unit {0}) (MadePlaced (in_loop may)) (MadePlaced may) (on_any (test_of scope (Some test)))
      (statement_placed body (in_loop may) (enclosed site) context scope k n inner) (λ c m _ h. (tt, h))
  statement_placed (ParsedDo body p test) may site context scope k n e =
      let inner = left_none (stmt_names body (in_loop may) (enclosed site)) (names_in test may.functions site.environment) e in
      on_pair (statement body context scope k n) (test_of scope (Some test)) _ (MadePlaced (in_loop may)) (λ x. Unit {0}) (MadePlaced may)
      (statement_placed body (in_loop may) (enclosed site) context scope k n inner) (on_any (test_of scope (Some test))) (λ m c h _. h)
  statement_placed (ParsedFor p start test update body) may site context scope k n e =
      let of_start = stmt_names start may (enclosed site) in
      let of_test = names_in_some test may.functions (at_test start site).environment in
      let of_update = stmt_names update may (at_test start site) in
      let of_body = stmt_names body (in_loop may) (in_for start update site) in
      let front = left_none (of_start ++ of_test) (of_update ++ of_body) e in
      let back = right_none (of_start ++ of_test) (of_update ++ of_body) e in
      let inside = scope_after start scope k in
      let k' = k + locals_in start in
      let b = n + steps_in start in
      let u = n + steps_in start + steps_in body in
      let before = statement start context scope k n in
      let updating = statement update context inside k' u in
      let inner = statement body context inside (k' + locals_in update) b in
      on_pair (both before (test_of inside test)) (both updating inner) _ (λ x. MadePlaced may x.0 × Unit {0}) (λ x. MadePlaced may x.0 × MadePlaced (in_loop may) x.1) (MadePlaced may)
      (on_both before (test_of inside test) (MadePlaced may) (λ x. Unit {0}) (statement_placed start may (enclosed site) context scope k n (left_none of_start of_test front)) (on_any (test_of inside test)))
      (on_both updating inner (MadePlaced may) (MadePlaced (in_loop may)) (statement_placed update may (at_test start site) context inside k' u (left_none of_update of_body back))
      (statement_placed body (in_loop may) (in_for start update site) context inside (k' + locals_in update) b (right_none of_update of_body back)))
      (λ x y h l. (h.0, l))
  statement_placed (ParsedSwitch p e segments) may site context scope k n none =
      let inner = right_none (names_in e may.functions site.environment) (segments_names segments [] (in_switch may) (enclosed site)) none in
      on_then (selector scope e) _ (λ x. Unit {0}) (MadePlaced may) (on_any (selector scope e))
      (λ x _. on_then (segments_of segments x.type context scope k (n + 1)) _ (MadePlaced (in_switch may)) (MadePlaced may)
      (segments_placed segments [] (in_switch may) (enclosed site) x.type context scope k (n + 1) inner) (λ m h. h))
  statement_placed (ParsedForEach p is_tiled dims body) may site context scope k n e =
      let of_dims = dims_names dims may.functions site.environment (enclosed site) in
      let of_body = stmt_names body (in_domain_round may) (in_domain dims site) in
      let own = fault_if (not may.domains) S11 p in
      let allowed = none_if may.domains S11 p (left_none own (of_dims ++ of_body) e) in
      let inner = right_none of_dims of_body (right_none own (of_dims ++ of_body) e) in
      let inside = index_entries k dims scope in
      on_pair (dimensions scope k dims) (statement body context inside (k + length dims) (n + 1)) _ (λ x. Unit {0}) (MadePlaced (in_domain_round may)) (MadePlaced may) (on_any (dimensions scope k dims))
      (statement_placed body (in_domain_round may) (in_domain dims site) context inside (k + length dims) (n + 1) inner)
      (λ x m _ h. rounds_placed may is_tiled x m.stmt allowed h)
  statement_placed (ParsedForEachActive p at name body) may site context scope k n e =
      let inner = right_none (twice (enclosed site) at name) (stmt_names body (in_round may) (in_rounds name site)) e in
      let v = index_entry name (Local k) t.Int64 Uniform in
      on_then (statement body context (v ∷ scope) (suc k) (n + 1)) _ (MadePlaced (in_round may)) (MadePlaced may)
      (statement_placed body (in_round may) (in_rounds name site) context (v ∷ scope) (suc k) (n + 1) inner) (λ m h. (tt, h))
  statement_placed (ParsedForEachUnique p at name e body) may site context scope k n none =
      let of_value = names_in e may.functions site.environment in
      let of_body = stmt_names body (in_round may) (in_rounds name site) in
      let inner = right_none of_value of_body (right_none (twice (enclosed site) at name) (of_value ++ of_body) none) in
      on_then (expression e scope) _ (λ x. Unit {0}) (MadePlaced may) (on_any (expression e scope))
      (λ x _. let v = index_entry name (Local k) x.type Uniform in
      on_then (statement body context (v ∷ scope) (suc k) (n + 1)) _ (MadePlaced (in_round may)) (MadePlaced may)
      (statement_placed body (in_round may) (in_rounds name site) context (v ∷ scope) (suc k) (n + 1) inner) (λ m h. (tt, h)))

  pub statements_placed : (ss : ParsedStmts) (may : Allowed) (site : Site) (context : Context) (scope : Scope) (k : ℕ) (n : StepNumber)
      → stmts_names ss may site ≡ [] → OnSound (statements ss context scope k n) (MadePlaced may)
  statements_placed ParsedLast may site context scope k n e = tt
  statements_placed (ParsedNext s ss) may site context scope k n e =
      let of_s = stmt_names s may site in
      let of_ss = stmts_names ss may (after s site) in
      let inside = scope_after s scope k in
      on_pair (statement s context scope k n) (statements ss context inside (k + locals_in s) (n + steps_in s)) _ (MadePlaced may) (MadePlaced may) (MadePlaced may)
      (statement_placed s may site context scope k n (left_none of_s of_ss e))
      (statements_placed ss may (after s site) context inside (k + locals_in s) (n + steps_in s) (right_none of_s of_ss e))
      (λ a b h l. (h, l))

  pub segments_placed : (segments : ParsedSegments) (before : List (Option Label)) (may : Allowed) (site : Site) (type : IntType) (context : Context) (scope : Scope) (k : ℕ) (n : StepNumber)
      → segments_names segments before may site ≡ [] → OnSound (segments_of segments type context scope k n) (MadePlaced may)
  segments_placed ParsedNoMore before may site type context scope k n e = tt
  segments_placed (ParsedSegment p label ss rest) before may site type context scope k n e =
      let own = fault_if (list_any (same_label label) before) S6 p in
      let of_ss = stmts_names ss may site in
      let of_rest = segments_names rest (label ∷ before) may (after_all ss site) in
      let parts = right_none own (of_ss ++ of_rest) e in
      let first = statements ss context scope k n in
      let later = segments_of rest type context scope (k + locals_in_all ss) (n + steps_in_all ss) in
      on_pair (label_word p type label) (both first later) _ (λ w. Unit {0}) (λ ms. MadePlaced may ms.0 × MadePlaced may ms.1) (MadePlaced may) (on_any (label_word p type label))
      (on_both first later (MadePlaced may) (MadePlaced may) (statements_placed ss may site context scope k n (left_none of_ss of_rest parts))
      (segments_placed rest (label ∷ before) may (after_all ss site) type context scope (k + locals_in_all ss) (n + steps_in_all ss) (right_none of_ss of_rest parts)))
      (λ w ms _ h. h)
