-- A sound statement names only variables that are in scope or that it declares.
use Rattle.std.proofs.Common.{ℕ, suc, ◌+◌, ◌++◌, Bool, true, false, List, [], ◌∷◌, ◌≡◌, refl, length}
use Rattle.std.specs.Prelude.{not, ◌||◌, Option, Some, None, if◌then◌else◌}
use Rattle.gang_types.specs.declared.types.IntType.{IntType}
use Rattle.gang_types.specs.declared.types.IntType.TheVariants as t
use Rattle.gang_types.specs.declared.types.Rate.{Rate}
use Rattle.gang_types.specs.declared.types.Rate.TheVariants.{Uniform, Varying}
use Rattle.gang_types.specs.declared.operators.BinaryOp.{BinaryOp}
use Rattle.gang_types.specs.declared.places.Place.{Place}
use Rattle.gang_types.specs.declared.places.VarId.TheVariants.{Local}
use Rattle.gang_types.specs.Values.{is_bool}
use Rattle.gang_model.specs.declared.refusals.RefusalNumber.TheVariants.{S7, S8}
use Rattle.gang_model.specs.Types.Tree.{Var, Nothing, Declares, Assigns, Returns, Dimension, Rows, Tiles, StepNumber, Stmt, Variable}
use Rattle.gang_model.specs.Types.WellScoped.{Table, variable_at, IsScalar, IsArray, ExprScoped, TargetScoped, DimensionsScoped, RoundsScoped, StmtScoped}
use Rattle.gang_model.specs.Source.Parsed.{Name, ParsedExpr, ParsedDim, ParsedTarget, ParsedStmt, ParsedEmpty, ParsedBlock, ParsedDeclare, ParsedAssign, ParsedChange, ParsedIncrement, ParsedDoCall, ParsedBreak, ParsedContinue, ParsedReturn, ParsedIf, ParsedIfElse, ParsedWhile, ParsedDo, ParsedFor, ParsedSwitch, ParsedForEach, ParsedForEachActive, ParsedForEachUnique, ParsedStmts, ParsedLast, ParsedNext, ParsedSegments, ParsedNoMore, ParsedSegment}
use Rattle.gang_model.specs.Running.Numbering.{steps_in, steps_in_all}
use Rattle.gang_model.specs.Names.Scope.{locals_in, locals_in_all}
use Rattle.gang_model.specs.Source.Judged.{Judged, Sound, Faulty, unless, both, ◌>>=◌, fault_if}
use Rattle.gang_model.proofs.JudgedLaws.{OnSound, on_any, on_then, on_both, on_unless, on_pair, on_fault_if, or_false, not_false}
use Rattle.gang_model.proofs.StandingLaws.{Each, each_left, each_right}
use Rattle.gang_model.proofs.ScopedExprs.{EntryScoped, FoundScoped, TypedScoped, as_type-scoped, right_operand-scoped, entry_of-scoped, scalar_in, array_in, expression-scoped, given_value-scoped}
use Rattle.gang_model.proofs.ScopedCalls.{CallScoped, CallsKnown, call_scoped, right_scoped}
use Rattle.gang_model.specs.Types.Signatures.{ResultType}
use Rattle.gang_model.specs.Types.Conversions.{Typed, may_become, operation_type}
use Rattle.gang_model.specs.Types.Typing.{Entry, Scope, entry_of, declared, index_entry, var_of, has_no_value, first_of, expression, given_value}
use Rattle.gang_model.specs.Types.Calls.{Context, call_of, WholeCall, whole_call, right_call}
use Rattle.gang_model.specs.Types.TypeFaults.{variable_faults}
use Rattle.gang_model.specs.Types.Statements.{first_value, declaration, Aimed, target_index, assigned, scalar_target, target_of, rate_of, assigned_type, variable_of, assigned_call, call_for, assigned_by, operand_for, changed, number_one, empty_return, returned_value, returned, value_return, returning, test_of, dimensions, label_word, selector, Made, made, scope_after, index_entries, index_variables, statement, statements, segments_of}

-- what follows with a premise
on_given : {A : Type 0} (j : Judged A) (H : Type 0) (P : A → Type 0) → (H → OnSound j P) → OnSound j (λ a. H → P a)
on_given (Sound a) H P f = f
on_given (Faulty first others) H P f = tt

module _ (table : Table) where
  -- what is in scope is the table's
  abbrev pub ScopeScoped : Scope → Type 0
  ScopeScoped scope = Each (EntryScoped table) scope

  first_scoped : (call : Option WholeCall) (context : Context) (scope : Scope) (v : Var) (e : ParsedExpr) (n : StepNumber) → CallsKnown table context → ScopeScoped scope
      → OnSound (first_value call context scope v e n) (λ s. IsScalar table v → StmtScoped table s)
  first_scoped (Some call) context scope v e n known h = right_scoped table context scope (first_of e) call v.rate (Declares v) n known h
  first_scoped None context scope v e n known h =
      on_then (given_value e scope v.type v.rate) _ (ExprScoped table) (λ s. IsScalar table v → StmtScoped table s) (given_value-scoped table e scope v.type v.rate h) (λ x u scalar. (scalar, u))

  declaration_scoped : (context : Context) (scope : Scope) (v : Var) (e : Option ParsedExpr) (n : StepNumber) → CallsKnown table context → ScopeScoped scope
      → OnSound (declaration context scope v e n) (λ s. IsScalar table v → StmtScoped table s)
  declaration_scoped context scope v None n known h = λ scalar. (scalar, tt)
  declaration_scoped context scope v (Some e) n known h = first_scoped (whole_call context.functions e) context scope v e n known h

  -- ---- targets

  assigned_scalar : (p : Place) (n : Option Entry) → FoundScoped table n → OnSound (assigned p false n) (λ m. IsScalar table (var_of m.variable))
  assigned_scalar p None h = tt
  assigned_scalar p (Some n) h =
      on_fault_if (n.variable.is_constant || has_no_value n) S8 p n (λ m. IsScalar table (var_of m.variable)) (λ e. scalar_in table n h (or_false n.variable.is_constant (has_no_value n) e).1)

  assigned_array : (p : Place) (n : Option Entry) → FoundScoped table n → OnSound (assigned p true n) (λ m. IsArray table m.variable.id)
  assigned_array p None h = tt
  assigned_array p (Some n) h =
      on_fault_if (n.variable.is_constant || (not n.variable.is_array || n.is_void)) S8 p n (λ m. IsArray table m.variable.id)
      (λ e. let rest = (or_false n.variable.is_constant (not n.variable.is_array || n.is_void) e).1 in
      array_in table n h (not_false n.variable.is_array (or_false (not n.variable.is_array) n.is_void rest).0))

  scalar_scoped : (scope : Scope) (p : Place) (name : Name) → ScopeScoped scope → OnSound (scalar_target scope p name) (IsScalar table)
  scalar_scoped scope p name h =
      on_then (assigned p false (entry_of scope name)) _ (λ m. IsScalar table (var_of m.variable)) (IsScalar table)
      (assigned_scalar p (entry_of scope name) (entry_of-scoped table scope name h)) (λ m k. k)

  index_scoped : (scope : Scope) (e : ParsedExpr) → ScopeScoped scope → OnSound (target_index scope e) (TypedScoped table)
  index_scoped scope e h =
      on_then (expression e scope) _ (TypedScoped table) (TypedScoped table) (expression-scoped table e scope h)
      (λ i u. on_unless (fault_if (is_bool i.type) S8 (first_of e)) i (TypedScoped table) u)

  abbrev AimScoped : Aimed → Type 0
  AimScoped a = TargetScoped table a.target

  target_scoped : (scope : Scope) (p : Place) (name : Name) (e : Option ParsedExpr) → ScopeScoped scope → OnSound (target_of scope p name e) AimScoped
  target_scoped scope p name None h = on_then (scalar_target scope p name) _ (IsScalar table) AimScoped (scalar_scoped scope p name h) (λ v k. k)
  target_scoped scope p name (Some e) h =
      on_pair (assigned p true (entry_of scope name)) (target_index scope e) _ (λ m. IsArray table m.variable.id) (TypedScoped table) AimScoped
      (assigned_array p (entry_of scope name) (entry_of-scoped table scope name h)) (index_scoped scope e h) (λ m i k u. (k, u))

  -- ---- statements of one step

  assigned_call_scoped : (context : Context) (scope : Scope) (v : Judged Var) (p : Place) (call : WholeCall) (n : StepNumber) → CallsKnown table context → ScopeScoped scope
      → OnSound v (IsScalar table) → OnSound (assigned_call context scope v p call n) (StmtScoped table)
  assigned_call_scoped context scope (Sound v) p call n known h k =
      on_pair (Sound v) (right_call context scope p call v.rate (Assigns v) n) _ (λ x. Unit {0}) (λ s. IsScalar table v → StmtScoped table s) (StmtScoped table) tt
      (right_scoped table context scope p call v.rate (Assigns v) n known h) (λ x s _ f. f k)
  assigned_call_scoped context scope (Faulty first others) p call n known h k =
      let v : Judged Var = Faulty first others in
      let right = right_call context scope p call (variable_of v).rate (Assigns (variable_of v)) n in
      on_pair v right _ (λ x. ⊥) (λ s. Unit {0}) (StmtScoped table) tt (on_any right) (λ x s no _. absurd no)

  assigned_scoped : (call : Option WholeCall) (context : Context) (scope : Scope) (target : ParsedTarget) (e : ParsedExpr) (n : StepNumber) → CallsKnown table context → ScopeScoped scope
      → OnSound (assigned_by call context scope target e n) (StmtScoped table)
  assigned_scoped (Some call) context scope target e n known h =
      assigned_call_scoped context scope (scalar_target scope target.at target.name) (first_of e) call n known h (scalar_scoped scope target.at target.name h)
  assigned_scoped None context scope target e n known h =
      let aim = target_of scope target.at target.name target.index in
      on_pair aim (given_value e scope (assigned_type aim) (rate_of aim)) _ AimScoped (ExprScoped table) (StmtScoped table)
      (target_scoped scope target.at target.name target.index h) (given_value-scoped table e scope (assigned_type aim) (rate_of aim) h) (λ a x k u. (k, u))

  operand_scoped : (rate : Rate) (e : ParsedExpr) (scope : Scope) → ScopeScoped scope → OnSound (operand_for rate e scope) (TypedScoped table)
  operand_scoped rate e scope h =
      on_then (expression e scope) _ (TypedScoped table) (TypedScoped table) (expression-scoped table e scope h)
      (λ x u. on_unless (fault_if (not (may_become x.rate rate)) S7 (first_of e)) x (TypedScoped table) u)

  changed_scoped : (op : BinaryOp) (n : StepNumber) (a : Aimed) (x : Typed) → AimScoped a → TypedScoped table x → StmtScoped table (changed op n a x)
  changed_scoped op n a x k u = (k, right_operand-scoped table op (operation_type op a.type x.type) x u)

  returned_scoped : (call : Option WholeCall) (context : Context) (scope : Scope) (e : ParsedExpr) (r : IntType × Rate) (n : StepNumber) → CallsKnown table context → ScopeScoped scope
      → OnSound (returned_value call context scope e r n) (StmtScoped table)
  returned_scoped (Some call) context scope e r n known h =
      on_all (right_call context scope (first_of e) call r.1 Returns n) (right_scoped table context scope (first_of e) call r.1 Returns n known h)
    where
      on_all : (j : Judged Stmt) → OnSound j (λ s. Unit {0} → StmtScoped table s) → OnSound j (StmtScoped table)
      on_all (Sound s) f = f tt
      on_all (Faulty first others) f = tt
  returned_scoped None context scope e r n known h =
      on_then (given_value e scope r.0 r.1) _ (ExprScoped table) (StmtScoped table) (given_value-scoped table e scope r.0 r.1 h) (λ x u. u)

  value_return_scoped : (context : Context) (scope : Scope) (e : ParsedExpr) (result : ResultType) (n : StepNumber) → CallsKnown table context → ScopeScoped scope
      → OnSound (value_return context scope e result n) (StmtScoped table)
  value_return_scoped context scope e None n known h =
      on_then (returned context scope e (t.Int32, Varying) n) _ (λ s. Unit {0}) (StmtScoped table) (on_any (returned context scope e (t.Int32, Varying) n)) (λ s _. tt)
  value_return_scoped context scope e (Some r) n known h = returned_scoped (whole_call context.functions e) context scope e r n known h

  empty_return_scoped : (p : Place) (result : ResultType) (n : StepNumber) → OnSound (empty_return p result n) (StmtScoped table)
  empty_return_scoped p None n = tt
  empty_return_scoped p (Some r) n = tt

  returning_scoped : (context : Context) (scope : Scope) (p : Place) (e : Option ParsedExpr) (n : StepNumber) → CallsKnown table context → ScopeScoped scope
      → OnSound (returning context scope p e n) (StmtScoped table)
  returning_scoped context scope p None n known h = empty_return_scoped p context.result n
  returning_scoped context scope p (Some e) n known h = value_return_scoped context scope e context.result n known h

  test_scoped : (scope : Scope) (e : Option ParsedExpr) → ScopeScoped scope → OnSound (test_of scope e) (ExprScoped table)
  test_scoped scope None h = tt
  test_scoped scope (Some e) h = on_then (expression e scope) _ (TypedScoped table) (ExprScoped table) (expression-scoped table e scope h) (λ x u. as_type-scoped table t.Bool x u)

  selector_scoped : (scope : Scope) (e : ParsedExpr) → ScopeScoped scope → OnSound (selector scope e) (TypedScoped table)
  selector_scoped scope e h =
      on_then (expression e scope) _ (TypedScoped table) (TypedScoped table) (expression-scoped table e scope h)
      (λ x u. on_unless (fault_if (is_bool x.type) S8 (first_of e)) x (TypedScoped table) u)

  -- ---- all statements

  -- a variable is the table's
  abbrev pub Own : Variable → Type 0
  Own v = variable_at table v.id ≡ Some v

  dimensions_scoped : (scope : Scope) (k : ℕ) (dims : List ParsedDim) → ScopeScoped scope
      → OnSound (dimensions scope k dims) (λ ds. Each Own (index_variables k dims) → DimensionsScoped table ds)
  dimensions_scoped scope k [] h = λ own. tt
  dimensions_scoped scope k (d ∷ dims) h =
      let low = given_value d.low scope t.Int32 Uniform in
      let high = given_value d.high scope t.Int32 Uniform in
      let v = (index_entry d.name (Local k) t.Int32 Varying).variable in
      on_pair (both low high) (dimensions scope (suc k) dims) _ (λ x. ExprScoped table x.0 × ExprScoped table x.1)
      (λ ds. Each Own (index_variables (suc k) dims) → DimensionsScoped table ds) (λ ds. Each Own (index_variables k (d ∷ dims)) → DimensionsScoped table ds)
      (on_both low high (ExprScoped table) (ExprScoped table) (given_value-scoped table d.low scope t.Int32 Uniform h) (given_value-scoped table d.high scope t.Int32 Uniform h))
      (dimensions_scoped scope (suc k) dims h)
      (λ x ds bounds later own. ((v, own.0, refl, refl), bounds.0, bounds.1, later own.1))

  dims_in_scope : (k : ℕ) (dims : List ParsedDim) (scope : Scope) → ScopeScoped scope → Each Own (index_variables k dims) → ScopeScoped (index_entries k dims scope)
  dims_in_scope k [] scope h own = h
  dims_in_scope k (d ∷ dims) scope h own = dims_in_scope (suc k) dims (index_entry d.name (Local k) t.Int32 Varying ∷ scope) (own.0, h) own.1

  rounds_if : (is_tiled : Bool) (ds : List Dimension) → DimensionsScoped table ds → RoundsScoped table (if is_tiled then Tiles ds else Rows ds)
  rounds_if true ds h = h
  rounds_if false ds h = h

  -- a statement is scoped where its scope and its own variables are the table's, and so is the scope after it
  abbrev pub Right : ParsedStmt → Scope → ℕ → Made → Type 0
  Right s scope k m = ScopeScoped scope → Each Own m.variables → StmtScoped table m.stmt × ScopeScoped (scope_after s scope k)

  -- statements likewise
  abbrev pub AllRight : Scope → Made → Type 0
  AllRight scope m = ScopeScoped scope → Each Own m.variables → StmtScoped table m.stmt

  simple : (j : Judged Stmt) (scope : Scope) → (ScopeScoped scope → OnSound j (StmtScoped table))
      → OnSound (j >>= (λ s. Sound (made s []))) (λ m. ScopeScoped scope → Each Own m.variables → StmtScoped table m.stmt × ScopeScoped scope)
  simple (Sound s) scope f = λ h own. (f h, h)
  simple (Faulty first others) scope f = tt

  mutual
    pub statement_scoped : (s : ParsedStmt) (context : Context) (scope : Scope) (k : ℕ) (n : StepNumber) → CallsKnown table context
        → OnSound (statement s context scope k n) (Right s scope k)
    statement_scoped ParsedEmpty context scope k n known = λ h own. (tt, h)
    statement_scoped (ParsedBlock ss) context scope k n known = block (statements ss context scope k n) scope (statements_scoped ss context scope k n known)
      where
        block : (j : Judged Made) (scope : Scope) → OnSound j (AllRight scope) → OnSound j (λ m. ScopeScoped scope → Each Own m.variables → StmtScoped table m.stmt × ScopeScoped scope)
        block (Sound m) scope f = λ h own. (f h own, h)
        block (Faulty first others) scope f = tt
    statement_scoped (ParsedDeclare p spec at name e) context scope k n known =
        let v = declared name (Local k) spec false false in
        let sound = unless (variable_faults at spec) v in
        on_pair sound (declaration context scope (var_of v.variable) e n) _ (λ w. Unit {0}) (λ s. ScopeScoped scope → IsScalar table (var_of v.variable) → StmtScoped table s)
        (Right (ParsedDeclare p spec at name e) scope k) (on_any sound)
        (on_given (declaration context scope (var_of v.variable) e n) (ScopeScoped scope) (λ s. IsScalar table (var_of v.variable) → StmtScoped table s)
        (λ h. declaration_scoped context scope (var_of v.variable) e n known h))
        (λ w s _ f h own. (f h (v.variable, own.0, refl, refl), (own.0, h)))
    statement_scoped (ParsedAssign p target e) context scope k n known =
        let call = call_for target.index (whole_call context.functions e) in
        simple (assigned_by call context scope target e n) scope (λ h. assigned_scoped call context scope target e n known h)
    statement_scoped (ParsedChange p target op e) context scope k n known =
        let aim = target_of scope target.at target.name target.index in
        on_pair aim (operand_for (rate_of aim) e scope) _ (λ a. ScopeScoped scope → AimScoped a) (λ x. ScopeScoped scope → TypedScoped table x) (Right (ParsedChange p target op e) scope k)
        (on_given aim (ScopeScoped scope) AimScoped (target_scoped scope target.at target.name target.index))
        (on_given (operand_for (rate_of aim) e scope) (ScopeScoped scope) (TypedScoped table) (operand_scoped (rate_of aim) e scope))
        (λ a x f u h own. (changed_scoped op n a x (f h) (u h), h))
    statement_scoped (ParsedIncrement p target op) context scope k n known =
        let aim = target_of scope target.at target.name target.index in
        on_then aim _ (λ a. ScopeScoped scope → AimScoped a) (Right (ParsedIncrement p target op) scope k)
        (on_given aim (ScopeScoped scope) AimScoped (target_scoped scope target.at target.name target.index))
        (λ a f h own. (changed_scoped op n a number_one (f h) tt, h))
    statement_scoped (ParsedDoCall p name args) context scope k n known =
        on_then (call_of context scope p name args Nothing n) _ (λ c. ScopeScoped scope → CallScoped table Nothing c) (Right (ParsedDoCall p name args) scope k)
        (on_given (call_of context scope p name args Nothing n) (ScopeScoped scope) (CallScoped table Nothing) (λ h. call_scoped table context scope p name args Nothing n known h))
        (λ c f h own. (f h tt, h))
    statement_scoped (ParsedBreak p) context scope k n known = λ h own. (tt, h)
    statement_scoped (ParsedContinue p) context scope k n known = λ h own. (tt, h)
    statement_scoped (ParsedReturn p e) context scope k n known = simple (returning context scope p e n) scope (λ h. returning_scoped context scope p e n known h)
    statement_scoped (ParsedIf p e a) context scope k n known =
        on_pair (test_of scope (Some e)) (statement a context scope k (n + 1)) _ (λ x. ScopeScoped scope → ExprScoped table x) (Right a scope k) (Right (ParsedIf p e a) scope k)
        (on_given (test_of scope (Some e)) (ScopeScoped scope) (ExprScoped table) (test_scoped scope (Some e))) (statement_scoped a context scope k (n + 1) known)
        (λ c m u r h own. ((u h, (r h own).0, tt), h))
    statement_scoped (ParsedIfElse p e a b) context scope k n known =
        let first = statement a context scope k (n + 1) in
        let other = statement b context scope (k + locals_in a) (n + 1 + steps_in a) in
        on_pair (test_of scope (Some e)) (both first other) _ (λ x. ScopeScoped scope → ExprScoped table x) (λ ms. Right a scope k ms.0 × Right b scope (k + locals_in a) ms.1)
        (Right (ParsedIfElse p e a b) scope k)
        (on_given (test_of scope (Some e)) (ScopeScoped scope) (ExprScoped table) (test_scoped scope (Some e)))
        (on_both first other (Right a scope k) (Right b scope (k + locals_in a)) (statement_scoped a context scope k (n + 1) known)
        (statement_scoped b context scope (k + locals_in a) (n + 1 + steps_in a) known))
        (λ c ms u r h own. ((u h, (r.0 h (each_left Own ms.0.variables ms.1.variables own)).0, (r.1 h (each_right Own ms.0.variables ms.1.variables own)).0), h))
    statement_scoped (ParsedWhile p e body) context scope k n known =
        on_pair (test_of scope (Some e)) (statement body context scope k n) _ (λ x. ScopeScoped scope → ExprScoped table x) (Right body scope k) (Right (ParsedWhile p e body) scope k)
        (on_given (test_of scope (Some e)) (ScopeScoped scope) (ExprScoped table) (test_scoped scope (Some e))) (statement_scoped body context scope k n known)
        (λ c m u r h own. ((u h, tt, (r h own).0), h))
    statement_scoped (ParsedDo body p e) context scope k n known =
        on_pair (statement body context scope k n) (test_of scope (Some e)) _ (Right body scope k) (λ x. ScopeScoped scope → ExprScoped table x) (Right (ParsedDo body p e) scope k)
        (statement_scoped body context scope k n known) (on_given (test_of scope (Some e)) (ScopeScoped scope) (ExprScoped table) (test_scoped scope (Some e)))
        (λ m c r u h own. ((u h, (r h own).0), h))
    statement_scoped (ParsedFor p start e update body) context scope k n known =
        let inside = scope_after start scope k in
        let k' = k + locals_in start in
        let b = n + steps_in start in
        let u = n + steps_in start + steps_in body in
        let before = statement start context scope k n in
        let updating = statement update context inside k' u in
        let inner = statement body context inside (k' + locals_in update) b in
        on_pair (both before (test_of inside e)) (both updating inner) _ (λ x. Right start scope k x.0 × (ScopeScoped inside → ExprScoped table x.1))
        (λ x. Right update inside k' x.0 × Right body inside (k' + locals_in update) x.1) (Right (ParsedFor p start e update body) scope k)
        (on_both before (test_of inside e) (Right start scope k) (λ x. ScopeScoped inside → ExprScoped table x) (statement_scoped start context scope k n known)
        (on_given (test_of inside e) (ScopeScoped inside) (ExprScoped table) (test_scoped inside e)))
        (on_both updating inner (Right update inside k') (Right body inside (k' + locals_in update)) (statement_scoped update context inside k' u known)
        (statement_scoped body context inside (k' + locals_in update) b known))
        (λ x y f g h own.
        let first = f.0 h (each_left Own x.0.variables (y.0.variables ++ y.1.variables) own) in
        let rest = each_right Own x.0.variables (y.0.variables ++ y.1.variables) own in
        ((first.0, (f.1 first.1, (g.0 first.1 (each_left Own y.0.variables y.1.variables rest)).0, (g.1 first.1 (each_right Own y.0.variables y.1.variables rest)).0)), h))
    statement_scoped (ParsedSwitch p e segments) context scope k n known =
        on_then (selector scope e) _ (λ x. ScopeScoped scope → TypedScoped table x) (Right (ParsedSwitch p e segments) scope k)
        (on_given (selector scope e) (ScopeScoped scope) (TypedScoped table) (selector_scoped scope e))
        (λ x u. on_then (segments_of segments x.type context scope k (n + 1)) _ (AllRight scope) (Right (ParsedSwitch p e segments) scope k)
        (segments_scoped segments x.type context scope k (n + 1) known) (λ m r h own. ((u h, r h own), h)))
    statement_scoped (ParsedForEach p is_tiled dims body) context scope k n known =
        let ds = dimensions scope k dims in
        let inside = index_entries k dims scope in
        on_pair ds (statement body context inside (k + length dims) (n + 1)) _ (λ x. ScopeScoped scope → Each Own (index_variables k dims) → DimensionsScoped table x)
        (Right body inside (k + length dims)) (Right (ParsedForEach p is_tiled dims body) scope k)
        (on_given ds (ScopeScoped scope) (λ x. Each Own (index_variables k dims) → DimensionsScoped table x) (dimensions_scoped scope k dims))
        (statement_scoped body context inside (k + length dims) (n + 1) known)
        (λ x m f r h own.
        let indices = each_left Own (index_variables k dims) m.variables own in
        ((rounds_if is_tiled x (f h indices), (r (dims_in_scope k dims scope h indices) (each_right Own (index_variables k dims) m.variables own)).0), h))
    statement_scoped (ParsedForEachActive p at name body) context scope k n known =
        let v = index_entry name (Local k) t.Int64 Uniform in
        on_then (statement body context (v ∷ scope) (suc k) (n + 1)) _ (Right body (v ∷ scope) (suc k)) (Right (ParsedForEachActive p at name body) scope k)
        (statement_scoped body context (v ∷ scope) (suc k) (n + 1) known)
        (λ m r h own. (((v.variable, own.0, refl, refl), (r (own.0, h) own.1).0), h))
    statement_scoped (ParsedForEachUnique p at name e body) context scope k n known =
        on_then (expression e scope) _ (λ x. ScopeScoped scope → TypedScoped table x) (Right (ParsedForEachUnique p at name e body) scope k)
        (on_given (expression e scope) (ScopeScoped scope) (TypedScoped table) (expression-scoped table e scope))
        (λ x u. let v = index_entry name (Local k) x.type Uniform in
        on_then (statement body context (v ∷ scope) (suc k) (n + 1)) _ (Right body (v ∷ scope) (suc k)) (Right (ParsedForEachUnique p at name e body) scope k)
        (statement_scoped body context (v ∷ scope) (suc k) (n + 1) known)
        (λ m r h own. ((((v.variable, own.0, refl, refl), u h), (r (own.0, h) own.1).0), h)))

    pub statements_scoped : (ss : ParsedStmts) (context : Context) (scope : Scope) (k : ℕ) (n : StepNumber) → CallsKnown table context
        → OnSound (statements ss context scope k n) (AllRight scope)
    statements_scoped ParsedLast context scope k n known = λ h own. tt
    statements_scoped (ParsedNext s ss) context scope k n known =
        let inside = scope_after s scope k in
        on_pair (statement s context scope k n) (statements ss context inside (k + locals_in s) (n + steps_in s)) _ (Right s scope k) (AllRight inside) (AllRight scope)
        (statement_scoped s context scope k n known) (statements_scoped ss context inside (k + locals_in s) (n + steps_in s) known)
        (λ a b f g h own.
        let first = f h (each_left Own a.variables b.variables own) in
        (first.0, g first.1 (each_right Own a.variables b.variables own)))

    pub segments_scoped : (segments : ParsedSegments) (type : IntType) (context : Context) (scope : Scope) (k : ℕ) (n : StepNumber) → CallsKnown table context
        → OnSound (segments_of segments type context scope k n) (AllRight scope)
    segments_scoped ParsedNoMore type context scope k n known = λ h own. tt
    segments_scoped (ParsedSegment p label ss rest) type context scope k n known =
        let first = statements ss context scope k n in
        let later = segments_of rest type context scope (k + locals_in_all ss) (n + steps_in_all ss) in
        on_pair (label_word p type label) (both first later) _ (λ w. Unit {0}) (λ ms. AllRight scope ms.0 × AllRight scope ms.1) (AllRight scope)
        (on_any (label_word p type label))
        (on_both first later (AllRight scope) (AllRight scope) (statements_scoped ss context scope k n known)
        (segments_scoped rest type context scope (k + locals_in_all ss) (n + steps_in_all ss) known))
        (λ w ms _ r h own. (r.0 h (each_left Own ms.0.variables ms.1.variables own), r.1 h (each_right Own ms.0.variables ms.1.variables own)))
