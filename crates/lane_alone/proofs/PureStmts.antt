-- A sound statement that is lane-pure fits what is in scope.
use Rattle.std.proofs.Common.{ℕ, suc, ◌+◌, ◌≤◌, Bool, true, false, List, [], ◌∷◌, ◌≡◌, refl, sym, ◌∙◌, ap, subst, length, inl, inr, arith}
use Rattle.std.specs.Prelude.{not, ◌&&◌, ◌||◌, ◌⊎◌, slice_get, Option, Some, None, if◌then◌else◌}
use Rattle.gang_types.specs.declared.types.IntType.{IntType}
use Rattle.gang_types.specs.declared.types.IntType.TheVariants as t
use Rattle.gang_types.specs.declared.types.Rate.{Rate}
use Rattle.gang_types.specs.declared.types.Rate.TheVariants.{Varying}
use Rattle.gang_types.specs.declared.operators.BinaryOp.{BinaryOp}
use Rattle.gang_types.specs.declared.places.Place.{Place}
use Rattle.gang_types.specs.declared.places.VarId.{VarId}
use Rattle.gang_types.specs.declared.places.VarId.TheVariants.{File, Local}
use Rattle.std.proofs.lemmas.Bool.{ne_eqb}
use Rattle.gang_types.specs.Values.{is_bool}
use Rattle.gang_model.specs.declared.refusals.RefusalNumber.TheVariants.{S7, S8}
use Rattle.gang_model.specs.Types.Tree.{Program, Function, Global, Variable, Var, Expr, Stmt, Loop, Call, ResultFor, Nothing, Declares, Assigns, Returns, StepNumber}
use Rattle.gang_model.specs.Types.WellScoped.{Table, IsScalar, ExprScoped}
use Rattle.gang_model.specs.Source.Parsed.{Name, ParsedExpr, ParsedTarget, ParsedStmt, ParsedEmpty, ParsedBlock, ParsedDeclare, ParsedAssign, ParsedChange, ParsedIncrement, ParsedDoCall, ParsedBreak, ParsedContinue, ParsedReturn, ParsedIf, ParsedIfElse, ParsedWhile, ParsedDo, ParsedFor, ParsedSwitch, ParsedForEach, ParsedForEachActive, ParsedForEachUnique, ParsedStmts, ParsedLast, ParsedNext, ParsedSegments, ParsedNoMore, ParsedSegment, ParsedFunction, ParsedSource, functions_in}
use Rattle.gang_model.specs.Running.Numbering.{steps_in, steps_in_all}
use Rattle.gang_model.specs.Names.Scope.{locals_in, locals_in_all}
use Rattle.gang_model.specs.Source.Judged.{Judged, Sound, Faulty, unless, both, ◌>>=◌, fault_if}
use Rattle.gang_model.proofs.JudgedLaws.{OnSound, on_any, on_then, on_both, on_unless, on_pair, on_fault_if, or_false, and_true}
use Rattle.gang_model.proofs.StandingLaws.{Each}
use Rattle.gang_model.proofs.ScopedExprs.{EntryScoped, FoundScoped, TypedScoped, as_type-scoped, right_operand-scoped, entry_of-scoped, scalar_in, expression-scoped, given_value-scoped}
use Rattle.gang_model.specs.Types.Signatures.{ResultType, result_of}
use Rattle.gang_model.specs.Types.Conversions.{Typed, may_become, is_varying, operation_type, right_operand, as_bool}
use Rattle.gang_model.specs.Types.Typing.{Entry, Scope, entry_of, declared, var_of, has_no_value, first_of, expression, given_value}
use Rattle.gang_model.specs.Types.Calls.{Context, Called, call_of, WholeCall, whole_call, right_call, result_faults}
use Rattle.gang_model.specs.Types.Overloads.{passed_args}
use Rattle.gang_model.specs.Types.TypeFaults.{variable_faults}
use Rattle.gang_model.specs.Types.Resolved.{param_entries, rate_or_uniform}
use Rattle.gang_model.specs.Types.Statements.{first_value, declaration, Aimed, target_index, assigned, scalar_target, target_of, rate_of, assigned_type, variable_of, assigned_call, call_for, assigned_by, operand_for, changed, number_one, empty_return, returned_value, returned, value_return, returning, test_of, dimensions, label_word, selector, Made, made, scope_after, statement, statements, segments_of}
use Rattle.gang_model.specs.Running.LanePure.{is_pure_stmt, is_pure, is_pure_target, are_pure, is_pure_result, Calls, here, in_first, in_rest, in_then, in_else, in_update, in_loop, in_do, in_switch, in_segment, in_later}
use Rattle.lane_alone.specs.Fits.{Locals, and_one, known_with, declared_for, declares, FitsVar, FitsExpr, FitsTarget, FitsResult, Family, Fits}
use Rattle.gang_model.specs.Running.LanePure.{are_pure_params}
use Rattle.lane_alone.proofs.TaskLists.{not_both}
use Rattle.lane_alone.proofs.PureExprs.{known_of, Below, InFile, next_below, Fine, scope_table, in_table, varying_is, var_known, expr_fits}
use Rattle.lane_alone.proofs.PureCalls.{on_map, OfUser, IsCalled, call_called, args_fit, all_set}

-- what follows with a premise
on_given : {A : Type 0} (j : Judged A) (H : Type 0) (P : A → Type 0) → (H → OnSound j P) → OnSound j (λ a. H → P a)
on_given (Sound a) H P f = f
on_given (Faulty first others) H P f = tt

-- ---- scopes

fine_more : (file : List Variable) (k k' : ℕ) → k ≤ k' → (scope : Scope) → Fine file k scope → Fine file k' scope
fine_more file k k' less [] f = tt
fine_more file k k' less (n ∷ scope) f = by_id n.variable.id f (λ s. fine_more file k k' less scope s)
  where
    by_id : (id : VarId) → Below id k × InFile file id n.variable × Fine file (next_below id k) scope → (Fine file k scope → Fine file k' scope) → Below id k' × InFile file id n.variable × Fine file (next_below id k') scope
    by_id (File i) h go = (tt, h.1, go h.2)
    by_id (Local i) h go = (omega (arith, h.0, less), tt, h.2)

fine_after : (file : List Variable) (s : ParsedStmt) (scope : Scope) (k : ℕ) → Fine file k scope → Fine file (k + locals_in s) (scope_after s scope k)
fine_after file (ParsedDeclare p spec at name e) scope k f = (omega arith, tt, f)
fine_after file s scope k f = fine_more file k (k + locals_in s) (omega arith) scope f

-- a new variable is not in scope
new_local : (file : List Variable) (k : ℕ) (scope : Scope) → Fine file k scope → (j : ℕ) → k ≤ j → known_of scope j ≡ false
new_local file k [] f j less = refl
new_local file k (n ∷ scope) f j less = by_id n.variable.id f n.variable.is_array (λ k' s l. new_local file k' scope s j l)
  where
    by_id : (id : VarId) → Below id k × InFile file id n.variable × Fine file (next_below id k) scope → (b : Bool) → ((k' : ℕ) → Fine file k' scope → k' ≤ j → known_of scope j ≡ false)
        → (if b then known_of scope else and_one id (known_of scope)) j ≡ false
    by_id (File i) h true go = go k h.2 less
    by_id (File i) h false go = go k h.2 less
    by_id (Local i) h true go = go i h.2 (omega (arith, h.0, less))
    by_id (Local i) h false go = ap (λ b. b || known_of scope j) (ne_eqb j i (λ e. absurd (omega (arith, e, h.0, less)))) ∙ go i h.2 (omega (arith, h.0, less))

none_some : {A : Type 0} {v : A} → None ≡ Some v → ⊥
none_some q = cc

module _ (p : Program) (source : ParsedSource) (file : List Variable) (file_is : (n : ℕ) (v : Variable) → slice_get file n ≡ Some v → (g : Global) × (slice_get p.globals n ≡ Some g) × (g.variable ≡ v)) (family : Family)
    (callee : (n : ℕ) (w : ParsedFunction) → slice_get (functions_in source) n ≡ Some w → (g : Function) × (slice_get p.functions n ≡ Some g) × (g.result ≡ rate_or_uniform (result_of w.spec)))
    (pure_callee : (n : ℕ) (w : ParsedFunction) → family.member n → slice_get (functions_in source) n ≡ Some w → (are_pure_params w.params ≡ true) × ((x : IntType × Rate) → result_of w.spec ≡ Some x → rate_or_uniform (result_of w.spec) ≡ Varying))
    (set_params : (n : ℕ) (w : ParsedFunction) → slice_get (functions_in source) n ≡ Some w → (j : ℕ) → family.parameters n j ≡ true → known_of (param_entries 0 w.params []) j ≡ true)
    (result : ResultType) (pure_result : (x : IntType × Rate) → result ≡ Some x → rate_or_uniform result ≡ Varying) where
  abbrev own : Rate
  own = rate_or_uniform result

  abbrev context : Context
  context = record { functions = functions_in source; result = result }

  abbrev Members : Stmt → Type 0
  Members s = (n : ℕ) → Calls n s → family.member n

  -- what holds of a statement that is lane-pure, which declares nothing to what comes after
  abbrev Good : Locals → Stmt → Type 0
  Good known s = is_pure_stmt s ≡ true → ((n : ℕ) → Calls n s → family.member n) → Fits p family (rate_or_uniform result) known s × (declares s ≡ None)

  module _ (scope : Scope) (k : ℕ) (fine : Fine file k scope) where
    abbrev T : Table
    T = scope_table file [] scope k

    inside : Each (EntryScoped (scope_table file [] scope k)) scope
    inside = in_table file [] scope k fine

    fit : (e : Expr) → ExprScoped (scope_table file [] scope k) e → is_pure e ≡ true → FitsExpr p (known_of scope) e
    fit e s pure = expr_fits p file [] file_is scope k e s pure

    -- ---- calls

    user_fits : (result_for : ResultFor) (n : StepNumber) (c : Called) (u : OfUser (functions_in source) (scope_table file [] scope k) result_for n c) → is_pure_stmt c.stmt ≡ true → ((m : ℕ) → Calls m c.stmt → family.member m)
        → ((r : Rate) → (((x : IntType × Rate) → c.result ≡ Some x → r ≡ Varying)) → is_pure_result result_for ≡ true → FitsResult p (rate_or_uniform result) (known_of scope) r result_for)
        → Fits p family (rate_or_uniform result) (known_of scope) c.stmt × (declares c.stmt ≡ declared_for result_for)
    user_fits result_for n c u pure members fits_result =
        let args = passed_args 0 u.given u.function.params in
        let pure' : is_pure_stmt (Call n u.number args result_for) ≡ true = subst (λ s. is_pure_stmt s ≡ true) u.stmt pure in
        let pures = and_true (are_pure args) (is_pure_result result_for) pure' in
        let member : family.member u.number = members u.number (subst (Calls u.number) (sym u.stmt) here) in
        let g : (g : Function) × (slice_get p.functions u.number ≡ Some g) × (g.result ≡ rate_or_uniform (result_of u.function.spec)) = callee u.number u.function u.at in
        let q : (are_pure_params u.function.params ≡ true) × ((x : IntType × Rate) → result_of u.function.spec ≡ Some x → rate_or_uniform (result_of u.function.spec) ≡ Varying) = pure_callee u.number u.function member u.at in
        let fits : Fits p family (rate_or_uniform result) (known_of scope) (Call n u.number args result_for) = (
          g.0,
          g.1,
          member,
          args_fit p file file_is scope k 0 u.given u.function.params u.prices u.fit u.scoped u.right pures.0 q.0,
          (λ j param. set_in (all_set p file file_is scope k 0 u.given u.function.params u.prices u.fit [] j (set_params u.number u.function u.at j param))),
          fits_result g.0.result (λ x e. g.2 ∙ q.1 x (sym u.result ∙ e)) pures.1,
        ) in
        subst (λ s. Fits p family (rate_or_uniform result) (known_of scope) s × (declares s ≡ declared_for result_for)) (sym u.stmt) (fits, refl)
      where
        set_in : {b : Bool} → (false ≡ true) ⊎ (b ≡ true) → b ≡ true
        set_in (inl q) = cc q
        set_in (inr q) = q

    called_fits : (result_for : ResultFor) (n : StepNumber) (c : Called) → IsCalled (functions_in source) (scope_table file [] scope k) result_for n c
        → ((r : Rate) → (((x : IntType × Rate) → c.result ≡ Some x → r ≡ Varying)) → is_pure_result result_for ≡ true → FitsResult p (rate_or_uniform result) (known_of scope) r result_for)
        → is_pure_stmt c.stmt ≡ true → ((m : ℕ) → Calls m c.stmt → family.member m) → Fits p family (rate_or_uniform result) (known_of scope) c.stmt × (declares c.stmt ≡ declared_for result_for)
    called_fits result_for n c (inl u) fits_result pure members = user_fits result_for n c u pure members fits_result
    called_fits result_for n c (inr no') fits_result pure members = not_both pure no'

    -- a call whose result is for something has a result
    right_fits : (q : Place) (call : WholeCall) (rate : Rate) (result_for : ResultFor) (n : StepNumber) → (is_pure_result result_for ≡ true → FitsResult p (rate_or_uniform result) (known_of scope) Varying result_for)
        → OnSound (right_call context scope q call rate result_for n)
        (λ s. is_pure_stmt s ≡ true → ((m : ℕ) → Calls m s → family.member m) → Fits p family (rate_or_uniform result) (known_of scope) s × (declares s ≡ declared_for result_for))
    right_fits q call rate result_for n fits_result =
        on_then (call_of context scope call.at call.name call.args result_for n) _ (IsCalled (functions_in source) (scope_table file [] scope k) result_for n) _
        (call_called (scope_table file [] scope k) context scope inside call.at call.name call.args result_for n)
        (λ c i. by_result c i c.result refl)
      where
        by_result : (c : Called) → IsCalled (functions_in source) (scope_table file [] scope k) result_for n c → (o : ResultType) → c.result ≡ o
            → OnSound (unless (result_faults q o rate) c.stmt) (λ s. is_pure_stmt s ≡ true → ((m : ℕ) → Calls m s → family.member m) → Fits p family (rate_or_uniform result) (known_of scope) s × (declares s ≡ declared_for result_for))
        by_result c i None e = tt
        by_result c i (Some x) e = on_unless (result_faults q (Some x) rate) c.stmt _
            (called_fits result_for n c i (λ r varying pure. subst (λ y. FitsResult p (rate_or_uniform result) (known_of scope) y result_for) (sym (varying x e)) (fits_result pure)))

    -- ---- statements of one step

    fit_given : (e : ParsedExpr) (type : IntType) (rate : Rate) → OnSound (given_value e scope type rate) (λ x. is_pure x ≡ true → FitsExpr p (known_of scope) x)
    fit_given e type rate = on_map (given_value e scope type rate) _ _ (λ x s. fit x s) (given_value-scoped (scope_table file [] scope k) e scope type rate inside)

    fit_typed : (e : ParsedExpr) → OnSound (expression e scope) (TypedScoped (scope_table file [] scope k))
    fit_typed e = expression-scoped (scope_table file [] scope k) e scope inside

    fit_test : (e : Option ParsedExpr) → OnSound (test_of scope e) (λ x. is_pure x ≡ true → FitsExpr p (known_of scope) x)
    fit_test None = λ pure. tt
    fit_test (Some e) = on_then (expression e scope) _ (TypedScoped (scope_table file [] scope k)) (λ x. is_pure x ≡ true → FitsExpr p (known_of scope) x) (fit_typed e)
        (λ x u. fit (as_bool x) (as_type-scoped (scope_table file [] scope k) t.Bool x u))

    fit_selector : (e : ParsedExpr) → OnSound (selector scope e) (λ x. is_pure x.expr ≡ true → FitsExpr p (known_of scope) x.expr)
    fit_selector e = on_then (expression e scope) _ (TypedScoped (scope_table file [] scope k)) (λ x. is_pure x.expr ≡ true → FitsExpr p (known_of scope) x.expr) (fit_typed e)
        (λ x u. on_unless (fault_if (is_bool x.type) S8 (first_of e)) x (λ y. is_pure y.expr ≡ true → FitsExpr p (known_of scope) y.expr) (fit x.expr u))

    fit_scalar : (q : Place) (name : Name) → OnSound (scalar_target scope q name) (IsScalar (scope_table file [] scope k))
    fit_scalar q name = on_then (assigned q false (entry_of scope name)) _ (λ m. IsScalar (scope_table file [] scope k) (var_of m.variable)) (IsScalar (scope_table file [] scope k))
        (by_entry (entry_of scope name) (entry_of-scoped (scope_table file [] scope k) scope name inside)) (λ m s. s)
      where
        by_entry : (n : Option Entry) → FoundScoped (scope_table file [] scope k) n → OnSound (assigned q false n) (λ m. IsScalar (scope_table file [] scope k) (var_of m.variable))
        by_entry None h = tt
        by_entry (Some n) h = on_fault_if (n.variable.is_constant || has_no_value n) S8 q n (λ m. IsScalar (scope_table file [] scope k) (var_of m.variable))
            (λ e. scalar_in (scope_table file [] scope k) n h (or_false n.variable.is_constant (has_no_value n) e).1)

    fit_var : (v : Var) → IsScalar (scope_table file [] scope k) v → is_varying v.rate ≡ true → FitsVar p (known_of scope) v
    fit_var v s pure = (varying_is v.rate pure, var_known p file [] file_is scope k v s (varying_is v.rate pure))

    abbrev Aims : Aimed → Type 0
    Aims a = is_pure_target a.target ≡ true → FitsTarget p (known_of scope) a.target

    fit_target : (q : Place) (name : Name) (index : Option ParsedExpr) → OnSound (target_of scope q name index) Aims
    fit_target q name None = on_then (scalar_target scope q name) _ (IsScalar (scope_table file [] scope k)) Aims (fit_scalar q name) (λ v s pure. fit_var v s pure)
    fit_target q name (Some e) = on_pair (assigned q true (entry_of scope name)) (target_index scope e) _ (λ m. Unit {0}) (λ i. Unit {0}) Aims (on_any (assigned q true (entry_of scope name))) (on_any (target_index scope e)) (λ m i x y pure. cc pure)

    fit_assigned_call : (v : Judged Var) (q : Place) (call : WholeCall) (n : StepNumber) → OnSound v (IsScalar (scope_table file [] scope k)) → OnSound (assigned_call context scope v q call n) (Good (known_of scope))
    fit_assigned_call (Sound v) q call n s =
        on_pair (Sound v) (right_call context scope q call v.rate (Assigns v) n) _ (λ x. Unit {0}) _ (Good (known_of scope)) tt
        (right_fits q call v.rate (Assigns v) n (λ pure. (refl, fit_var v s pure))) (λ x y unit f pure members. f pure members)
    fit_assigned_call (Faulty first others) q call n s =
        let v : Judged Var = Faulty first others in
        let right = right_call context scope q call (variable_of v).rate (Assigns (variable_of v)) n in
        on_pair v right _ (λ x. ⊥) (λ y. Unit {0}) (Good (known_of scope)) tt (on_any right) (λ x y no _. absurd no)

    fit_assigned : (call : Option WholeCall) (target : ParsedTarget) (e : ParsedExpr) (n : StepNumber) → OnSound (assigned_by call context scope target e n) (Good (known_of scope))
    fit_assigned (Some call) target e n = fit_assigned_call (scalar_target scope target.at target.name) (first_of e) call n (fit_scalar target.at target.name)
    fit_assigned None target e n =
        let aim = target_of scope target.at target.name target.index in
        on_pair aim (given_value e scope (assigned_type aim) (rate_of aim)) _ Aims (λ x. is_pure x ≡ true → FitsExpr p (known_of scope) x) (Good (known_of scope))
        (fit_target target.at target.name target.index) (fit_given e (assigned_type aim) (rate_of aim))
        (λ a x f g pure members. let pures = and_true (is_pure_target a.target) (is_pure x) pure in ((f pures.0, g pures.1), refl))

    fit_changed : (op : BinaryOp) (n : StepNumber) (a : Aimed) (x : Typed) → Aims a → TypedScoped (scope_table file [] scope k) x → Good (known_of scope) (changed op n a x)
    fit_changed op n a x f u pure members =
        let type = operation_type op a.type x.type in
        let pures = and_true (is_pure_target a.target) (is_pure (right_operand op type x)) pure in
        ((f pures.0, fit (right_operand op type x) (right_operand-scoped (scope_table file [] scope k) op type x u) pures.1), refl)

    fit_operand : (rate : Rate) (e : ParsedExpr) → OnSound (operand_for rate e scope) (TypedScoped (scope_table file [] scope k))
    fit_operand rate e = on_then (expression e scope) _ (TypedScoped (scope_table file [] scope k)) (TypedScoped (scope_table file [] scope k)) (fit_typed e)
        (λ x u. on_unless (fault_if (not (may_become x.rate rate)) S7 (first_of e)) x (TypedScoped (scope_table file [] scope k)) u)

    fit_returned : (call : Option WholeCall) (e : ParsedExpr) (r : IntType × Rate) (n : StepNumber) → rate_or_uniform result ≡ Varying → OnSound (returned_value call context scope e r n) (Good (known_of scope))
    fit_returned (Some call) e r n varying = right_fits (first_of e) call r.1 Returns n (λ pure. (refl, varying))
    fit_returned None e r n varying = on_then (given_value e scope r.0 r.1) _ (λ x. is_pure x ≡ true → FitsExpr p (known_of scope) x) (Good (known_of scope)) (fit_given e r.0 r.1) (λ x f pure members. ((varying, f pure), refl))

    fit_value_return : (e : ParsedExpr) (r : ResultType) (n : StepNumber) → result ≡ r → OnSound (value_return context scope e r n) (Good (known_of scope))
    fit_value_return e None n is = on_then (returned context scope e (t.Int32, Varying) n) _ (λ s. Unit {0}) (Good (known_of scope)) (on_any (returned context scope e (t.Int32, Varying) n)) (λ s _. tt)
    fit_value_return e (Some r) n is = fit_returned (whole_call context.functions e) e r n (pure_result r is)

    fit_empty_return : (q : Place) (r : ResultType) (n : StepNumber) → OnSound (empty_return q r n) (Good (known_of scope))
    fit_empty_return q None n = λ pure members. (tt, refl)
    fit_empty_return q (Some r) n = tt

    fit_returning : (q : Place) (e : Option ParsedExpr) (n : StepNumber) → OnSound (returning context scope q e n) (Good (known_of scope))
    fit_returning q None n = fit_empty_return q context.result n
    fit_returning q (Some e) n = fit_value_return e context.result n refl

    abbrev Declared : Stmt → Type 0
    Declared s = is_pure_stmt s ≡ true → ((n : ℕ) → Calls n s → family.member n) → Fits p family (rate_or_uniform result) (known_of scope) s × (declares s ≡ Some (Local k))

    fit_first : (call : Option WholeCall) (v : Var) → v.id ≡ Local k → (e : ParsedExpr) (n : StepNumber) → OnSound (first_value call context scope v e n) Declared
    fit_first (Some call) v is e n =
        on_map (right_call context scope (first_of e) call v.rate (Declares v) n) _ Declared (λ s f pure members. let h = f pure members in (h.0, h.1 ∙ ap (λ x. Some x) is))
        (right_fits (first_of e) call v.rate (Declares v) n (λ pure. (refl, (varying_is v.rate pure, k, is, new_local file k scope fine k (omega arith)))))
    fit_first None v is e n = on_then (given_value e scope v.type v.rate) _ (λ x. is_pure x ≡ true → FitsExpr p (known_of scope) x) Declared (fit_given e v.type v.rate)
        (λ x f pure members. let pures = and_true (is_varying v.rate) (is_pure x) pure in (((varying_is v.rate pures.0, k, is, new_local file k scope fine k (omega arith)), f pures.1), ap (λ y. Some y) is))

    fit_declaration : (v : Var) → v.id ≡ Local k → (e : Option ParsedExpr) (n : StepNumber) → OnSound (declaration context scope v e n) Declared
    fit_declaration v is None n = λ pure members. (((varying_is v.rate (and_true (is_varying v.rate) true pure).0, k, is, new_local file k scope fine k (omega arith)), tt), ap (λ y. Some y) is)
    fit_declaration v is (Some e) n = fit_first (whole_call context.functions e) v is e n

    fit_call : (q : Place) (name : Name) (args : _) (n : StepNumber) → OnSound (call_of context scope q name args Nothing n) (λ c. Good (known_of scope) c.stmt)
    fit_call q name args n = on_map (call_of context scope q name args Nothing n) (IsCalled (functions_in source) (scope_table file [] scope k) Nothing n) (λ c. Good (known_of scope) c.stmt)
        (λ c i. called_fits Nothing n c i (λ r varying pure. tt)) (call_called (scope_table file [] scope k) context scope inside q name args Nothing n)

  -- ---- all statements

  -- a statement fits, and what is in scope after it is what it declares and what was in scope
  abbrev Right : ParsedStmt → Scope → ℕ → Made → Type 0
  Right s scope k m = is_pure_stmt m.stmt ≡ true → ((n : ℕ) → Calls n m.stmt → family.member n)
      → Fits p family (rate_or_uniform result) (known_of scope) m.stmt × (known_of (scope_after s scope k) ≡ known_with (declares m.stmt) (known_of scope))

  abbrev AllRight : Scope → Made → Type 0
  AllRight scope m = Good (known_of scope) m.stmt

  good_right : (known : Locals) (s : Stmt) → Good known s → is_pure_stmt s ≡ true → ((n : ℕ) → Calls n s → family.member n) → Fits p family (rate_or_uniform result) known s × (known ≡ known_with (declares s) known)
  good_right known s g pure members = let h = g pure members in (h.0, ap (λ w. known_with w known) (sym h.1))

  simple : (j : Judged Stmt) (scope : Scope) → OnSound j (Good (known_of scope))
      → OnSound (j >>= (λ s. Sound (made s []))) (λ m. is_pure_stmt m.stmt ≡ true → ((n : ℕ) → Calls n m.stmt → family.member n) → Fits p family (rate_or_uniform result) (known_of scope) m.stmt × (known_of scope ≡ known_with (declares m.stmt) (known_of scope)))
  simple (Sound s) scope g = good_right (known_of scope) s g
  simple (Faulty first others) scope g = tt

  mutual
    pub statement_fits : (s : ParsedStmt) (scope : Scope) (k : ℕ) (n : StepNumber) → Fine file k scope → OnSound (statement s context scope k n) (Right s scope k)
    statement_fits ParsedEmpty scope k n fine = λ pure members. (tt, refl)
    statement_fits (ParsedBlock ss) scope k n fine = on_map (statements ss context scope k n) (AllRight scope) (Right (ParsedBlock ss) scope k) (λ m g. good_right (known_of scope) m.stmt g) (statements_fits ss scope k n fine)
    statement_fits (ParsedDeclare q spec at name e) scope k n fine =
        let v = declared name (Local k) spec false false in
        on_pair (unless (variable_faults at spec) v) (declaration context scope (var_of v.variable) e n) _ (λ w. Unit {0}) (Declared scope k fine) (Right (ParsedDeclare q spec at name e) scope k)
        (on_any (unless (variable_faults at spec) v)) (fit_declaration scope k fine (var_of v.variable) refl e n)
        (λ w s unit f pure members. let h = f pure members in (h.0, ap (λ x. known_with x (known_of scope)) (sym h.1)))
    statement_fits (ParsedAssign q target e) scope k n fine =
        let call = call_for target.index (whole_call context.functions e) in simple (assigned_by call context scope target e n) scope (fit_assigned scope k fine call target e n)
    statement_fits (ParsedChange q target op e) scope k n fine =
        let aim = target_of scope target.at target.name target.index in
        on_pair aim (operand_for (rate_of aim) e scope) _ (Aims scope k fine) (TypedScoped (scope_table file [] scope k)) (Right (ParsedChange q target op e) scope k)
        (fit_target scope k fine target.at target.name target.index) (fit_operand scope k fine (rate_of aim) e)
        (λ a x f u. good_right (known_of scope) (changed op n a x) (fit_changed scope k fine op n a x f u))
    statement_fits (ParsedIncrement q target op) scope k n fine =
        let aim = target_of scope target.at target.name target.index in
        on_then aim _ (Aims scope k fine) (Right (ParsedIncrement q target op) scope k) (fit_target scope k fine target.at target.name target.index)
        (λ a f. good_right (known_of scope) (changed op n a number_one) (fit_changed scope k fine op n a number_one f tt))
    statement_fits (ParsedDoCall q name args) scope k n fine =
        on_then (call_of context scope q name args Nothing n) _ (λ c. Good (known_of scope) c.stmt) (Right (ParsedDoCall q name args) scope k) (fit_call scope k fine q name args n)
        (λ c g. good_right (known_of scope) c.stmt g)
    statement_fits (ParsedBreak q) scope k n fine = λ pure members. (tt, refl)
    statement_fits (ParsedContinue q) scope k n fine = λ pure members. (tt, refl)
    statement_fits (ParsedReturn q e) scope k n fine = simple (returning context scope q e n) scope (fit_returning scope k fine q e n)
    statement_fits (ParsedIf q e a) scope k n fine =
        on_pair (test_of scope (Some e)) (statement a context scope k (n + 1)) _ (λ x. is_pure x ≡ true → FitsExpr p (known_of scope) x) (Right a scope k) (Right (ParsedIf q e a) scope k)
        (fit_test scope k fine (Some e)) (statement_fits a scope k (n + 1) fine)
        (λ x m f g pure members.
        let one = and_true (is_pure x) (is_pure_stmt m.stmt && true) pure in
        let two = and_true (is_pure_stmt m.stmt) true one.1 in
        ((f one.0, (g two.0 (λ i c. members i (in_then c))).0, tt), refl))
    statement_fits (ParsedIfElse q e a b) scope k n fine =
        let first = statement a context scope k (n + 1) in
        let other = statement b context scope (k + locals_in a) (n + 1 + steps_in a) in
        on_pair (test_of scope (Some e)) (both first other) _ (λ x. is_pure x ≡ true → FitsExpr p (known_of scope) x) (λ ms. Right a scope k ms.0 × Right b scope (k + locals_in a) ms.1) (Right (ParsedIfElse q e a b) scope k)
        (fit_test scope k fine (Some e))
        (on_both first other (Right a scope k) (Right b scope (k + locals_in a)) (statement_fits a scope k (n + 1) fine) (statement_fits b scope (k + locals_in a) (n + 1 + steps_in a) (fine_more file k (k + locals_in a) (omega arith) scope fine)))
        (λ x ms f g pure members.
        let one = and_true (is_pure x) (is_pure_stmt ms.0.stmt && is_pure_stmt ms.1.stmt) pure in
        let two = and_true (is_pure_stmt ms.0.stmt) (is_pure_stmt ms.1.stmt) one.1 in
        ((f one.0, (g.0 two.0 (λ i c. members i (in_then c))).0, (g.1 two.1 (λ i c. members i (in_else c))).0), refl))
    statement_fits (ParsedWhile q e body) scope k n fine =
        on_pair (test_of scope (Some e)) (statement body context scope k n) _ (λ x. is_pure x ≡ true → FitsExpr p (known_of scope) x) (Right body scope k) (Right (ParsedWhile q e body) scope k)
        (fit_test scope k fine (Some e)) (statement_fits body scope k n fine)
        (λ x m f g pure members.
        let one = and_true (is_pure x) (true && is_pure_stmt m.stmt) pure in
        ((f one.0, tt, (g one.1 (λ i c. members i (in_loop c))).0), refl))
    statement_fits (ParsedDo body q e) scope k n fine =
        on_pair (statement body context scope k n) (test_of scope (Some e)) _ (Right body scope k) (λ x. is_pure x ≡ true → FitsExpr p (known_of scope) x) (Right (ParsedDo body q e) scope k)
        (statement_fits body scope k n fine) (fit_test scope k fine (Some e))
        (λ m x g f pure members.
        let one = and_true (is_pure x) (is_pure_stmt m.stmt) pure in
        ((f one.0, (g one.1 (λ i c. members i (in_do c))).0), refl))
    statement_fits (ParsedFor q start e update body) scope k n fine =
        let within = scope_after start scope k in
        let k' = k + locals_in start in
        let body_step = n + steps_in start in
        let update_step = n + steps_in start + steps_in body in
        let before = statement start context scope k n in
        let updating = statement update context within k' update_step in
        let inner = statement body context within (k' + locals_in update) body_step in
        let fine' : Fine file k' within = fine_after file start scope k fine in
        on_pair (both before (test_of within e)) (both updating inner) _ (λ x. Right start scope k x.0 × (is_pure x.1 ≡ true → FitsExpr p (known_of within) x.1))
        (λ x. Right update within k' x.0 × Right body within (k' + locals_in update) x.1) (Right (ParsedFor q start e update body) scope k)
        (on_both before (test_of within e) (Right start scope k) (λ x. is_pure x ≡ true → FitsExpr p (known_of within) x) (statement_fits start scope k n fine) (fit_test within k' fine' e))
        (on_both updating inner (Right update within k') (Right body within (k' + locals_in update)) (statement_fits update within k' update_step fine')
        (statement_fits body within (k' + locals_in update) body_step (fine_more file k' (k' + locals_in update) (omega arith) within fine')))
        (λ x y f g pure members.
        let loop : Stmt = Loop (update_step + steps_in update) x.1 y.0.stmt y.1.stmt in
        let one = and_true (is_pure_stmt x.0.stmt) (is_pure_stmt loop) pure in
        let two = and_true (is_pure x.1) (is_pure_stmt y.0.stmt && is_pure_stmt y.1.stmt) one.1 in
        let three = and_true (is_pure_stmt y.0.stmt) (is_pure_stmt y.1.stmt) two.1 in
        let head = f.0 one.0 (λ i c. members i (in_first c)) in (
          (
            head.0,
            subst (λ known. Fits p family (rate_or_uniform result) known loop) head.1
                (f.1 two.0, (g.0 three.0 (λ i c. members i (in_rest (in_update c)))).0, (g.1 three.1 (λ i c. members i (in_rest (in_loop c)))).0),
          ),
          refl,
        ))
    statement_fits (ParsedSwitch q e segments) scope k n fine =
        on_then (selector scope e) _ (λ x. is_pure x.expr ≡ true → FitsExpr p (known_of scope) x.expr) (Right (ParsedSwitch q e segments) scope k) (fit_selector scope k fine e)
        (λ x f. on_then (segments_of segments x.type context scope k (n + 1)) _ (AllRight scope) (Right (ParsedSwitch q e segments) scope k) (segments_fits segments x.type scope k (n + 1) fine)
        (λ m g pure members.
        let one = and_true (is_pure x.expr) (is_pure_stmt m.stmt) pure in
        ((f one.0, (g one.1 (λ i c. members i (in_switch c))).0), refl)))
    statement_fits (ParsedForEach q is_tiled dims body) scope k n fine =
        on_pair (dimensions scope k dims) (statement body context _ (k + length dims) (n + 1)) _ (λ x. Unit {0}) (λ x. Unit {0}) (Right (ParsedForEach q is_tiled dims body) scope k) (on_any (dimensions scope k dims)) (on_any (statement body context _ (k + length dims) (n + 1)))
        (λ x y u v pure members. cc pure)
    statement_fits (ParsedForEachActive q at name body) scope k n fine =
        on_then (statement body context _ (suc k) (n + 1)) _ (λ x. Unit {0}) (Right (ParsedForEachActive q at name body) scope k) (on_any (statement body context _ (suc k) (n + 1))) (λ m u pure members. cc pure)
    statement_fits (ParsedForEachUnique q at name e body) scope k n fine =
        on_then (expression e scope) _ (λ x. Unit {0}) (Right (ParsedForEachUnique q at name e body) scope k) (on_any (expression e scope))
        (λ x u. on_then (statement body context _ (suc k) (n + 1)) _ (λ m. Unit {0}) (Right (ParsedForEachUnique q at name e body) scope k) (on_any (statement body context _ (suc k) (n + 1))) (λ m v pure members. cc pure))

    pub statements_fits : (ss : ParsedStmts) (scope : Scope) (k : ℕ) (n : StepNumber) → Fine file k scope → OnSound (statements ss context scope k n) (AllRight scope)
    statements_fits ParsedLast scope k n fine = λ pure members. (tt, refl)
    statements_fits (ParsedNext s ss) scope k n fine =
        let within = scope_after s scope k in
        on_pair (statement s context scope k n) (statements ss context within (k + locals_in s) (n + steps_in s)) _ (Right s scope k) (AllRight within) (AllRight scope)
        (statement_fits s scope k n fine) (statements_fits ss within (k + locals_in s) (n + steps_in s) (fine_after file s scope k fine))
        (λ a b f g pure members.
        let one = and_true (is_pure_stmt a.stmt) (is_pure_stmt b.stmt) pure in
        let head = f one.0 (λ i c. members i (in_first c)) in
        ((head.0, subst (λ known. Fits p family (rate_or_uniform result) known b.stmt) head.1 (g one.1 (λ i c. members i (in_rest c))).0), refl))

    pub segments_fits : (segments : ParsedSegments) (type : IntType) (scope : Scope) (k : ℕ) (n : StepNumber) → Fine file k scope → OnSound (segments_of segments type context scope k n) (AllRight scope)
    segments_fits ParsedNoMore type scope k n fine = λ pure members. (tt, refl)
    segments_fits (ParsedSegment q label ss rest) type scope k n fine =
        let first = statements ss context scope k n in
        let later = segments_of rest type context scope (k + locals_in_all ss) (n + steps_in_all ss) in
        on_pair (label_word q type label) (both first later) _ (λ w. Unit {0}) (λ ms. AllRight scope ms.0 × AllRight scope ms.1) (AllRight scope) (on_any (label_word q type label))
        (on_both first later (AllRight scope) (AllRight scope) (statements_fits ss scope k n fine) (segments_fits rest type scope (k + locals_in_all ss) (n + steps_in_all ss) (fine_more file k (k + locals_in_all ss) (omega arith) scope fine)))
        (λ w ms u g pure members.
        let one = and_true (is_pure_stmt ms.0.stmt) (is_pure_stmt ms.1.stmt) pure in
        (((g.0 one.0 (λ i c. members i (in_segment c))).0, (g.1 one.1 (λ i c. members i (in_later c))).0), refl))
