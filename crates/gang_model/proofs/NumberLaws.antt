-- What follows for the typed form of a statement: its steps have the numbers of the order in which they run, and it declares
-- the variables that the statement declares.
use Rattle.std.proofs.Common.{subst, ℕ, suc, ◌+◌, false, List, [], ◌∷◌, ◌++◌, ◌≡◌, refl, ◌∙◌, ap, arith, length}
use Rattle.std.specs.Prelude.{Option, Some, None}
use Rattle.gang_types.specs.declared.types.IntType.{IntType}
use Rattle.gang_types.specs.declared.types.IntType.TheVariants as t
use Rattle.gang_types.specs.declared.types.Rate.{Rate}
use Rattle.gang_types.specs.declared.types.Rate.TheVariants.{Uniform, Varying}
use Rattle.gang_types.specs.declared.places.Place.{Place}
use Rattle.gang_types.specs.declared.places.VarId.TheVariants.{Local}
use Rattle.gang_model.specs.Types.Tree.{Var, ResultFor, Nothing, Assigns, Returns, StepNumber, Stmt, Variable}
use Rattle.gang_model.specs.Running.Step.{steps_of}
use Rattle.gang_model.specs.Running.RunningOrder.{IsNumbered}
use Rattle.gang_model.specs.Source.Parsed.{Name, ParsedExpr, ParsedArgs, ParsedDim, ParsedTarget, ParsedStmt, ParsedEmpty, ParsedBlock, ParsedDeclare, ParsedAssign, ParsedChange, ParsedIncrement, ParsedDoCall, ParsedBreak, ParsedContinue, ParsedReturn, ParsedIf, ParsedIfElse, ParsedWhile, ParsedDo, ParsedFor, ParsedSwitch, ParsedForEach, ParsedForEachActive, ParsedForEachUnique, ParsedStmts, ParsedLast, ParsedNext, ParsedSegments, ParsedNoMore, ParsedSegment}
use Rattle.gang_model.specs.Running.Numbering.{steps_in, steps_in_all, steps_in_segments}
use Rattle.gang_model.specs.Names.Bindings.{dim_bindings, bindings_in, bindings_in_all, bindings_in_segments, variable_bindings}
use Rattle.gang_model.specs.Names.Scope.{Binding, bound, locals_in, locals_in_all}
use Rattle.gang_model.specs.Source.Judged.{unless, both}
use Rattle.gang_model.proofs.JudgedLaws.{OnSound, on_any, on_then, on_both, on_unless, on_pair, on_if}
use Rattle.gang_model.specs.Types.LibraryTable.{StatementCall, Asserts, PackedStores, PackedLoads, statement_call}
use Rattle.gang_model.specs.Types.Signatures.{ResultType}
use Rattle.gang_model.specs.Types.Typing.{Scope, Passing, Scalar, View, Reference, arguments, expression, given_value, first_of, var_of, declared, index_entry}
use Rattle.gang_model.specs.Types.Overloads.{candidates, overload}
use Rattle.gang_model.specs.Types.Calls.{Context, whole_call, Called, stored_to, takes_elements, library_statement, call_of_kind, call_of, WholeCall, right_call, result_faults}
use Rattle.gang_model.specs.Types.Statements.{first_value, declaration, operand_for, empty_return, returned_value, returned, value_return, returning, test_of, dimensions, selector, label_word, Made, made, index_entries, index_variables, scope_after, statement, statements, segments_of, assigned_by, assigned_type, rate_of, target_of, variable_of, call_for, scalar_target}
use Rattle.gang_model.specs.Types.TypeFaults.{variable_faults}

-- one step with this number
abbrev pub OneStep : StepNumber → Stmt → Type 0
OneStep n s = (steps_of s ≡ 1) × IsNumbered n s

-- ---- calls are one step

abbrev OneCall : StepNumber → Called → Type 0
OneCall n c = OneStep n c.stmt

library_one : (p : Place) (call : StatementCall) (given : List Passing) (result_for : ResultFor) (n : StepNumber)
    → OnSound (library_statement p call given result_for n) (OneCall n)
library_one p Asserts [] result_for n = tt
library_one p Asserts (Scalar q e ∷ []) result_for n = (refl, refl)
library_one p Asserts (Scalar q e ∷ a ∷ given) result_for n = tt
library_one p Asserts (View q v from ∷ given) result_for n = tt
library_one p Asserts (Reference q v ∷ given) result_for n = tt
library_one p PackedStores [] result_for n = tt
library_one p PackedStores (Scalar q e ∷ given) result_for n = tt
library_one p PackedStores (Reference q v ∷ given) result_for n = tt
library_one p PackedStores (View q v from ∷ []) result_for n = tt
library_one p PackedStores (View q v from ∷ Scalar r e ∷ []) result_for n = on_unless (stored_to q v) _ (OneCall n) (refl, refl)
library_one p PackedStores (View q v from ∷ Scalar r e ∷ a ∷ given) result_for n = tt
library_one p PackedStores (View q v from ∷ View r w f ∷ given) result_for n = tt
library_one p PackedStores (View q v from ∷ Reference r w ∷ given) result_for n = tt
library_one p PackedLoads [] result_for n = tt
library_one p PackedLoads (Scalar q e ∷ given) result_for n = tt
library_one p PackedLoads (Reference q v ∷ given) result_for n = tt
library_one p PackedLoads (View q v from ∷ []) result_for n = tt
library_one p PackedLoads (View q v from ∷ Scalar r e ∷ given) result_for n = tt
library_one p PackedLoads (View q v from ∷ View r w f ∷ given) result_for n = tt
library_one p PackedLoads (View q v from ∷ Reference r w ∷ []) result_for n =
    on_if (takes_elements w v) _ _ (OneCall n) (on_unless (stored_to r w) _ (OneCall n) (refl, refl)) tt
library_one p PackedLoads (View q v from ∷ Reference r w ∷ a ∷ given) result_for n = tt

call_one : (kind : Option StatementCall) (context : Context) (p : Place) (name : Name) (given : List Passing) (result_for : ResultFor) (n : StepNumber)
    → OnSound (call_of_kind kind context p name given result_for n) (OneCall n)
call_one None context p name given result_for n =
    on_then (overload p (candidates 0 context.functions name given)) _ (λ c. Unit {0}) (OneCall n) (on_any (overload p (candidates 0 context.functions name given))) (λ c _. (refl, refl))
call_one (Some call) context p name given result_for n = library_one p call given result_for n

call_of_one : (context : Context) (scope : Scope) (p : Place) (name : Name) (args : ParsedArgs) (result_for : ResultFor) (n : StepNumber)
    → OnSound (call_of context scope p name args result_for n) (OneCall n)
call_of_one context scope p name args result_for n =
    on_then (arguments args scope) _ (λ given. Unit {0}) (OneCall n) (on_any (arguments args scope)) (λ given _. call_one (statement_call name) context p name given result_for n)

right_one : (context : Context) (scope : Scope) (p : Place) (call : WholeCall) (rate : Rate) (result_for : ResultFor) (n : StepNumber)
    → OnSound (right_call context scope p call rate result_for n) (OneStep n)
right_one context scope p call rate result_for n =
    on_then (call_of context scope call.at call.name call.args result_for n) _ (OneCall n) (OneStep n) (call_of_one context scope call.at call.name call.args result_for n)
    (λ c one. on_unless (result_faults p c.result rate) c.stmt (OneStep n) one)

-- ---- statements of one step

first_one : (call : Option WholeCall) (context : Context) (scope : Scope) (v : Var) (e : ParsedExpr) (n : StepNumber) → OnSound (first_value call context scope v e n) (OneStep n)
first_one (Some call) context scope v e n = right_one context scope (first_of e) call v.rate _ n
first_one None context scope v e n =
    on_then (given_value e scope v.type v.rate) _ (λ x. Unit {0}) (OneStep n) (on_any (given_value e scope v.type v.rate)) (λ x _. (refl, refl))

declaration_one : (context : Context) (scope : Scope) (v : Var) (e : Option ParsedExpr) (n : StepNumber) → OnSound (declaration context scope v e n) (OneStep n)
declaration_one context scope v None n = (refl, refl)
declaration_one context scope v (Some e) n = first_one (whole_call context.functions e) context scope v e n

assigned_one : (call : Option WholeCall) (context : Context) (scope : Scope) (target : ParsedTarget) (e : ParsedExpr) (n : StepNumber)
    → OnSound (assigned_by call context scope target e n) (OneStep n)
assigned_one (Some call) context scope target e n =
    let v = scalar_target scope target.at target.name in
    on_pair v (right_call context scope (first_of e) call (variable_of v).rate (Assigns (variable_of v)) n) _ (λ a. Unit {0}) (OneStep n) (OneStep n) (on_any v)
    (right_one context scope (first_of e) call (variable_of v).rate (Assigns (variable_of v)) n) (λ a s _ one. one)
assigned_one None context scope target e n =
    let aim = target_of scope target.at target.name target.index in
    let given = given_value e scope (assigned_type aim) (rate_of aim) in
    on_pair aim given _ (λ a. Unit {0}) (λ x. Unit {0}) (OneStep n) (on_any aim) (on_any given) (λ a x _ _. (refl, refl))

returned_one : (call : Option WholeCall) (context : Context) (scope : Scope) (e : ParsedExpr) (r : IntType × Rate) (n : StepNumber)
    → OnSound (returned_value call context scope e r n) (OneStep n)
returned_one (Some call) context scope e r n = right_one context scope (first_of e) call r.1 Returns n
returned_one None context scope e r n =
    on_then (given_value e scope r.0 r.1) _ (λ x. Unit {0}) (OneStep n) (on_any (given_value e scope r.0 r.1)) (λ x _. (refl, refl))

value_return_one : (context : Context) (scope : Scope) (e : ParsedExpr) (result : ResultType) (n : StepNumber) → OnSound (value_return context scope e result n) (OneStep n)
value_return_one context scope e None n =
    on_then (returned context scope e (t.Int32, Varying) n) _ (λ s. Unit {0}) (OneStep n) (on_any (returned context scope e (t.Int32, Varying) n)) (λ s _. tt)
value_return_one context scope e (Some r) n = returned_one (whole_call context.functions e) context scope e r n

empty_return_one : (p : Place) (result : ResultType) (n : StepNumber) → OnSound (empty_return p result n) (OneStep n)
empty_return_one p None n = (refl, refl)
empty_return_one p (Some r) n = tt

returning_one : (context : Context) (scope : Scope) (p : Place) (e : Option ParsedExpr) (n : StepNumber) → OnSound (returning context scope p e n) (OneStep n)
returning_one context scope p None n = empty_return_one p context.result n
returning_one context scope p (Some e) n = value_return_one context scope e context.result n

-- ---- statements

pub variable_bindings-append : (xs ys : List Variable) → variable_bindings (xs ++ ys) ≡ variable_bindings xs ++ variable_bindings ys
variable_bindings-append [] ys = refl
variable_bindings-append (x ∷ xs) ys = ap (λ bs. bound x.name x.id ∷ bs) (variable_bindings-append xs ys)

-- the variables of two parts
pub two_parts : (xs ys : List Variable) (left right : List Binding) → variable_bindings xs ≡ left → variable_bindings ys ≡ right → variable_bindings (xs ++ ys) ≡ left ++ right
two_parts xs ys left right e d = variable_bindings-append xs ys ∙ (ap (λ bs. bs ++ variable_bindings ys) e ∙ ap (λ bs. left ++ bs) d)

index_bindings : (k : ℕ) (dims : List ParsedDim) → variable_bindings (index_variables k dims) ≡ dim_bindings k dims
index_bindings k [] = refl
index_bindings k (d ∷ dims) = ap (λ xs. bound d.name (Local k) ∷ xs) (index_bindings (suc k) dims)

-- a typed form has so many steps, numbered from n on, and declares these variables
abbrev pub Faithful : (steps : ℕ) → (n : StepNumber) → List Binding → Made → Type 0
Faithful steps n bindings m = (steps_of m.stmt ≡ steps) × IsNumbered n m.stmt × (variable_bindings m.variables ≡ bindings)

-- a statement of one step that declares nothing
one_alone : (s : Stmt) (n : StepNumber) → OneStep n s → Faithful 1 n [] (made s [])
one_alone s n one = (one.0, one.1, refl)

at_number : (s : Stmt) (m n : StepNumber) → m ≡ n → IsNumbered m s → IsNumbered n s
at_number s m n e h = subst (λ k. IsNumbered k s) e h

mutual
  -- a statement's typed form is faithful to it
  pub statement_faithful : (s : ParsedStmt) (context : Context) (scope : Scope) (k : ℕ) (n : StepNumber)
      → OnSound (statement s context scope k n) (Faithful (steps_in s) n (bindings_in s k))
  statement_faithful ParsedEmpty context scope k n = (refl, tt, refl)
  statement_faithful (ParsedBlock ss) context scope k n = statements_faithful ss context scope k n
  statement_faithful (ParsedDeclare p spec at name e) context scope k n =
      let v = declared name (Local k) spec false false in
      let sound = unless (variable_faults at spec) v in
      on_pair sound (declaration context scope (var_of v.variable) e n) _ (λ w. Unit {0}) (OneStep n) (Faithful 1 n (bound name (Local k) ∷ []))
      (on_any sound) (declaration_one context scope (var_of v.variable) e n) (λ w s _ one. (one.0, one.1, refl))
  statement_faithful (ParsedAssign p target e) context scope k n =
      let call = call_for target.index (whole_call context.functions e) in
      on_then (assigned_by call context scope target e n) _ (OneStep n) (Faithful 1 n []) (assigned_one call context scope target e n) (λ s one. one_alone s n one)
  statement_faithful (ParsedChange p target op e) context scope k n =
      let aimed_at = target_of scope target.at target.name target.index in
      let operand = operand_for (rate_of aimed_at) e scope in
      on_pair aimed_at operand _ (λ a. Unit {0}) (λ x. Unit {0}) (Faithful 1 n []) (on_any aimed_at) (on_any operand) (λ a x _ _. (refl, refl, refl))
  statement_faithful (ParsedIncrement p target op) context scope k n =
      let aimed_at = target_of scope target.at target.name target.index in
      on_then aimed_at _ (λ a. Unit {0}) (Faithful 1 n []) (on_any aimed_at) (λ a _. (refl, refl, refl))
  statement_faithful (ParsedDoCall p name args) context scope k n =
      on_then (call_of context scope p name args Nothing n) _ (OneCall n) (Faithful 1 n []) (call_of_one context scope p name args Nothing n) (λ c one. one_alone c.stmt n one)
  statement_faithful (ParsedBreak p) context scope k n = (refl, refl, refl)
  statement_faithful (ParsedContinue p) context scope k n = (refl, refl, refl)
  statement_faithful (ParsedReturn p e) context scope k n =
      on_then (returning context scope p e n) _ (OneStep n) (Faithful 1 n []) (returning_one context scope p e n) (λ s one. one_alone s n one)
  statement_faithful (ParsedIf p e a) context scope k n =
      let inner = statement a context scope k (n + 1) in
      on_pair (test_of scope (Some e)) inner _ (λ x. Unit {0}) (Faithful (steps_in a) (n + 1) (bindings_in a k)) (Faithful (1 + steps_in a) n (bindings_in a k))
      (on_any (test_of scope (Some e))) (statement_faithful a context scope k (n + 1))
      (λ c m _ h. (omega (arith, h.0), (refl, h.1, tt), h.2))
  statement_faithful (ParsedIfElse p e a b) context scope k n =
      let first = statement a context scope k (n + 1) in
      let other = statement b context scope (k + locals_in a) (n + 1 + steps_in a) in
      on_pair (test_of scope (Some e)) (both first other) _ (λ x. Unit {0})
      (λ ms. Faithful (steps_in a) (n + 1) (bindings_in a k) ms.0 × Faithful (steps_in b) (n + 1 + steps_in a) (bindings_in b (k + locals_in a)) ms.1)
      (Faithful (1 + steps_in a + steps_in b) n (bindings_in a k ++ bindings_in b (k + locals_in a)))
      (on_any (test_of scope (Some e)))
      (on_both first other (Faithful (steps_in a) (n + 1) (bindings_in a k)) (Faithful (steps_in b) (n + 1 + steps_in a) (bindings_in b (k + locals_in a)))
      (statement_faithful a context scope k (n + 1)) (statement_faithful b context scope (k + locals_in a) (n + 1 + steps_in a)))
      (λ c ms _ h. (
        omega (arith, h.0.0, h.1.0),
        (refl, h.0.1, at_number ms.1.stmt (n + 1 + steps_in a) (n + 1 + steps_of ms.0.stmt) (omega (arith, h.0.0)) h.1.1),
        two_parts ms.0.variables ms.1.variables (bindings_in a k) (bindings_in b (k + locals_in a)) h.0.2 h.1.2,
      ))
  statement_faithful (ParsedWhile p e body) context scope k n =
      let inner = statement body context scope k n in
      on_pair (test_of scope (Some e)) inner _ (λ x. Unit {0}) (Faithful (steps_in body) n (bindings_in body k)) (Faithful (steps_in body + 1) n (bindings_in body k))
      (on_any (test_of scope (Some e))) (statement_faithful body context scope k n)
      (λ c m _ h. (omega (arith, h.0), (omega (arith, h.0), h.1, tt), h.2))
  statement_faithful (ParsedDo body p e) context scope k n =
      let inner = statement body context scope k n in
      on_pair inner (test_of scope (Some e)) _ (Faithful (steps_in body) n (bindings_in body k)) (λ x. Unit {0}) (Faithful (steps_in body + 1) n (bindings_in body k))
      (statement_faithful body context scope k n) (on_any (test_of scope (Some e)))
      (λ m c h _. (omega (arith, h.0), (omega (arith, h.0), h.1), h.2))
  statement_faithful (ParsedFor p start e update body) context scope k n =
      let inside = scope_after start scope k in
      let k' = k + locals_in start in
      let b = n + steps_in start in
      let u = n + steps_in start + steps_in body in
      let before = statement start context scope k n in
      let updating = statement update context inside k' u in
      let inner = statement body context inside (k' + locals_in update) b in
      let OfStart : Made → Type 0 = Faithful (steps_in start) n (bindings_in start k) in
      let OfUpdate : Made → Type 0 = Faithful (steps_in update) u (bindings_in update k') in
      let OfBody : Made → Type 0 = Faithful (steps_in body) b (bindings_in body (k' + locals_in update)) in
      on_pair (both before (test_of inside e)) (both updating inner) _ (λ x. OfStart x.0 × Unit {0}) (λ x. OfUpdate x.0 × OfBody x.1)
      (Faithful (steps_in start + steps_in body + steps_in update + 1) n (bindings_in start k ++ (bindings_in update k' ++ bindings_in body (k' + locals_in update))))
      (on_both before (test_of inside e) OfStart (λ x. Unit {0}) (statement_faithful start context scope k n) (on_any (test_of inside e)))
      (on_both updating inner OfUpdate OfBody (statement_faithful update context inside k' u) (statement_faithful body context inside (k' + locals_in update) b))
      (λ x y h l. (
        omega (arith, h.0.0, l.0.0, l.1.0),
        (
          h.0.1,
          (
            omega (arith, h.0.0, l.0.0, l.1.0),
            at_number y.1.stmt b (n + steps_of x.0.stmt) (omega (arith, h.0.0)) l.1.1,
            at_number y.0.stmt u (n + steps_of x.0.stmt + steps_of y.1.stmt) (omega (arith, h.0.0, l.1.0)) l.0.1,
          ),
        ),
        two_parts x.0.variables (y.0.variables ++ y.1.variables) (bindings_in start k) (bindings_in update k' ++ bindings_in body (k' + locals_in update)) h.0.2
            (two_parts y.0.variables y.1.variables (bindings_in update k') (bindings_in body (k' + locals_in update)) l.0.2 l.1.2),
      ))
  statement_faithful (ParsedSwitch p e segments) context scope k n =
      on_then (selector scope e) _ (λ x. Unit {0}) (Faithful (1 + steps_in_segments segments) n (bindings_in_segments segments k)) (on_any (selector scope e))
      (λ x _. on_then (segments_of segments x.type context scope k (n + 1)) _ (Faithful (steps_in_segments segments) (n + 1) (bindings_in_segments segments k))
      (Faithful (1 + steps_in_segments segments) n (bindings_in_segments segments k)) (segments_faithful segments x.type context scope k (n + 1))
      (λ m h. (omega (arith, h.0), (refl, h.1), h.2)))
  statement_faithful (ParsedForEach p is_tiled dims body) context scope k n =
      let ds = dimensions scope k dims in
      let inner = statement body context (index_entries k dims scope) (k + length dims) (n + 1) in
      on_pair ds inner _ (λ x. Unit {0}) (Faithful (steps_in body) (n + 1) (bindings_in body (k + length dims)))
      (Faithful (steps_in body + 2) n (dim_bindings k dims ++ bindings_in body (k + length dims)))
      (on_any ds) (statement_faithful body context (index_entries k dims scope) (k + length dims) (n + 1))
      (λ d m _ h. (
        omega (arith, h.0),
        (refl, h.1),
        two_parts (index_variables k dims) m.variables (dim_bindings k dims) (bindings_in body (k + length dims)) (index_bindings k dims) h.2,
      ))
  statement_faithful (ParsedForEachActive p at name body) context scope k n =
      let v = index_entry name (Local k) t.Int64 Uniform in
      on_then (statement body context (v ∷ scope) (suc k) (n + 1)) _ (Faithful (steps_in body) (n + 1) (bindings_in body (suc k)))
      (Faithful (steps_in body + 2) n (bound name (Local k) ∷ bindings_in body (suc k))) (statement_faithful body context (v ∷ scope) (suc k) (n + 1))
      (λ m h. (omega (arith, h.0), (refl, h.1), ap (λ bs. bound name (Local k) ∷ bs) h.2))
  statement_faithful (ParsedForEachUnique p at name e body) context scope k n =
      on_then (expression e scope) _ (λ x. Unit {0}) (Faithful (steps_in body + 2) n (bound name (Local k) ∷ bindings_in body (suc k))) (on_any (expression e scope))
      (λ x _. on_then (statement body context (index_entry name (Local k) x.type Uniform ∷ scope) (suc k) (n + 1)) _ (Faithful (steps_in body) (n + 1) (bindings_in body (suc k)))
      (Faithful (steps_in body + 2) n (bound name (Local k) ∷ bindings_in body (suc k)))
      (statement_faithful body context (index_entry name (Local k) x.type Uniform ∷ scope) (suc k) (n + 1))
      (λ m h. (omega (arith, h.0), (refl, h.1), ap (λ bs. bound name (Local k) ∷ bs) h.2)))

  pub statements_faithful : (ss : ParsedStmts) (context : Context) (scope : Scope) (k : ℕ) (n : StepNumber)
      → OnSound (statements ss context scope k n) (Faithful (steps_in_all ss) n (bindings_in_all ss k))
  statements_faithful ParsedLast context scope k n = (refl, tt, refl)
  statements_faithful (ParsedNext s ss) context scope k n =
      let later = statements ss context (scope_after s scope k) (k + locals_in s) (n + steps_in s) in
      on_pair (statement s context scope k n) later _ (Faithful (steps_in s) n (bindings_in s k)) (Faithful (steps_in_all ss) (n + steps_in s) (bindings_in_all ss (k + locals_in s)))
      (Faithful (steps_in s + steps_in_all ss) n (bindings_in s k ++ bindings_in_all ss (k + locals_in s)))
      (statement_faithful s context scope k n) (statements_faithful ss context (scope_after s scope k) (k + locals_in s) (n + steps_in s))
      (λ a b h l. (
        omega (arith, h.0, l.0),
        (h.1, at_number b.stmt (n + steps_in s) (n + steps_of a.stmt) (omega (arith, h.0)) l.1),
        two_parts a.variables b.variables (bindings_in s k) (bindings_in_all ss (k + locals_in s)) h.2 l.2,
      ))

  pub segments_faithful : (segments : ParsedSegments) (type : IntType) (context : Context) (scope : Scope) (k : ℕ) (n : StepNumber)
      → OnSound (segments_of segments type context scope k n) (Faithful (steps_in_segments segments) n (bindings_in_segments segments k))
  segments_faithful ParsedNoMore type context scope k n = (refl, tt, refl)
  segments_faithful (ParsedSegment p label ss rest) type context scope k n =
      let first = statements ss context scope k n in
      let later = segments_of rest type context scope (k + locals_in_all ss) (n + steps_in_all ss) in
      let OfFirst : Made → Type 0 = Faithful (steps_in_all ss) n (bindings_in_all ss k) in
      let OfRest : Made → Type 0 = Faithful (steps_in_segments rest) (n + steps_in_all ss) (bindings_in_segments rest (k + locals_in_all ss)) in
      on_pair (label_word p type label) (both first later) _ (λ x. Unit {0}) (λ x. OfFirst x.0 × OfRest x.1)
      (Faithful (steps_in_all ss + steps_in_segments rest) n (bindings_in_all ss k ++ bindings_in_segments rest (k + locals_in_all ss)))
      (on_any (label_word p type label))
      (on_both first later OfFirst OfRest (statements_faithful ss context scope k n) (segments_faithful rest type context scope (k + locals_in_all ss) (n + steps_in_all ss)))
      (λ w x _ h. (
        omega (arith, h.0.0, h.1.0),
        (h.0.1, at_number x.1.stmt (n + steps_in_all ss) (n + steps_of x.0.stmt) (omega (arith, h.0.0)) h.1.1),
        two_parts x.0.variables x.1.variables (bindings_in_all ss k) (bindings_in_segments rest (k + locals_in_all ss)) h.0.2 h.1.2,
      ))
