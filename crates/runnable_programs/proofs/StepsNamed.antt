-- A sound declaration, assignment, call or `return` is one step that names variables in scope alone.
use Rattle.std.proofs.Common.{ℕ, ◌≡◌, refl, sym, ◌∙◌, subst, Bool, true, false, List, [], ◌∷◌}
use Rattle.std.specs.Prelude.{not, Option, Some, None, if◌then◌else◌}
use Rattle.std.proofs.lemmas.Option.{none-some}
use Rattle.gang_types.specs.declared.types.IntType.{IntType}
use Rattle.gang_types.specs.declared.types.IntType.TheVariants as t
use Rattle.gang_types.specs.declared.types.Rate.{Rate}
use Rattle.gang_types.specs.declared.types.Rate.TheVariants.{Varying}
use Rattle.gang_types.specs.declared.operators.BinaryOp.{BinaryOp}
use Rattle.gang_types.specs.declared.places.Place.{Place}
use Rattle.gang_model.specs.declared.refusals.RefusalNumber.TheVariants.{S8, S9}
use Rattle.gang_model.specs.Types.Tree.{Var, Expr, Declares, Assigns, Returns, ResultFor, Nothing, StepNumber, Stmt, Check, PackedLoad}
use Rattle.gang_model.specs.Source.Parsed.{Name, ParsedExpr, ParsedArgs, ParsedTarget}
use Rattle.gang_model.specs.Source.Judged.{Judged, Sound, Faulty, refused, unless, both}
use Rattle.gang_model.proofs.JudgedLaws.{OnSound, on_any, on_then, on_both, on_unless, on_pair, on_fault_if, or_false, and_true, not_true}
use Rattle.gang_model.proofs.StandingLaws.{Each}
use Rattle.gang_model.specs.Types.Signatures.{ResultType}
use Rattle.gang_model.specs.Types.Conversions.{Typed, as_bool, operation_type}
use Rattle.gang_model.specs.Types.LibraryTable.{StatementCall, Asserts, PackedStores, PackedLoads, statement_call}
use Rattle.gang_model.specs.Types.Typing.{Scope, Passing, Scalar, View, Reference, has_no_value, var_of, first_of, expression, arguments, given_value}
use Rattle.gang_model.specs.Types.Overloads.{candidates, overload}
use Rattle.gang_model.specs.Types.Calls.{Context, Called, stored_to, takes_elements, packed, library_statement, WholeCall, whole_call, call_of_kind, call_of, result_faults, right_call}
use Rattle.gang_model.specs.Types.Statements.{first_value, declaration, Aimed, scalar_target, target_of, rate_of, assigned_type, variable_of, assigned_call, call_for, assigned_by, assignment, operand_for, changed, number_one, empty_return, returned_value, returned, value_return, returning, test_of, selector}
use Rattle.machine_states.specs.Declared.{IsThere, NamesDeclared, TargetDeclared, ResultDeclared, own_number, declared_by_result, declared_by, is_returned, may_return, DeclaresFirst, declared_at}
use Rattle.runnable_programs.proofs.ThereNames.{ScopeThere}
use Rattle.runnable_programs.proofs.ThereExprs.{TypedThere, as_type-there, PassThere, AimThere, args-there, arguments-there, expression-there, given_value-there, operand-there, right_operand-there, test-there, scalar_target-there, target_index-there, target-there}

-- what follows for any of several premises
pub on_each : {A I : Type 0} (j : Judged A) (P : I → A → Type 0) → ((i : I) → OnSound j (P i)) → OnSound j (λ a. (i : I) → P i a)
on_each (Sound a) P f = f
on_each (Faulty first others) P f = tt

-- what is declared where this is in scope
pub record Before (scope : Scope) : Type 0 where
  pub there : List ℕ
  pub in_scope : ScopeThere there scope

-- a step that declares these variables, and names those in scope alone
pub record IsStep (scope : Scope) (own : List ℕ) (returns : Bool) (s : Stmt) : Type 0 where
  pub alone : (there : List ℕ) → declared_at there s ≡ there ∷ []
  pub declares : declared_by s ≡ own
  pub returned : may_return s ≡ returns
  pub first : (b : Before scope) → DeclaresFirst b.there s

-- ---- expressions

abbrev pub IsNamed : Scope → Expr → Type 0
IsNamed scope e = (b : Before scope) → NamesDeclared b.there e

pub value-named : (scope : Scope) (e : ParsedExpr) (type : IntType) (rate : Rate) → OnSound (given_value e scope type rate) (IsNamed scope)
value-named scope e type rate = on_each (given_value e scope type rate) (λ b. NamesDeclared b.there) (λ b. given_value-there b.there e scope type rate b.in_scope)

-- a typed expression
abbrev pub IsValueNamed : Scope → Typed → Type 0
IsValueNamed scope x = (b : Before scope) → TypedThere b.there x

pub expression-named : (scope : Scope) (e : ParsedExpr) → OnSound (expression e scope) (IsValueNamed scope)
expression-named scope e = on_each (expression e scope) (λ b. TypedThere b.there) (λ b. expression-there b.there e scope b.in_scope)

-- the selector of a `switch`
pub selector-named : (scope : Scope) (e : ParsedExpr) → OnSound (selector scope e) (IsValueNamed scope)
selector-named scope e = on_each (selector scope e) (λ b. TypedThere b.there) (λ b. target_index-there b.there scope e b.in_scope)

pub test-named : (scope : Scope) (e : Option ParsedExpr) → OnSound (test_of scope e) (IsNamed scope)
test-named scope e = on_each (test_of scope e) (λ b. NamesDeclared b.there) (λ b. test-there b.there scope e b.in_scope)

-- ---- calls

-- a call whose result is given to something, if it has one
abbrev IsCalled : Scope → ResultFor → Called → Type 0
IsCalled scope result_for c = (c.result ≡ None → result_for ≡ Nothing) → IsStep scope (declared_by_result result_for) (is_returned result_for) c.stmt

library-step : (scope : Scope) (p : Place) (call : StatementCall) (given : List Passing) (result_for : ResultFor) (n : StepNumber)
    → ((b : Before scope) → ResultDeclared b.there result_for) → ((b : Before scope) → Each (PassThere b.there) given)
    → OnSound (library_statement p call given result_for n) (IsCalled scope result_for)
library-step scope p Asserts (Scalar q e ∷ []) result_for n result passes = λ none.
    subst (λ r. IsStep scope (declared_by_result r) (is_returned r) (Check n (as_bool e))) (sym (none refl))
    (record { alone = λ there. refl; declares = refl; returned = refl; first = λ b. as_type-there b.there t.Bool e (passes b).0 })
library-step scope p PackedStores (View q v from ∷ Scalar r e ∷ []) result_for n result passes =
    on_unless (stored_to q v) _ (IsCalled scope result_for)
    (λ none. record {
      alone = λ there. refl;
      declares = refl;
      returned = refl;
      first = λ b. ((passes b).0, as_type-there b.there v.variable.type e (passes b).1.0, result b);
    })
library-step scope p PackedLoads (View q v from ∷ Reference r w ∷ []) result_for n result passes = by (takes_elements w v) refl
  where
    by : (taken : Bool) → takes_elements w v ≡ taken
        → OnSound (if taken then unless (stored_to r w) (packed (PackedLoad n v.variable.id from (var_of w.variable) result_for)) else refused S9 p) (IsCalled scope result_for)
    by false e = tt
    by true e =
        let valued = not_true (has_no_value w) (and_true (not (has_no_value w)) _ e).0 in
        on_fault_if w.variable.is_constant S8 r _ (IsCalled scope result_for)
        (λ constant none. record {
          alone = λ there. refl;
          declares = refl;
          returned = refl;
          first = λ b. ((passes b).0, (passes b).1.0 constant (or_false w.variable.is_array w.is_void valued).0, result b);
        })
library-step scope p call given result_for n result passes = tt

kind-step : (kind : Option StatementCall) (context : Context) (scope : Scope) (p : Place) (name : Name) (given : List Passing) (result_for : ResultFor) (n : StepNumber)
    → ((b : Before scope) → ResultDeclared b.there result_for) → ((b : Before scope) → Each (PassThere b.there) given)
    → OnSound (call_of_kind kind context p name given result_for n) (IsCalled scope result_for)
kind-step (Some call) context scope p name given result_for n result passes = library-step scope p call given result_for n result passes
kind-step None context scope p name given result_for n result passes =
    let possible = overload p (candidates 0 context.functions name given) in
    on_then possible _ (λ c. Unit {0}) (IsCalled scope result_for) (on_any possible)
    (λ c _ none. record { alone = λ there. refl; declares = refl; returned = refl; first = λ b. (args-there b.there 0 given c.function.params (passes b), result b) })

call-step : (context : Context) (scope : Scope) (p : Place) (name : Name) (args : ParsedArgs) (result_for : ResultFor) (n : StepNumber)
    → ((b : Before scope) → ResultDeclared b.there result_for) → OnSound (call_of context scope p name args result_for n) (IsCalled scope result_for)
call-step context scope p name args result_for n result =
    on_then (arguments args scope) _ (λ given. (b : Before scope) → Each (PassThere b.there) given) (IsCalled scope result_for)
    (on_each (arguments args scope) (λ b. Each (PassThere b.there)) (λ b. arguments-there b.there args scope b.in_scope))
    (λ given passes. kind-step (statement_call name) context scope p name given result_for n result passes)

-- a call that is a statement
pub alone-step : (context : Context) (scope : Scope) (p : Place) (name : Name) (args : ParsedArgs) (n : StepNumber)
    → OnSound (call_of context scope p name args Nothing n) (λ c. IsStep scope [] false c.stmt)
alone-step context scope p name args n = by (call_of context scope p name args Nothing n) (call-step context scope p name args Nothing n (λ b. tt))
  where
    by : (j : Judged Called) → OnSound j (IsCalled scope Nothing) → OnSound j (λ c. IsStep scope [] false c.stmt)
    by (Sound c) h = h (λ none. refl)
    by (Faulty first others) h = tt

-- what gives no result may not stand where one is wanted
on_result : (p : Place) (rate : Rate) (result : ResultType) (s : Stmt) (P : Stmt → Type 0) → ((r : IntType × Rate) → result ≡ Some r → P s)
    → OnSound (unless (result_faults p result rate) s) P
on_result p rate None s P h = tt
on_result p rate (Some r) s P h = on_unless (result_faults p (Some r) rate) s P (h r refl)

right-step : (context : Context) (scope : Scope) (p : Place) (call : WholeCall) (rate : Rate) (result_for : ResultFor) (n : StepNumber)
    → ((b : Before scope) → ResultDeclared b.there result_for)
    → OnSound (right_call context scope p call rate result_for n) (IsStep scope (declared_by_result result_for) (is_returned result_for))
right-step context scope p call rate result_for n result =
    let IsOne = IsStep scope (declared_by_result result_for) (is_returned result_for) in
    on_then (call_of context scope call.at call.name call.args result_for n) _ (IsCalled scope result_for) IsOne
    (call-step context scope call.at call.name call.args result_for n result)
    (λ c step. on_result p rate c.result c.stmt IsOne (λ r e. step (λ none. absurd (none-some r (sym none ∙ e)))))

-- ---- declarations

first-step : (call : Option WholeCall) (context : Context) (scope : Scope) (v : Var) (e : ParsedExpr) (n : StepNumber)
    → OnSound (first_value call context scope v e n) (IsStep scope (own_number v.id) false)
first-step (Some call) context scope v e n = right-step context scope (first_of e) call v.rate (Declares v) n (λ b. tt)
first-step None context scope v e n =
    on_then (given_value e scope v.type v.rate) _ (IsNamed scope) (IsStep scope (own_number v.id) false) (value-named scope e v.type v.rate)
    (λ x u. record { alone = λ there. refl; declares = refl; returned = refl; first = λ b. u b })

pub declaration-step : (context : Context) (scope : Scope) (v : Var) (e : Option ParsedExpr) (n : StepNumber)
    → OnSound (declaration context scope v e n) (IsStep scope (own_number v.id) false)
declaration-step context scope v None n = record { alone = λ there. refl; declares = refl; returned = refl; first = λ b. tt }
declaration-step context scope v (Some e) n = first-step (whole_call context.functions e) context scope v e n

-- ---- assignments

abbrev IsAimed : Scope → Aimed → Type 0
IsAimed scope a = (b : Before scope) → TargetDeclared b.there a.target

target-aimed : (scope : Scope) (p : Place) (name : Name) (index : Option ParsedExpr) → OnSound (target_of scope p name index) (IsAimed scope)
target-aimed scope p name index = on_each (target_of scope p name index) (λ b. AimThere b.there) (λ b. target-there b.there scope p name index b.in_scope)

abbrev IsPlaced : Scope → Var → Type 0
IsPlaced scope v = (b : Before scope) → IsThere b.there v.id

assigned_call-step : (context : Context) (scope : Scope) (v : Judged Var) (p : Place) (call : WholeCall) (n : StepNumber) → OnSound v (IsPlaced scope)
    → OnSound (assigned_call context scope v p call n) (IsStep scope [] false)
assigned_call-step context scope (Sound v) p call n placed =
    on_pair (Sound v) (right_call context scope p call v.rate (Assigns v) n) _ (λ x. Unit {0}) (IsStep scope [] false) (IsStep scope [] false) tt
    (right-step context scope p call v.rate (Assigns v) n placed) (λ x s _ step. step)
assigned_call-step context scope (Faulty first others) p call n placed =
    let v : Judged Var = Faulty first others in
    let right = right_call context scope p call (variable_of v).rate (Assigns (variable_of v)) n in
    on_pair v right _ (λ x. ⊥) (λ s. Unit {0}) (IsStep scope [] false) tt (on_any right) (λ x s no _. absurd no)

assigned-step : (call : Option WholeCall) (context : Context) (scope : Scope) (target : ParsedTarget) (e : ParsedExpr) (n : StepNumber)
    → OnSound (assigned_by call context scope target e n) (IsStep scope [] false)
assigned-step (Some call) context scope target e n =
    let v = scalar_target scope target.at target.name in
    assigned_call-step context scope v (first_of e) call n (on_each v (λ b x. IsThere b.there x.id) (λ b. scalar_target-there b.there scope target.at target.name b.in_scope))
assigned-step None context scope target e n =
    let aim = target_of scope target.at target.name target.index in
    on_pair aim (given_value e scope (assigned_type aim) (rate_of aim)) _ (IsAimed scope) (IsNamed scope) (IsStep scope [] false)
    (target-aimed scope target.at target.name target.index) (value-named scope e (assigned_type aim) (rate_of aim))
    (λ a x k u. record { alone = λ there. refl; declares = refl; returned = refl; first = λ b. (k b, u b) })

pub assignment-step : (context : Context) (scope : Scope) (target : ParsedTarget) (e : ParsedExpr) (n : StepNumber)
    → OnSound (assignment context scope target e n) (IsStep scope [] false)
assignment-step context scope target e n = assigned-step (call_for target.index (whole_call context.functions e)) context scope target e n

changed-step : (scope : Scope) (op : BinaryOp) (n : StepNumber) (a : Aimed) (x : Typed) → IsAimed scope a → IsValueNamed scope x
    → IsStep scope [] false (changed op n a x)
changed-step scope op n a x k u = record {
  alone = λ there. refl;
  declares = refl;
  returned = refl;
  first = λ b. (k b, right_operand-there b.there op (operation_type op a.type x.type) x (u b));
}

-- `target op= e`
pub change-step : (scope : Scope) (target : ParsedTarget) (op : BinaryOp) (e : ParsedExpr) (n : StepNumber)
    → OnSound (both (target_of scope target.at target.name target.index) (operand_for (rate_of (target_of scope target.at target.name target.index)) e scope))
    (λ parts. IsStep scope [] false (changed op n parts.0 parts.1))
change-step scope target op e n =
    let aim = target_of scope target.at target.name target.index in
    by (both aim (operand_for (rate_of aim) e scope))
    (on_both aim (operand_for (rate_of aim) e scope) (IsAimed scope) (IsValueNamed scope) (target-aimed scope target.at target.name target.index)
    (on_each (operand_for (rate_of aim) e scope) (λ b. TypedThere b.there) (λ b. operand-there b.there (rate_of aim) e scope b.in_scope)))
  where
    by : (j : Judged (Aimed × Typed)) → OnSound j (λ parts. IsAimed scope parts.0 × ((b : Before scope) → TypedThere b.there parts.1))
        → OnSound j (λ parts. IsStep scope [] false (changed op n parts.0 parts.1))
    by (Sound parts) h = changed-step scope op n parts.0 parts.1 h.0 h.1
    by (Faulty first others) h = tt

-- `++` and `--`
pub increment-step : (scope : Scope) (target : ParsedTarget) (op : BinaryOp) (n : StepNumber)
    → OnSound (target_of scope target.at target.name target.index) (λ a. IsStep scope [] false (changed op n a number_one))
increment-step scope target op n = by (target_of scope target.at target.name target.index) (target-aimed scope target.at target.name target.index)
  where
    by : (j : Judged Aimed) → OnSound j (IsAimed scope) → OnSound j (λ a. IsStep scope [] false (changed op n a number_one))
    by (Sound a) k = changed-step scope op n a number_one k (λ b. tt)
    by (Faulty first others) k = tt

-- ---- `return`

returned-step : (call : Option WholeCall) (context : Context) (scope : Scope) (e : ParsedExpr) (r : IntType × Rate) (n : StepNumber)
    → OnSound (returned_value call context scope e r n) (IsStep scope [] true)
returned-step (Some call) context scope e r n = right-step context scope (first_of e) call r.1 Returns n (λ b. tt)
returned-step None context scope e r n =
    on_then (given_value e scope r.0 r.1) _ (IsNamed scope) (IsStep scope [] true) (value-named scope e r.0 r.1)
    (λ x u. record { alone = λ there. refl; declares = refl; returned = refl; first = λ b. u b })

value_return-step : (context : Context) (scope : Scope) (e : ParsedExpr) (result : ResultType) (n : StepNumber)
    → OnSound (value_return context scope e result n) (IsStep scope [] true)
value_return-step context scope e None n =
    on_then (returned context scope e (t.Int32, Varying) n) _ (λ s. Unit {0}) (IsStep scope [] true) (on_any (returned context scope e (t.Int32, Varying) n)) (λ s _. tt)
value_return-step context scope e (Some r) n = returned-step (whole_call context.functions e) context scope e r n

empty_return-step : (scope : Scope) (p : Place) (result : ResultType) (n : StepNumber) → OnSound (empty_return p result n) (IsStep scope [] true)
empty_return-step scope p None n = record { alone = λ there. refl; declares = refl; returned = refl; first = λ b. tt }
empty_return-step scope p (Some r) n = tt

pub returning-step : (context : Context) (scope : Scope) (p : Place) (e : Option ParsedExpr) (n : StepNumber)
    → OnSound (returning context scope p e n) (IsStep scope [] true)
returning-step context scope p None n = empty_return-step scope p context.result n
returning-step context scope p (Some e) n = value_return-step context scope e context.result n
