-- Calls in expressions.
use Rattle.std.proofs.Common.{◌≡◌, ℕ, ◌≤◌, List, length, sym, ap, ◌∙◌, Vec, Global}
use Rattle.std.specs.Prelude.{Result, Ok, Err}
use Rattle.std.specs.Result.{IsErrAnd}
use Rattle.gang_types.specs.declared.places.Place.{Place}
use Rattle.gang_model.specs.Source.Judged.{◌>>=◌}
use Rattle.gang_model.specs.Types.Typing as typing
use Rattle.source_tree.specs.declared.expressions.Expr.{Expr, Call}
use Rattle.source_tree.specs.declared.expressions.Arg.{Arg}
use Rattle.source_tree.specs.Expressions.{expr_view, args_view}
use Rattle.source_tree.proofs.ArgumentRows.{view_call}
use Rattle.source_answers.specs.declared.fault.SourceFault.{SourceFault}
use Rattle.source_answers.specs.Answers.{Answers}
use Rattle.type_check_values.specs.declared.typed.Typed.{Typed}
use Rattle.type_check_values.specs.Views.{typed_view}
use Rattle.type_check_scopes.specs.declared.passings.Passing.{Passing}
use Rattle.type_check_expressions.specs.Arguments.{passings_view}
use Rattle.source_answers.proofs.Answered.{answers-at, answers-same, answers-then}
use Rattle.type_check_expressions.proofs.ArgumentLists.{first_arguments, first_arguments-all}
use Rattle.type_check_expressions.proofs.Residuals.{inside-refused}

-- a call
pub call-form : (e : Expr) (place : Place) (name : Vec ℕ Global) (args : Vec Arg Global) (scope : typing.Scope) → e ≡ Call place name args
    → typing.expression (expr_view e) scope ≡ (typing.arguments (args_view args.items) scope >>= λ given. typing.called_value place name.items (typing.all_values given))
call-form e place name args scope same =
    ap (λ x. typing.expression (expr_view x) scope) same ∙ ap (λ x. typing.expression x scope) (view_call place name args)

call-arguments : (args : Vec Arg Global) (items : List Arg) (n : ℕ) (scope : typing.Scope) (given : Result (Vec Passing Global) SourceFault)
    → items ≡ args.items → length items ≤ n → Answers passings_view given (first_arguments n items scope) → Answers passings_view given (typing.arguments (args_view args.items) scope)
call-arguments args items n scope given same h a =
    answers-at passings_view given _ _ a (first_arguments-all items n scope h ∙ ap (λ xs. typing.arguments (args_view xs) scope) same)

-- a call with a fault in its arguments
pub call-refused : (e : Expr) (place : Place) (name : Vec ℕ Global) (args : Vec Arg Global) (items : List Arg) (n : ℕ) (scope : typing.Scope)
    (given : Result (Vec Passing Global) SourceFault) (fault : SourceFault) (result : Result Typed SourceFault)
    → e ≡ Call place name args → items ≡ args.items → length items ≤ n → Answers passings_view given (first_arguments n items scope)
    → given ≡ Err fault → IsErrAnd result (λ y. y ≡ fault) → Answers typed_view result (typing.expression (expr_view e) scope)
call-refused e place name args items n scope given fault result form same h a is r =
    answers-at typed_view result _ _
    (inside-refused passings_view typed_view fault result (typing.arguments (args_view args.items) scope)
    (λ values. typing.called_value place name.items (typing.all_values values)) r
    (answers-same passings_view (Err fault) given _ (sym is) (call-arguments args items n scope given same h a)))
    (sym (call-form e place name args scope form))

-- a call whose arguments have no fault
pub call-value : (e : Expr) (place : Place) (name : Vec ℕ Global) (args : Vec Arg Global) (items : List Arg) (n : ℕ) (scope : typing.Scope)
    (given : Result (Vec Passing Global) SourceFault) (values : Vec Passing Global) (text : List ℕ) (result : Result Typed SourceFault)
    → e ≡ Call place name args → items ≡ args.items → length items ≤ n → Answers passings_view given (first_arguments n items scope)
    → given ≡ Ok values → text ≡ name.items → Answers typed_view result (typing.called_value place text (typing.all_values (passings_view values)))
    → Answers typed_view result (typing.expression (expr_view e) scope)
call-value e place name args items n scope given values text result form same h a is named v =
    answers-at typed_view result _ _
    (answers-then typed_view result (typing.arguments (args_view args.items) scope) (passings_view values)
    (λ found. typing.called_value place name.items (typing.all_values found))
    (answers-same passings_view (Ok values) given _ (sym is) (call-arguments args items n scope given same h a))
    (answers-at typed_view result _ _ v (ap (λ x. typing.called_value place x (typing.all_values (passings_view values))) named)))
    (sym (call-form e place name args scope form))
