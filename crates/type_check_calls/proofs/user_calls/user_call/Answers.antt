use Rattle.std.proofs.Common.{◌∙◌, map, ap, sym}
use Rattle.gang_model.specs.Source.Judged.{Sound}
use Rattle.gang_model.specs.Types.Overloads.{candidates, overload}
use Rattle.source_tree.specs.Tree.{function_view}
use Rattle.typed_tree.specs.Views.{result_view}
use Rattle.type_check_scopes.specs.Passings.{passing_view}
use Rattle.source_answers.proofs.Answered.{answers-at, answers-then}
use Rattle.type_check_calls.specs.Calls.{called_view}
use Rattle.type_check_calls.specs.Meant.{called_function}
use Rattle.type_check_overloads.specs.Candidates.{candidate_view}
use Rattle.type_check_expressions.proofs.Residuals.{inside-refused}
use Rattle.type_check_calls.proofs.user_calls.user_call.Goals as goal
use Rattle.std.specs.Borrow.{Bor}
use Rattle.std.specs.Prelude.{Err, Ok}
use Rattle.type_check_overloads.specs.declared.overloads.Candidate.{Candidate}

pub returns-in_err-meant : goal.returns-in_err-meant
returns-in_err-meant c =
    let given = map passing_view c.args.given.items in
    let possible = candidates 0 (map (λ f. function_view f.now) c.args.context.now.functions.now) c.args.name.now given in
    inside-refused (λ (d : Bor Candidate). candidate_view d.now) called_view c.in_err-meant.field-0.0 c.from_residual-in_err-meant.result (overload c.args.place possible)
    (λ d. Sound (called_function given (result_view c.args.result_for) c.args.step d)) c.from_residual-in_err-meant.ensures.1
    (answers-at (λ (d : Bor Candidate). candidate_view d.now) (Err c.in_err-meant.field-0.0) (overload c.args.place (map candidate_view c.deref-2.result.now)) (overload c.args.place possible) c.in_err-meant.ensures
    (ap (overload c.args.place) (ap (map candidate_view) c.deref-2.ensures.value
    ∙ (c.in_ok-possible.ensures.candidates
    ∙ ap (λ xs. candidates 0 (map (λ f. function_view f.now) c.args.context.now.functions.now) c.args.name.now (map passing_view xs)) c.deref.ensures.value))))

pub returns : goal.returns
returns c =
    let given = map passing_view c.args.given.items in
    let possible = candidates 0 (map (λ f. function_view f.now) c.args.context.now.functions.now) c.args.name.now given in
    answers-then called_view (Ok c.in_ok-meant_call.field-0) (overload c.args.place possible) (candidate_view c.in_ok-meant.meant.now)
    (λ d. Sound (called_function given (result_view c.args.result_for) c.args.step d))
    (answers-at (λ (d : Bor Candidate). candidate_view d.now) (Ok c.in_ok-meant.meant) (overload c.args.place (map candidate_view c.deref-2.result.now)) (overload c.args.place possible) c.in_ok-meant.ensures
    (ap (overload c.args.place) (ap (map candidate_view) c.deref-2.ensures.value
    ∙ (c.in_ok-possible.ensures.candidates
    ∙ ap (λ xs. candidates 0 (map (λ f. function_view f.now) c.args.context.now.functions.now) c.args.name.now (map passing_view xs)) c.deref.ensures.value))))
    (ap Sound (sym c.in_ok-meant_call.ensures.called))
