use Rattle.std.proofs.Common.{subst}
use Rattle.gang_model.specs.Types.Tree as tree
use Rattle.gang_model.specs.Types.Tree.{Assigns}
use Rattle.gang_model.specs.Source.Judged.{Judged, both}
use Rattle.gang_model.specs.Types.Calls.{right_call}
use Rattle.gang_model.specs.Types.Statements as model
use Rattle.source_tree.specs.Tree as parsed
use Rattle.typed_tree.specs.Boxes.{boxed_stmt_view}
use Rattle.typed_tree.specs.Views as typed
use Rattle.source_answers.specs.Answers.{Answers, both_answers}
use Rattle.type_check_calls.specs.Calls.{context_view, whole_call_view}
use Rattle.type_check_parts.proofs.Wanted.{second-answers, variable-both}
use Rattle.type_check_parts.proofs.assignments.assigned_call.Goals as goal

pub returns : goal.returns
returns c =
    let entries = c.args.scope.now.entries in
    let t = parsed.target_view c.args.target.now in
    let variable = c.scalar_target-variable.result in
    let of_variable = model.scalar_target entries t.at t.name in
    let call : tree.Var → Judged tree.Stmt = λ v. right_call (context_view c.args.context.now) entries c.args.place (whole_call_view c.args.call.now) v.rate (Assigns v) c.args.step in
    second-answers typed.var_view boxed_stmt_view (both_answers variable c.right_call-stmt.result) c.second_of.result (both of_variable (call (model.variable_of of_variable))) c.second_of.ensures
    (variable-both boxed_stmt_view variable of_variable c.right_call-stmt.result c.wanted_variable-given_to.result call
    (subst (λ n. Answers typed.var_view variable (model.scalar_target entries t.at n)) c.deref.ensures.value c.scalar_target-variable.ensures) c.wanted_variable-given_to.ensures c.right_call-stmt.ensures)
