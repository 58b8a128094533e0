use Rattle.std.proofs.Common.{◌≡◌, ◌∙◌, ◌+◌, ap, length, refl, sym}
use Rattle.std.proofs.lemmas.Result.{IfOk-weaker, on_ok_weaker}
use Rattle.std.specs.Prelude.{option_map}
use Rattle.gang_model.specs.Source.Parsed.{ParsedDeclare}
use Rattle.source_tree.specs.Expressions.{expr_view}
use Rattle.source_tree.specs.Tree.{stmt_view}
use Rattle.type_check_calls.specs.Calls.{context_view}
use Rattle.type_check_statement_parts.specs.Singles.{single}
use Rattle.type_check_statement_parts.proofs.Singles.{simple-single, single-after, single-judged, single-locals, single-steps}
use Rattle.type_check_statement_parts.proofs.SingleSteps.{in-any-case, single-step, typed-form}
use Rattle.type_check_statement_parts.proofs.simple.simple_statement.Goals as goal

pub returns-in-Declare-clause-typed : goal.returns-in-Declare-clause-typed
returns-in-Declare-clause-typed c =
    let scope = c.args.scope.now in
    let s = stmt_view c.args.stmt.now in
    let form = ParsedDeclare c.in-Declare.place c.in-Declare.spec c.in-Declare.name_place c.deref.result.now (option_map expr_view c.in-Declare.value) in
    let e : s ≡ form =
    ap stmt_view c.in-Declare.is ∙ ap (λ x. ParsedDeclare c.in-Declare.place c.in-Declare.spec c.in-Declare.name_place x (option_map expr_view c.in-Declare.value)) (sym c.deref.ensures.value) in
    typed-form c.declare.result s form (context_view c.args.context.now) scope.entries (length scope.locals) c.args.step.now scope.locals c.declare.new.scope.locals e
    (IfOk-weaker c.declare.result _ _ (λ answer h. h c.in-Declare.place) c.declare.ensures.typed)

pub returns-in_default-clause-typed : goal.returns-in_default-clause-typed
returns-in_default-clause-typed c =
    let scope = c.args.scope.now in
    let context = context_view c.args.context.now in
    let s = stmt_view c.args.stmt.now in
    let is = simple-single c.args.stmt.now c.requires c.in_default.not-Empty c.in_default.not-Declare in
    single-step c.one_step.result c.single_statement.result (single s context scope.entries c.args.step.now) s s context scope.entries scope.locals c.args.step.now refl
    (single-judged s context scope.entries (length scope.locals) c.args.step.now is) (single-locals s is) c.single_statement.ensures c.one_step.ensures.answer

pub returns-in_default-clause-after : goal.returns-in_default-clause-after
returns-in_default-clause-after c =
    let scope = c.args.scope.now in
    let is = simple-single c.args.stmt.now c.requires c.in_default.not-Empty c.in_default.not-Declare in
    in-any-case c.one_step.result (sym (single-after (stmt_view c.args.stmt.now) scope.entries (length scope.locals) is))

pub returns-in_default-clause-steps : goal.returns-in_default-clause-steps
returns-in_default-clause-steps c =
    let is = simple-single c.args.stmt.now c.requires c.in_default.not-Empty c.in_default.not-Declare in
    on_ok_weaker c.one_step.result (λ x. x ∙ ap (λ n. c.args.step.now + n) (sym (single-steps (stmt_view c.args.stmt.now) is))) c.one_step.ensures.steps
