use Rattle.std.proofs.Common.{◌∙◌, ap, sym}
use Rattle.source_tree.specs.Expressions.{expr_view}
use Rattle.gang_model.specs.Types.Tree.{Assign}
use Rattle.gang_model.specs.Source.Judged.{Sound}
use Rattle.gang_model.specs.Types.Statements as model
use Rattle.gang_model.specs.Types.Typing.{given_value}
use Rattle.source_tree.specs.Tree as parsed
use Rattle.typed_tree.specs.Boxes.{boxed_stmt_view}
use Rattle.typed_tree.specs.Views as typed
use Rattle.typed_tree.specs.Views.{stmt_view}
use Rattle.type_check_parts.proofs.Wanted.{wanted-refused, wanted-stands}
use Rattle.type_check_parts.proofs.assignments.assigned_value.Goals as goal

pub returns-in_err-aimed : goal.returns-in_err-aimed
returns-in_err-aimed c =
    let entries = c.args.scope.now.entries in
    let t = parsed.target_view c.args.target.now in
    wanted-refused typed.boxed_view boxed_stmt_view c.target_of-aimed.result (model.target_of entries t.at t.name t.index) c.given_value-value.result c.wanted-value_type.result
    (λ type rate. given_value (expr_view c.args.value.now) entries type rate) (λ parts. Sound (Assign c.args.step parts.0.target parts.1))
    c.in_err-aimed.field-0.0 c.from_residual.result c.from_residual.ensures.1 c.in_err-aimed.ensures c.target_of-aimed.ensures c.wanted-value_type.ensures c.given_value-value.ensures

pub returns : goal.returns
returns c =
    let entries = c.args.scope.now.entries in
    let t = parsed.target_view c.args.target.now in
    wanted-stands typed.boxed_view c.target_of-aimed.result (model.target_of entries t.at t.name t.index) c.given_value-value.result c.wanted-value_type.result
    (λ type rate. given_value (expr_view c.args.value.now) entries type rate) (λ parts. Sound (Assign c.args.step parts.0.target parts.1))
    c.in_ok-aimed.aimed c.in_ok-aimed.value c.in_ok-aimed.ensures c.target_of-aimed.ensures c.wanted-value_type.ensures c.given_value-value.ensures
    ∙ ap (λ s. Sound (stmt_view s)) (sym c.in_ok-boxed_stmt.ensures.value)
