use Rattle.source_tree.specs.Expressions.{expr_view}
use Rattle.gang_model.specs.Source.Judged.{Sound}
use Rattle.gang_model.specs.Types.Statements as model
use Rattle.source_tree.specs.Tree as parsed
use Rattle.typed_tree.specs.Boxes.{boxed_stmt_view}
use Rattle.type_check_values.specs.Views.{typed_view}
use Rattle.type_check_parts.proofs.Wanted.{wanted-refused, wanted-sound}
use Rattle.type_check_parts.proofs.assignments.change.Goals as goal

pub returns-in_err-aimed : goal.returns-in_err-aimed
returns-in_err-aimed c =
    let entries = c.args.scope.now.entries in
    let t = parsed.target_view c.args.target.now in
    wanted-refused typed_view boxed_stmt_view c.target_of-aimed.result (model.target_of entries t.at t.name t.index) c.operand_for.result c.wanted-rate.result
    (λ type rate. model.operand_for rate (expr_view c.args.value.now) entries) (λ parts. Sound (model.changed c.args.operator c.args.step parts.0 parts.1))
    c.in_err-aimed.field-0.0 c.from_residual.result c.from_residual.ensures.1 c.in_err-aimed.ensures c.target_of-aimed.ensures c.wanted-rate.ensures c.operand_for.ensures

pub returns : goal.returns
returns c =
    let entries = c.args.scope.now.entries in
    let t = parsed.target_view c.args.target.now in
    wanted-sound typed_view boxed_stmt_view c.target_of-aimed.result (model.target_of entries t.at t.name t.index) c.operand_for.result c.wanted-rate.result
    (λ type rate. model.operand_for rate (expr_view c.args.value.now) entries) (λ parts. Sound (model.changed c.args.operator c.args.step parts.0 parts.1))
    c.in_ok-aimed.aimed c.in_ok-aimed.operand c.changed.result c.in_ok-aimed.ensures c.target_of-aimed.ensures c.wanted-rate.ensures c.operand_for.ensures c.changed.ensures
