use Rattle.std.proofs.Common.{true}
use Rattle.source_tree.specs.Expressions.{expr_view}
use Rattle.gang_model.specs.Types.Tree.{ElementOf}
use Rattle.gang_model.specs.Source.Judged.{Sound}
use Rattle.gang_model.specs.Types.Statements as model
use Rattle.gang_model.specs.Types.Typing.{entry_of}
use Rattle.type_check_values.specs.Views.{typed_view}
use Rattle.type_check_scopes.specs.Entries.{declared_view}
use Rattle.type_check_parts.specs.Typed.{aimed_view}
use Rattle.type_check_expressions.proofs.Residuals.{pair-refused, pair-stands}
use Rattle.type_check_parts.proofs.targets.element_target.Goals as goal

pub returns-in_err-declared : goal.returns-in_err-declared
returns-in_err-declared c =
    let entries = c.args.scope.now.entries in
    pair-refused (declared_view c.args.name.now) typed_view aimed_view c.assigned-declared.result c.target_index.result
    (model.assigned c.args.place true (entry_of entries c.args.name.now)) (model.target_index entries (expr_view c.args.index.now))
    (λ parts. Sound (model.aimed (ElementOf parts.0.variable.id parts.1.rate parts.1.expr) parts.0.variable.type parts.1.rate))
    c.in_err-declared.field-0.0 c.from_residual.result c.from_residual.ensures.1 c.in_err-declared.ensures c.assigned-declared.ensures c.target_index.ensures

pub returns : goal.returns
returns c =
    let entries = c.args.scope.now.entries in
    pair-stands (declared_view c.args.name.now) typed_view c.assigned-declared.result c.target_index.result
    (model.assigned c.args.place true (entry_of entries c.args.name.now)) (model.target_index entries (expr_view c.args.index.now))
    (λ parts. Sound (model.aimed (ElementOf parts.0.variable.id parts.1.rate parts.1.expr) parts.0.variable.type parts.1.rate))
    c.in_ok-declared.declared c.in_ok-declared.index c.in_ok-declared.ensures c.assigned-declared.ensures c.target_index.ensures
