use Rattle.std.proofs.Common.{◌∙◌, ap, sym, option_map, Some}
use Rattle.std.specs.List.{slice_get}
use Rattle.gang_model.specs.Types.Typing as typing
use Rattle.type_check_scopes.specs.Entries.{declared_view}
use Rattle.type_check_scopes.proofs.Tables.{at_position, copied-item, found-in_table}
use Rattle.type_check_scopes.proofs.scope.TypeScope.find.Goals as goal

pub returns-in_err-position : goal.returns-in_err-position
returns-in_err-position c =
    let name = c.args.name.now in
    let ds = c.self.inside.declared.items in
    ap (option_map (declared_view name)) c.from_residual.ensures
    ∙ (ap (λ i. option_map (declared_view name) (at_position ds i)) c.in_err-position.ensures
    ∙ (found-in_table c.self.inside.scopes.environment ds name c.self.invariant ∙ ap (λ s. typing.entry_of s.entries name) c.self.view_is))

pub returns : goal.returns
returns c =
    let name = c.args.name.now in
    let ds = c.self.inside.declared.items in
    let position = c.in_ok-position.position in
    ap (option_map (declared_view name)) (c.copied.ensures ∙ (copied-item c.deref.result.now position c.get.result c.get.ensures.lookup ∙ ap (λ xs. slice_get xs position) c.deref.ensures.value))
    ∙ (ap (λ i. option_map (declared_view name) (at_position ds i)) c.in_ok-position.ensures
    ∙ (found-in_table c.self.inside.scopes.environment ds name c.self.invariant ∙ ap (λ s. typing.entry_of s.entries name) c.self.view_is))
