use Rattle.std.proofs.Common.{◌∙◌, ap, sym, length}
use Rattle.type_check_scopes.proofs.Tables.{count-entries}
use Rattle.type_check_scopes.proofs.scope.TypeScope.mark.Goals as goal

pub returns : goal.returns
returns c =
    let count = count-entries c.self.inside.scopes.environment c.self.inside.declared.items c.self.invariant in
    c.len.ensures ∙ (c.self.inside.declared.ok.0 ∙ (sym count ∙ ap (λ s. length s.entries) c.self.view_is))
