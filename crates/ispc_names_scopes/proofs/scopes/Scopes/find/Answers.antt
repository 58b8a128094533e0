use Rattle.std.proofs.Common.{◌∙◌, ap}
use Rattle.gang_model.specs.Names.Scope.{declaration}
use Rattle.ispc_names_scopes.proofs.ScopeSites.{id_of, id_of-innermost}
use Rattle.ispc_names_scopes.proofs.scopes.Scopes.find.Goals as goal

pub returns-in_err-innermost : goal.returns-in_err-innermost
returns-in_err-innermost c =
    c.from_residual.ensures ∙ (ap id_of c.in_err-innermost.ensures
    ∙ (id_of-innermost c.self.inside.bindings c.args.name.now ∙ ap (λ s. declaration s.environment c.args.name.now) c.self.view_is))

pub returns : goal.returns
returns c =
    ap id_of c.in_ok-innermost.ensures
    ∙ (id_of-innermost c.self.inside.bindings c.args.name.now ∙ ap (λ s. declaration s.environment c.args.name.now) c.self.view_is)
