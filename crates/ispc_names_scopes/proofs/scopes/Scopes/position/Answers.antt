use Rattle.std.proofs.Common.{◌∙◌, ap}
use Rattle.ispc_names_scopes.specs.Scopes.{position_of}
use Rattle.ispc_names_scopes.proofs.ScopeSites.{outside_of, outside_of-innermost}
use Rattle.ispc_names_scopes.proofs.scopes.Scopes.position.Goals as goal

pub returns-in_err-innermost : goal.returns-in_err-innermost
returns-in_err-innermost c =
    c.from_residual.ensures ∙ (ap outside_of c.in_err-innermost.ensures
    ∙ (outside_of-innermost c.self.inside.bindings c.args.name.now ∙ ap (λ s. position_of s.environment c.args.name.now) c.self.view_is))

pub returns : goal.returns
returns c =
    ap outside_of c.in_ok-innermost.ensures
    ∙ (outside_of-innermost c.self.inside.bindings c.args.name.now ∙ ap (λ s. position_of s.environment c.args.name.now) c.self.view_is)
