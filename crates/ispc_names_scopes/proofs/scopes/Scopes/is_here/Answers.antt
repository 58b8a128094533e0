use Rattle.std.proofs.Common.{◌∙◌, sym, ap}
use Rattle.gang_model.specs.Types.LibraryTable.{is_among}
use Rattle.ispc_names_scopes.specs.Scopes.{here}
use Rattle.ispc_names_scopes.proofs.ScopeSites.{stands_here, is_here-innermost}
use Rattle.ispc_names_scopes.proofs.scopes.Scopes.is_here.Goals as goal

pub returns-in-Some : goal.returns-in-Some
returns-in-Some c =
    ap (stands_here c.self.inside.outside) c.in-Some.ensures
    ∙ (sym (is_here-innermost c.self.inside.outside c.self.inside.bindings c.args.name.now) ∙ ap (λ s. is_among c.args.name.now (here s)) c.self.view_is)

pub returns-in-None : goal.returns-in-None
returns-in-None c =
    ap (stands_here c.self.inside.outside) c.in-None.ensures
    ∙ (sym (is_here-innermost c.self.inside.outside c.self.inside.bindings c.args.name.now) ∙ ap (λ s. is_among c.args.name.now (here s)) c.self.view_is)
