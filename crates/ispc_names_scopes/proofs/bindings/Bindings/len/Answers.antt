use Rattle.std.proofs.Common.{◌∙◌, ap, sym, length}
use Rattle.ispc_names_scopes.proofs.Indexed.{length-environment_of}
use Rattle.ispc_names_scopes.proofs.bindings.Bindings.len.Goals as goal

pub returns : goal.returns
returns c = c.len.ensures ∙ c.self.inside.declared.ok.0 ∙ sym (length-environment_of _) ∙ ap length c.self.view_is
