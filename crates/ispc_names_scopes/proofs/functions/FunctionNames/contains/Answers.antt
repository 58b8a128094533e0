use Rattle.std.proofs.Common.{◌∙◌, ap}
use Rattle.gang_model.specs.Types.LibraryTable.{is_among}
use Rattle.ispc_names_scopes.proofs.NameIndex.{among-keys}
use Rattle.ispc_names_scopes.proofs.functions.FunctionNames.contains.Goals as goal

pub returns : goal.returns
returns c =
    c.contains.ensures ∙ (among-keys c.args.name.now c.self.inside.index.keys
    ∙ (c.self.invariant c.args.name.now ∙ ap (is_among c.args.name.now) c.self.view_is))
