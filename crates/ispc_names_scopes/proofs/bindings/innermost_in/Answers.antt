use Rattle.std.proofs.Common.{◌∙◌, ap}
use Rattle.std.specs.Option.{option_flatten}
use Rattle.ispc_names_scopes.proofs.Indexed.{found-lookup}
use Rattle.ispc_names_scopes.proofs.bindings.innermost_in.Goals as goal

pub returns : goal.returns
returns c = c.flatten.ensures ∙ (ap option_flatten (c.copied.ensures ∙ c.get.ensures.value) ∙ found-lookup c.args.index.now.entries c.args.name.now)
