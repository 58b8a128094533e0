use Rattle.std.proofs.Common.{◌∙◌, ap}
use Rattle.std.specs.Option.{option_flatten}
use Rattle.debug_inputs.proofs.NameIndex.{found-lookup}
use Rattle.debug_inputs.proofs.receivers.Receivers.find.Goals as goal

pub returns : goal.returns
returns c = c.flatten.ensures ∙ (ap option_flatten (c.copied.ensures ∙ c.get.ensures.value) ∙ found-lookup c.args.self.now.index.entries c.args.name.now)
