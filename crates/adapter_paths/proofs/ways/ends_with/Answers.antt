use Rattle.std.proofs.Common.{◌∙◌}
use Rattle.adapter_paths.proofs.Names.{end_of}
use Rattle.adapter_paths.proofs.ways.ends_with.Goals as goal

pub returns : goal.returns
returns c = c.ends_with.ensures.value ∙ end_of c.args.way.now c.args.end.now
