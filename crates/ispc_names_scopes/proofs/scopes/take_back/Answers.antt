use Rattle.std.proofs.Common.{◌∙◌}
use Rattle.ispc_names_scopes.proofs.ScopeSites.{drop-one}
use Rattle.ispc_names_scopes.proofs.scopes.take_back.Goals as goal

pub loop-preserved : goal.loop-preserved
loop-preserved c = c.pop.ensures ∙ drop-one c.loop.counter c.args.bindings.now c.loop.bindings c.loop.invariant
