use Rattle.std.proofs.Common.{ap, true}
use Rattle.gang_model.specs.Names.NameFaults.{Allowed}
use Rattle.ispc_names_expressions.proofs.allowed.Allowed.in_loop.Goals as goal

pub returns : goal.returns
returns c = λ functions. ap (λ (may : Allowed). record may { continues = true }) (c.in_switch.ensures functions)
