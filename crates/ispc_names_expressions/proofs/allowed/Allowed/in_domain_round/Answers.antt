use Rattle.std.proofs.Common.{ap, false}
use Rattle.gang_model.specs.Names.NameFaults.{Allowed}
use Rattle.ispc_names_expressions.proofs.allowed.Allowed.in_domain_round.Goals as goal

pub returns : goal.returns
returns c = λ functions. ap (λ (may : Allowed). record may { domains = false }) (c.in_round.ensures functions)
