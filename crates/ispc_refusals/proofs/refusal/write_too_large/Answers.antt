use Rattle.ispc_refusals.proofs.refusal.write_too_large.Goals as goal

pub returns-in-Some : goal.returns-in-Some
returns-in-Some g c = rw c.in-Some.is c.write_at_line.ensures

pub returns-in-None : goal.returns-in-None
returns-in-None g c = rw c.in-None.is c.write_all.ensures
