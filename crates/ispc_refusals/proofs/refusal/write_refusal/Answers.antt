use Rattle.ispc_refusals.proofs.refusal.write_refusal.Goals as goal

pub returns-in-NoScript : goal.returns-in-NoScript
returns-in-NoScript g c = rw c.in-NoScript.is c.write_all.ensures

pub returns-in-NoEntry : goal.returns-in-NoEntry
returns-in-NoEntry g c = rw c.in-NoEntry.is c.write_all-in-NoEntry.ensures
