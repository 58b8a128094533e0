use Rattle.gang_machine.proofs.Limiting.{limits_words}
use Rattle.gang_machine.proofs.machine.limited.Goals as goal

pub returns-clause-limited : goal.returns-clause-limited
returns-clause-limited g c = limits_words _ _ c.args.limit c.set_limit.result c.set_limit.ensures.ok c.set_limit.ensures.err c.set_limit.ensures.smaller
