use Rattle.gang_machine.proofs.machine.Machine.counted_by_name.Goals as goal

pub returns-clause-shown : goal.returns-clause-shown
returns-clause-shown g c s d v stands there named = (named.name, c.counted.ensures.shown s d v stands there named.seen)

pub returns-clause-few : goal.returns-clause-few
returns-clause-few g c v named scalar = c.counted.ensures.few v named.seen scalar
