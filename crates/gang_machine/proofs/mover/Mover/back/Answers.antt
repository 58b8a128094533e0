use Rattle.gang_machine.proofs.mover.Mover.back.Goals as goal

pub returns-clause-answer : goal.returns-clause-answer
returns-clause-answer g c = c.back.ensures.answer

pub returns-clause-left : goal.returns-clause-left
returns-clause-left g c = c.back.ensures.left
