use Rattle.undo_log.specs.History.{is_step}
use Rattle.undo_log.proofs.Steps.{count_empty, count_last}
use Rattle.undo_log.proofs.events.forget_at.Goals as goal

pub returns-in-Some-clause-steps : goal.returns-in-Some-clause-steps
returns-in-Some-clause-steps c = rw (c.in-Some.ensures.items, c.steps_of.ensures) (count_last is_step c.in-Some.oldest c.args.events.now.items c.in-Some.ensures.value)

pub returns-in-None-clause-steps : goal.returns-in-None-clause-steps
returns-in-None-clause-steps c = rw c.in-None.ensures.items (count_empty is_step c.args.events.now.items c.in-None.ensures.value)
