use Rattle.gang_model.specs.Debugger.Debugger.{now}
use Rattle.debug_session.proofs.Watches.{none_differs}
use Rattle.debug_session.proofs.watching.watch_after_move.Goals as goal

pub returns-else-may_change : goal.returns-else-may_change
returns-else-may_change g c s d old meant stands are same kept = none_differs old (now s d) meant (kept c.if-may_change.false)
