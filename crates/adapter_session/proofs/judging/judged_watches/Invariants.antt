-- those so far are judged
use Rattle.std.proofs.Common.{take}
use Rattle.adapter_session.specs.Judged.{AreJudged, of_watch}
use Rattle.adapter_session.proofs.judging.judged_watches.Given as goal

abbrev pub invariant-loop-target : goal.invariant-loop-target
invariant-loop-target l = AreJudged of_watch (take l.target-index l.targets) l.judged.items
