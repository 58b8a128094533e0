-- what is asked for so far
use Rattle.std.proofs.Common.{◌≡◌, flat_map, map, take}
use Rattle.gang_model.specs.Debugger.Debugger.{Debugger, Setting}
use Rattle.adapter_session.specs.Changes.{asked_view, of_watch}
use Rattle.adapter_session.proofs.changes.asked_watches.Given as goal

abbrev pub invariant-loop-target : goal.invariant-loop-target
invariant-loop-target g l = (s : Setting) (d : Debugger) → g.M.RecordedMachine.stands l.machine s d → map asked_view l.all.items ≡ flat_map (of_watch s d) (take l.target-index l.targets)
