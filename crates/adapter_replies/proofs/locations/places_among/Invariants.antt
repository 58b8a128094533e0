-- those of the lines so far that have a place
use Rattle.std.proofs.Common.{◌≡◌}
use Rattle.gang_model.specs.Debugger.Debugger.{Debugger, Setting}
use Rattle.adapter_replies.specs.Locations.{places_among}
use Rattle.adapter_replies.proofs.locations.places_among.Given as goal

abbrev pub invariant-loop-index : goal.invariant-loop-index
invariant-loop-index g l = (s : Setting) (d : Debugger) → g.M.RecordedMachine.stands l.machine s d → l.lines.items ≡ places_among s.program l.first l.index
