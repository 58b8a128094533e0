-- the numbers that were read are deleted
use Rattle.std.proofs.Common.{drop}
use Rattle.gang_model.specs.Debugger.Debugger.{Debugger, Setting}
use Rattle.debug_session.specs.Sessions.{StandsFor}
use Rattle.prompt_scenes.specs.Holding.{held}
use Rattle.prompt_stops.proofs.Numbered.{DeletedSo}
use Rattle.prompt_stops.proofs.numbers.delete_each.Given as goal

abbrev pub invariant-loop-number : goal.invariant-loop-number
invariant-loop-number g l =
    (s : Setting) (d : Debugger) → StandsFor g.M.RecordedMachine.stands l.initial.session s d
    → DeletedSo g.M.RecordedMachine.stands s d l.numbers (held l.initial.holding) (drop l.number-index l.numbers) l.session (held l.holding)
