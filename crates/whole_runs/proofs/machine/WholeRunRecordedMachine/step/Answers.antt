use Rattle.std.proofs.Common.{subst, sym}
use Rattle.gang_model.specs.Debugger.Events.{Step}
use Rattle.gang_model.specs.Debugger.Debugger.{moved}
use Rattle.debug_traits.specs.Machines.{Steps}
use Rattle.whole_runs.specs.Runs.{StandsWhole}
use Rattle.whole_runs.proofs.machine.WholeRunRecordedMachine.step.Goals as goal

pub returns-in-Done-clause-step : goal.returns-in-Done-clause-step
returns-in-Done-clause-step g c s d whole =
    let (next, goes, there) = c.in-Done.ensures.step s d (c.make_ready.ensures.whole s d whole) in
    subst (λ done. Steps (StandsWhole g.M.RecordedMachine.stands g.M.BeginsAgain.copies) s d done c.count_event.new.self) (sym c.in-Done.is)
    (next, goes, c.count_event.ensures.whole s (moved Step d) there)
