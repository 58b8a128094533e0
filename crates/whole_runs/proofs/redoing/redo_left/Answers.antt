use Rattle.std.proofs.Common.{◌≡◌, ◌-◌, arith, subst, sym}
use Rattle.debug_traits.specs.Beginnings.{StandsAt}
use Rattle.whole_runs.specs.Notes.{HaveGone, steps_on}
use Rattle.whole_runs.proofs.DoneAgain.{gone_left, steps_left}
use Rattle.whole_runs.proofs.redoing.redo_left.Goals as goal

pub returns-clause-redone : goal.returns-clause-redone
returns-clause-redone g c s d older less there gone =
    let steps = c.args.steps in
    let done = c.args.done in
    let left : steps - done ≡ steps - c.min.result = omega (arith, c.min.ensures, less) in
    let on = c.redo_steps.ensures.redone s d (steps_on done older) there (subst (λ n. HaveGone s n (steps_on done older)) left (gone_left s done steps older less gone)) in
    subst (λ events. StandsAt g.M.RecordedMachine.stands c.redo_steps.new.machine s d events) (steps_left done steps older less)
    (subst (λ n. StandsAt g.M.RecordedMachine.stands c.redo_steps.new.machine s d (steps_on n (steps_on done older))) (sym left) on)

pub returns-clause-cost : goal.returns-clause-cost
returns-clause-cost g c = let all = c.redo_steps.ensures.cost in omega (arith, all, c.min.ensures)
