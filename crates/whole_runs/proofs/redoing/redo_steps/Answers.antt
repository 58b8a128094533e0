use Rattle.std.proofs.Common.{subst, arith, ◌≡◌, ◌+◌, suc}
use Rattle.debug_traits.specs.Beginnings.{StandsAt}
use Rattle.whole_runs.specs.Notes.{steps_on}
use Rattle.whole_runs.proofs.DoneAgain.{goes_at, gone_less, kept_on, kept_still}
use Rattle.whole_runs.proofs.redoing.redo_steps.Goals as goal

pub loop-done-init : goal.loop-done-init
loop-done-init g c = record {
  redone = λ s d older there gone. there;
  copies = kept_still g.M.BeginsAgain.can_have g.M.BeginsAgain.copies _;
  cost = omega arith;
}

pub loop-done-preserved : goal.loop-done-preserved
loop-done-preserved g c =
    let stands = g.M.RecordedMachine.stands in
    let next : suc c.loop-done._done ≡ c.loop-done._done + 1 = omega arith in record {
      redone = λ s d older there gone.
          let here = c.loop-done.invariant.redone s d older there gone in
          subst (λ n. StandsAt stands c.step.new.self s d (steps_on n older)) next
          (goes_at stands s d c.loop-done.machine c.step.new.self (steps_on c.loop-done._done older) c.step.result (gone_less s c.args.steps c.loop-done._done older c.loop-done-test.true gone) here c.step.ensures.step);
      copies = kept_on g.M.BeginsAgain.can_have g.M.BeginsAgain.copies _ _ _ c.loop-done.invariant.copies (
        λ words h. g.met.M.BeginsAgain.can_have_so _ _ words c.step.ensures.run h,
        λ words s d h. g.met.M.BeginsAgain.copies_so _ _ words s d c.step.ensures.run h,
      );
      cost = let before = c.loop-done.invariant.cost in let one = c.step.ensures.moves in omega (arith, before, one);
    }

pub returns-clause-redone : goal.returns-clause-redone
returns-clause-redone g c s d older there gone =
    let same : c.loop-done._done ≡ c.args.steps = omega arith in
    subst (λ n. StandsAt g.M.RecordedMachine.stands c.loop-done.machine s d (steps_on n older)) same (c.loop-done.invariant.redone s d older there gone)

pub returns-clause-cost : goal.returns-clause-cost
returns-clause-cost g c = let all = c.loop-done.invariant.cost in omega (arith, all, c.loop-done-test.false)
