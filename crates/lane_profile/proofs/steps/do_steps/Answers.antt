use Rattle.std.proofs.Common.{arith}
use Rattle.lane_profile.specs.Ran.{after_steps}
use Rattle.lane_profile.proofs.Running.{none_done, one_done, run_full, run_stopped}
use Rattle.lane_profile.proofs.steps.do_steps.Goals as goal

pub loop-count-init : goal.loop-count-init
loop-count-init g c = record { so_far = λ s d st. none_done g.M.RecordedMachine.stands s c.args.most_steps d c.args.machine.now st }

pub loop-count-preserved : goal.loop-count-preserved
loop-count-preserved g c = record {
  so_far = λ s d st.
      let so = c.loop-count.invariant.so_far s d st in
      let e = after_steps c.loop-count._count d in
      one_done g.M.RecordedMachine.stands s c.args.most_steps d c.loop-count._count c.loop-count.machine so (omega arith) c.try_step.new.machine (c.in_default.ensures s e so.there);
}

pub returns-in-Some : goal.returns-in-Some
returns-in-Some g c s d st =
    let so = c.loop-count.invariant.so_far s d st in
    let e = after_steps c.loop-count._count d in
    run_stopped g.M.RecordedMachine.stands s c.args.most_steps d c.loop-count._count c.loop-count.machine so (omega arith) c.try_step.new.machine c.in-Some.end (c.in-Some.ensures s e so.there)

pub returns : goal.returns
returns g c s d st =
    let so = c.loop-count.invariant.so_far s d st in
    let e = after_steps c.loop-count._count d in
    run_full g.M.RecordedMachine.stands s c.args.most_steps d c.loop-count._count c.loop-count.machine so c.end_after.result (omega (arith, c.loop-count-test.false)) (c.end_after.ensures s e so.there)
