use Rattle.std.proofs.Common.{◌<◌, ◌≤◌, subst}
use Rattle.adapter_session.proofs.MadeAnew.{uses_all, uses_more, using_none}
use Rattle.adapter_session.proofs.restoring.use_up.Goals as goal

pub loop-used-init : goal.loop-used-init
loop-used-init g c t e there = using_none g.M.RecordedMachine.stands t c.args.next c.args.number e c.args.session.now there

pub loop-used-preserved : goal.loop-used-preserved
loop-used-preserved g c t e there =
    uses_more g.M.RecordedMachine.stands t c.args.next c.args.number e c.loop-used.used c.loop-used.session _ (subst (λ n. c.loop-used.used < n) c.from-used-end.ensures c.loop-used-test.true) (c.loop-used.invariant t e there)
    (λ d stands. c.use_number.ensures t d stands)

pub returns : goal.returns
returns g c t e there = uses_all g.M.RecordedMachine.stands t c.args.next c.args.number e c.loop-used.used c.loop-used.session (subst (λ n. n ≤ c.loop-used.used) c.from-used-end.ensures c.loop-used-test.false) (c.loop-used.invariant t e there)
