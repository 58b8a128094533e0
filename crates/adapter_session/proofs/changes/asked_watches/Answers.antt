use Rattle.std.proofs.Common.{[], ◌++◌, ap, ◌∙◌, map}
use Rattle.adapter_session.specs.Changes.{asked_view, of_watch}
use Rattle.adapter_session.proofs.Appending.{made_behind}
use Rattle.adapter_session.proofs.changes.asked_watches.Goals as goal

pub loop-target-preserved : goal.loop-target-preserved
loop-target-preserved g c s d stands =
    let old = map asked_view c.loop-target.all.items in
    made_behind (of_watch s d) [] c.args.targets.now c.loop-target.target-index _ old (map asked_view c.push.new.all.items) c.loop-target-test.true (c.loop-target.invariant s d stands)
    (c.in_ok-push.ensures ∙ ap (λ one. old ++ one) (c.in_ok-asked_watch.ensures s d stands))
